use Rattle.std.proofs.Common.{arith}
use Rattle.ipcz_places.proofs.Places.{place-few, place-next}
use Rattle.ipcz_places.proofs.place.ahead.Goals as goal

pub behind-place-requires : goal.behind-place-requires
behind-place-requires c =
    let few = place-few c.args.text.now c.going.place c.going.invariant.0 in (
      omega (arith, c.going-test.true, c.requires.within),
      omega (arith, c.going-test.true, c.requires.within, few.0),
      omega (arith, c.going-test.true, c.requires.within, few.1),
    )

pub going-preserved : goal.going-preserved
going-preserved c = (
  place-next c.args.text.now c.going.place c.behind-place.result _ c.going.invariant.0 (omega (arith, c.going-test.true, c.requires.within))
      c.behind-place.ensures.0 c.behind-place.ensures.1 c.behind-place.ensures.2,
  omega (arith, c.behind-place.ensures.0, c.going-test.true),
)

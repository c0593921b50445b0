use Rattle.std.proofs.Common.{◌≤◌, ◌+◌, ◌∷◌, [], ap, length, length-append, arith}
use Rattle.ipcz_picture.proofs.Following.{follow_one}
use Rattle.ipcz_picture.proofs.rows.places.Goals as goal

pub placing-preserved : goal.placing-preserved
placing-preserved c =
    let place = c.place_at-place.ensures in
    let within : c.place_at-place.result.first + c.place_at-place.result.count ≤ length c.args.lines.now = place.place.within in (
      omega (arith, within, place.first),
      omega (arith, c.placing.invariant.1, place.few, place.place.some),
      rw c.in_ok-push.ensures.items (follow_one c.args.lines.now c.args.from 136 c.placing.placed.items c.placing.first c.placing.top
          c.place_at-place.result c.placing.invariant.2 place.first place.top place.place),
      omega (
        arith,
        c.placing.invariant.3,
        place.place.some,
        ap length c.in_ok-push.ensures.items,
        length-append c.placing.placed.items (c.place_at-place.result ∷ []),
      ),
    )

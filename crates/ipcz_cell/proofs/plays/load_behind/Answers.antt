use Rattle.std.proofs.Common.{◌≡◌, ◌+◌, ap, sym, ◌∙◌, arith, refl}
use Rattle.atomic_table.specs.Seated.{TableId}
use Rattle.ipcz_cell.proofs.Slotting.{other_may}
use Rattle.ipcz_cell.proofs.plays.load_behind.Goals as goal
use Rattle.ipcz_cell.specs.Seats.{mine_of}

pub load-requires : goal.load-requires
load-requires g c =
    let f = c.fabric.invariant in
    let wide = ap (λ (z : TableId). z.words) f.0 in
    let laid = f.5 in
    let words = laid.words in
    let inside = c.requires.inside in
    let slots = c.requires.slots in
    let at : c.args.slots + c.args.place ≡ g.F.FabricName.table.slots + c.args.place = omega (arith, slots) in (
      c.requires.own ∙ sym f.0,
      omega (arith, wide, words, inside, slots),
      other_may _ _ _ _ _ _ g.F.FabricName.table _ _ c.args.place (λ n. n) (g.X.Outcome.tells (mine_of c.args.seat.now.me)) f.1 f.2 f.6 f.7 (ap (λ (z : TableId). z.slots) f.0) at laid inside (λ e n. refl) c.requires.may,
    )

use Rattle.std.proofs.Common.{◌≡◌, ◌+◌, ap, sym, ◌∙◌, arith, bit_or}
use Rattle.atomic_table.specs.Seated.{TableId}
use Rattle.ipcz_cell.proofs.Slotting.{other_may}
use Rattle.ipcz_cell.proofs.plays.set_step.Goals as goal
use Rattle.ipcz_cell.specs.Seats.{mine_of}

pub fetch_or-requires : goal.fetch_or-requires
fetch_or-requires g c =
    let f = c.fabric.invariant in
    let wide = ap (λ (z : TableId). z.words) f.0 in
    let laid = f.5 in
    let words = laid.words in
    let inside = c.requires.inside in
    let slots = f.8 in
    let at : c.fabric.inside.slots + c.args.place ≡ g.F.FabricName.table.slots + c.args.place = omega (arith, slots) in (
      c.requires.own ∙ sym f.0,
      omega (arith, wide, words, inside, slots),
      other_may _ _ _ _ _ _ g.F.FabricName.table _ _ c.args.place (λ n. bit_or n c.args.bits) (g.X.Outcome.tells (mine_of c.args.seat.now.me)) f.1 f.2 f.6 f.7 (ap (λ (z : TableId). z.slots) f.0) at laid inside (λ e. absurd (let b = c.requires.behind in omega (arith, b, e))) c.requires.may,
    )

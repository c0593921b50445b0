use Rattle.std.proofs.Common.{ap, sym, ◌∙◌, arith, eqb}
use prog.Atomic.{either}
use Rattle.atomic_table.specs.Seated.{TableId}
use Rattle.ipcz_cell.proofs.Slotting.{link_may}
use Rattle.ipcz_cell.proofs.plays.exchange_link.Goals as goal
use Rattle.ipcz_cell.specs.Seats.{mine_of}

pub compare_exchange-requires : goal.compare_exchange-requires
compare_exchange-requires g c =
    let f = c.fabric.invariant in
    let wide = ap (λ (z : TableId). z.words) f.0 in
    let laid = f.5 in
    let words = laid.words in
    let inside = c.link_word-word.ensures.inside in (
      c.requires.own ∙ sym f.0,
      omega (arith, wide, words, inside),
      link_may _ _ _ _ _ _ g.F.FabricName.table _ _ c.args.number (λ n. either (eqb n c.args.old) c.args.new n) (g.X.Outcome.tells (mine_of c.args.seat.now.me)) f.1 f.2 f.6 f.7 (ap (λ (z : TableId). z.slots) f.0) c.link_word-word.ensures.slot laid c.requires.slotted c.requires.may,
    )

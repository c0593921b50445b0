use Rattle.std.proofs.Common.{◌∙◌, ap, sym}
use Rattle.ipcz_cell.specs.CellStates.{CellState}
use Rattle.ipcz_cell.proofs.Spent.{rests_is}
use Rattle.ipcz_cell.proofs.cell.NodeCell.rests.Goals as goal

pub returns-then-quiet : goal.returns-then-quiet
returns-then-quiet g c =
    c.is_empty.ensures ∙ rests_is g.F.FabricName.table _ _ _ _ _ _ c.self.invariant.0 (sym c.quiet.ensures ∙ c.if-quiet.true) c.args.self.now.part (ap (λ (z : CellState). z.part) c.self.view_is)

use Rattle.std.proofs.Common.{ap, ◌∙◌, arith}
use Rattle.ipcz_cell.specs.CellStates.{CellState}
use Rattle.ipcz_cell.proofs.Seating.{number_is, number_inside, cell_sound}
use Rattle.ipcz_cell.proofs.cell.NodeCell.node.Goals as goal

pub returns-clause-node : goal.returns-clause-node
returns-clause-node g c = c.number.ensures ∙ (number_is _ _ _ _ c.self.invariant.0.seated ∙ ap (λ (z : CellState). z.part.node) c.self.view_is)

pub returns-clause-inside : goal.returns-clause-inside
returns-clause-inside g c =
    let inside = number_inside _ _ _ _ c.self.invariant.0.seated in
    let is = c.number.ensures in
    omega (arith, inside, is)

pub returns-clause-sound : goal.returns-clause-sound
returns-clause-sound g c = cell_sound _ _ _ _ _ _ _ _ c.self.invariant.0 (ap (λ (z : CellState). z.part) c.self.view_is)

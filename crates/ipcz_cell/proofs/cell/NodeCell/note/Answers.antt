use Rattle.std.proofs.Common.{arith}
use Rattle.ipcz_cell.proofs.Seating.{number_inside}
use Rattle.ipcz_cell.proofs.cell.NodeCell.note.Goals as goal

pub write_here-requires-clause-node : goal.write_here-requires-clause-node
write_here-requires-clause-node g c = let number = number_inside _ _ _ _ c.self.invariant.0.seated in let e = c.number-node.ensures in omega (arith, number, e)

use Rattle.std.proofs.Common.{arith}
use Rattle.ipcz_cell.proofs.Seating.{number_inside}
use Rattle.ipcz_cell.proofs.cell.plain_here.Goals as goal

pub act_step-requires-clause-node : goal.act_step-requires-clause-node
act_step-requires-clause-node g c = let number = number_inside _ _ _ _ c.requires.seated in let e = c.number-node.ensures in omega (arith, number, e)

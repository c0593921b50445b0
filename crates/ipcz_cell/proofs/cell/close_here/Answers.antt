use Rattle.std.proofs.Common.{ap, ◌∙◌, arith}
use Rattle.ipcz_node.specs.Node.{Node}
use Rattle.ipcz_node.specs.Calls.{close_refusal}
use Rattle.ipcz_rule.proofs.BatchPlainKinds.{closes}
use Rattle.ipcz_cell.proofs.Seating.{number_inside, may_by}
use Rattle.ipcz_cell.proofs.cell.close_here.Goals as goal

pub touch-requires-clause-node : goal.touch-requires-clause-node
touch-requires-clause-node g c = let number = number_inside _ _ _ _ c.requires.seated in let e = c.number-node.ensures in omega (arith, number, e)

pub touch-requires-clause-may : goal.touch-requires-clause-may
touch-requires-clause-may g c =
    let was = c.requires.seated in
    may_by _ _ _ _ _ _ _ (λ n. n) _ _ c.requires.picked ((closes _ _ _ _ _ _ _ _ _ c.args.at was.whole (ap (λ (z : Node). close_refusal z c.args.at) was.state ∙ c.in_ok-n.ensures.allowed)))

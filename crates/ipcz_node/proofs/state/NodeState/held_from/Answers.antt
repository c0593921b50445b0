use Rattle.std.proofs.Common.{subst}
use Rattle.ipcz_node.specs.Finding.{IsNextHeld}
use Rattle.ipcz_node.proofs.state.NodeState.held_from.Goals as goal

pub returns : goal.returns
returns c = subst (λ v. IsNextHeld v.node c.args.serial c.held_from.result) c.self.view_is c.held_from.ensures

use Rattle.std.proofs.Common.{subst}
use Rattle.ipcz_node.specs.Finding.{IsNextReady}
use Rattle.ipcz_node.proofs.state.NodeState.ready_from.Goals as goal

pub returns-clause-next : goal.returns-clause-next
returns-clause-next c = subst (λ v. IsNextReady v.node c.args.serial c.ready_from.result) c.self.view_is c.ready_from.ensures.next

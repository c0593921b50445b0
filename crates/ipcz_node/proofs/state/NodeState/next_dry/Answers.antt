use Rattle.std.proofs.Common.{subst}
use Rattle.ipcz_node.specs.Finding.{IsNext}
use Rattle.ipcz_node.specs.Node.{router_in}
use Rattle.ipcz_node.proofs.state.NodeState.next_dry.Goals as goal

pub returns-clause-found : goal.returns-clause-found
returns-clause-found c = subst (λ v. IsNext (router_in v.node) (λ r. r.dry) c.args.from c.next_dry.result) c.self.view_is c.next_dry.ensures.found

use Rattle.std.proofs.Common.{◌≡◌, ap, sym, ◌∙◌, Some}
use Rattle.std.specs.FinMap.{get}
use Rattle.ipcz_node.specs.Node.{found, router_in, terminal_of}
use Rattle.ipcz_node.proofs.AtRouter.{taken}
use Rattle.ipcz_node.proofs.Looking.{status_open, stranger_unheld, stranger_unfound}
use Rattle.ipcz_node.proofs.state.NodeState.status.Goals as goal

pub returns-then-not-holds : goal.returns-then-not-holds
returns-then-not-holds c = stranger_unheld c.args.self.now.node c.args.at (sym c.if-not-holds.ensures)

pub returns-in-None : goal.returns-in-None
returns-in-None c = stranger_unfound c.args.self.now.node c.args.at c.in-None.ensures.none

pub returns-in-Some : goal.returns-in-Some
returns-in-Some c =
    let n = c.args.self.now.node in
    let r = taken (router_in n c.in-Some.serial) (λ r. terminal_of n c.args.at ≡ Some (found c.in-Some.serial r)) c.in-Some.ensures.found in
    status_open n c.args.at c.in-Some.serial r.0 c.status.result
    (record { held = sym c.if-not-holds.ensures; here = r.1; found = r.2 })
    (c.status.ensures r.0 (ap (λ v. get v.node.routers c.in-Some.serial) c.self.view_is ∙ r.1))

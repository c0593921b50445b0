use Rattle.std.proofs.Common.{◌≡◌, ◌&&◌, Bool, true, false, subst, refl}
use Rattle.std.specs.Prelude.{IfSome, IsSomeAnd}
use Rattle.ipcz_router.specs.Router.{IsOpenTerminal}
use Rattle.ipcz_node.specs.Node.{is_terminal_of, router_in}
use Rattle.ipcz_node.proofs.AtRouter.{passes}
use Rattle.ipcz_node.proofs.state.NodeState.terminal_near.Goals as goal

left : (a b : Bool) → (a && b) ≡ true → a ≡ true
left true b h = refl
left false b h = h

pub returns-clause-open : goal.returns-clause-open
returns-clause-open c =
    subst (λ v. IfSome c.terminal_near.result (λ serial. IsSomeAnd (router_in v.node serial) IsOpenTerminal)) c.self.view_is
    (passes (is_terminal_of c.args.at) _ c.terminal_near.result IsOpenTerminal (λ r t. left _ _ t) c.terminal_near.ensures)

use Rattle.std.proofs.Common.{Option, None, Some, subst, sym}
use Rattle.std.specs.Prelude.{IfNone}
use Rattle.ipcz_node.specs.Lone.{IsFirstSender}
use Rattle.ipcz_node.proofs.state.NodeState.next_sender.Goals as goal

none_too : {X A B : Type 0} (o : Option X) → IfNone o A → (A → B) → IfNone o B
none_too None a f = f a
none_too (Some x) a f = tt

pub returns-clause-none : goal.returns-clause-none
returns-clause-none c =
    none_too c.next_sender.result c.next_sender.ensures.none
    (λ none serial link is. none serial link (subst (λ x. IsFirstSender x.node.routers serial link) (sym c.self.view_is) is.sender))

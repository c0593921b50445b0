use Rattle.std.proofs.Common.{◌≡◌, Some, None, subst, sym, ap, ◌∙◌}
use Rattle.ipcz_world.proofs.code.StatesOfNodes.{world_is}
use Rattle.ipcz_world.proofs.Vocabulary.{Node, node_at, open_on}
use Rattle.ipcz_world.proofs.state.State.open.Goals as goal

pub open_claimed-requires-clause-word : goal.open_claimed-requires-clause-word
unfolding node_at
open_claimed-requires-clause-word c =
    let is = sym (c.opening.ensures ∙ ap (λ (y : Node). y.opening) (c.node.ensures)) ∙ c.in-Some.is in
    (c.requires.regular.sound c.args.n c.requires.node).opening c.in-Some.word
    (subst (λ w. (node_at w c.args.n).opening ≡ Some c.in-Some.word) (world_is c.self.view_is) is)

pub returns-in-Some-clause-opened : goal.returns-in-Some-clause-opened
unfolding node_at open_on
returns-in-Some-clause-opened c =
    let is = sym (c.opening.ensures ∙ ap (λ (y : Node). y.opening) (c.node.ensures)) ∙ c.in-Some.is in
    rw (subst (λ w. (node_at w c.args.n).opening ≡ Some c.in-Some.word) (world_is c.self.view_is) is) c.open_claimed.ensures.opened

pub returns-in-None-clause-opened : goal.returns-in-None-clause-opened
unfolding node_at
returns-in-None-clause-opened c =
    let is = sym (c.opening.ensures ∙ ap (λ (y : Node). y.opening) (c.node.ensures)) ∙ c.in-None.is in
    rw (subst (λ w. (node_at w c.args.n).opening ≡ None) (world_is c.self.view_is) is) c.open_next.ensures.opened

pub returns-in-Some-clause-full : goal.returns-in-Some-clause-full
unfolding node_at open_on
returns-in-Some-clause-full c =
    let is = sym (c.opening.ensures ∙ ap (λ (y : Node). y.opening) (c.node.ensures)) ∙ c.in-Some.is in
    rw (subst (λ w. (node_at w c.args.n).opening ≡ Some c.in-Some.word) (world_is c.self.view_is) is) c.open_claimed.ensures.full

pub returns-in-None-clause-full : goal.returns-in-None-clause-full
unfolding node_at
returns-in-None-clause-full c =
    let is = sym (c.opening.ensures ∙ ap (λ (y : Node). y.opening) (c.node.ensures)) ∙ c.in-None.is in
    rw (subst (λ w. (node_at w c.args.n).opening ≡ None) (world_is c.self.view_is) is) c.open_next.ensures.full

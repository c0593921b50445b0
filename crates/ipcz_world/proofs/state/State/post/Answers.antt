use Rattle.std.proofs.Common.{◌<◌, length, subst, sym, ap, ◌∙◌}
use Rattle.ipcz_world.proofs.code.StatesOfNodes.{world_is}
use Rattle.ipcz_world.proofs.Vocabulary.{place_at, put_place, Empty, World, mail_at, node_at, way, Post, is_clear}
use Rattle.ipcz_node.specs.RoomyNodes.{IsPossibleAct}
use Rattle.ipcz_world.specs.declared.mail.Mail.TheVariants.{Full}
use Rattle.ipcz_world.proofs.code.Taken.{asked, post-may, done-post, posts-to-clear, posts-to-node}
use Rattle.ipcz_world.proofs.state.State.post.Goals as goal

pub way-place-requires-clause-to : goal.way-place-requires-clause-to
way-place-requires-clause-to g c = posts-to-node c.args.self.now.world c.args.n c.args.to c.requires.possible

pub post-message-requires : goal.post-message-requires
unfolding node_at
post-message-requires g c =
    let a = asked _ _ c.args.n (Post c.args.to) (world_is c.self.view_is) c.requires.regular c.requires.node c.requires.possible in
    subst (λ y. IsPossibleAct y (Post c.args.to)) (sym c.node_mut.ensures.value) (post-may _ c.args.n c.args.to a.may)

pub post-requires-clause-place : goal.post-requires-clause-place
post-requires-clause-place g c =
    subst (λ (w : World). c.way-place.result < length w.mail) (sym (world_is c.self.view_is)) (c.way-place.ensures.within c.requires.regular)

pub post-requires-clause-clear : goal.post-requires-clause-clear
unfolding mail_at
post-requires-clause-clear g c =
    let a = asked _ _ c.args.n (Post c.args.to) (world_is c.self.view_is) c.requires.regular c.requires.node c.requires.possible in
    let place = c.way-place.ensures.way ∙ ap (λ (w : World). way w c.args.n c.args.to) (sym (world_is c.self.view_is)) in
    ap (λ k. is_clear (place_at Empty c.self.inside.mail k)) place ∙ posts-to-clear _ c.args.n c.args.to a.may

pub returns : goal.returns
unfolding node_at
returns g c =
    let place = c.way-place.ensures.way ∙ ap (λ (w : World). way w c.args.n c.args.to) (sym (world_is c.self.view_is)) in
    let kept = c.post.ensures ∙ ap (λ k. put_place Empty c.self.inside.mail k (Full c.post-message.result)) place in
    rw (← world_is c.self.view_is)
    (done-post g.T.Told.tells _ c.args.n c.args.to c.told.result c.post-message.result c.node_mut.result.now.node c.post-message.new.self.node c.post.new.self
    c.told.ensures c.node_mut.ensures.value c.post-message.ensures.message c.post-message.ensures.node kept)

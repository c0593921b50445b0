use Rattle.std.proofs.Common.{◌<◌, length, subst, sym, ap, ◌∙◌}
use Rattle.ipcz_world.proofs.code.StatesOfNodes.{world_is}
use Rattle.ipcz_world.proofs.Vocabulary.{place_at, put_place, Empty, World, mail_at, node_at, way, Look, is_full}
use Rattle.ipcz_node.specs.RoomyNodes.{IsPossibleAct}
use Rattle.ipcz_world.specs.Mailing.{taken_up}
use Rattle.ipcz_world.proofs.code.Taken.{asked, look-may, done-look, looks-to-full, looks-to-node}
use Rattle.ipcz_world.proofs.state.State.look.Goals as goal

pub way-place-requires-clause-from : goal.way-place-requires-clause-from
way-place-requires-clause-from g c = looks-to-node c.args.self.now.world c.args.n c.args.from c.requires.possible

pub look-requires : goal.look-requires
unfolding node_at
look-requires g c =
    let a = asked _ _ c.args.n (Look c.args.from) (world_is c.self.view_is) c.requires.regular c.requires.node c.requires.possible in
    subst (λ y. IsPossibleAct y (Look c.args.from)) (sym c.node_mut.ensures.value) (look-may _ c.args.n c.args.from a.may)

pub take_up-requires-clause-full : goal.take_up-requires-clause-full
unfolding mail_at
take_up-requires-clause-full g c =
    let a = asked _ _ c.args.n (Look c.args.from) (world_is c.self.view_is) c.requires.regular c.requires.node c.requires.possible in
    let place = c.way-place.ensures.way ∙ ap (λ (w : World). way w c.args.from c.args.n) (sym (world_is c.self.view_is)) in
    ap (λ k. is_full (place_at Empty c.self.inside.mail k)) place ∙ looks-to-full _ c.args.n c.args.from a.may

pub take_up-requires-clause-place : goal.take_up-requires-clause-place
take_up-requires-clause-place g c =
    subst (λ (w : World). c.way-place.result < length w.mail) (sym (world_is c.self.view_is)) (c.way-place.ensures.within c.requires.regular)

pub returns : goal.returns
unfolding node_at
returns g c =
    let a = asked _ _ c.args.n (Look c.args.from) (world_is c.self.view_is) c.requires.regular c.requires.node c.requires.possible in
    let place = c.way-place.ensures.way ∙ ap (λ (w : World). way w c.args.from c.args.n) (sym (world_is c.self.view_is)) in
    let kept = c.take_up.ensures ∙ ap (λ k. put_place Empty c.self.inside.mail k (taken_up (place_at Empty c.self.inside.mail k))) place in
    rw (← world_is c.self.view_is)
    (done-look g.T.Told.tells _ c.args.n c.args.from c.told.result c.node_mut.result.now.node c.look.new.self.node c.take_up.new.self c.told.ensures c.node_mut.ensures.value a.may
    c.look.ensures kept)

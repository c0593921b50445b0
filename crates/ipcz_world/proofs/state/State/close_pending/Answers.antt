use Rattle.std.proofs.Common.{subst, sym, ap, ◌∙◌}
use Rattle.ipcz_world.proofs.code.StatesOfNodes.{world_is}
use Rattle.ipcz_world.proofs.Vocabulary.{node_at, act_lacks_serials}
use Rattle.ipcz_node.specs.declared.act.Act.TheVariants.{Close}
use Rattle.ipcz_node.specs.RoomyNodes.{IsPossibleAct}
use Rattle.ipcz_world.proofs.code.Taken.{asked, close-may, refused-close, done-close}
use Rattle.ipcz_world.proofs.code.Rooming.{no_want, roomy_is}
use Rattle.ipcz_node.specs.RoomyNodes.{IsReadyFor}
use Rattle.ipcz_world.proofs.state.State.close_pending.Goals as goal

pub returns-in-Err-clause-taken : goal.returns-in-Err-clause-taken
unfolding node_at
returns-in-Err-clause-taken g c =
    let a = asked _ _ c.args.n (Close c.args.end) (world_is c.self.view_is) c.requires.regular c.requires.node c.requires.possible in
    rw (← world_is c.self.view_is)
    (refused-close g.T.Told.tells _ c.args.n c.args.end c.node_mut-node.result.now.node c.prepare.new.self.node c.in-Err.why a.regular.lengths
    a.here c.node_mut-node.ensures.value c.in-Err.ensures.node c.in-Err.ensures.why (λ grows _. c.in-Err.ensures.grows grows))

pub commit-event-requires-clause-possible : goal.commit-event-requires-clause-possible
unfolding node_at
commit-event-requires-clause-possible g c =
    let a = asked _ _ c.args.n (Close c.args.end) (world_is c.self.view_is) c.requires.regular c.requires.node c.requires.possible in
    subst (λ y. IsPossibleAct y (Close c.args.end)) (sym (c.in_default.ensures.node ∙ c.node_mut-node.ensures.value))
    (close-may _ c.args.n c.args.end a.may)

pub returns-clause-taken : goal.returns-clause-taken
unfolding node_at
returns-clause-taken g c =
    rw (← world_is c.self.view_is)
    (done-close g.T.Told.tells _ c.args.n c.args.end c.prepare.new.self.node c.commit-event.new.self.node c.commit-event.result.0 c.told.result
    (c.in_default.ensures.node ∙ c.node_mut-node.ensures.value) c.commit-event.ensures.node c.commit-event.ensures.event c.told.ensures
    (ap (λ y. act_lacks_serials y (Close c.args.end)) c.in_default.ensures.node ∙ c.in_default.ensures.allowed))

pub returns-in-Err-clause-full : goal.returns-in-Err-clause-full
unfolding node_at
returns-in-Err-clause-full g c = λ room.
    no_want c.in-Err.ensures.full (subst (λ k. IsReadyFor k (Close c.args.end))
    (roomy_is c.args.n c.node_mut-node.result.now c.self.view_is c.node_mut-node.ensures.value c.node_mut-node.ensures.room) room)

use Rattle.std.proofs.Common.{subst, sym}
use Rattle.ipcz_world.proofs.code.StatesOfNodes.{world_is}
use Rattle.ipcz_node.specs.declared.act.Act.TheVariants.{Router}
use Rattle.ipcz_node.specs.RoomyNodes.{IsPossibleAct}
use Rattle.ipcz_world.proofs.Vocabulary.{node_at}
use Rattle.ipcz_world.proofs.code.Taken.{asked, router-may}
use Rattle.ipcz_world.proofs.code.Wordless.{may_be_told, plain-taken}
use Rattle.ipcz_world.proofs.code.Rooming.{done_well, roomy_is}
use Rattle.ipcz_node.specs.RoomyNodes.{IsReadyFor}
use Rattle.ipcz_world.proofs.state.State.take_plain_act.Goals as goal

pub act_plainly-requires-clause-possible : goal.act_plainly-requires-clause-possible
unfolding node_at
act_plainly-requires-clause-possible g c =
    let a = asked _ _ c.args.n (Router c.args.serial c.args.act) (world_is c.self.view_is) c.requires.regular c.requires.node c.requires.possible in
    subst (λ y. IsPossibleAct y (Router c.args.serial c.args.act)) (sym c.node_mut.ensures.value)
    (router-may _ c.args.n c.args.serial c.args.act a.regular a.here a.may)

pub act_plainly-requires-clause-plain : goal.act_plainly-requires-clause-plain
act_plainly-requires-clause-plain g c = may_be_told c.args.act c.requires.wordless

pub returns-clause-taken : goal.returns-clause-taken
unfolding node_at
returns-clause-taken g c =
    let a = asked _ _ c.args.n (Router c.args.serial c.args.act) (world_is c.self.view_is) c.requires.regular c.requires.node c.requires.possible in
    rw (← world_is c.self.view_is)
    (plain-taken g.T.Told.tells _ c.args.n c.args.serial c.args.act a.regular a.here a.may c.requires.wordless c.node_mut.result.now.node
    c.act_plainly.new.self.node c.act_plainly.result c.node_mut.ensures.value c.act_plainly.ensures.ok
    c.act_plainly.ensures.event c.act_plainly.ensures.allowed c.act_plainly.ensures.why c.act_plainly.ensures.grows c.act_plainly.ensures.err)

pub returns-clause-full : goal.returns-clause-full
unfolding node_at
returns-clause-full g c = λ room.
    done_well c.act_plainly.result (c.act_plainly.ensures.full (subst (λ k. IsReadyFor k (Router c.args.serial c.args.act))
    (roomy_is c.args.n c.node_mut.result.now c.self.view_is c.node_mut.ensures.value c.node_mut.ensures.room) room))

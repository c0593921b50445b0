use Rattle.std.proofs.Common.{◌<◌, arith, subst, sym, ap, ◌∙◌, refl}
use Rattle.ipcz_world.proofs.code.StatesOfNodes.{world_is}
use Rattle.ipcz_world.proofs.Vocabulary.{End, World, node_at, serials_refusal, GivesOrNoMemory, open_with, HasLengths, the_view}
use Rattle.ipcz_world.specs.declared.step.Reply.TheVariants.{Opened}
use Rattle.ipcz_world.proofs.code.Calling.{open-done, open-refused, open-world}
use Rattle.ipcz_world.proofs.code.Rooming.{given_with_room, roomy_is}
use Rattle.std.proofs.Common.{true≢false}
use Rattle.ipcz_node.specs.RoomyNodes.{CanOpen}
use Rattle.ipcz_world.proofs.state.State.open_claimed.Goals as goal

pub returns-in-Err-clause-opened : goal.returns-in-Err-clause-opened
unfolding node_at
returns-in-Err-clause-opened c =
    let has = subst HasLengths (sym (world_is c.self.view_is)) c.requires.regular.lengths in
    let here = subst (λ (w : World). c.args.n < w.count) (sym (world_is c.self.view_is)) c.requires.node in
    rw (← world_is c.self.view_is)
    (open-refused _ _ c.args.n c.args.word c.node_mut-node.result.now.node c.open_prepare.new.self.node c.in-Err.why _ has here
    c.node_mut-node.ensures.value c.in-Err.ensures.why c.in-Err.ensures.node refl)

pub returns-clause-opened : goal.returns-clause-opened
unfolding node_at
returns-clause-opened c =
    let w : World = (the_view c.self.inside).world in
    let has = subst HasLengths (sym (world_is c.self.view_is)) c.requires.regular.lengths in
    let claimed = subst (λ (w : World). c.args.word < w.claimed) (sym (world_is c.self.view_is)) c.requires.word in
    let within : c.args.word < w.size = omega (arith, claimed, has.claimed) in
    let reply = ap (λ (p : End × End). Opened p.0 p.1) c.open_commit.ensures.ends in
    rw (← world_is c.self.view_is)
    (subst (λ v. GivesOrNoMemory w (open_with w w c.args.n c.args.word) (Opened c.open_commit.result.0 c.open_commit.result.1) v)
    (sym (open-world w c.args.n c.args.word w.claimed c.open_commit.new.self.node c.open.new.self has within c.open.ensures))
    (open-done w w c.args.n c.args.word c.open_prepare.new.self.node c.open_commit.new.self.node _
    (c.in_default.ensures.node ∙ c.node_mut-node.ensures.value)
    (ap serials_refusal c.in_default.ensures.node ∙ c.in_default.ensures.allowed) c.open_commit.ensures.node reply))

pub returns-in-Err-clause-full : goal.returns-in-Err-clause-full
unfolding node_at
returns-in-Err-clause-full c = λ room.
    absurd (true≢false (sym (c.in-Err.ensures.full (subst CanOpen
    (roomy_is c.args.n c.node_mut-node.result.now c.self.view_is c.node_mut-node.ensures.value c.node_mut-node.ensures.room) room))))

pub returns-clause-full : goal.returns-clause-full
returns-clause-full c = λ room. given_with_room (returns-clause-opened c) (λ plain is. cc)

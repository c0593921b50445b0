use Rattle.std.proofs.Common.{◌<◌, subst, sym, ap, ◌∙◌}
use Rattle.ipcz_world.proofs.code.StatesOfNodes.{world_is}
use Rattle.std.specs.Prelude.{IfSome}
use Rattle.ipcz_node.specs.declared.act.Act.TheVariants.{Router}
use Rattle.ipcz_world.proofs.Vocabulary.{node_at, act_lacks_serials}
use Rattle.ipcz_node.specs.RoomyNodes.{IsPossibleAct}
use Rattle.ipcz_node.specs.Node.{source_in, word_side}
use Rattle.ipcz_word.specs.Laws.{HasNode}
use Rattle.ipcz_world.specs.Coding.{table_answer, table_after}
use Rattle.ipcz_world.proofs.code.Taken.{asked, link-within, source-is-node, router-may, answer-kind, done-router, refused-router}
use Rattle.ipcz_world.proofs.code.Rooming.{no_want, roomy_is}
use Rattle.ipcz_node.specs.RoomyNodes.{IsReadyFor}
use Rattle.ipcz_world.proofs.state.State.take_word_act.Goals as goal

pub returns-in-Err-clause-taken : goal.returns-in-Err-clause-taken
unfolding node_at
returns-in-Err-clause-taken g c =
    let a = asked _ _ c.args.n (Router c.args.serial c.args.act) (world_is c.self.view_is) c.requires.regular c.requires.node c.requires.possible in
    rw (← world_is c.self.view_is)
    (refused-router _ c.args.n c.args.serial c.args.act a.regular a.here g.T.Told.tells c.node_mut-node.result.now.node c.prepare.new.self.node
    c.in-Err.why c.node_mut-node.ensures.value
    c.in-Err.ensures.node c.in-Err.ensures.why (λ grows _. c.in-Err.ensures.grows grows))

pub answer-answer-requires-clause-within : goal.answer-answer-requires-clause-within
unfolding node_at
answer-answer-requires-clause-within g c =
    let a = asked _ _ c.args.n (Router c.args.serial c.args.act) (world_is c.self.view_is) c.requires.regular c.requires.node c.requires.possible in
    let is = c.word_of.ensures ∙ ap (λ y. word_side y c.args.serial) (c.in_default.ensures.node ∙ c.node_mut-node.ensures.value) in
    subst (λ o. IfSome o (λ x. x.0 < c.self.inside.words.claimed)) (sym is)
    (link-within _ c.args.n c.args.serial c.args.act a.regular a.here a.may)

pub answer-answer-requires-clause-node : goal.answer-answer-requires-clause-node
unfolding node_at
answer-answer-requires-clause-node g c =
    let a = asked _ _ c.args.n (Router c.args.serial c.args.act) (world_is c.self.view_is) c.requires.regular c.requires.node c.requires.possible in
    let from = c.source_of.ensures ∙ ap (λ y. source_in y c.args.serial) (c.in_default.ensures.node ∙ c.node_mut-node.ensures.value) in
    subst HasNode (sym from) (source-is-node _ c.args.n c.args.serial c.args.act a.regular a.here a.may)

pub commit-requires-clause-possible : goal.commit-requires-clause-possible
unfolding node_at
commit-requires-clause-possible g c =
    let a = asked _ _ c.args.n (Router c.args.serial c.args.act) (world_is c.self.view_is) c.requires.regular c.requires.node c.requires.possible in
    subst (λ y. IsPossibleAct y (Router c.args.serial c.args.act)) (sym (c.in_default.ensures.node ∙ c.node_mut-node.ensures.value))
    (router-may _ c.args.n c.args.serial c.args.act a.regular a.here a.may)

pub commit-requires-clause-answer : goal.commit-requires-clause-answer
unfolding node_at
commit-requires-clause-answer g c =
    let a = asked _ _ c.args.n (Router c.args.serial c.args.act) (world_is c.self.view_is) c.requires.regular c.requires.node c.requires.possible in
    let is = c.word_of.ensures ∙ ap (λ y. word_side y c.args.serial) (c.in_default.ensures.node ∙ c.node_mut-node.ensures.value) in
    let from = c.source_of.ensures ∙ ap (λ y. source_in y c.args.serial) (c.in_default.ensures.node ∙ c.node_mut-node.ensures.value) in
    answer-kind _ c.args.n c.args.serial c.args.act a.regular a.here a.may c.answer-answer.result
    (c.answer-answer.ensures.answer ∙ ap (λ o. table_answer c.self.inside.words o c.args.act c.word_of.result) from
    ∙ ap (table_answer c.self.inside.words _ c.args.act) is)

pub returns-clause-taken : goal.returns-clause-taken
unfolding node_at
returns-clause-taken g c =
    let a = asked _ _ c.args.n (Router c.args.serial c.args.act) (world_is c.self.view_is) c.requires.regular c.requires.node c.requires.possible in
    let here = c.in_default.ensures.node ∙ c.node_mut-node.ensures.value in
    let from = c.source_of.ensures ∙ ap (λ y. source_in y c.args.serial) here in
    let is = c.word_of.ensures ∙ ap (λ y. word_side y c.args.serial) here in
    rw (← world_is c.self.view_is)
    (done-router _ c.args.n c.args.serial c.args.act a.regular a.here g.T.Told.tells a.may c.prepare.new.self.node c.commit.new.node.node
    c.commit.result c.answer-answer.result c.answer-answer.new.self here
    (c.answer-answer.ensures.answer ∙ ap (λ o. table_answer c.self.inside.words o c.args.act c.word_of.result) from
    ∙ ap (table_answer c.self.inside.words _ c.args.act) is)
    (c.answer-answer.ensures.table ∙ ap (λ o. table_after c.self.inside.words o c.args.act c.word_of.result) from
    ∙ ap (table_after c.self.inside.words _ c.args.act) is) c.commit.ensures.node c.commit.ensures.event
    (ap (λ y. act_lacks_serials y (Router c.args.serial c.args.act)) c.in_default.ensures.node ∙ c.in_default.ensures.allowed))

pub returns-in-Err-clause-full : goal.returns-in-Err-clause-full
unfolding node_at
returns-in-Err-clause-full g c = λ room.
    no_want c.in-Err.ensures.full (subst (λ k. IsReadyFor k (Router c.args.serial c.args.act))
    (roomy_is c.args.n c.node_mut-node.result.now c.self.view_is c.node_mut-node.ensures.value c.node_mut-node.ensures.room) room)

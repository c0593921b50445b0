use Rattle.std.proofs.Common.{◌<◌, subst, sym}
use Rattle.ipcz_world.proofs.code.StatesOfNodes.{world_is}
use Rattle.ipcz_world.proofs.Vocabulary.{World, node_at, HasLengths}
use Rattle.ipcz_world.proofs.code.Calling.{close-done, close-refused}
use Rattle.ipcz_world.proofs.state.State.close.Goals.{in-Ok, in-Err}
use Rattle.ipcz_world.proofs.code.Rooming.{given_with_room, not_refused, roomy_is}
use Rattle.std.proofs.Common.{◌≡◌, false, true, true≢false, ◌∙◌}
use Rattle.std.specs.Prelude.{None}
use Rattle.ipcz_node.specs.RoomyNodes.{RoomyNode, TakesMore}
use Rattle.ipcz_world.specs.RoomyWorlds.{roomy_at}
use Rattle.ipcz_world.proofs.Vocabulary.{close_refusal}
use Rattle.ipcz_world.proofs.state.State.close.Goals as goal

pub returns-clause-closed : goal.returns-clause-closed
unfolding node_at
returns-clause-closed c =
    let has = subst HasLengths (sym (world_is c.self.view_is)) c.requires.regular.lengths in
    let here = subst (λ (w : World). c.args.n < w.count) (sym (world_is c.self.view_is)) c.requires.node in
    rw (← world_is c.self.view_is) (elim c.match-close.branch [
      | in-Ok w ↦ close-done _ c.args.n c.args.at c.node_mut.result.now.node c.close.new.self.node w.in-Ok.number _ here
          c.node_mut.ensures.value w.in-Ok.ensures.allowed w.in-Ok.ensures.number w.in-Ok.ensures.ok w.result-is
      | in-Err w ↦ close-refused _ c.args.n c.args.at c.node_mut.result.now.node c.close.new.self.node w.in-Err.why _ has here
          c.node_mut.ensures.value w.in-Err.ensures.why w.in-Err.ensures.err w.result-is
    ])

pub returns-clause-full : goal.returns-clause-full
unfolding node_at
returns-clause-full c = λ room. given_with_room (returns-clause-closed c) (λ plain is. elim c.match-close.branch [
  | in-Ok w ↦ (let no = sym w.result-is ∙ is in cc)
  | in-Err w ↦
      let Full : RoomyNode → Type 0 = λ k. close_refusal k.node c.args.at ≡ None → TakesMore k c.args.at → false ≡ true in
      let full : Full (roomy_at c.args.self.now c.args.n) = subst Full
      (sym (roomy_is c.args.n c.node_mut.result.now c.self.view_is c.node_mut.ensures.value c.node_mut.ensures.room)) w.in-Err.ensures.full in
      true≢false (sym (full (not_refused c.args.self.now.world c.args.n _ _ c.requires.node plain) room))
])

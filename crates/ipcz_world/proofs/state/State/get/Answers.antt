use Rattle.std.proofs.Common.{◌<◌, subst, sym}
use Rattle.ipcz_world.proofs.code.StatesOfNodes.{world_is}
use Rattle.ipcz_world.proofs.Vocabulary.{World, node_at, HasLengths}
use Rattle.ipcz_world.proofs.code.Calling.{get-done, get-refused}
use Rattle.ipcz_world.proofs.state.State.get.Goals.{in-Ok, in-Err}
use Rattle.ipcz_world.proofs.state.State.get.Goals as goal

pub returns : goal.returns
unfolding node_at
returns c =
    let has = subst HasLengths (sym (world_is c.self.view_is)) c.requires.regular.lengths in
    let here = subst (λ (w : World). c.args.n < w.count) (sym (world_is c.self.view_is)) c.requires.node in
    rw (← world_is c.self.view_is) (elim c.match-get.branch [
      | in-Ok w ↦ get-done _ c.args.n c.args.at c.node_mut.result.now.node c.get.new.self.node w.in-Ok.number w.in-Ok.parcel _ here
          c.node_mut.ensures.value w.in-Ok.ensures.allowed w.in-Ok.ensures.parcel w.in-Ok.ensures.ok w.result-is
      | in-Err w ↦ get-refused _ c.args.n c.args.at c.node_mut.result.now.node c.get.new.self.node w.in-Err.why _ has here
          c.node_mut.ensures.value w.in-Err.ensures.why w.in-Err.ensures.err w.result-is
    ])

use Rattle.std.proofs.Common.{◌<◌, subst, sym}
use Rattle.ipcz_world.proofs.code.StatesOfNodes.{world_is}
use Rattle.ipcz_base.specs.declared.parcel.Parcel as parcels
use Rattle.ipcz_world.proofs.Vocabulary.{World, node_at, HasLengths}
use Rattle.ipcz_world.proofs.code.Calling.{put-answers}
use Rattle.ipcz_world.proofs.code.Rooming.{done_puts, given_with_room, not_refused, roomy_is}
use Rattle.std.proofs.Common.{◌≡◌}
use Rattle.std.specs.Prelude.{None, IsOk}
use Rattle.ipcz_node.specs.RoomyNodes.{RoomyNode, TakesMore}
use Rattle.ipcz_world.proofs.Vocabulary.{put_refusal}
use Rattle.ipcz_world.specs.RoomyWorlds.{roomy_at}
use Rattle.ipcz_world.proofs.state.State.put_here.Goals as goal

pub returns-clause-step : goal.returns-clause-step
unfolding node_at
returns-clause-step c =
    let has = subst HasLengths (sym (world_is c.self.view_is)) c.requires.regular.lengths in
    let here = subst (λ (w : World). c.args.n < w.count) (sym (world_is c.self.view_is)) c.requires.node in
    let p : parcels.Parcel = record { bytes = c.args.bytes; ends = c.args.ends } in
    rw (← world_is c.self.view_is) (put-answers c.args.profile _ c.args.n c.args.at p c.node_mut.result.now.node c.put_as.new.self.node c.put_as.result has here
    c.node_mut.ensures.value c.put_as.ensures.allowed c.put_as.ensures.number c.put_as.ensures.ok c.put_as.ensures.why c.put_as.ensures.err)

pub returns-clause-full : goal.returns-clause-full
unfolding node_at
returns-clause-full c = λ room. given_with_room (returns-clause-step c) (λ plain is.
    let Full : RoomyNode → Type 0 = λ k. put_refusal c.args.profile k.node c.args.at c.args.bytes c.args.ends ≡ None → TakesMore k c.args.at →
    IsOk c.put_as.result in
    let full : Full (roomy_at c.args.self.now c.args.n) = subst Full
    (sym (roomy_is c.args.n c.node_mut.result.now c.self.view_is c.node_mut.ensures.value c.node_mut.ensures.room)) c.put_as.ensures.full in
    done_puts c.put_as.result (full (not_refused c.args.self.now.world c.args.n _ _ c.requires.node plain) room) is)

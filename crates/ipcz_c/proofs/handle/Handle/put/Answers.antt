use Rattle.std.proofs.Common.{subst, sym}
use Rattle.ipcz_world.specs.Steps.{put_of, put_reply}
use Rattle.ipcz_c.specs.Calls.{RepliesPlainly}
use Rattle.ipcz_c.proofs.Answering.{plainly}
use Rattle.ipcz_world.proofs.code.StatesOfNodes.{world_is}
use Rattle.ipcz_c.proofs.handle.Handle.put.Goals as goal

pub returns-clause-plain : goal.returns-clause-plain
returns-clause-plain c =
    let step = put_of c.args.profile c.args.node c.args.at c.args.bytes c.args.ends in
    subst (RepliesPlainly c.args.self.now.held.world step) (sym c.of_put-reply.ensures)
    (plainly step (put_reply c.put_as.result) _ _ _ c.take-world.ensures.world (world_is c.deref_mut.ensures.value) c.put_as.ensures.plain)

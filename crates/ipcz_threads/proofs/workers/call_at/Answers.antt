use Rattle.std.proofs.Common.{length, refl, sym, subst, arith}
use Rattle.std.proofs.lemmas.Option.{slice_get_read, slice_get_past}
use Rattle.ipcz_threads.specs.Workers.{CallsWorker}
use Rattle.ipcz_threads.proofs.workers.call_at.Goals as goal

pub returns-then-node-workers : goal.returns-then-node-workers
returns-then-node-workers g c =
    rw (slice_get_read c.args.workers.now (length c.args.workers.now) c.args.node c.index-workers-node.result refl (omega (arith, c.if-node-workers.true)) c.index-workers-node.is) (
      c.call.new.self,
      subst (λ w. CallsWorker g.F.FabricName.table w c.args.call c.call.result c.call.new.self) (sym c.index-workers-node.is) c.call.ensures,
      refl,
    )

pub returns-else-node-workers : goal.returns-else-node-workers
returns-else-node-workers g c = rw (slice_get_past c.args.workers.now c.args.node (omega (arith, c.if-node-workers.false))) (refl, refl)

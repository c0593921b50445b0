use Rattle.std.proofs.Common.{subst, sym}
use Rattle.ipcz_threads.specs.Workers.{CallsWorker}
use Rattle.ipcz_threads.proofs.worker.NodeWorker.call.Goals as goal

pub returns-in-Open : goal.returns-in-Open
returns-in-Open g c =
    subst (λ call. CallsWorker g.F.FabricName.table c.args.self.now call c.opened.result c.open.new.self) (sym c.in-Open.is)
    ((c.open.result, c.open.ensures.opens, c.opened.ensures), c.open.ensures.starved, c.open.ensures.left)

use Rattle.ipcz_threads.proofs.Asking.{asked-more}
use Rattle.ipcz_threads.proofs.workers.+are_quiet.Goals as goal

pub returns-clause-asked : goal.returns-clause-asked
returns-clause-asked g t c =
    asked-more g.F.FabricName.table c.args.left c.args.node c.args.workers.now c.is_quiet_at-own.new.workers c.are_quiet-others.new.workers
    c.is_quiet_at-own.result c.are_quiet-others.result c.if-left-eq0.false c.is_quiet_at-own.ensures.asked c.are_quiet-others.ensures.asked

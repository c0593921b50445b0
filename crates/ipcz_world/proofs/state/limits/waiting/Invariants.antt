use Rattle.std.proofs.Common.{drop, length}
use Rattle.ipcz_base.specs.Totals.{total_list}
use Rattle.ipcz_world.proofs.code.Tallying.{IsTallied}
use Rattle.ipcz_world.proofs.state.limits.waiting.Given as goal

-- the queues so far are summed up
abbrev pub invariant-loop-queue : goal.invariant-loop-queue
invariant-loop-queue l = IsTallied l.sum (total_list (λ q. length q.messages) (drop l.queue-index l.queues))
    (total_list (λ q. length q.messages) l.queues)

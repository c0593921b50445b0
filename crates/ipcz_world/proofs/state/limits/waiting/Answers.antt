use Rattle.std.proofs.Common.{length, Some, subst, sym}
use Rattle.ipcz_world.specs.Tallies.{Tells}
use Rattle.ipcz_world.proofs.code.Tallying.{tallied-item, tallied-list, of-parts}
use Rattle.ipcz_world.proofs.state.limits.waiting.Goals as goal

pub loop-queue-preserved : goal.loop-queue-preserved
loop-queue-preserved c =
    tallied-item (λ q. length q.messages) c.args.queues.now c.loop-queue.queue-index c.queue-item.result c.loop-queue.sum c.plus-sum.result
    (Some c.len.result) _ c.loop-queue-test.true c.queue-item.is c.loop-queue.invariant c.plus-sum.ensures c.len.ensures

pub returns : goal.returns
returns c =
    subst (Tells c.loop-queue.sum) (sym (of-parts length (λ q. q.messages) c.args.queues.now))
    (tallied-list (λ q. length q.messages) c.args.queues.now c.loop-queue.queue-index c.loop-queue.sum _ c.loop-queue-test.false
    c.loop-queue.invariant)

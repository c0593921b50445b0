use Rattle.std.proofs.Common.{◌≡◌, drop, map}
use Rattle.ipcz_world.proofs.Vocabulary.{higher, highest}
use Rattle.ipcz_world.specs.SettleLimit.{gone_message}
use Rattle.ipcz_world.proofs.state.limits.gone_waiting.Given as goal

-- the highest is that of the queues so far
abbrev pub invariant-loop-queue : goal.invariant-loop-queue
invariant-loop-queue l = higher l.most (highest (λ box. highest gone_message box) (map (λ q. q.messages) (drop l.queue-index l.queues))) ≡
    highest (λ box. highest gone_message box) (map (λ q. q.messages) l.queues)

use Rattle.std.proofs.Common.{◌≡◌, drop}
use Rattle.ipcz_node.specs.Serials.{entries_by}
use Rattle.ipcz_world.proofs.Vocabulary.{higher}
use Rattle.ipcz_world.specs.SettleLimit.{put_among}
use Rattle.ipcz_world.proofs.state.limits.put_among.Given as goal

-- the count is that of the routers so far
abbrev pub invariant-loop-router : goal.invariant-loop-router
invariant-loop-router l = higher l.count (put_among l.end (entries_by (λ x. x.router) (drop l.router-index l.routers))) ≡
    put_among l.end (entries_by (λ x. x.router) l.routers)

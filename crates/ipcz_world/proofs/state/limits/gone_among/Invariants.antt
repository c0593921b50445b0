use Rattle.std.proofs.Common.{◌≡◌, ℕ, drop}
use Rattle.ipcz_node.specs.Serials.{entries_by}
use Rattle.ipcz_world.proofs.Vocabulary.{Router, higher, highest}
use Rattle.ipcz_world.specs.SettleLimit.{gone_held}
use Rattle.ipcz_world.proofs.state.limits.gone_among.Given as goal

-- the highest is that of the routers so far
abbrev pub invariant-loop-router : goal.invariant-loop-router
invariant-loop-router l =
    higher l.most (highest (λ (x : ℕ × Router). gone_held x.1) (entries_by (λ x. x.router) (drop l.router-index l.routers))) ≡
    highest (λ (x : ℕ × Router). gone_held x.1) (entries_by (λ x. x.router) l.routers)

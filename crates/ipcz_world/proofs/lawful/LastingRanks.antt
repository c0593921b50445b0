-- What happens between steps of a world that lasts raises no rank, but for routers that may claim again.
use Rattle.std.specs.Prelude.{◌≡◌, ◌≤◌, ℕ, ◌+◌, Bool, true, false, not, ◌&&◌, Some, is_none, refl}
use Rattle.std.proofs.Common.{arith}
use Rattle.ipcz_world.proofs.Vocabulary.{Router, World, Key, node_at, router_at, set_claimed, set_router, with_router, Rates, router_worth, rank}
use Rattle.ipcz_router.specs.ActEffects.{run_dry, rewet}
use Rattle.ipcz_world.specs.Ranks.{is_unbegun}
use Rattle.ipcz_world.specs.HeldEnds.{passed_over, grown}
use Rattle.ipcz_world.specs.Lasting.{DeedsKeepRanks}
use Rattle.ipcz_world.proofs.lawful.RouterWorths.{worth-most}
use Rattle.ipcz_world.proofs.lawful.NodeWorths.{node-with}
use Rattle.ipcz_world.proofs.lawful.WorldRanks.{rank-set_node}

wet-worth : (c : Rates) (r : Router) → router_worth c (rewet r) ≤ router_worth c r + 2
unfolding router_worth
wet-worth c r = go (is_unbegun r) refl
  where
    go : (u : Bool) → is_unbegun r ≡ u → router_worth c (rewet r) ≤ router_worth c r + 2
    go true e = rw e (omega (arith, worth-most 1 (is_none r.spare && not false)))
    go false e = rw e (omega arith)

dry-worth : (c : Rates) (r : Router) → router_worth c (run_dry r) ≤ router_worth c r
unfolding router_worth
dry-worth c r = go (is_unbegun r) (is_none r.spare) refl refl
  where
    go : (u s : Bool) → is_unbegun r ≡ u → is_none r.spare ≡ s → router_worth c (run_dry r) ≤ router_worth c r
    go true true e f = rw (e, f) (omega arith)
    go true false e f = rw (e, f) (omega arith)
    go false s e f = rw e (omega arith)

told : (c : Rates) (w : World) (k : Key) (r y : Router) (more : ℕ) → router_at w k ≡ Some r → router_worth c y ≤ router_worth c r + more →
    rank c (set_router w k y) ≤ rank c w + more
unfolding router_at
told c w k r y more here l = omega (
  arith,
  rank-set_node c w k.node (with_router (node_at w k.node) k.serial y),
  node-with c (node_at w k.node) k.serial y r here,
  l,
)

passes : (c : Rates) (w : World) (count : ℕ) → rank c (passed_over w count) ≡ rank c w
unfolding rank set_claimed
passes c w count = refl

grows : (c : Rates) (w : World) (count : ℕ) → rank c (grown w count) ≡ rank c w
unfolding rank
grows c w count = refl

pub deeds_keep_ranks : DeedsKeepRanks
deeds_keep_ranks = record {
  passes = passes;
  grows = grows;
  dries = λ c w k r here. let l = told c w k r (run_dry r) 0 here (let d = dry-worth c r in omega (arith, d)) in omega (arith, l);
  wets = λ c w k r here. told c w k r (rewet r) 2 here (wet-worth c r);
}

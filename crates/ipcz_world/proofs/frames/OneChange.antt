-- One router changes, and no counter, no stray and no open under way: what all such relations between a world and the next share.
use Rattle.std.specs.Prelude.{◌≡◌, ℕ, Bool, cond, Option, Some, None}
use Rattle.std.proofs.Common.{arith}
use Rattle.ipcz_world.proofs.Vocabulary.{Router, World, Key, same_key, node_at, router_at, key_passes}
use Rattle.ipcz_world.proofs.frames.Frames.{same_key_tells}
use Rattle.ipcz_world.proofs.frames.StandingRules.{standing_rules}

pub record OneChanges (w v : World) (k : Key) (r y : Router) : Type 0 where
  pub here : router_at w k ≡ Some r
  pub router : (q : Key) → router_at v q ≡ cond (same_key q k) (Some y) (router_at w q)
  pub claimed : v.claimed ≡ w.claimed
  pub size : v.size ≡ w.size
  pub count : v.count ≡ w.count
  pub node : (n : ℕ) → (node_at v n).number ≡ (node_at w n).number
  pub nodes : (n : ℕ) → (node_at v n).count ≡ (node_at w n).count
  pub opening : (n : ℕ) → (node_at v n).opening ≡ (node_at w n).opening
  pub next_router : (n : ℕ) → (node_at v n).next_router ≡ (node_at w n).next_router
  pub next_peripheral : (n : ℕ) → (node_at v n).next_peripheral ≡ (node_at w n).next_peripheral
  pub strays : (n : ℕ) → (node_at v n).strays ≡ (node_at w n).strays

-- a test that tells the two routers not apart passes as before
pub passes-same : {w v : World} {k : Key} {r y : Router} → OneChanges w v k r y → (test : Router → Bool) → test y ≡ test r →
    (o : Option Key) → key_passes v o test ≡ key_passes w o test
passes-same {w} {v} {k} {r} {y} c test same None = grind (arith, standing_rules)
passes-same {w} {v} {k} {r} {y} c test same (Some q) = grind (arith, standing_rules, c.router q, c.here, same_key_tells q k, same)

-- The source that a word names is the node inward of the proxy that holds its lock: what it takes to keep that.
use Rattle.std.proofs.Common.{◌≡◌, ◌⊎◌, inl, inr, ◌≢◌, ◌∙◌, ℕ, true, false, refl, sym, ap, Some, arith}
use Rattle.std.specs.Prelude.{cond, unwrap_or, option_map}
use Rattle.ipcz_base.specs.declared.link_end.LinkEnd.{LinkEnd}
use Rattle.ipcz_base.specs.declared.link_id.LinkId.TheVariants.{Central}
use Rattle.ipcz_world.proofs.Vocabulary.{no_edge}
use Rattle.ipcz_router.specs.Router.{Router, inward_edge}
use Rattle.ipcz_world.specs.World.{World, Key, router_at, word_at, same_key}
use Rattle.ipcz_world.specs.Structure.{AreSourced}
use Rattle.ipcz_world.proofs.frames.Frames.{same_key_tells}

-- what a router that holds a lock was before: it held the lock, on the same link, with the same one inward
pub record HadLock (w : World) (q : Key) (y : Router) : Type 0 where
  pub router : Router
  pub at : router_at w q ≡ Some router
  pub primary : y.outward.primary ≡ router.outward.primary
  pub inward : (inward_edge y).primary ≡ (inward_edge router).primary
  pub holds : y.holds ≡ true → router.holds ≡ true

pub had-itself : (w : World) (q : Key) (y : Router) → router_at w q ≡ Some y → HadLock w q y
had-itself w q y at = record { router = y; at = at; primary = refl; inward = refl; holds = λ h. h }

pub inward-same : (r y : Router) → y.inward ≡ r.inward → (inward_edge y).primary ≡ (inward_edge r).primary
inward-same r y e = ap (λ z. (unwrap_or z no_edge).primary) e

-- if each router that holds a lock held it, and the words name the same sources
pub sourced-by : (w v : World) → ((q : Key) (y : Router) → router_at v q ≡ Some y → y.holds ≡ true → HadLock w q y) →
    ((q : Key) (y : Router) (e : LinkEnd) (i : ℕ) → router_at w q ≡ Some y → y.outward.primary ≡ Some e → e.link ≡ Central i →
    (word_at v i).source ≡ (word_at w i).source) → AreSourced w → AreSourced v
sourced-by w v had words law = λ q y e i at h p l. let z : HadLock w q y = had q y at h in
    words q z.router e i z.at (sym z.primary ∙ p) l ∙ law q z.router e i z.at (z.holds h) (sym z.primary ∙ p) l ∙
    ap (option_map (λ (x : LinkEnd). x.other)) (sym z.inward)

-- the same if one router changes
pub had-one : (w v : World) (k : Key) (r y : Router) → ((q : Key) → router_at v q ≡ cond (same_key q k) (Some y) (router_at w q)) →
    (y.holds ≡ true → HadLock w k y) → (q : Key) (z : Router) → router_at v q ≡ Some z → z.holds ≡ true → HadLock w q z
had-one w v k r y router here q z at h = go (same_key_tells q k)
  where
    put : (j : Key) (x : Router) → j ≡ k → x ≡ y → x.holds ≡ true → HadLock w j x
    put j x e f h = rw (e, f) (here (ap (λ (u : Router). u.holds) (sym f) ∙ h))

    go : ((same_key q k ≡ true) × (q ≡ k)) ⊎ ((same_key q k ≡ false) × (q ≢ k)) → HadLock w q z
    go (inl e) = put q z e.1 (grind (arith, router q, at, e.0)) h
    go (inr e) = had-itself w q z (grind (arith, router q, at, e.0))

pub central_word : (i j : ℕ) → Central i ≡ Central j → i ≡ j
central_word i j e = grind (arith, e)

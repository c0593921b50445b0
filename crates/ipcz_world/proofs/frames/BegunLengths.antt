-- The lengths of bypassed links, by side and stage.
use Rattle.std.specs.Prelude.{◌≡◌, ◌≤◌, ℕ, true, Some, is_some, Bool, false, if◌then◌else◌, None, refl}
use Rattle.std.proofs.Common.{arith, ◌∙◌, ap}
use Rattle.std.proofs.lemmas.Bool.Decides.{nat_tests}
use Rattle.ipcz_world.proofs.Vocabulary.{Side, A, B, LinkId, Central, Key, Records, inner_link, bypass_of, side_length, is_begun, proxy_side}
use Rattle.ipcz_world.proofs.Vocabulary.{across_side, bypass_length, length_by}
use Rattle.ipcz_world.proofs.facts.LinkTests.{same_side-opposite}
use Rattle.ipcz_world.proofs.facts.Lengths.{same_side-itself, known_from-yes}
use Rattle.ipcz_world.proofs.frames.RecordRules.{record_rules}

pub bypass_of-begun : (g : Records) (o : ℕ) → is_begun (g.bypass o) ≡ true → bypass_of g (Central o) ≡ Some o
unfolding bypass_of
bypass_of-begun g o e = grind (arith, e)

pub begun-bypass_of : (g : Records) (o : ℕ) → is_some (bypass_of g (Central o)) ≡ true → is_begun (g.bypass o) ≡ true
unfolding bypass_of
begun-bypass_of g o e = grind (arith, e)

pub begun-since : (g : Records) (o n : ℕ) → 1 ≤ n → n ≤ (g.bypass o).stage → is_begun (g.bypass o) ≡ true
begun-since g o n a b = grind (arith, a, b, nat_tests)

length-by : (g : Records) (l : LinkId) (s : Side) (o : ℕ) → bypass_of g l ≡ Some o → side_length g l s ≡ bypass_length g o l s
unfolding length_by
length-by g l s o e = ap (length_by g l s) e

-- over the old link, from the proxy
pub length-proxy : (g : Records) (o : ℕ) → 3 ≤ (g.bypass o).stage → side_length g (Central o) (proxy_side g o) ≡ Some (g.bypass o).taken_at
unfolding bypass_length
length-proxy g o h =
    length-by g (Central o) (proxy_side g o) o (bypass_of-begun g o (begun-since g o 3 (omega arith) h)) ∙ grind
    (arith, same_side-itself (proxy_side g o), known_from-yes 3 (g.bypass o).stage (g.bypass o).taken_at h)

-- over the old link, from the router across
pub length-across : (g : Records) (o : ℕ) → 3 ≤ (g.bypass o).stage →
    side_length g (Central o) (across_side g o) ≡ Some (g.bypass o).accepted_at
unfolding bypass_length
length-across g o h =
    length-by g (Central o) (across_side g o) o (bypass_of-begun g o (begun-since g o 3 (omega arith) h)) ∙ grind
    (arith, same_side-opposite (proxy_side g o), known_from-yes 3 (g.bypass o).stage (g.bypass o).accepted_at h)

-- over the inner link, from the proxy
pub length-inward : (g : Records) (p : Key) (o : ℕ) → (g.peripheral p).by ≡ Some o → 3 ≤ (g.bypass o).stage →
    side_length g (inner_link p) A ≡ Some (g.bypass o).accepted_at
unfolding bypass_length bypass_of
length-inward g p o e h = length-by g (inner_link p) A o e ∙ known_from-yes 3 (g.bypass o).stage (g.bypass o).accepted_at h

-- over the inner link, from the router inward
pub length-inner : (g : Records) (p : Key) (o : ℕ) → (g.peripheral p).by ≡ Some o → 2 ≤ (g.bypass o).stage →
    side_length g (inner_link p) B ≡ Some (g.bypass o).taken_at
unfolding bypass_length bypass_of
length-inner g p o e h = length-by g (inner_link p) B o e ∙ known_from-yes 2 (g.bypass o).stage (g.bypass o).taken_at h

-- the bypass of a central link is named by it
pub bypass_of-central_is : (g : Records) (i o : ℕ) → bypass_of g (Central i) ≡ Some o → (o ≡ i) × (is_begun (g.bypass i) ≡ true)
bypass_of-central_is g i o h = go (is_begun (g.bypass i)) refl (grind (arith, record_rules, h))
  where
    go : (b : Bool) → is_begun (g.bypass i) ≡ b → (if b then Some i else None) ≡ Some o → (o ≡ i) × (is_begun (g.bypass i) ≡ true)
    go true e q = (grind (arith, q), e)
    go false e q = cc

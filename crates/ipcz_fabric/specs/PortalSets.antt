-- Sets of portals, as lists in which none is twice: what an add and a removal make of such a list, and the round from a place on.
use Rattle.std.specs.Prelude.{◌≡◌, ◌≢◌, ◌<◌, ◌+◌, ◌-◌, ◌++◌, ◌⊎◌, ℕ, List, [], ◌∷◌, length, slice_get, Some, MatchBool, drop, nat_lt, take}
use Rattle.std.specs.Ordering.{nat_cmp, ordering_then}
use Rattle.std.specs.declared.cmp.Ordering.{Ordering}
use Rattle.std.specs.BTreeMap.{BTreeMap, get}
use Rattle.ipcz_base.specs.declared.end.End.{End}
use Rattle.ipcz_base.specs.Orders.{end_cmp}
use Rattle.ipcz_fabric.specs.Portals.{PortalValue, portal_at}
use Rattle.ipcz_fabric.specs.Readiness.{EachBefore, IsThere}

-- no portal is at two places
abbrev pub AreOnce : List PortalValue → Type 0
AreOnce portals = (i j : ℕ) (p : PortalValue) → slice_get portals i ≡ Some p → slice_get portals j ≡ Some p → i ≡ j

-- a portal was added to a list, and is at this place: one that was there is where it was, and nothing has changed; else it is behind the last one
abbrev pub IsAdded : List PortalValue → PortalValue → ℕ → List PortalValue → Type 0
IsAdded old p place new = (IsThere old place (λ q. q ≡ p) × (new ≡ old)) ⊎
    (EachBefore old (length old) (λ q. q ≢ p) × (place ≡ length old) × (new ≡ old ++ p ∷ []))

-- the portal at a place was removed from a list, and the last one took its place
pub record IsRemoved (old : List PortalValue) (place : ℕ) (new : List PortalValue) : Type 0 where
  pub inside : place < length old
  pub shorter : length new + 1 ≡ length old
  pub moved : place < length new → slice_get new place ≡ slice_get old (length new)
  pub others : (k : ℕ) → k ≢ place → k < length new → slice_get new k ≡ slice_get old k

-- nodes and ends, by nodes and then by ends
abbrev pub key_cmp : ℕ × End → ℕ × End → Ordering
key_cmp a b = ordering_then (nat_cmp a.0 b.0) (end_cmp a.1 b.1)

-- a map has the place of each portal of a list and no other key; and the nodes of the portals are among some, each of them a table's
pub record AreNoted (count : ℕ) (portals : List PortalValue) (places : BTreeMap (ℕ × End) ℕ) (nodes : List ℕ) : Type 0 where
  pub placed : (i : ℕ) (p : PortalValue) → slice_get portals i ≡ Some p → get key_cmp places (p.node, p.end) ≡ Some i
  pub there : (k : ℕ × End) (i : ℕ) → get key_cmp places k ≡ Some i → slice_get portals i ≡ Some (portal_at k.0 k.1)
  pub noded : (i : ℕ) (p : PortalValue) → slice_get portals i ≡ Some p → (j : ℕ) × (slice_get nodes j ≡ Some p.node)
  pub inside : (j n : ℕ) → slice_get nodes j ≡ Some n → n < count

-- these portals in a round that begins at a place: those from there on, and then those before it
abbrev pub in_round : List PortalValue → ℕ → List PortalValue
in_round portals from = drop from portals ++ take from portals

-- a place, of so many, comes as the n-th in a round that begins at a place; the first one as that of number 0
abbrev pub IsNth : ℕ → ℕ → ℕ → ℕ → Type 0
IsNth count from place nth = MatchBool (nat_lt place from) (nth ≡ count - from + place) (nth ≡ place - from)

-- Portals keep their places when one is noted, and when one is closed.
use Rattle.std.proofs.Common.{◌≡◌, ℕ, zero, suc, ◌<◌, ◌==◌, ◌++◌, Bool, cond, List, [], ◌∷◌, length, get_or, take, Option, Some, refl, ap, sym, ◌∙◌, arith}
use Rattle.std.proofs.Common.{inl, inr}
use Rattle.std.specs.List.{count_by}
use Rattle.std.specs.Option.{option_eq}
use Rattle.std.proofs.Math.ListN.{set}
use Rattle.std.proofs.lemmas.Bool.{cases_order}
use Rattle.std.proofs.lemmas.List.{get_or_default, get_or-set_other, get_or-set_same, get_or_append_left, get_or_push, length-append, length-set, take_all, take-append-le}
use Rattle.std.proofs.lemmas.List.Sums.{sum_by-cons}
use Rattle.ipcz_messages.specs.declared.named.NamedPortal.{NamedPortal}
use Rattle.ipcz_messages.specs.Named.{is_of_node, portals_at, ArePlaced, IsNoted}

-- one more portal
placed_push : (old : List NamedPortal) (p : NamedPortal) → p.place ≡ portals_at p.node old → ArePlaced old → ArePlaced (old ++ p ∷ [])
placed_push old p here placed i within d = elim (cases_order i (length old)) [
  | inl e ↦ rw (get_or_push old p d i (sym e), take-append-le i old (p ∷ []) (omega (arith, e)), take_all i old (omega (arith, e))) here
  | inr (inl h) ↦ rw (get_or_append_left old (p ∷ []) d i h, take-append-le i old (p ∷ []) (omega (arith, h))) (placed i h d)
  | inr (inr h) ↦ absurd (omega (arith, h, within, length-append old (p ∷ [])))
]

pub placed_noted : (name : List ℕ) (node : Option ℕ) (first : ℕ) (old new : List NamedPortal) → IsNoted name node first old new →
    ArePlaced old → ArePlaced new
placed_noted name node first old new (inl h) placed = rw h.0 placed
placed_noted name node first old new (inr h) placed =
    rw h.2.1 (placed_push old h.2.0 (rw h.2.2.node_is h.2.2.place_is) placed)

-- what another portal in the place of one leaves as it is
pub same_at : {Y : Type 0} (f : NamedPortal → Y) (old : List NamedPortal) (k : ℕ) (q : NamedPortal) (i : ℕ) (d : NamedPortal) → k < length old →
    f q ≡ f (get_or old k d) → f (get_or (set old k q) i d) ≡ f (get_or old i d)
same_at f old k q i d within e = elim (cases_order i k) [
  | inl h ↦ rw h (ap f (get_or-set_same old k q d within) ∙ e)
  | inr (inl h) ↦ ap f (get_or-set_other old k i q d (omega (arith, h)))
  | inr (inr h) ↦ ap f (get_or-set_other old k i q d (omega (arith, h)))
]

same_count : (test : NamedPortal → Bool) (old : List NamedPortal) (k : ℕ) (q : NamedPortal) (i : ℕ) (d : NamedPortal) → k < length old →
    test q ≡ test (get_or old k d) → count_by test (take i (set old k q)) ≡ count_by test (take i old)
same_count test [] k q i d within e = absurd (omega (arith, within))
same_count test (x ∷ xs) zero q zero d within e = refl
same_count test (x ∷ xs) (suc k) q zero d within e = refl
same_count test (x ∷ xs) zero q (suc i) d within e =
    let f : NamedPortal → ℕ = λ p. cond (test p) 1 0 in
    omega (arith, sum_by-cons f q (take i xs), sum_by-cons f x (take i xs), ap {B = ℕ} (λ b. cond b 1 0) e)
same_count test (x ∷ xs) (suc k) q (suc i) d within e =
    let f : NamedPortal → ℕ = λ p. cond (test p) 1 0 in
    omega (arith, sum_by-cons f x (take i (set xs k q)), sum_by-cons f x (take i xs), same_count test xs k q i d (omega (arith, within)) e)

-- a portal in the place of another of its node
placed_set : (old : List NamedPortal) (k : ℕ) (q : NamedPortal) → k < length old → ((d : NamedPortal) → q.node ≡ (get_or old k d).node) →
    ((d : NamedPortal) → q.place ≡ (get_or old k d).place) → ArePlaced old → ArePlaced (set old k q)
placed_set old k q within node place placed i lt d =
    let nodes = same_at (λ p. p.node) old k q i d within (node d) in
    let home = (get_or old i d).node in
    let counts = same_count (is_of_node home) old k q i d within (ap (λ n. option_eq (λ a b. a == b) n home) (node d)) in
    same_at (λ p. p.place) old k q i d within (place d) ∙ placed i (omega (arith, lt, length-set old k q)) d ∙ sym counts
    ∙ ap (λ n. portals_at n (take i (set old k q))) (sym nodes)

-- a portal that is closed stands where it stood
pub placed_closed : (line : ℕ) (named : List NamedPortal) (i : ℕ) (p : NamedPortal) → i < length named → p ≡ get_or named i p → ArePlaced named →
    ArePlaced (set named i record { name = p.name; node = p.node; place = p.place; first = p.first; closed = Some line })
placed_closed line named i p within is placed =
    placed_set named i record { name = p.name; node = p.node; place = p.place; first = p.first; closed = Some line } within
    (λ d. ap (λ x. x.node) (is ∙ get_or_default named i p d within)) (λ d. ap (λ x. x.place) (is ∙ get_or_default named i p d within)) placed

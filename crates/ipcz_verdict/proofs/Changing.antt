-- A change of one of the books.
use Rattle.std.specs.Prelude.{◌≡◌, ◌⊎◌, ◌≤◌, ◌<◌, ◌+◌, ◌*◌, ℕ, zero, suc, Bool, true, false, cond, ◌||◌, Option, List, [], ◌∷◌, ◌++◌, length, slice_get, refl}
use Rattle.std.specs.Prelude.{slice_index_or, slice_set}
use Rattle.std.proofs.Common.{arith, ap, ap₂, ◌∙◌, sym, subst, inl, inr}
use Rattle.std.proofs.lemmas.Option.{slice_get_past}
use mathlib.Core.Logic.{dite}
use native.Mathlib.Decide.{dec_lt}
use Rattle.std.specs.Option.{unwrap_or}
use Rattle.ipcz_base.specs.declared.side.Side.{Side}
use Rattle.ipcz_base.specs.declared.side.Side.TheVariants.{A, B}
use Rattle.ipcz_base.specs.declared.end.End.{End}
use Rattle.ipcz_base.specs.Ends.{same_end, has_end, end_at}
use Rattle.ipcz_verdict.specs.declared.portal.Portal.{Portal}
use Rattle.ipcz_verdict.specs.Desks.{IsIndex, absent, change, index, portal_at, side_index, ends_in, holding, holding_each}
use Rattle.ipcz_verdict.proofs.Facts.{end_is, end_itself}

-- a write at an index is a change
pub change_set : (s : List Portal) (i : ℕ) (f : Portal → Portal) (d : Portal) → i < length s → slice_set s i (f (slice_index_or s i d)) ≡ change s i f
change_set [] i f d h = absurd (omega (arith, h))
change_set (p ∷ s) zero f d h = refl
change_set (p ∷ s) (suc i) f d h = ap (λ t. p ∷ t) (change_set s i f d (omega (arith, h)))

pub change_out : (s : List Portal) (i : ℕ) (f : Portal → Portal) → length s ≤ i → change s i f ≡ s
change_out [] i f h = refl
change_out (p ∷ s) zero f h = absurd (omega (arith, h))
change_out (p ∷ s) (suc i) f h = ap (λ t. p ∷ t) (change_out s i f (omega (arith, h)))

pub write_is : (s : List Portal) (i j : ℕ) (f : Portal → Portal) (d x : Portal) → i < length s → x ≡ f (slice_index_or s i d) → i ≡ j → slice_set s i x ≡ change s j f
write_is s i j f d x h e q = ap (slice_set s i) e ∙ change_set s i f d h ∙ ap (λ n. change s n f) q

pub no_write : (s : List Portal) (i : ℕ) (f : Portal → Portal) → length s ≤ i → s ≡ change s i f
no_write s i f h = sym (change_out s i f h)

pub change_length : (s : List Portal) (i : ℕ) (f : Portal → Portal) → length (change s i f) ≡ length s
change_length [] i f = refl
change_length (p ∷ s) zero f = refl
change_length (p ∷ s) (suc i) f = ap suc (change_length s i f)

change_here : (s : List Portal) (i : ℕ) (f : Portal → Portal) → i < length s → unwrap_or (slice_get (change s i f) i) absent ≡ f (unwrap_or (slice_get s i) absent)
change_here [] i f h = absurd (omega (arith, h))
change_here (p ∷ s) zero f h = refl
change_here (p ∷ s) (suc i) f h = change_here s i f (omega (arith, h))

change_there : (s : List Portal) (i j : ℕ) (f : Portal → Portal) → (i ≡ j → ⊥) → slice_get (change s i f) j ≡ slice_get s j
change_there [] i j f h = refl
change_there (p ∷ s) zero zero f h = absurd (h refl)
change_there (p ∷ s) zero (suc j) f h = refl
change_there (p ∷ s) (suc i) zero f h = refl
change_there (p ∷ s) (suc i) (suc j) f h = change_there s i j f (λ e. h (ap suc e))

-- ends with one place are one
pub index_tells : (d e : End) → index d ≡ index e → d ≡ e
index_tells d e h = go d.side e.side refl refl h
  where
    go : (s t : Side) → d.side ≡ s → e.side ≡ t → 2 * d.pair + side_index d.side ≡ 2 * e.pair + side_index e.side → d ≡ e
    go A A p q h = let n : d.pair ≡ e.pair = omega (arith, h, ap side_index p, ap side_index q) in ap₂ end_at n (p ∙ sym q)
    go A B p q h = absurd (omega (arith, h, ap side_index p, ap side_index q))
    go B A p q h = absurd (omega (arith, h, ap side_index p, ap side_index q))
    go B B p q h = let n : d.pair ≡ e.pair = omega (arith, h, ap side_index p, ap side_index q) in ap₂ end_at n (p ∙ sym q)

-- what a change leaves at each portal
pub changed_at : (s : List Portal) (e d : End) (f : Portal → Portal) → index e < length s →
    portal_at (change s (index e) f) d ≡ cond (same_end d e) (f (portal_at s e)) (portal_at s d)
changed_at s e d f h = elim (end_is d e) [
  | inl same ↦ ap (λ x. portal_at (change s (index e) f) x) same.1 ∙ change_here s (index e) f h ∙ ap (λ c. cond c (f (portal_at s e)) (portal_at s d)) (sym same.0)
  | inr apart ↦ ap (λ o. unwrap_or o absent) (change_there s (index e) (index d) f (λ q. apart.1 (index_tells d e (sym q)))) ∙
      ap (λ c. cond c (f (portal_at s e)) (portal_at s d)) (sym apart.0)
]

pub each_length : (s : List Portal) (es : List End) (o : Option ℕ) → length (holding_each s es o) ≡ length s
each_length s [] o = refl
each_length s (e ∷ es) o = each_length (holding s e o) es o ∙ change_length s (index e) (λ p. record p { holder = o })

-- who holds the portals then, and what else is as it was
pub each_at : (s : List Portal) (es : List End) (o : Option ℕ) (d : End) → ((e : End) → has_end e es ≡ true → index e < length s) →
    portal_at (holding_each s es o) d ≡ record (portal_at s d) { holder = cond (has_end d es) o (portal_at s d).holder }
each_at s [] o d h = refl
each_at s (e ∷ es) o d h =
    each_at (holding s e o) es o d (λ x c. subst (λ n. index x < n) (sym (change_length s (index e) (λ p. record p { holder = o }))) (h x (or_true (same_end e x) (has_end x es) c)))
    ∙ go (end_is d e)
  where
    or_true : (a b : Bool) → b ≡ true → (a || b) ≡ true
    or_true true b c = refl
    or_true false b c = c

    there : portal_at (holding s e o) d ≡ cond (same_end d e) (record (portal_at s e) { holder = o }) (portal_at s d)
    there = changed_at s e d (λ p. record p { holder = o }) (h e (ap (λ c. c || has_end e es) (end_itself e)))

    go : ((same_end d e ≡ true) × (d ≡ e)) ⊎ ((same_end d e ≡ false) × (d ≡ e → ⊥)) →
        record (portal_at (holding s e o) d) { holder = cond (has_end d es) o (portal_at (holding s e o) d).holder }
        ≡ record (portal_at s d) { holder = cond (has_end d (e ∷ es)) o (portal_at s d).holder }
    go (inl same) =
        ap (λ (p : Portal). record p { holder = cond (has_end d es) o p.holder }) (there ∙ ap (λ c. cond c (record (portal_at s e) { holder = o }) (portal_at s d)) same.0
        ∙ ap (λ x. record (portal_at s x) { holder = o }) (sym same.1))
        ∙ ap (λ h. record (portal_at s d) { holder = h }) (twice (has_end d es)
        ∙ ap (λ c. cond c o (portal_at s d).holder) (sym (ap (λ c. c || has_end d es) (ap (λ x. same_end x d) (sym same.1) ∙ end_itself d))))
      where
        twice : (c : Bool) → cond c o o ≡ o
        twice true = refl
        twice false = refl
    go (inr apart) =
        ap (λ (p : Portal). record p { holder = cond (has_end d es) o p.holder }) (there ∙ ap (λ c. cond c (record (portal_at s e) { holder = o }) (portal_at s d)) apart.0)
        ∙ ap (λ c. record (portal_at s d) { holder = cond c o (portal_at s d).holder }) (sym (ap (λ c. c || has_end d es) (other (end_is e d))))
      where
        other : ((same_end e d ≡ true) × (e ≡ d)) ⊎ ((same_end e d ≡ false) × (e ≡ d → ⊥)) → same_end e d ≡ false
        other (inl same) = absurd (apart.1 (sym same.1))
        other (inr a) = a.0

pub portal_seen : (s : List Portal) (i : ℕ) (d : Portal) → i < length s → slice_index_or s i d ≡ unwrap_or (slice_get s i) absent
portal_seen [] i d h = absurd (omega (arith, h))
portal_seen (p ∷ s) zero d h = refl
portal_seen (p ∷ s) (suc i) d h = portal_seen s i d (omega (arith, h))

pub at_index : (s : List Portal) (i : ℕ) (e : End) → i ≡ index e → unwrap_or (slice_get s i) absent ≡ portal_at s e
at_index s i e q = ap (λ n. unwrap_or (slice_get s n) absent) q

pub absent_beyond : (s : List Portal) (i : ℕ) → length s ≤ i → unwrap_or (slice_get s i) absent ≡ absent
absent_beyond [] i h = refl
absent_beyond (p ∷ s) zero h = absurd (omega (arith, h))
absent_beyond (p ∷ s) (suc i) h = absent_beyond s i (omega (arith, h))

pub nothing_beyond : (s : List Portal) (e : End) (es : List End) → length s ≤ index e → es ≡ es ++ ends_in (portal_at s e).waiting
nothing_beyond s e es h = sym (ap (λ (p : Portal). es ++ ends_in p.waiting) (absent_beyond s (index e) h) ∙ none es)
  where
    none : (es : List End) → es ++ [] ≡ es
    none [] = refl
    none (x ∷ es) = ap (λ t. x ∷ t) (none es)

pub seen_same : (s : List Portal) (e d : End) (f : Portal → Portal) → index e < length s → same_end d e ≡ true → portal_at (change s (index e) f) d ≡ f (portal_at s e)
seen_same s e d f h same = changed_at s e d f h ∙ ap (λ c. cond c (f (portal_at s e)) (portal_at s d)) same

pub seen_apart : (s : List Portal) (e d : End) (f : Portal → Portal) → index e < length s → same_end d e ≡ false → portal_at (change s (index e) f) d ≡ portal_at s d
seen_apart s e d f h apart = changed_at s e d f h ∙ ap (λ c. cond c (f (portal_at s e)) (portal_at s d)) apart

-- a look at a place that `IsIndex` is a look at the portal's own
pub seen_at : (s : List Portal) (i : ℕ) (e : End) → IsIndex (length s) e i → slice_get s i ≡ slice_get s (index e)
seen_at s i e h = dite (dec_lt i (length s)) (λ inside. ap (slice_get s) (h.0 inside)) (λ past.
    let far : length s ≤ i = omega (arith, past) in slice_get_past s i far ∙ sym (slice_get_past s (index e) (h.1 far)))

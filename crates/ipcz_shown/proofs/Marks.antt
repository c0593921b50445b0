-- In what an end has put no parcel stands behind the mark or Gone, so that each parcel keeps its number among the parcels alone.
use Rattle.std.specs.Prelude.{◌≡◌, ◌⊎◌, ◌<◌, ◌+◌, ℕ, zero, suc, Bool, true, false, cond, nat_eq, Some, List, [], ◌∷◌, length, slice_get, refl}
use Rattle.std.proofs.Common.{arith, ap, sym, ◌∙◌, inl, inr}
use Rattle.std.proofs.lemmas.Bool.Decides.{nat_tests}
use Rattle.std.proofs.lemmas.Option.{same_Some}
use Rattle.ipcz_base.specs.declared.parcel.Parcel as parcels
use Rattle.ipcz_base.specs.declared.item.Item.{Item}
use Rattle.ipcz_base.specs.declared.item.Item.TheVariants.{Parcel, Mark, Gone}
use Rattle.ipcz_world.specs.Books.{has_gone, has_mark}
use Rattle.ipcz_promise.specs.Accounting.{parcels_in}

-- each parcel stands before each mark and each Gone
pub record EndsLast (xs : List Item) : Type 0 where
  pub mark : (i k : ℕ) (q : parcels.Parcel) → slice_get xs i ≡ Some Mark → slice_get xs k ≡ Some (Parcel q) → k < i
  pub gone : (i k : ℕ) (q : parcels.Parcel) → slice_get xs i ≡ Some Gone → slice_get xs k ≡ Some (Parcel q) → k < i

rest-ends : (x : Item) (xs : List Item) → EndsLast (x ∷ xs) → EndsLast xs
rest-ends x xs h = record {
  mark = λ i k q a b. omega (arith, h.mark (suc i) (suc k) q a b);
  gone = λ i k q a b. omega (arith, h.gone (suc i) (suc k) q a b);
}

-- a parcel's number stays
pub parcel-at : (xs : List Item) → EndsLast xs → (n : ℕ) (q : parcels.Parcel) → slice_get xs n ≡ Some (Parcel q) →
    slice_get (parcels_in xs) n ≡ Some q
parcel-at [] h n q e = cc
parcel-at (Parcel p ∷ xs) h zero q e = cc
parcel-at (Parcel p ∷ xs) h (suc n) q e = parcel-at xs (rest-ends (Parcel p) xs h) n q e
parcel-at (Mark ∷ xs) h n q e = absurd (omega (arith, h.mark 0 n q refl e))
parcel-at (Gone ∷ xs) h n q e = absurd (omega (arith, h.gone 0 n q refl e))

-- each parcel came from some place
parcel-from : (xs : List Item) (n : ℕ) (q : parcels.Parcel) → slice_get (parcels_in xs) n ≡ Some q → (k : ℕ) × (slice_get xs k ≡ Some (Parcel q))
parcel-from [] n q e = cc
parcel-from (Parcel p ∷ xs) zero q e = (0, cc)
parcel-from (Parcel p ∷ xs) (suc n) q e = let t = parcel-from xs n q e in (suc t.0, t.1)
parcel-from (Mark ∷ xs) n q e = let t = parcel-from xs n q e in (suc t.0, t.1)
parcel-from (Gone ∷ xs) n q e = let t = parcel-from xs n q e in (suc t.0, t.1)

pub parcel-of : (xs : List Item) → EndsLast xs → (n : ℕ) (q : parcels.Parcel) → slice_get (parcels_in xs) n ≡ Some q →
    slice_get xs n ≡ Some (Parcel q)
parcel-of [] h n q e = cc
parcel-of (Parcel p ∷ xs) h zero q e = cc
parcel-of (Parcel p ∷ xs) h (suc n) q e = parcel-of xs (rest-ends (Parcel p) xs h) n q e
parcel-of (Mark ∷ xs) h n q e = let t = parcel-from xs n q e in absurd (omega (arith, h.mark 0 (suc t.0) q refl t.1))
parcel-of (Gone ∷ xs) h n q e = let t = parcel-from xs n q e in absurd (omega (arith, h.gone 0 (suc t.0) q refl t.1))

pub within : (xs : List Item) (n : ℕ) (x : Item) → slice_get xs n ≡ Some x → n < length xs
within [] n x e = cc
within (y ∷ xs) zero x e = omega arith
within (y ∷ xs) (suc n) x e = omega (arith, within xs n x e)

-- where Gone, or the mark, is in a list, it stands at some place
gone-at : (xs : List Item) → has_gone xs ≡ true → (n : ℕ) × (slice_get xs n ≡ Some Gone)
gone-at [] h = cc
gone-at (Parcel p ∷ xs) h = let t = gone-at xs h in (suc t.0, t.1)
gone-at (Mark ∷ xs) h = let t = gone-at xs h in (suc t.0, t.1)
gone-at (Gone ∷ xs) h = (0, refl)

pub mark-at : (xs : List Item) → has_mark xs ≡ true → (n : ℕ) × (slice_get xs n ≡ Some Mark)
mark-at [] h = cc
mark-at (Parcel p ∷ xs) h = let t = mark-at xs h in (suc t.0, t.1)
mark-at (Mark ∷ xs) h = (0, refl)
mark-at (Gone ∷ xs) h = let t = mark-at xs h in (suc t.0, t.1)

pub has-mark : (xs : List Item) (n : ℕ) → slice_get xs n ≡ Some Mark → has_mark xs ≡ true
has-mark [] n e = cc
has-mark (Parcel p ∷ xs) zero e = cc
has-mark (Parcel p ∷ xs) (suc n) e = has-mark xs n e
has-mark (Mark ∷ xs) n e = refl
has-mark (Gone ∷ xs) zero e = cc
has-mark (Gone ∷ xs) (suc n) e = has-mark xs n e

no-parcel : (x : Item) (q : parcels.Parcel) → x ≡ Parcel q → (x ≡ Mark) ⊎ (x ≡ Gone) → ⊥
no-parcel x q e (inl m) = cc
no-parcel x q e (inr g) = cc

not-there : (xs : List Item) (i k : ℕ) (x : Item) (q : parcels.Parcel) → (x ≡ Mark) ⊎ (x ≡ Gone) → slice_get xs i ≡ Some x →
    slice_get xs k ≡ Some (Parcel q) → i ≡ k → ⊥
not-there xs i k x q is a b e = no-parcel x q (same_Some x (Parcel q) (sym a ∙ (ap (slice_get xs) e ∙ b))) is

-- the mark is the last item but for Gone, and Gone the last
pub ends-last : (xs : List Item) → ((n : ℕ) → slice_get xs n ≡ Some Mark → n + 1 + cond (has_gone xs) 1 0 ≡ length xs) →
    ((n : ℕ) → slice_get xs n ≡ Some Gone → n + 1 ≡ length xs) → EndsLast xs
ends-last xs marks gones = record {
  mark = λ i k q a b. before i k q a b (has_gone xs) refl;
  gone = λ i k q a b. last i k q a b (nat_eq i k) refl;
}
  where
    last : (i k : ℕ) (q : parcels.Parcel) → slice_get xs i ≡ Some Gone → slice_get xs k ≡ Some (Parcel q) → (c : Bool) → nat_eq i k ≡ c → k < i
    last i k q a b true e = absurd (not-there xs i k Gone q (inr refl) a b (grind (arith, e, nat_tests)))
    last i k q a b false e = grind (arith, e, gones i a, within xs k (Parcel q) b, nat_tests)

    before : (i k : ℕ) (q : parcels.Parcel) → slice_get xs i ≡ Some Mark → slice_get xs k ≡ Some (Parcel q) → (c : Bool) → has_gone xs ≡ c → k < i
    before i k q a b c h = same (nat_eq i k) refl
      where
        short : (d : Bool) → has_gone xs ≡ d → nat_eq i k ≡ false → k < i
        short false g ne =
            let long : i + 1 + cond false 1 0 ≡ length xs = ap (λ d. i + 1 + cond d 1 0) (sym g) ∙ marks i a in
            grind (arith, ne, long, within xs k (Parcel q) b, nat_tests)
        short true g ne =
            let t = gone-at xs g in
            let less : k < t.0 = last t.0 k q t.1 b (nat_eq t.0 k) refl in
            let long : i + 1 + cond true 1 0 ≡ length xs = ap (λ d. i + 1 + cond d 1 0) (sym g) ∙ marks i a in
            grind (arith, ne, less, long, gones t.0 t.1, nat_tests)

        same : (d : Bool) → nat_eq i k ≡ d → k < i
        same true e = absurd (not-there xs i k Mark q (inl refl) a b (grind (arith, e, nat_tests)))
        same false e = short (has_gone xs) refl e

-- The nodes that are left to be asked.
use Rattle.std.proofs.Common.{◌≡◌, ◌∙◌, ◌+◌, ◌-◌, ◌<◌, ◌≤◌, ℕ, suc, Bool, true, false, List, [], ◌∷◌, ◌++◌, refl, sym, ap, arith, append_assoc, append-nil}
use Rattle.std.specs.Prelude.{cond}
use Rattle.std.specs.List.{filter}
use Rattle.ipcz_world.specs.World.{numbers_from}

-- the numbers from one on, below another
abbrev pub left : ℕ → ℕ → List ℕ
left count i = numbers_from i (count - i)

one-more : (count i : ℕ) → i < count → left count i ≡ i ∷ left count (i + 1)
one-more count i here = let more : count - i ≡ suc (count - (i + 1)) = omega (arith, here) in ap (numbers_from i) more

first-apart : (f : ℕ → Bool) (i : ℕ) (xs : List ℕ) → filter f (i ∷ xs) ≡ filter f (i ∷ []) ++ filter f xs
first-apart f i xs = elim (f i) as (λ b. cond b (i ∷ filter f xs) (filter f xs) ≡ cond b (i ∷ []) [] ++ filter f xs) [ true ↦ refl | false ↦ refl ]

module _ (f : ℕ → Bool) (count : ℕ) where
  pub left-start : (busy : List ℕ) → busy ≡ [] → busy ++ filter f (left count 0) ≡ filter f (numbers_from 0 count)
  left-start busy none = let all : count - 0 ≡ count = omega arith in ap (λ b. b ++ filter f (left count 0)) none ∙ ap (λ n. filter f (numbers_from 0 n)) all

  module _ (i : ℕ) (busy : List ℕ) (on : busy ++ filter f (left count i) ≡ filter f (numbers_from 0 count)) where
    pub left-more : (new : List ℕ) → i < count → new ≡ busy ++ filter f (i ∷ []) → new ++ filter f (left count (i + 1)) ≡ filter f (numbers_from 0 count)
    left-more new here is =
        ap (λ b. b ++ filter f (left count (i + 1))) is ∙ append_assoc busy (filter f (i ∷ [])) (filter f (left count (i + 1)))
        ∙ ap (λ l. busy ++ l) (sym (first-apart f i (left count (i + 1)))) ∙ ap (λ l. busy ++ filter f l) (sym (one-more count i here)) ∙ on

    pub left-end : count ≤ i → busy ≡ filter f (numbers_from 0 count)
    left-end past =
        let none : count - i ≡ 0 = omega (arith, past) in
        sym (append-nil busy) ∙ ap (λ n. busy ++ filter f (numbers_from i n)) (sym none) ∙ on

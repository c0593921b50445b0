-- A seat looks for a slot, all round from one on: what it has looked at in vain.
use Rattle.std.specs.Prelude.{◌≡◌, ◌≢◌, ◌≤◌, ◌<◌, ◌⊎◌, ◌+◌, ℕ, true, List, ◌∷◌, ◌++◌}
use Rattle.std.proofs.Common.{arith, ap, ◌∙◌, inl, inr, ⊎_elim}
use mathlib.Core.Logic.{dite}
use native.Mathlib.Decide.{ℕ_discrete}
use Rattle.ipcz_slots.specs.Slots.{has_number}
use Rattle.ipcz_slots.proofs.Reusing.{has_first, has_more}

-- a slot is one of so many from the first on
abbrev pub IsAmong : (slots first tried p : ℕ) → Type 0
IsAmong slots first tried p = ((first ≤ p) × (p < first + tried)) ⊎ (p + slots < first + tried)

-- the slot behind so many from the first on
abbrev pub IsBehind : (slots first tried p : ℕ) → Type 0
IsBehind slots first tried p = (p ≡ first + tried) ⊎ (p + slots ≡ first + tried)

-- so many from the first on were looked at, and no other
abbrev pub HasLooked : (slots first tried : ℕ) → List ℕ → List ℕ → Type 0
HasLooked slots first tried old new =
    (more : List ℕ) × (new ≡ more ++ old) × ((p : ℕ) → p < slots → IsAmong slots first tried p → has_number more p ≡ true)

-- the next one is another, or the slot behind them
among_more : (slots first tried at p : ℕ) → p < slots → at < slots → IsBehind slots first tried at → IsAmong slots first (tried + 1) p → p ≢ at → IsAmong slots first tried p
among_more slots first tried at p low here behind among apart = ⊎_elim
    (λ (e : at ≡ first + tried). ⊎_elim
    (λ (h : (first ≤ p) × (p < first + (tried + 1))). let a = h.0 in let b = h.1 in inl (a, omega (arith, b, e, apart)))
    (λ (h : p + slots < first + (tried + 1)). inr (omega (arith, h, e, here, low)))
    among)
    (λ (e : at + slots ≡ first + tried). ⊎_elim
    (λ (h : (first ≤ p) × (p < first + (tried + 1))). let a = h.0 in inl (a, omega (arith, e, low, here)))
    (λ (h : p + slots < first + (tried + 1)). inr (omega (arith, h, e, apart)))
    among)
    behind

pub one_looked : (slots first tried at : ℕ) (old new new' : List ℕ) → at < slots → IsBehind slots first tried at → HasLooked slots first tried old new → new' ≡ at ∷ new →
    HasLooked slots first (tried + 1) old new'
one_looked slots first tried at old new new' here behind has e = (
  at ∷ has.0,
  e ∙ ap (λ (l : List ℕ). at ∷ l) has.1,
  λ p low among. dite (ℕ_discrete p at)
      (λ same. ap (λ (q : ℕ). has_number (at ∷ has.0) q) same ∙ has_first has.0 at)
      (λ apart. has_more has.0 at p (has.2 p low (among_more slots first tried at p low here behind among apart))),
)

-- the slot after that behind so many, which is the first where the slots end
pub behind_next : (slots first tried at next : ℕ) → first < slots → tried < slots → at < slots → IsBehind slots first tried at →
    ((at + 1 < slots) × (next ≡ at + 1)) ⊎ ((slots ≤ at + 1) × (next ≡ 0)) → IsBehind slots first (tried + 1) next
behind_next slots first tried at next inside few low behind step = ⊎_elim
    (λ (e : at ≡ first + tried). ⊎_elim
    (λ (h : (at + 1 < slots) × (next ≡ at + 1)). let a = h.1 in inl (omega (arith, a, e)))
    (λ (h : (slots ≤ at + 1) × (next ≡ 0)). let a = h.0 in let b = h.1 in inr (omega (arith, a, b, e, low)))
    step)
    (λ (e : at + slots ≡ first + tried). ⊎_elim
    (λ (h : (at + 1 < slots) × (next ≡ at + 1)). let a = h.1 in inr (omega (arith, a, e)))
    (λ (h : (slots ≤ at + 1) × (next ≡ 0)). let a = h.0 in absurd (omega (arith, a, e, few, inside)))
    step)
    behind

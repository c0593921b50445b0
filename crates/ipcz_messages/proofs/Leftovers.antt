-- There is one only act, or none.
use Rattle.std.proofs.Common.{◌≡◌, ℕ, ◌+◌, ◌<◌, ◌≤◌, true, false, List, [], ◌∷◌, length, get_or, arith, inl, inr}
use Rattle.std.specs.List.{AllWithin, HoldsAt}
use Rattle.std.proofs.lemmas.Bool.{cases_order}
use Rattle.ipcz_messages.specs.declared.messages.made.Made.{Made}
use Rattle.ipcz_messages.specs.Leftovers.{is_of, IsOnly}
use Rattle.ipcz_messages.proofs.Joining.{true_and_false}

some_made : (made : List Made) (i : ℕ) → i < length made → Made
some_made [] i h = absurd (omega arith)
some_made (x ∷ xs) i h = x

-- an act that is the node's isn't among those that aren't
passed_by : (made : List Made) (node line i j k : ℕ) → AllWithin (λ m. is_of node line m ≡ false) made i k → i ≤ j → j < k →
    j < length made → HoldsAt (λ m. is_of node line m ≡ true) made j → ⊥
passed_by made node line i j k none low high within holds =
    let d = some_made made j within in
    true_and_false (is_of node line (get_or made j d)) (holds d) (none j d low high)

pub none_only : (made : List Made) (node line i : ℕ) → AllWithin (λ m. is_of node line m ≡ false) made 0 (length made) →
    IsOnly made node line i → ⊥
none_only made node line i none only =
    passed_by made node line 0 i (length made) none (omega arith) only.within only.within only.holds

-- of two acts none is the only one
pub two_only : (made : List Made) (node line a b i : ℕ) → a < b → b < length made → HoldsAt (λ m. is_of node line m ≡ true) made a →
    HoldsAt (λ m. is_of node line m ≡ true) made b → IsOnly made node line i → ⊥
two_only made node line a b i less within at_a at_b only = elim (cases_order i b) [
  | inl e ↦ passed_by made node line 0 a i only.before (omega arith) (omega (arith, e)) (omega arith) at_a
  | inr (inl h) ↦ passed_by made node line (i + 1) b (length made) only.behind (omega (arith, h)) within within at_b
  | inr (inr h) ↦ passed_by made node line 0 b i only.before (omega arith) h within at_b
]

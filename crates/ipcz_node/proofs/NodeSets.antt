-- Sets of nodes with one node more, and with one less.
use Rattle.std.specs.Prelude.{◌≡◌, ◌≢◌, ◌<◌, ◌≤◌, ◌*◌, ◌^◌, ◌%◌, ◌&&◌, ◌||◌, Bool, ℕ, bit_and, bit_or, nat_eq, nat_lt, not, true, false}
use Rattle.std.specs.Int.{bit_at, bit_not, w64}
use Rattle.std.proofs.Common.{ap, sym, ◌∙◌, arith, refl}
use Rattle.std.proofs.lemmas.Bool.Decides.{nat_tests}
use Rattle.std.proofs.lemmas.Nat.Bits.{bit_at-zero, bit_at_clear_other, bit_at_clear_same, bit_at_set_same, bit_at_set_other}
use mathlib.Core.Logic.{dite}
use native.Mathlib.Decide.{ℕ_discrete}
use Rattle.ipcz_node.specs.declared.node_set.NodeSet.{NodeSet}
use Rattle.ipcz_node.specs.NodeSets.{has_node, no_nodes}

itself : (n : ℕ) → nat_eq n n ≡ true
itself n = grind (arith, nat_tests)

apart : (node n : ℕ) → n ≢ node → nat_eq node n ≡ false
apart node n other = grind (arith, nat_tests, other)

below : (n : ℕ) → n < 64 → nat_lt n 64 ≡ true
below n low = grind (arith, nat_tests, low)

-- of a node below 64 the bit alone says whether it is there
pub by_bit : (s : NodeSet) (n : ℕ) → n < 64 → has_node s n ≡ nat_eq (bit_at s.bits n) 1
by_bit s n low = ap (λ b. b && nat_eq (bit_at s.bits n) 1) (below n low)

-- and one of 64 or more isn't
pub beyond : (s : NodeSet) (n : ℕ) → 64 ≤ n → nat_lt n 64 ≡ has_node s n
beyond s n high = let none : nat_lt n 64 ≡ false = grind (arith, nat_tests, high) in none ∙ sym (ap (λ b. b && nat_eq (bit_at s.bits n) 1) none)

-- the bit of a node is set
set_more : (bits node n : ℕ) → node < 64 → nat_eq (bit_at (bit_or bits (1 * 2 ^ node % 18446744073709551616)) n) 1 ≡ (nat_eq node n || nat_eq (bit_at bits n) 1)
set_more bits node n low = dite (ℕ_discrete n node)
    (λ same. rw same (ap (λ b. nat_eq b 1) (bit_at_set_same w64 bits node low) ∙ sym (ap (λ b. b || nat_eq (bit_at bits node) 1) (itself node))))
    (λ other. ap (λ b. nat_eq b 1) (bit_at_set_other w64 bits node low n other) ∙ sym (ap (λ b. b || nat_eq (bit_at bits n) 1) (apart node n other)))

-- a node was added
pub added : (bits node n : ℕ) → node < 64 → n < 64 →
    has_node (record { bits = bit_or bits (1 * 2 ^ node % 18446744073709551616) }) n ≡ (nat_eq node n || has_node (record { bits = bits }) n)
added bits node n low small = by_bit (record { bits = bit_or bits (1 * 2 ^ node % 18446744073709551616) }) n small
    ∙ (set_more bits node n low ∙ ap (λ b. nat_eq node n || b) (sym (by_bit (record { bits = bits }) n small)))

-- nobody is in the set without a node
pub nobody : (n : ℕ) → has_node no_nodes n ≡ false
nobody n = ap (λ b. nat_lt n 64 && nat_eq b 1) (bit_at-zero n) ∙ neither (nat_lt n 64)
  where
    neither : (b : Bool) → (b && false) ≡ false
    neither true = refl
    neither false = refl

-- the bit of a node is cleared
clear_one : (bits node n : ℕ) → node < 64 → n < 64 → nat_eq (bit_at (bit_and bits (bit_not w64 (1 * 2 ^ node % 18446744073709551616))) n) 1 ≡ (not (nat_eq node n) && nat_eq (bit_at bits n) 1)
clear_one bits node n low small = dite (ℕ_discrete n node)
    (λ same. rw same (ap (λ b. nat_eq b 1) (bit_at_clear_same w64 bits node low) ∙ sym (ap (λ b. not b && nat_eq (bit_at bits node) 1) (itself node))))
    (λ other. ap (λ b. nat_eq b 1) (bit_at_clear_other w64 bits node low n small other) ∙ sym (ap (λ b. not b && nat_eq (bit_at bits n) 1) (apart node n other)))

-- a node was taken out
pub taken_out : (bits node n : ℕ) → node < 64 → n < 64 →
    has_node (record { bits = bit_and bits (bit_not w64 (1 * 2 ^ node % 18446744073709551616)) }) n ≡ (not (nat_eq node n) && has_node (record { bits = bits }) n)
taken_out bits node n low small = by_bit (record { bits = bit_and bits (bit_not w64 (1 * 2 ^ node % 18446744073709551616)) }) n small
    ∙ (clear_one bits node n low small ∙ ap (λ b. not (nat_eq node n) && b) (sym (by_bit (record { bits = bits }) n small)))

-- one of 64 or more can't be taken out
pub far_out : (s : NodeSet) (node n : ℕ) → 64 ≤ node → n < 64 → has_node s n ≡ (not (nat_eq node n) && has_node s n)
far_out s node n high small = let other : nat_eq node n ≡ false = grind (arith, nat_tests, high, small) in sym (ap (λ b. not b && has_node s n) other)

-- The first pairs, one after another.
use Rattle.std.proofs.Common.{◌≡◌, ◌≤◌, Bool, true, false, if◌then◌else◌, nat_eq, ℕ, zero, suc, ◌+◌, ◌-◌, ◌*◌, ◌/◌, ◌<◌, ◌++◌, length, length-append, refl, ap, arith}
use Rattle.std.proofs.lemmas.Bool.Decides.{nat_tests}
use Rattle.ipcz_base.specs.Limits.{no_number}
use Rattle.ipcz_base.specs.declared.side.Side.TheVariants.{A, B}
use Rattle.ipcz_node.specs.Node.{Node, add_end}
use Rattle.ipcz_node.specs.FirstPairs.{pairs_from, first_pairs_from, first_pairs, first_pair_count, add_pair, add_pairs, HasSerials}
use Rattle.ipcz_node.proofs.Refiling.{number_is}

before : (k : ℕ) → k ≡ suc k - 1
before k = omega arith

-- a pair, and those after it
pub next_pair : (n : Node) (pair i j left rows : ℕ) → 0 < left
    → add_pairs n pair (pairs_from i j left ++ first_pairs_from (i + 1) rows) ≡ add_pairs (add_pair n pair (i, j)) (pair + 1)
    (pairs_from i (j + 1) (left - 1) ++ first_pairs_from (i + 1) rows)
next_pair n pair i j zero rows some = absurd (omega (arith, some))
next_pair n pair i j (suc left) rows some =
    ap (λ k. add_pairs (add_pair n pair (i, j)) (pair + 1) (pairs_from i (j + 1) k ++ first_pairs_from (i + 1) rows)) (before left)

-- the pairs of the next node
pub next_row : (n : Node) (pair i j left rows : ℕ) → left ≡ 0 → 0 < rows
    → add_pairs n pair (pairs_from i j left ++ first_pairs_from (i + 1) rows) ≡ add_pairs n pair
    (pairs_from (i + 1) ((i + 1) + 1) (rows - 1) ++ first_pairs_from ((i + 1) + 1) (rows - 1))
next_row n pair i j zero zero none some = absurd (omega (arith, some))
next_row n pair i j zero (suc rows) none some =
    ap (λ k. add_pairs n pair (pairs_from (i + 1) ((i + 1) + 1) k ++ first_pairs_from ((i + 1) + 1) k)) (before rows)
next_row n pair i j (suc left) rows none some = absurd (omega (arith, none))

-- none are left
pub no_pairs : (n : Node) (pair i j left rows : ℕ) → left ≡ 0 → rows ≡ 0 →
    add_pairs n pair (pairs_from i j left ++ first_pairs_from (i + 1) rows) ≡ n
no_pairs n pair i j zero zero a b = refl
no_pairs n pair i j zero (suc rows) a b = absurd (omega (arith, b))
no_pairs n pair i j (suc left) rows a b = absurd (omega (arith, a))

-- the pairs of node 0 come first
pub first_row : (count : ℕ) → 0 < count → first_pairs count ≡ pairs_from 0 1 (count - 1) ++ first_pairs_from (0 + 1) (count - 1)
first_row zero some = absurd (omega (arith, some))
first_row (suc count) some = ap (λ k. pairs_from 0 1 k ++ first_pairs_from (0 + 1) k) (before count)

-- a pair takes a serial if it is the node's own, and those after it have the rest
pub next_serials : (n : Node) (pair i j left rows : ℕ) → 0 < left → i < j → j + left ≡ i + 1 + rows → HasSerials n i j left rows →
    HasSerials (add_pair n pair (i, j)) i (j + 1) (left - 1) rows
next_serials n pair i j left rows some under whole has = go (nat_eq i n.number) (nat_eq j n.number) refl refl
  where
    go : (b c : Bool) → nat_eq i n.number ≡ b → nat_eq j n.number ≡ c →
        HasSerials (if b then add_end n pair A j else if c then add_end n pair B i else n) i (j + 1) (left - 1) rows
    go true c e f = let is = number_is i n.number e in record {
      within = omega (arith, has.within, some);
      lower = λ h. omega (arith, has.lower h, some);
      upper = λ h. absurd (omega (arith, h, is));
      later = λ h. absurd (omega (arith, h, is));
    }
    go false true e f = let is = number_is j n.number f in record {
      within = omega (arith, has.within, some);
      lower = λ h. absurd (omega (arith, h, is, under));
      upper = λ h g. absurd (omega (arith, g, is));
      later = λ h g. omega (arith, has.upper h (omega (arith, is)));
    }
    go false false e f = record {
      within = omega (arith, has.within, some);
      lower = λ h. absurd (grind (arith, nat_tests, e, h));
      upper = λ h g. has.upper h (omega (arith, g));
      later = λ h g. has.later h (grind (arith, nat_tests, f, g));
    }

-- the pairs of the next node have the serials of those that are left
pub row_serials : (n : Node) (i j left rows : ℕ) → left ≡ 0 → 0 < rows → j + left ≡ i + 1 + rows → HasSerials n i j left rows →
    HasSerials n (i + 1) ((i + 1) + 1) (rows - 1) (rows - 1)
row_serials n i j left rows none some whole has = record {
  within = omega (arith, has.within, none, some, whole);
  lower = λ h. omega (arith, has.later (omega (arith, h)) (omega (arith, has.within, none)), some);
  upper = λ h g. omega (arith, has.later (omega (arith, h)) (omega (arith, has.within, none)), some);
  later = λ h g. absurd (omega (arith, h, g));
}

-- there is a serial for the end of a pair
pub pair_serial : (n : Node) (i j left rows : ℕ) → 0 < left → i < j → j + left ≡ i + 1 + rows → HasSerials n i j left rows →
    (n.number ≡ i → n.next_router < no_number) × (n.number ≡ j → n.next_router < no_number)
pair_serial n i j left rows some under whole has = (
  λ h. omega (arith, has.lower h, some),
  λ h. omega (arith, has.upper (omega (arith, h, under)) (omega (arith, h)), some, under, whole),
)

-- a node has serials for its ends of all pairs
pub first_serials : (n : Node) (count : ℕ) → n.number < count → n.next_router + count ≤ no_number + 1 →
    HasSerials n 0 1 (count - 1) (count - 1)
first_serials n count within fits = record {
  within = omega (arith, within);
  lower = λ h. omega (arith, fits, within);
  upper = λ h g. omega (arith, fits, within);
  later = λ h g. absurd (omega (arith, h, g));
}

pairs_length : (i j left : ℕ) → length (pairs_from i j left) ≡ left
pairs_length i j zero = refl
pairs_length i j (suc left) = omega (arith, pairs_length i (j + 1) left)

square : (k : ℕ) → suc k * suc k ≡ k * k + 2 * k + 1
square k = grind arith

pairs_twice : (i n : ℕ) → 2 * length (first_pairs_from i n) + n ≡ n * n
pairs_twice i zero = refl
pairs_twice i (suc left) = omega (
  arith,
  length-append (pairs_from i (i + 1) left) (first_pairs_from (i + 1) left),
  pairs_length i (i + 1) left,
  pairs_twice (i + 1) left,
  square left,
)

-- how many first pairs there are, by the number of nodes
pub pair_count_is : (n : ℕ) → n * (n - 1) / 2 ≡ first_pair_count n
pair_count_is zero = refl
pair_count_is (suc k) = omega (arith, pairs_twice 0 (suc k), less)
  where
    less : suc k * (suc k - 1) + suc k ≡ suc k * suc k
    less = grind arith

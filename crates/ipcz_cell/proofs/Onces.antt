-- Lists of numbers of which none stands twice, and their sets.
use Rattle.std.specs.Prelude.{◌≡◌, ◌≤◌, ◌<◌, ◌+◌, ◌++◌, ℕ, suc, Bool, true, false, not, ◌&&◌, ◌||◌, cond, nat_eq, nat_lt, List, [], ◌∷◌, length, take, drop}
use Rattle.std.proofs.Common.{ap, subst, sym, ◌∙◌, refl, arith}
use mathlib.Core.Logic.{dite}
use native.Mathlib.Decide.{ℕ_discrete, dec_lt}
use Rattle.std.proofs.lemmas.Bool.Decides.{nat_tests}
use Rattle.ipcz_rule.specs.Rule.{has_number, without_number}
use Rattle.ipcz_cell.proofs.Few.{few}
use Rattle.ipcz_node.specs.NodeSets.{has_node}
use Rattle.ipcz_node.specs.declared.node_set.NodeSet.{NodeSet}
use Rattle.ipcz_node.proofs.NodeSets.{beyond}
use Rattle.ipcz_rule.proofs.Posting.{without_itself, without_other}
use Rattle.ipcz_cell.specs.Cells.{AreOnce, AreBelow, IsSetOf, place_in}

without_by : (j : ℕ) (js : List ℕ) (i : ℕ) (b : Bool) → nat_eq i j ≡ b → (b || has_number js i) ≡ false → (has_number js i ≡ false → without_number js i ≡ js) → cond (nat_eq j i) (without_number js i) (j ∷ without_number js i) ≡ j ∷ js
without_by j js i true h e f = absurd cc
without_by j js i false h e f =
    let other : nat_eq j i ≡ false = grind (arith, nat_tests, h) in
    ap (λ (b : Bool). cond b (without_number js i) (j ∷ without_number js i)) other ∙ ap (λ l. j ∷ l) (f e)

-- without a number that isn't there
pub without_absent : (xs : List ℕ) (i : ℕ) → has_number xs i ≡ false → without_number xs i ≡ xs
without_absent [] i e = refl
without_absent (j ∷ js) i e = without_by j js i (nat_eq i j) refl e (λ h. without_absent js i h)

-- a number stands in a list that has it behind others
has_middle : (xs after : List ℕ) (i : ℕ) → has_number (xs ++ i ∷ after) i ≡ true
has_middle [] after i = let same : nat_eq i i ≡ true = grind (arith, nat_tests) in ap (λ (b : Bool). b || has_number after i) same
has_middle (x ∷ xs) after i = or_true (nat_eq i x) (has_number (xs ++ i ∷ after) i) (has_middle xs after i)
  where
    or_true : (a b : Bool) → b ≡ true → (a || b) ≡ true
    or_true true b e = refl
    or_true false b e = e

-- one that stands there once stands neither before itself nor behind
pub once_after : (before after : List ℕ) (i : ℕ) → AreOnce (before ++ i ∷ after) → has_number after i ≡ false
once_after [] after i once = once.0
once_after (j ∷ js) after i once = once_after js after i once.1

pub once_before : (before after : List ℕ) (i : ℕ) → AreOnce (before ++ i ∷ after) → has_number before i ≡ false
once_before [] after i once = refl
once_before (j ∷ js) after i once = by (nat_eq i j) refl (once_before js after i once.1)
  where
    by : (b : Bool) → nat_eq i j ≡ b → has_number js i ≡ false → (b || has_number js i) ≡ false
    by true h k = absurd (let same : j ≡ i = grind (arith, nat_tests, h) in let has = has_middle js after i in let none = subst (λ (k : ℕ). has_number (js ++ i ∷ after) k ≡ false) same once.0 in grind (arith, has, none))
    by false h k = k

-- what a number leaves that stands there once
pub without_split : (before after : List ℕ) (i : ℕ) → AreOnce (before ++ i ∷ after) → without_number (before ++ i ∷ after) i ≡ before ++ after
without_split [] after i once = let same : nat_eq i i ≡ true = grind (arith, nat_tests) in ap (λ (b : Bool). cond b (without_number after i) (i ∷ without_number after i)) same ∙ without_absent after i once.0
without_split (j ∷ js) after i once =
    let other : nat_eq j i ≡ false = apart (nat_eq j i) refl in
    ap (λ (b : Bool). cond b (without_number (js ++ i ∷ after) i) (j ∷ without_number (js ++ i ∷ after) i)) other ∙ ap (λ l. j ∷ l) (without_split js after i once.1)
  where
    apart : (b : Bool) → nat_eq j i ≡ b → nat_eq j i ≡ false
    apart true h = absurd (let same : j ≡ i = grind (arith, nat_tests, h) in let has = has_middle js after i in let hasnt : has_number (js ++ i ∷ after) i ≡ false = subst (λ (k : ℕ). has_number (js ++ i ∷ after) k ≡ false) same once.0 in grind (arith, has, hasnt))
    apart false h = h

-- parts of a list of which none stands twice
absent_part : (before after : List ℕ) (i k : ℕ) → has_number (before ++ i ∷ after) k ≡ false → has_number (before ++ after) k ≡ false
absent_part [] after i k e = second (nat_eq k i) (has_number after k) e
  where
    second : (a b : Bool) → (a || b) ≡ false → b ≡ false
    second true b e = absurd cc
    second false b e = e
absent_part (j ∷ js) after i k e = both (nat_eq k j) (has_number (js ++ i ∷ after) k) (has_number (js ++ after) k) e (λ h. absent_part js after i k h)
  where
    both : (a b c : Bool) → (a || b) ≡ false → (b ≡ false → c ≡ false) → (a || c) ≡ false
    both true b c e f = absurd cc
    both false b c e f = f e

pub once_split : (before after : List ℕ) (i : ℕ) → AreOnce (before ++ i ∷ after) → AreOnce (before ++ after)
once_split [] after i once = once.1
once_split (j ∷ js) after i once = (absent_part js after i j once.0, once_split js after i once.1)

pub below_split : (n : ℕ) (before after : List ℕ) (i : ℕ) → AreBelow n (before ++ i ∷ after) → AreBelow n (before ++ after)
below_split n [] after i low = low.1
below_split n (j ∷ js) after i low = (low.0, below_split n js after i low.1)

-- a list that has a number is what stands before it, it, and what stands behind it
abbrev IsSplit : List ℕ → ℕ → ℕ → Type 0
IsSplit xs i p = (xs ≡ take p xs ++ i ∷ drop (suc p) xs) × (length (take p xs) ≡ p) × (p < length xs)

split_by : (j : ℕ) (js : List ℕ) (i : ℕ) (b : Bool) → nat_eq i j ≡ b → (b || has_number js i) ≡ true → (has_number js i ≡ true → IsSplit js i (place_in js i)) →
    IsSplit (j ∷ js) i (cond b 0 (suc (place_in js i)))
split_by j js i true h e f = let same : j ≡ i = grind (arith, nat_tests, h) in (ap (λ k. k ∷ js) same, refl, omega arith)
split_by j js i false h e f = let t = f e in (ap (λ l. j ∷ l) t.0, ap suc t.1, let l = t.2 in omega arith)

split_in : (xs : List ℕ) (i : ℕ) → has_number xs i ≡ true → IsSplit xs i (place_in xs i)
split_in [] i e = absurd cc
split_in (j ∷ js) i e = split_by j js i (nat_eq i j) refl e (λ h. split_in js i h)

pub split_at : (xs : List ℕ) (i d : ℕ) → has_number xs i ≡ true → d ≡ place_in xs i + 1 → (xs ≡ take (place_in xs i) xs ++ i ∷ drop d xs) × (length (take (place_in xs i) xs) ≡ place_in xs i) × (place_in xs i < length xs)
split_at xs i d e same = let t = split_in xs i e in let next : suc (place_in xs i) ≡ d = omega (arith, same) in (t.0 ∙ ap (λ (k : ℕ). take (place_in xs i) xs ++ i ∷ drop k xs) next, t.1, t.2)

-- one that isn't there is left out, so they are fewer
pub fewer : (n to : ℕ) (xs : List ℕ) → AreOnce xs → AreBelow n xs → to < n → has_number xs to ≡ false → length xs < n
fewer n to xs once low small absent = few n (to ∷ xs) (absent, once) (small, low)

-- with one number more, as the last
pub has_last : (xs : List ℕ) (y s : ℕ) → has_number (xs ++ y ∷ []) s ≡ (nat_eq s y || has_number xs s)
has_last [] y s = refl
has_last (x ∷ xs) y s = ap (λ (b : Bool). nat_eq s x || b) (has_last xs y s) ∙ swap (nat_eq s x) (nat_eq s y) (has_number xs s)
  where
    swap : (a b c : Bool) → (a || (b || c)) ≡ (b || (a || c))
    swap true true c = refl
    swap true false c = refl
    swap false b c = refl

pub below_last : (n : ℕ) (xs : List ℕ) (y : ℕ) → AreBelow n xs → y < n → AreBelow n (xs ++ y ∷ [])
below_last n [] y h low = (low, tt)
below_last n (x ∷ xs) y h low = (h.0, below_last n xs y h.1 low)

pub once_last : (xs : List ℕ) (y : ℕ) → AreOnce xs → has_number xs y ≡ false → AreOnce (xs ++ y ∷ [])
once_last [] y once absent = (refl, tt)
once_last (x ∷ xs) y once absent = (has_last xs y x ∙ none (nat_eq y x) (nat_eq x y) (has_number xs y) (has_number xs x) (λ e. grind (arith, nat_tests, e)) absent once.0, once_last xs y once.1 (behind (nat_eq y x) (has_number xs y) absent))
  where
    none : (a b c d : Bool) → (a ≡ false → b ≡ false) → (a || c) ≡ false → d ≡ false → (b || d) ≡ false
    none true b c d f e g = absurd cc
    none false b c d f e g = ap (λ (z : Bool). z || d) (f refl) ∙ g

    behind : (a c : Bool) → (a || c) ≡ false → c ≡ false
    behind true c e = absurd cc
    behind false c e = e

-- a number that isn't below 64 isn't there
far_number : (xs : List ℕ) (n : ℕ) → AreBelow 64 xs → 64 ≤ n → has_number xs n ≡ false
far_number [] n low far = refl
far_number (x ∷ xs) n low far =
    let h = low.0 in
    let other : nat_eq n x ≡ false = grind (arith, nat_tests, h, far) in ap (λ (b : Bool). b || has_number xs n) other ∙ far_number xs n low.1 far

-- the set of a list of numbers below 64 has just those
pub in_set : (s : NodeSet) (xs : List ℕ) (n : ℕ) → AreBelow 64 xs → IsSetOf s xs → has_node s n ≡ has_number xs n
in_set s xs n low is = dite (dec_lt n 64) (λ small. is n small) (λ far. let high : 64 ≤ n = omega (arith, far) in sym (beyond s n high) ∙ (far_test n high ∙ sym (far_number xs n low high)))
  where
    far_test : (n : ℕ) → 64 ≤ n → nat_lt n 64 ≡ false
    far_test n high = grind (arith, nat_tests, high)

-- with one number more, as the last
pub set_last : (s later : NodeSet) (xs : List ℕ) (y : ℕ) → IsSetOf s xs → ((n : ℕ) → n < 64 → has_node later n ≡ (nat_eq y n || has_node s n)) → IsSetOf later (xs ++ y ∷ [])
set_last s later xs y is more = λ n small. more n small ∙ ((λ j. turned y n j || is n small j) ∙ sym (has_last xs y n))
  where
    turned : (y n : ℕ) → nat_eq y n ≡ nat_eq n y
    turned y n = grind (arith, nat_tests)

-- without a number
pub set_without : (s later : NodeSet) (xs : List ℕ) (y : ℕ) → IsSetOf s xs → ((n : ℕ) → n < 64 → has_node later n ≡ (not (nat_eq y n) && has_node s n)) → IsSetOf later (without_number xs y)
set_without s later xs y is less = λ n small. less n small ∙ dite (ℕ_discrete n y)
    (λ same. (let e : nat_eq y n ≡ true = grind (arith, nat_tests, same) in ap (λ (b : Bool). not b && has_node s n) e)
    ∙ sym (subst (λ (k : ℕ). has_number (without_number xs y) k ≡ false) (sym same) (without_itself xs y)))
    (λ other. (let e : nat_eq y n ≡ false = grind (arith, nat_tests, other) in ap (λ (b : Bool). not b && has_node s n) e)
    ∙ (is n small ∙ sym (without_other xs y n other)))

-- a set without nodes is that of no number
pub set_empty : (s : NodeSet) (xs : List ℕ) → AreBelow 64 xs → IsSetOf s xs → ((n : ℕ) → 0 ≤ n → n < 64 → has_node s n ≡ false) → xs ≡ []
set_empty s [] below is none = refl
set_empty s (x ∷ xs) below is none = absurd (let no = sym (none x (omega arith) below.0) ∙ (is x below.0 ∙ itself) in cc)
  where
    itself : has_number (x ∷ xs) x ≡ true
    itself = let same : nat_eq x x ≡ true = grind (arith, nat_tests) in ap (λ (b : Bool). b || has_number xs x) same

-- a list of one number that has a number is that number alone
pub only_one : (xs : List ℕ) (n : ℕ) → length xs ≡ 1 → has_number xs n ≡ true → xs ≡ n ∷ []
only_one [] n one has = absurd cc
only_one (x ∷ []) n one has = by (nat_eq n x) refl has
  where
    by : (b : Bool) → nat_eq n x ≡ b → (b || false) ≡ true → x ∷ [] ≡ n ∷ []
    by true h e = let same : x ≡ n = grind (arith, nat_tests, h) in ap (λ (k : ℕ). k ∷ []) same
    by false h e = absurd cc
only_one (x ∷ y ∷ xs) n one has = absurd (omega (arith, one))

-- What a set of serials has once one was added or taken away, and which is the lowest.
use Rattle.std.proofs.Common.{◌≡◌, ◌∙◌, ◌==◌, ◌&&◌, ◌||◌, ◌≤◌, ◌<◌, ℕ, true, false, not, IsTrue, nat_lt, ◌-◌, Bool, List, [], length, insert, remove, get_or, Option, Some, None, IfSome, IfNone, ap, ap₂, subst, arith, sym, refl, true≢false}
use Rattle.std.specs.Ordering.{nat_cmp, is_lt}
use Rattle.std.specs.Cmp.{nat_cmp_total, nat_cmp_is}
use Rattle.std.specs.declared.cmp.Ordering.TheVariants.{Less}
use Rattle.std.proofs.lemmas.List.{get_or_default}
use Rattle.std.specs.List.Sorted.{IsStrictlySortedBy}
use Rattle.std.proofs.lemmas.Bool.Decides.{nat_tests}
use Rattle.std.specs.Prelude.{nat_le}
use Rattle.std.specs.List.{AllWithin, HoldsAt}
use Rattle.std.proofs.lemmas.Cmp.{tied_itself}
use Rattle.ipcz_base.proofs.Orders.{number_ties}
use Rattle.ipcz_node.specs.SortedSets.{has, IsPlaceOf}
use Rattle.ipcz_node.specs.Indexes.{IsLeast}
use Rattle.ipcz_node.proofs.Refiling.{first_of_both, second_of_both}
use Rattle.ipcz_node.proofs.SortedSets.{has_inserted, has_present, has_at_place, has_removed, least_at_front, least_at_start, none_past_end}

not_below : (n m : ℕ) → is_lt (nat_cmp n m) ≡ false → m ≤ n
not_below n m h = grind (arith, nat_tests)

-- a serial that is added is there, and so are those that were
pub added : (ys : List ℕ) (i v s : ℕ) → has nat_cmp (insert ys i v) s ≡ (v == s || has nat_cmp ys s)
added ys i v s = has_inserted nat_cmp_total ys i v s ∙ ap (λ b. b || has nat_cmp ys s) (number_ties v s)

-- one that was there adds nothing
pub present : (ys : List ℕ) (i v s : ℕ) → IsPlaceOf nat_cmp ys v i → has nat_cmp ys s ≡ (v == s || has nat_cmp ys s)
present ys i v s place =
    has_present nat_cmp_total ys v s (has_at_place nat_cmp_total ys v i place) ∙ ap (λ b. b || has nat_cmp ys s) (number_ties v s)

-- without the serial at its place the others are there
pub taken : (ys : List ℕ) (i v s : ℕ) → IsPlaceOf nat_cmp ys v i → IsStrictlySortedBy nat_cmp ys
    → has nat_cmp (remove ys i) s ≡ (not (v == s) && has nat_cmp ys s)
taken ys i v s place sorted =
    has_removed nat_cmp_total ys v i place sorted s ∙ ap (λ b. not b && has nat_cmp ys s) (number_ties v s)

-- the first is the lowest
pub lowest : (ys : List ℕ) (x s : ℕ) → IsStrictlySortedBy nat_cmp ys → x ≡ get_or ys 0 x → has nat_cmp ys s ≡ true → x ≤ s
lowest ys x s sorted first there =
    not_below s x (ap (λ y. is_lt (nat_cmp s y)) first ∙ least_at_front nat_cmp_total ys sorted x s there)

-- what is above the last is above all that are there
pub above_last : (ys : List ℕ) (n last v : ℕ) → n ≡ length ys → last ≡ get_or ys (n - 1) last → IsTrue (nat_lt last v)
    → (d : ℕ) → 0 < length ys → nat_cmp (get_or ys (length ys - 1) d) v ≡ Less
above_last ys n last v count read above d some =
    let same : get_or ys (length ys - 1) d ≡ last =
    get_or_default ys (length ys - 1) d last (omega arith) ∙ sym (subst (λ m. last ≡ get_or ys (m - 1) last) count read) in
    let less : last < v = grind (arith, nat_tests, above) in
    rw same (sym (nat_cmp_is last v Less less))

-- what is below the first is below all that are there
pub below_first : (ys : List ℕ) (first v : ℕ) → first ≡ get_or ys 0 first → IsTrue (nat_lt v first) → (d : ℕ) → 0 < length ys →
    nat_cmp v (get_or ys 0 d) ≡ Less
below_first ys first v read below d some =
    let same : get_or ys 0 d ≡ first = get_or_default ys 0 d first some ∙ sym read in
    let less : v < first = grind (arith, nat_tests, below) in
    rw same (sym (nat_cmp_is v first Less less))

-- what is told as the first is the least, and none is if there is none
pub least_of : (ys : List ℕ) (r : Option ℕ) → IfSome r (λ x. has nat_cmp ys x ≡ true) → IfSome r (λ x. (s : ℕ) → has nat_cmp ys s ≡ true → x ≤ s)
    → IfNone r (ys ≡ []) → IsLeast (has nat_cmp ys) r
least_of ys (Some x) there least none = (there, least)
least_of ys None there least none = λ n. rw none refl

-- what stands behind all that are below a number is the lowest from there on
from_test : (a b : ℕ) → is_lt (nat_cmp b a) ≡ false → nat_le a b ≡ true
from_test a b h = let le = not_below b a h in grind (arith, nat_tests)

to_test : (a b : ℕ) → nat_le a b ≡ true → is_lt (nat_cmp b a) ≡ false
to_test a b h = grind (arith, nat_tests)

module _ (ys : List ℕ) (from i : ℕ) (sorted : IsStrictlySortedBy nat_cmp ys) (before : AllWithin (λ s. nat_cmp s from ≡ Less) ys 0 i) where
  pub lowest_from : (x : ℕ) → i < length ys → x ≡ get_or ys i x → HoldsAt (λ s. is_lt (nat_cmp s from) ≡ false) ys i →
      IsLeast (λ s. nat_le from s && has nat_cmp ys s) (Some x)
  lowest_from x inside read here =
      let place : IsPlaceOf nat_cmp ys x i = record {
        in_range = inside;
        ties = λ d. rw (get_or_default ys i d x inside, ← read) (tied_itself nat_cmp_total x);
      } in (
        ap₂ (λ a b. a && b) (from_test from x (ap (λ y. is_lt (nat_cmp y from)) read ∙ here x)) (has_at_place nat_cmp_total ys x i place),
        λ n h. not_below n x
            (ap (λ y. is_lt (nat_cmp n y)) read ∙ least_at_start nat_cmp_total ys from i before sorted x n (second_of_both (nat_le from n) _ h)
            (to_test from n (first_of_both _ _ h))),
      )

  pub none_from : length ys ≤ i → IsLeast (λ s. nat_le from s && has nat_cmp ys s) None
  none_from past n = neither (nat_le from n) (has nat_cmp ys n) (λ below there.
      true≢false (sym (none_past_end nat_cmp_total ys from i before past n there) ∙ to_test from n below))
    where
      neither : (a b : Bool) → (a ≡ true → b ≡ true → ⊥) → (a && b) ≡ false
      neither true true never = absurd (never refl refl)
      neither true false never = refl
      neither false b never = refl

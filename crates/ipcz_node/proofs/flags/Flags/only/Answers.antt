use Rattle.std.proofs.Common.{◌≡◌, ◌∙◌, ◌||◌, ◌++◌, ℕ, Bool, true, false, Option, None, Some, List, refl, sym, ap, subst, arith, true≢false}
use Rattle.std.specs.Prelude.{option_to_list}
use Rattle.std.specs.Ordering.{nat_cmp, is_eq}
use Rattle.ipcz_seq.proofs.Pairs.{tied}
use Rattle.ipcz_node.specs.Indexes.{IsApart}
use Rattle.ipcz_node.specs.SortedSets.{has}
use Rattle.ipcz_node.proofs.flags.Flags.only.Goals as goal

or_true : (b : Bool) → (b || true) ≡ true
or_true true = refl
or_true false = refl

-- the lowest and another are two
two : (lowest : Option ℕ) (others : List ℕ) (f s : ℕ) → IsApart lowest others → has nat_cmp others f ≡ true →
    ((q : ℕ) → has nat_cmp (option_to_list lowest ++ others) q ≡ true → q ≡ s) → ⊥
two None others f s none h only = true≢false (sym h ∙ ap (λ xs. has nat_cmp xs f) none)
two (Some l) others f s apart h only =
    let low = apart f h in
    let first = only l (ap (λ b. b || has nat_cmp others l) (tied l l refl)) in
    let second = only f (ap (λ b. is_eq (nat_cmp l f) || b) h ∙ or_true (is_eq (nat_cmp l f))) in
    omega (arith, low, first, second)

pub returns-in-Some-clause-none : goal.returns-in-Some-clause-none
returns-in-Some-clause-none c s here only =
    two c.self.inside.lowest c.self.inside.others.members c.in-Some.field-0 s c.self.invariant c.in-Some.ensures.member
    (λ q e. only q (subst (λ v. has nat_cmp v.members q ≡ true) c.self.view_is e))

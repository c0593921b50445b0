-- What the walk over entries by rising serials finds.
use Rattle.std.proofs.Common.{◌≡◌, ◌≢◌, ℕ, zero, suc, ◌+◌, ◌≤◌, ◌<◌, Bool, true, false, List, [], ◌∷◌, Option, Some, None, length, refl, sym}
use Rattle.std.proofs.Common.{◌∙◌, ap, subst, get_or, take, drop, ◌-◌}
use Rattle.std.proofs.lemmas.List.{take_all}
use Rattle.std.proofs.Common.{arith, inl, inr, true≢false}
use Rattle.std.specs.Prelude.{IfSome}
use Rattle.std.proofs.lemmas.Bool.{cases_lt}
use Rattle.std.specs.List.{AllWithin}
use Rattle.std.specs.Ordering.{nat_cmp}
use Rattle.std.specs.FinMap.{find, get, get-from_entries}
use Rattle.std.specs.Cmp.{nat_cmp_total}
use Rattle.ipcz_base.specs.declared.end.End.{End}
use Rattle.ipcz_seq.proofs.Pairs.{one_or_two, find-same, find-other}
use Rattle.ipcz_router.specs.Router.{Router}
use Rattle.ipcz_node.specs.Serials.{entries_by, map_by, AreRising}
use Rattle.ipcz_node.specs.Finding.{IsNext}
use Rattle.ipcz_node.proofs.Serials.{find_above}

module _ {X : Type 0} (g : X → Router) where
  -- what is found stands from the first serial on
  found_from : (f n s : ℕ) (es : List (ℕ × X)) (r : Router) → AreRising f n es → find nat_cmp s (entries_by g es) ≡ Some r → f ≤ s
  found_from f n s [] r rising e = cc
  found_from f n s (x ∷ es) r rising e = elim (one_or_two s x.0) [
    | inl t ↦ omega (arith, t.0, rising.0)
    | inr t ↦
        omega (arith, rising.0, found_from (x.0 + 1) n s es r rising.2 (sym (find-other s (x.0, g x.1) (entries_by g es) t.0) ∙ e))
  ]

  -- what is found at the first serial is the first router
  first_is : (s : ℕ) (x : ℕ × X) (es : List (ℕ × X)) (r : Router) → s ≡ x.0 → find nat_cmp s (entries_by g (x ∷ es)) ≡ Some r → g x.1 ≡ r
  first_is s x es r same e =
      let both : Some (g x.1) ≡ Some r = sym (find-same s (x.0, g x.1) (entries_by g es) same) ∙ e in
      cc

  -- what is found elsewhere is found behind it
  behind : (s : ℕ) (x : ℕ × X) (es : List (ℕ × X)) (r : Router) → s ≢ x.0 → find nat_cmp s (entries_by g (x ∷ es)) ≡ Some r →
      find nat_cmp s (entries_by g es) ≡ Some r
  behind s x es r other e = sym (find-other s (x.0, g x.1) (entries_by g es) other) ∙ e

  module _ (test : Router → Bool) (from f n : ℕ) (x : ℕ × X) (es : List (ℕ × X)) (rising : AreRising f n (x ∷ es)) where
    -- the first entry is passed over
    pub passed_over : (o : Option (ℕ × End)) → ((from ≤ x.0) → test (g x.1) ≡ false) →
        IsNext (λ s. find nat_cmp s (entries_by g es)) test from o → IsNext (λ s. find nat_cmp s (entries_by g (x ∷ es))) test from o
    passed_over None skip next = λ s r le e. elim (one_or_two s x.0) [
      | inl t ↦ ap test (sym (first_is s x es r t.0 e)) ∙ skip (omega (arith, le, t.0))
      | inr t ↦ next s r le (behind s x es r t.0 e)
    ]
    passed_over (Some y) skip next = record {
      reached = next.reached;
      router = next.router;
      here = find-other y.0 (x.0, g x.1) (entries_by g es)
          (λ same. omega (arith, same, found_from (x.0 + 1) n y.0 es next.router rising.2 next.here)) ∙ next.here;
      passes = next.passes;
      end_is = next.end_is;
      first = λ s r le e fits. elim (one_or_two s x.0) [
        | inl t ↦ absurd (true≢false (sym fits ∙ (ap test (sym (first_is s x es r t.0 e)) ∙ skip (omega (arith, le, t.0)))))
        | inr t ↦ next.first s r le (behind s x es r t.0 e) fits
      ];
    }

    -- the first entry is the one
    pub first_taken : from ≤ x.0 → test (g x.1) ≡ true →
        IsNext (λ s. find nat_cmp s (entries_by g (x ∷ es))) test from (Some (x.0, (g x.1).end))
    first_taken le fits = record {
      reached = le;
      router = g x.1;
      here = find-same x.0 (x.0, g x.1) (entries_by g es) refl;
      passes = fits;
      end_is = refl;
      first = λ s r up e t. found_from x.0 n s (x ∷ es) r (omega arith, rising.1, rising.2) e;
    }

  -- the walk over a slice: its first entry is the one, or the others say what is found
  pub walk_takes : (test : Router → Bool) (from f n : ℕ) (es : List (ℕ × X)) (x : ℕ × X) (end : End) → AreRising f n es →
      1 ≤ length es → x ≡ get_or es 0 x → (g x.1).end ≡ end → from ≤ x.0 → test (g x.1) ≡ true →
      IsNext (λ s. find nat_cmp s (entries_by g es)) test from (Some (x.0, end))
  walk_takes test from f n [] x end rising some is own le fits = absurd (omega (arith, some))
  walk_takes test from f n (e ∷ es) x end rising some is own le fits =
      subst (λ (y : ℕ × X). IsNext (λ s. find nat_cmp s (entries_by g (y ∷ es))) test from (Some (x.0, end))) is
      (subst (λ (z : End). IsNext (λ s. find nat_cmp s (entries_by g (x ∷ es))) test from (Some (x.0, z))) own
      (first_taken test from f n x es (subst (λ (y : ℕ × X). AreRising f n (y ∷ es)) (sym is) rising) le fits))

  pub walk_goes_on : (test : Router → Bool) (from f n : ℕ) (es : List (ℕ × X)) (x : ℕ × X) (o : Option (ℕ × End)) → AreRising f n es →
      1 ≤ length es → x ≡ get_or es 0 x → ((from ≤ x.0) → test (g x.1) ≡ false) →
      IsNext (λ s. find nat_cmp s (entries_by g (take (length es - 1) (drop 1 es)))) test from o →
      IsNext (λ s. find nat_cmp s (entries_by g es)) test from o
  walk_goes_on test from f n [] x o rising some is skip next = absurd (omega (arith, some))
  walk_goes_on test from f n (e ∷ es) x o rising some is skip next =
      passed_over test from f n e es rising o (subst (λ (y : ℕ × X). (from ≤ y.0) → test (g y.1) ≡ false) is skip)
      (subst (λ (l : List (ℕ × X)). IsNext (λ s. find nat_cmp s (entries_by g l)) test from o)
      (take_all (length (e ∷ es) - 1) es (omega arith)) next)

  -- entries of lower serials in front are passed over
  pub walk_skips : (test : Router → Bool) (from f n i : ℕ) (es : List (ℕ × X)) (o : Option (ℕ × End)) → AreRising f n es → i ≤ length es →
      AllWithin (λ e. e.0 < from) es 0 i → IsNext (λ s. find nat_cmp s (entries_by g (drop i es))) test from o →
      IsNext (λ s. find nat_cmp s (entries_by g es)) test from o
  walk_skips test from f n zero es o rising within lower next = next
  walk_skips test from f n (suc i) [] o rising within lower next = next
  walk_skips test from f n (suc i) (e ∷ es) o rising within lower next =
      passed_over test from f n e es rising o (λ le. absurd (omega (arith, le, lower 0 e (omega arith) (omega arith))))
      (walk_skips test from (e.0 + 1) n i es o rising.2 (omega (arith, within))
      (λ k d low high. lower (suc k) d (omega arith) (omega (arith, high))) next)

  -- the same of the map that the entries make
  pub next_in_map : (test : Router → Bool) (from : ℕ) (es : List (ℕ × X)) (o : Option (ℕ × End)) →
      IsNext (λ s. find nat_cmp s (entries_by g es)) test from o → IsNext (get (map_by g es)) test from o
  next_in_map test from es None next = λ s r le e. next s r le (sym (get-from_entries nat_cmp_total (entries_by g es) s) ∙ e)
  next_in_map test from es (Some y) next = record {
    reached = next.reached;
    router = next.router;
    here = get-from_entries nat_cmp_total (entries_by g es) y.0 ∙ next.here;
    passes = next.passes;
    end_is = next.end_is;
    first = λ s r le e fits. next.first s r le (sym (get-from_entries nat_cmp_total (entries_by g es) s) ∙ e) fits;
  }

  -- what is found stands below the next serial
  pub next_below : (test : Router → Bool) (from f n : ℕ) (es : List (ℕ × X)) (o : Option (ℕ × End)) → AreRising f n es →
      IsNext (λ s. find nat_cmp s (entries_by g es)) test from o → IfSome o (λ x. x.0 < n)
  next_below test from f n es None rising next = tt
  next_below test from f n es (Some y) rising next = elim (cases_lt y.0 n) [
    | inl t ↦ t
    | inr t ↦ let no : None ≡ Some next.router = sym (find_above g f n y.0 es rising t) ∙ next.here in absurd (cc)
  ]

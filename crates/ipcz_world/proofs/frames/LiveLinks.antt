-- Of the links of one pair at most one is live: what it takes to keep that.
use Rattle.std.specs.Prelude.{◌≡◌, ◌⊎◌, ℕ, Bool, true, false, nat_eq, nat_le, refl}
use Rattle.std.proofs.Common.{arith, sym, ◌∙◌, inl, inr}
use Rattle.std.proofs.lemmas.Bool.Decides.{nat_tests}
use Rattle.ipcz_world.proofs.Vocabulary.{Records, is_linked, is_begun, LiveLinks}

-- if the words of links, their pairs, and the bypasses that have just begun, are among those that were
pub live-kept : (g h : Records) → ((i : ℕ) → is_linked (h.owner i) ≡ true → is_linked (g.owner i) ≡ true) →
    ((i : ℕ) → (h.central i).pair ≡ (g.central i).pair) → ((o : ℕ) → (h.bypass o).stage ≡ 1 → (g.bypass o).stage ≡ 1) →
    ((o : ℕ) → is_begun (h.bypass o) ≡ is_begun (g.bypass o)) → LiveLinks g → LiveLinks h
live-kept g h linked pair stage begun law = record {
  one_live = λ i j a c p d e. law.one_live i j (linked i a) (linked j c) (sym (pair i) ∙ p ∙ pair j) (sym (begun i) ∙ d)
      (sym (begun j) ∙ e);
  none_live = λ o i s a p. begun i ∙ law.none_live o i (stage o s) (linked i a) (sym (pair i) ∙ p ∙ pair o);
  one_begun = λ o q s t p. law.one_begun o q (stage o s) (stage q t) (sym (pair o) ∙ p ∙ pair q);
}

pub same_word : (i j : ℕ) → (i ≡ j) ⊎ (nat_eq i j ≡ false)
same_word i j = go (nat_eq i j) refl
  where
    go : (c : Bool) → nat_eq i j ≡ c → (i ≡ j) ⊎ (nat_eq i j ≡ false)
    go true e = inl (grind (arith, e, nat_tests))
    go false e = inr e

pub first_begun : (s : ℕ) → s ≡ 1 → nat_le 1 s ≡ true
first_begun s e = grind (arith, e, nat_tests)

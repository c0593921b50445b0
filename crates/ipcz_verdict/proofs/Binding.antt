-- Names that are bound together: what is asked of them first, and what comes of it.
use Rattle.std.specs.Prelude.{◌≡◌, ◌⊎◌, ℕ, Bool, true, false, cond, not, ◌&&◌, ◌||◌, bytes_eq, Option, Some, None, List, [], ◌∷◌, refl}
use Rattle.std.proofs.Common.{ap, ap₂, ◌∙◌, sym, inl, inr}
use Rattle.std.proofs.lemmas.Bool.{and_parts, and_from}
use Rattle.std.proofs.lemmas.Map.Text.{is_eq-slice_cmp}
use Rattle.std.proofs.lemmas.Slice.Eq.{bytes_eq-Decides}
use Rattle.std.specs.Cmp.Lexicographic.{nat_list_cmp_total}
use Rattle.std.specs.FinMap.{get, get-insert}
use Rattle.ipcz_base.specs.declared.end.End.{End}
use Rattle.ipcz_base.specs.Ends.{same_end}
use Rattle.ipcz_script.specs.Labels.{Labels, bind}
use Rattle.ipcz_verdict.specs.Ledger.{Binds}
use Rattle.ipcz_verdict.specs.Searches.{agrees, bind_all, may_bind, may_mean}
use Rattle.ipcz_verdict.proofs.Facts.{both, end_same, end_tells}

-- what a name means once another was bound
bound_name : (b : Labels) (n : List ℕ) (e : End) (m : List ℕ) → get (bind b n e).names m ≡ cond (bytes_eq m n) (Some e) (get b.names m)
bound_name b n e m = get-insert nat_list_cmp_total b.names n e m ∙ ap (λ c. cond c (Some e) (get b.names m)) (is_eq-slice_cmp m n)

ands : (a b c d : Bool) → (a && (b && (c && d))) ≡ (c && (a && (b && d)))
ands true true true d = refl
ands true true false d = refl
ands true false true d = refl
ands true false false d = refl
ands false b true d = refl
ands false b false d = refl

-- what the name meant may be meant, and then what it means now is as good
meant_both : (o : Option End) (e d : End) → may_mean o e ≡ true → (same_end e d && may_mean o d) ≡ same_end e d
meant_both None e d h = go (same_end e d)
  where
    go : (c : Bool) → (c && true) ≡ c
    go true = refl
    go false = refl
meant_both (Some x) e d h = ap (λ y. same_end e d && same_end y d) (end_tells x e h) ∙ go (same_end e d)
  where
    go : (c : Bool) → (c && c) ≡ c
    go true = refl
    go false = refl

same_other_way : (d e : End) → same_end d e ≡ same_end e d
same_other_way d e = go (same_end d e) (same_end e d) refl refl
  where
    go : (a b : Bool) → same_end d e ≡ a → same_end e d ≡ b → a ≡ b
    go true true p q = refl
    go false false p q = refl
    go true false p q = both (same_end e d) (end_same e d (sym (end_tells d e p))) q
    go false true p q = both (same_end d e) (end_same d e (sym (end_tells e d q))) p

-- once a name is bound, the others may be bound if they could before and agree with it
still_bind : (b : Labels) (n : List ℕ) (e : End) → may_mean (get b.names n) e ≡ true → (ns : List (List ℕ)) (es : List End) → may_bind (bind b n e) ns es ≡ (agrees n e ns es && may_bind b ns es)
still_bind b n e h [] [] = refl
still_bind b n e h [] (d ∷ es) = refl
still_bind b n e h (m ∷ ms) [] = refl
still_bind b n e h (m ∷ ms) (d ∷ es) =
    ap₂ (λ o c. may_mean o d && (agrees m d ms es && c)) (bound_name b n e m) (still_bind b n e h ms es) ∙ go (bytes_eq m n) refl
  where
    rest : Bool
    rest = agrees m d ms es

    go : (c : Bool) → bytes_eq m n ≡ c → (may_mean (cond c (Some e) (get b.names m)) d && (agrees m d ms es && (agrees n e ms es && may_bind b ms es)))
        ≡ (((not c || same_end d e) && agrees n e ms es) && (may_mean (get b.names m) d && (agrees m d ms es && may_bind b ms es)))
    go false k = ands (may_mean (get b.names m) d) (agrees m d ms es) (agrees n e ms es) (may_bind b ms es)
    go true k = same (same_end e d) (same_end d e) (may_mean (get b.names m) d) (agrees m d ms es) (agrees n e ms es) (may_bind b ms es) (same_other_way d e)
        (meant_both (get b.names m) e d (ap (λ x. may_mean (get b.names x) e) ((bytes_eq-Decides m n).0 k) ∙ h))
      where
        same : (s t u v w x : Bool) → t ≡ s → (s && u) ≡ s → (s && (v && (w && x))) ≡ ((t && w) && (u && (v && x)))
        same true true true true true x p q = refl
        same true true true true false x p q = refl
        same true true true false true x p q = refl
        same true true true false false x p q = refl
        same true true false v w x p q = cc
        same true false u v w x p q = cc
        same false true u v w x p q = cc
        same false false u v w x p q = refl

may_from : (o : Option End) (e : End) → (o ≡ None) ⊎ (o ≡ Some e) → may_mean o e ≡ true
may_from o e (inl h) = ap (λ x. may_mean x e) h
may_from o e (inr h) = ap (λ x. may_mean x e) h ∙ end_same e e refl

may_tells : (o : Option End) (e : End) → may_mean o e ≡ true → (o ≡ None) ⊎ (o ≡ Some e)
may_tells None e h = inl refl
may_tells (Some d) e h = inr (ap Some (end_tells d e h))

-- what may be bound is bound so
pub bound : (b : Labels) (ns : List (List ℕ)) (es : List End) → may_bind b ns es ≡ true → Binds b ns es (bind_all b ns es)
bound b [] [] h = refl
bound b [] (e ∷ es) h = absurd (both false h refl)
bound b (n ∷ ns) [] h = absurd (both false h refl)
bound b (n ∷ ns) (e ∷ es) h =
    let parts = and_parts (may_mean (get b.names n) e) (agrees n e ns es && may_bind b ns es) h in
    (may_tells (get b.names n) e parts.0, bound (bind b n e) ns es (still_bind b n e parts.0 ns es ∙ parts.1))

may_be : (b : Labels) (ns : List (List ℕ)) (es : List End) (c : Labels) → Binds b ns es c → may_bind b ns es ≡ true
may_be b [] [] c h = refl
may_be b [] (e ∷ es) c h = absurd h
may_be b (n ∷ ns) [] c h = absurd h
may_be b (n ∷ ns) (e ∷ es) c h =
    let first : may_mean (get b.names n) e ≡ true = may_from (get b.names n) e h.0 in
    and_from (may_mean (get b.names n) e) (agrees n e ns es && may_bind b ns es) first (sym (still_bind b n e first ns es) ∙ may_be (bind b n e) ns es c h.1)

-- and what may not can't be
pub unbound : (b : Labels) (ns : List (List ℕ)) (es : List End) → may_bind b ns es ≡ false → (c : Labels) → Binds b ns es c → ⊥
unbound b ns es h c is = both (may_bind b ns es) (may_be b ns es c is) h

-- Each portal that the lines tell of is named once, and stays so.
use Rattle.std.proofs.Common.{◌≡◌, ◌≢◌, ℕ, ◌+◌, ◌<◌, ◌++◌, List, [], ◌∷◌, length, get_or, Option, Some, refl, ap, sym, ◌∙◌, subst, arith, rules, inl, inr, ◌⊎◌}
use Rattle.std.specs.List.{All, AllWithin, HoldsAt}
use Rattle.std.proofs.Math.ListN.{set}
use Rattle.std.proofs.lemmas.Bool.{cases_order}
use Rattle.std.proofs.lemmas.List.{get_or_append_left, get_or_default, get_or_push, length-append, length-set}
use Rattle.ipcz_lines.specs.declared.line.Line.{Line}
use Rattle.ipcz_lines.specs.declared.line.ReadLine.{ReadLine}
use Rattle.ipcz_messages.specs.declared.named.NamedPortal.{NamedPortal}
use Rattle.ipcz_messages.specs.Named.{AllCallsNamed, AllOpensNamed, AreAllNamed, AreDistinct, IsCallAt, IsFirstName, IsNamedIn, IsNoted, IsOpenOf}
use Rattle.ipcz_messages.specs.Named.{KeepsNames}
use Rattle.ipcz_messages.proofs.Placing.{same_at}

-- what was named stays named behind one more
kept_push : (old : List NamedPortal) (p : NamedPortal) → KeepsNames old (old ++ p ∷ [])
kept_push old p name (inl full) = inl (omega (arith, full, length-append old (p ∷ [])))
kept_push old p name (inr h) = inr (
  h.0,
  omega (arith, h.1, length-append old (p ∷ [])),
  λ d. ap (λ x. x.name.now) (get_or_append_left old (p ∷ []) d h.0 h.1) ∙ h.2 d,
)

pub noted_kept : (name : List ℕ) (node : Option ℕ) (first : ℕ) (old new : List NamedPortal) → IsNoted name node first old new → KeepsNames old new
noted_kept name node first old new (inl h) = subst (KeepsNames old) (sym h.0) (λ _ it. it)
noted_kept name node first old new (inr h) = subst (KeepsNames old) (sym h.2.1) (kept_push old h.2.0)

-- what is noted is named
pub noted_named : (name : List ℕ) (node : Option ℕ) (first : ℕ) (old new : List NamedPortal) → IsNoted name node first old new → IsNamedIn name new
noted_named name node first old new (inl (same, inl full)) = subst (IsNamedIn name) (sym same) (inl full)
noted_named name node first old new (inl (same, inr h)) = subst (IsNamedIn name) (sym same) (inr (h.0, h.1.within, h.1.found))
noted_named name node first old new (inr h) =
    let p = h.2.0 in
    let long = length-append old (p ∷ []) in
    subst (IsNamedIn name) (sym h.2.1)
    (inr (length old, omega (arith, long), λ d. ap (λ x. x.name.now) (get_or_push old p d (length old) refl) ∙ h.2.2.name_is))

-- one more portal, of a name that none has
distinct_push : (name : List ℕ) (old : List NamedPortal) (p : NamedPortal) → p.name.now ≡ name → All (λ x. x.name.now ≢ name) old →
    AreDistinct old → AreDistinct (old ++ p ∷ [])
distinct_push name old p is apart distinct i j d lt within = elim (cases_order j (length old)) [
  | inl e ↦
      let low : i < length old = omega (arith, lt, e) in
      rw (get_or_push old p d j (sym e), get_or_append_left old (p ∷ []) d i low, is) (apart i d low)
  | inr (inl h) ↦
      rw (get_or_append_left old (p ∷ []) d j h, get_or_append_left old (p ∷ []) d i (omega (arith, lt, h))) (distinct i j d lt h)
  | inr (inr h) ↦ absurd (omega (arith, h, within, length-append old (p ∷ [])))
]

pub distinct_noted : (name : List ℕ) (node : Option ℕ) (first : ℕ) (old new : List NamedPortal) → IsNoted name node first old new →
    AreDistinct old → AreDistinct new
distinct_noted name node first old new (inl h) distinct = subst AreDistinct (sym h.0) distinct
distinct_noted name node first old new (inr h) distinct =
    subst AreDistinct (sym h.2.1) (distinct_push name old h.2.0 h.2.2.name_is h.1 distinct)

-- a portal that is closed keeps its name
pub distinct_closed : (line : ℕ) (named : List NamedPortal) (i : ℕ) (p : NamedPortal) → i < length named → p ≡ get_or named i p →
    AreDistinct named → AreDistinct (set named i record { name = p.name; node = p.node; place = p.place; first = p.first; closed = Some line })
distinct_closed line named i p within is distinct a b d lt inside =
    let q : NamedPortal = record { name = p.name; node = p.node; place = p.place; first = p.first; closed = Some line } in
    let name : NamedPortal → List ℕ = λ x. x.name.now in
    let same : name q ≡ name (get_or named i d) = ap name (is ∙ get_or_default named i p d within) in
    let inner : b < length named = omega (arith, inside, length-set named i q) in
    λ e. distinct a b d lt inner (sym (same_at name named i q a d within same) ∙ e ∙ same_at name named i q b d within same)

-- both portals that a line opens are named
pub both_named : (first second : List ℕ) (line : Line) (named : List NamedPortal) →
    ((name : List ℕ) → IsOpenOf name line → (name ≡ first) ⊎ (name ≡ second)) → IsNamedIn first named → IsNamedIn second named →
    (name : List ℕ) → IsOpenOf name line → IsNamedIn name named
both_named first second line named both one two name h = elim (both name h) [
  | inl e ↦ rw e one
  | inr e ↦ rw e two
]

one_call : (name other : List ℕ) (line : Line) → IsCallAt name line → IsCallAt other line → other ≡ name
one_call name other line h k = search rules

-- the portal that a line calls is named
pub called_named : (called : List ℕ) (line : Line) (named : List NamedPortal) → IsCallAt called line → IsNamedIn called named →
    (name : List ℕ) (node other : ℕ) → IsCallAt name line → IsFirstName 8 name node other → IsNamedIn name named
called_named called line named at one name node other h first = rw (one_call called name line at h) one

-- what was called stays named
pub calls_kept : (read : List ReadLine) (n : ℕ) (old new : List NamedPortal) → KeepsNames old new → AllWithin (AllCallsNamed old) read 0 n →
    AllWithin (AllCallsNamed new) read 0 n
calls_kept read n old new kept all k d low lt name node other h first = kept name (all k d low lt name node other h first)

-- one more line: what it opens is named, what it calls is named, and what was named stays so
pub all_more : (read : List ReadLine) (n : ℕ) (old opened called new : List NamedPortal) → KeepsNames old opened → KeepsNames opened called →
    KeepsNames called new → HoldsAt (AllOpensNamed opened) read n → HoldsAt (AllCallsNamed called) read n → AreAllNamed read n old →
    AreAllNamed read (n + 1) new
all_more read n old opened called new one two three opens calls all = record {
  opened = λ i d low lt. elim (cases_order i n) [
    | inl e ↦ λ name h. three name (two name (opens d name (rw (sym e) h)))
    | inr (inl less) ↦ λ name h. three name (two name (one name (all.opened i d low less name h)))
    | inr (inr more) ↦ absurd (omega (arith, more, lt))
  ];
  called = λ i d low lt. elim (cases_order i n) [
    | inl e ↦ λ name node other h first. three name (calls d name node other (rw (sym e) h) first)
    | inr (inl less) ↦ λ name node other h first. three name (two name (one name (all.called i d low less name node other h first)))
    | inr (inr more) ↦ absurd (omega (arith, more, lt))
  ];
}

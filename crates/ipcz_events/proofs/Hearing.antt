-- What is said of the lines of a text, one after the other.
use Rattle.std.specs.Prelude.{ℕ, suc, ◌≡◌, ◌<◌, ◌+◌, ◌==◌, Bool, true, false, List, [], ◌∷◌, ◌++◌, length, take, drop, nat_eq, if◌then◌else◌, Option, Some, None, refl}
use Rattle.std.proofs.Common.{arith, ap, ◌∙◌, sym, subst, inl, inr}
use Rattle.std.proofs.lemmas.Bool.Decides.{nat_tests}
use Rattle.ipcz_node.specs.declared.act.Act.{Act}
use Rattle.ipcz_script.specs.Sessions.{Session, new_session}
use Rattle.ipcz_events.specs.declared.entry.Entry.{Entry}
use Rattle.ipcz_events.specs.declared.header.Header.{Header}
use Rattle.ipcz_events.specs.declared.heard.Heard.{Heard}
use Rattle.ipcz_events.specs.declared.heard.Heard.TheVariants as heard
use Rattle.ipcz_events.specs.declared.verdict.Verdict.{Verdict}
use Rattle.ipcz_events.specs.declared.verdict.Verdict.TheVariants as verdicts
use Rattle.ipcz_events.specs.Hearing.{Hears}
use Rattle.ipcz_events.specs.Judging.{IsInstead, with_text}
use Rattle.ipcz_events.specs.Rules.{MayEntry, MayLog}
use Rattle.ipcz_events.specs.Verdicts.{IsHeader, IsInPlace, IsSaidOf, IsVerdict, line_len, onto_first, text_lines}
use Rattle.ipcz_events.proofs.Deciding.{one_way}

-- ---- one more line of a log

one_more : (log : List Entry) (s t u : Session) (e : Entry) → MayLog s log t → MayEntry t e u → MayLog s (log ++ e ∷ []) u
one_more [] s t u e may next = (u, subst (λ x. MayEntry x e u) may next, refl)
one_more (x ∷ log) s t u e may next = (may.0, may.1, one_more log may.0 t u e may.2 next)

never_more : (log : List Entry) (s t : Session) (e : Entry) → MayLog s log t → ((u : Session) → MayEntry t e u → ⊥) → (v : Session) →
    MayLog s (log ++ e ∷ []) v → ⊥
never_more [] s t e may never v all = never all.0 (subst (λ x. MayEntry x e all.0) (sym may) all.1)
never_more (x ∷ log) s t e may never v all =
    never_more log may.0 t e may.2 never v (subst (λ y. MayLog y (log ++ e ∷ []) v) (one_way s all.0 may.0 x all.1 may.1) all.2)

-- what is told of a line in a session is told of it behind the lines that led there
in_place : (nodes words : ℕ) (log : List Entry) (s : Session) (e : Entry) (told : Option (List ℕ)) → MayLog (new_session nodes words) log s →
    IsInstead s e told → IsInPlace nodes words log e told
in_place nodes words log s e (Some text) may instead =
    (instead.0, one_more log (new_session nodes words) s instead.0 (with_text e text) may instead.1)
in_place nodes words log s e None may none = (s, may, none)

-- ---- the first line of a text

-- a text that isn't empty is its first line and those of what stands behind it
cut : (bs : List ℕ) → 0 < length bs → text_lines bs ≡ take (line_len bs) bs ∷ text_lines (drop (line_len bs + 1) bs)
cut [] h = absurd (omega (arith, h))
cut (b ∷ bs) h = go (nat_eq b 10) (λ k. cut bs k)
  where
    more : (bs : List ℕ) → (0 < length bs → text_lines bs ≡ take (line_len bs) bs ∷ text_lines (drop (line_len bs + 1) bs)) →
        onto_first b (text_lines bs) ≡ take (suc (line_len bs)) (b ∷ bs) ∷ text_lines (drop (suc (line_len bs) + 1) (b ∷ bs))
    more [] rec = refl
    more (x ∷ xs) rec =
        let n : ℕ = line_len (x ∷ xs) in
        let e : suc n + 1 ≡ suc (n + 1) = omega arith in
        ap (onto_first b) (rec (omega arith)) ∙ ap (λ k. (b ∷ take n (x ∷ xs)) ∷ text_lines (drop k (b ∷ x ∷ xs))) (sym e)

    go : (c : Bool) → (0 < length bs → text_lines bs ≡ take (line_len bs) bs ∷ text_lines (drop (line_len bs + 1) bs)) → (if c then [] ∷ text_lines bs else onto_first b (text_lines bs)) ≡
        take (if c then 0 else suc (line_len bs)) (b ∷ bs) ∷ text_lines (drop ((if c then 0 else suc (line_len bs)) + 1) (b ∷ bs))
    go true rec = refl
    go false rec = more bs rec

pub some_left : (xs : List ℕ) (b : Bool) → b ≡ (length xs == 0) → b ≡ false → 0 < length xs
some_left [] b h e = absurd (differ (sym h ∙ e))
  where
    differ : true ≡ false → ⊥
    differ k = cc
some_left (x ∷ xs) b h e = omega arith

pub none_left : (xs : List ℕ) (b : Bool) → b ≡ (length xs == 0) → b ≡ true → xs ≡ []
none_left [] b h e = refl
none_left (x ∷ xs) b h e = absurd (differ (sym e ∙ h))
  where
    differ : true ≡ (suc (length xs) == 0) → ⊥
    differ k = grind (arith, nat_tests, k)

first_of_rest : (rest : List ℕ) (n : ℕ) → 0 < length rest → n ≡ line_len rest → text_lines rest ≡ take n rest ∷ text_lines (drop (n + 1) rest)
first_of_rest rest n some is = cut rest some ∙ ap (λ k. take k rest ∷ text_lines (drop (k + 1) rest)) (sym is)

-- ---- what is said of the lines that are left is said of all

-- some lines of the text are allowed, and lead to the session; what is said of those that are left is said of all
abbrev pub Reaches : ℕ → ℕ → Session → ℕ → List (List ℕ) → List (List ℕ) → Type 0
Reaches nodes words s number all left =
    (log : List Entry) × MayLog (new_session nodes words) log s × ((verdict : Verdict) → IsSaidOf nodes words log number left verdict → IsSaidOf nodes words [] 2 all verdict)

pub begins_with : (nodes words : ℕ) (s : Session) (all : List (List ℕ)) → s ≡ new_session nodes words → Reaches nodes words s 2 all all
begins_with nodes words s all is = ([], is, λ v said. said)

module _ (nodes words : ℕ) (s t : Session) (number : ℕ) where
  pub said_refused : (all : List (List ℕ)) (rest : List ℕ) (n : ℕ) (h : Heard) (told : Option (List ℕ)) (acts : List Act) → 0 < length rest →
      n ≡ line_len rest → Hears s nodes (take n rest) h t → h ≡ heard.Refused told acts → Reaches nodes words s number all (text_lines rest) →
      IsSaidOf nodes words [] 2 all (verdicts.Refused number told acts)
  said_refused all rest n h told acts some is hears refused way =
      let said = subst (λ x. Hears s nodes (take n rest) x t) refused hears in
      way.2 (verdicts.Refused number told acts)
      (subst (λ ls. IsSaidOf nodes words way.0 number ls (verdicts.Refused number told acts)) (sym (first_of_rest rest n some is))
      (inr (inl (
        said.0,
        told,
        acts,
        said.1,
        (λ allowed. never_more way.0 (new_session nodes words) s said.0 way.1 said.2 allowed.0 allowed.1),
        in_place nodes words way.0 s said.0 told way.1 said.3,
        (s, way.1, said.4),
        refl,
      ))))

  pub said_none : (all : List (List ℕ)) (rest : List ℕ) (n : ℕ) (h : Heard) → 0 < length rest → n ≡ line_len rest →
      Hears s nodes (take n rest) h t → h ≡ heard.NoLine → Reaches nodes words s number all (text_lines rest) → IsSaidOf nodes words [] 2 all (verdicts.NoLog number)
  said_none all rest n h some is hears none way =
      let said = subst (λ x. Hears s nodes (take n rest) x t) none hears in
      way.2 (verdicts.NoLog number) (subst (λ ls. IsSaidOf nodes words way.0 number ls (verdicts.NoLog number)) (sym (first_of_rest rest n some is)) (inr (inr (said, refl))))

  pub goes_on : (next : ℕ) (all : List (List ℕ)) (rest left : List ℕ) (n : ℕ) (h : Heard) → 0 < length rest → n ≡ line_len rest →
      Hears s nodes (take n rest) h t → h ≡ heard.Allowed → left ≡ drop (n + 1) rest → next ≡ number + 1 → Reaches nodes words s number all (text_lines rest) →
      Reaches nodes words t next all (text_lines left)
  goes_on next all rest left n h some is hears allowed behind more way =
      let said = subst (λ x. Hears s nodes (take n rest) x t) allowed hears in
      let log : List Entry = way.0 ++ said.0 ∷ [] in
      let may = one_more way.0 (new_session nodes words) s t said.0 way.1 said.2 in (
        log,
        may,
        λ v all_said. way.2 v (subst (λ ls. IsSaidOf nodes words way.0 number ls v) (sym (first_of_rest rest n some is))
            (inl (said.0, said.1, (t, may), subst (λ x. IsSaidOf nodes words log (number + 1) (text_lines x) v) behind (subst (λ k. IsSaidOf nodes words log k (text_lines left) v) more all_said)))),
      )

pub said_allowed : (nodes words : ℕ) (s : Session) (number : ℕ) (all : List (List ℕ)) (rest : List ℕ) → rest ≡ [] → Reaches nodes words s number all (text_lines rest) →
    IsSaidOf nodes words [] 2 all verdicts.Allowed
said_allowed nodes words s number all rest none way =
    way.2 verdicts.Allowed (subst (λ ls. IsSaidOf nodes words way.0 number (text_lines ls) verdicts.Allowed) (sym none) ((s, way.1), refl))

-- ---- the header

pub headed : (text : List ℕ) (n : ℕ) (behind : List ℕ) (header : Header) (v : Verdict) → n ≡ line_len text → behind ≡ drop (n + 1) text → IsHeader (take n text) (Some header) →
    IsSaidOf header.nodes header.words [] 2 (text_lines behind) v → IsVerdict text v
headed text n behind header v is rest head said =
    inl (
      header,
      subst (λ k. IsHeader (take k text) (Some header)) is head,
      subst (λ k. IsSaidOf header.nodes header.words [] 2 (text_lines (drop (k + 1) text)) v) is (subst (λ x. IsSaidOf header.nodes header.words [] 2 (text_lines x) v) rest said),
    )

pub headless : (text : List ℕ) (n : ℕ) → n ≡ line_len text → IsHeader (take n text) None → IsVerdict text (verdicts.NoLog 1)
headless text n is none = inr (subst (λ k. IsHeader (take k text) None) is none, refl)

-- ---- two sessions that take the same lines

-- a line that is allowed leads to one session, from wherever it is taken
pub alike : (s t u v : Session) (e : Entry) → t ≡ s → MayEntry s e u → MayEntry t e v → v ≡ u
alike s t u v e same one other = one_way s v u e (subst (λ x. MayEntry x e v) same other) one

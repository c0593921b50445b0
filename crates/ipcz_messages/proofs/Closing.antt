-- Each close of a portal that is named is noted.
use Rattle.std.proofs.Common.{◌≡◌, ◌≢◌, ℕ, ◌+◌, ◌<◌, List, length, get_or, Some, None, refl, sym, ◌∙◌, subst, arith, rules}
use Rattle.std.proofs.Common.{inl, inr}
use Rattle.std.specs.List.{All, AllWithin, HoldsAt}
use Rattle.std.proofs.Math.ListN.{set}
use Rattle.std.proofs.lemmas.Bool.{cases_order}
use Rattle.std.proofs.lemmas.List.{get_or_default, get_or-set_other, get_or-set_same, length-set}
use Rattle.std.proofs.lemmas.List.Elements.{All-push}
use Rattle.ipcz_lines.specs.declared.line.Line.{Line}
use Rattle.ipcz_lines.specs.declared.line.ReadLine.{ReadLine}
use Rattle.ipcz_messages.specs.declared.named.NamedPortal.{NamedPortal}
use Rattle.ipcz_messages.specs.Named.{AllCallsNamed, AreDistinct, IsCallAt, IsCloseOf, IsFirstName, IsFirstOfName, IsNew, IsNoted, NotesItsClose}
use Rattle.ipcz_messages.proofs.Counting.{none_some}

close_is_call : (name : List ℕ) (line : Line) → IsCloseOf name line → IsCallAt name line
close_is_call name line h = search rules

one_close : (name other : List ℕ) (line : Line) → IsCloseOf name line → IsCloseOf other line → other ≡ name
one_close name other line h k = search rules

-- a portal that is opened by this line wasn't closed before
pub closes_opened : (read : List ReadLine) (n : ℕ) (name : List ℕ) (old new : List NamedPortal) → IsNoted name None n old new →
    All (NotesItsClose read n) old → All (NotesItsClose read n) new
closes_opened read n name old new (inl h) all = subst (All (NotesItsClose read n)) (sym h.0) all
closes_opened read n name old new (inr h) all =
    subst (All (NotesItsClose read n)) (sym h.2.1)
    (All-push (NotesItsClose read n) old h.2.0 all (λ none k d low lt. absurd (omega (arith, low, lt, h.2.2.first_is))))

-- nor was one that is called for the first time
closes_first : (read : List ReadLine) (n : ℕ) (name : List ℕ) (node other : ℕ) (old : List NamedPortal) (p : NamedPortal) → IsFirstName 8 name node other →
    IsNew name (Some node) 0 old p → length old < 32 → All (λ x. x.name.now ≢ name) old → AllWithin (AllCallsNamed old) read 0 n →
    NotesItsClose read n p
closes_first read n name node other old p first new room apart calls none k d low lt closes =
    let close : IsCloseOf name (get_or read k d).line = subst (λ it. IsCloseOf it (get_or read k d).line) new.name_is closes in
    elim (calls k d (omega arith) lt name node other (close_is_call name (get_or read k d).line close) first) [
      | inl full ↦ absurd (omega (arith, full, room))
      | inr h ↦ apart h.0 p h.1 (h.2 p)
    ]

pub closes_called : (read : List ReadLine) (n : ℕ) (name : List ℕ) (node : ℕ) (old new : List NamedPortal) → ((other : ℕ) × IsFirstName 8 name node other) →
    IsNoted name (Some node) 0 old new → AllWithin (AllCallsNamed old) read 0 n → All (NotesItsClose read n) old → All (NotesItsClose read n) new
closes_called read n name node old new home (inl h) calls all = subst (All (NotesItsClose read n)) (sym h.0) all
closes_called read n name node old new home (inr h) calls all =
    subst (All (NotesItsClose read n)) (sym h.2.1)
    (All-push (NotesItsClose read n) old h.2.0 all (closes_first read n name node home.0 old h.2.0 home.1 h.2.2 h.0 h.1 calls))

-- one more line, that doesn't close this portal
open_more : (read : List ReadLine) (n : ℕ) (p : NamedPortal) → NotesItsClose read n p → HoldsAt (λ x. IsCloseOf p.name.now x.line → ⊥) read n →
    NotesItsClose read (n + 1) p
open_more read n p before other none k d low lt = elim (cases_order k n) [
  | inl e ↦ rw e (other d)
  | inr (inl less) ↦ before none k d low less
  | inr (inr more) ↦ absurd (omega (arith, more, lt))
]

-- a line that closes none of them
pub closes_none : (read : List ReadLine) (n : ℕ) (slice named : List NamedPortal) (x : ReadLine) → n < length read → slice ≡ named →
    ((name : List ℕ) → IsCloseOf name (get_or read n x).line → All (λ p. p.name.now ≢ name) slice) → All (NotesItsClose read n) named →
    All (NotesItsClose read (n + 1)) named
closes_none read n slice named x long same none all k d within =
    let name = (get_or named k d).name.now in
    open_more read n (get_or named k d) (all k d within) (λ e closes.
    let close = subst (λ y. IsCloseOf name y.line) (get_or_default read n e x long) closes in
    subst (All (λ p. p.name.now ≢ name)) same (none name close) k d within refl)

-- a line that closes the portal at this place
pub closes_one : (read : List ReadLine) (n : ℕ) (name : List ℕ) (named : List NamedPortal) (i : ℕ) (q : NamedPortal) →
    HoldsAt (λ x. IsCloseOf name x.line) read n → IsFirstOfName name named i → q.closed ≡ Some n → AreDistinct named →
    All (NotesItsClose read n) named → All (NotesItsClose read (n + 1)) (set named i q)
closes_one read n name named i q at place closed distinct all k d inside =
    let within : k < length named = omega (arith, inside, length-set named i q) in
    let apart : k ≢ i → NotesItsClose read (n + 1) (get_or (set named i q) k d) = λ differ.
    rw (get_or-set_other named i k q d differ)
    (open_more read n (get_or named k d) (all k d within)
    (λ e closes. away differ within (one_close name (get_or named k d).name.now (get_or read n e).line (at e) closes ∙ sym (place.found d)))) in
    elim (cases_order k i) [
      | inl e ↦ rw (e, get_or-set_same named i q d place.within) (λ none. absurd (none_some n q.closed none closed))
      | inr (inl less) ↦ apart (omega (arith, less))
      | inr (inr more) ↦ apart (omega (arith, more))
    ] where
      away : k ≢ i → k < length named → (get_or named k d).name.now ≡ (get_or named i d).name.now → ⊥
      away differ within same = elim (cases_order k i) [
        | inl e ↦ differ e
        | inr (inl less) ↦ distinct k i d less place.within same
        | inr (inr more) ↦ distinct i k d more within (sym same)
      ]

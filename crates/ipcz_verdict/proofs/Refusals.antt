-- Which refusals may come, by the books and by the machine.
use Rattle.std.specs.Prelude.{◌≡◌, ◌≤◌, ◌<◌, ℕ, Bool, true, false, not, nat_eq, nat_lt, nat_le, Option, Some, None, is_none, List, [], ◌∷◌, length, drop, slice_get, refl}
use Rattle.std.proofs.Common.{arith, ap, ◌∙◌, sym, subst, inl, inr}
use Rattle.std.proofs.lemmas.Bool.Decides.{nat_tests}
use Rattle.std.proofs.lemmas.Bool.{and_parts, and_from, or_cases, or_left, or_right}
use Rattle.ipcz_base.specs.declared.end.End.{End}
use Rattle.ipcz_base.specs.declared.parcel.Parcel.{Parcel}
use Rattle.ipcz_base.specs.declared.profile.Profile.{Profile}
use Rattle.ipcz_base.specs.declared.refusal.Refusal.{Refusal}
use Rattle.ipcz_base.specs.declared.refusal.Refusal.TheVariants as why
use Rattle.ipcz_base.specs.Limits.{last_number}
use Rattle.ipcz_base.specs.Refusals.{code_of}
use Rattle.ipcz_world.specs.declared.step.Step.TheVariants as steps
use Rattle.ipcz_promise.specs.Promise.{Account, MayRefuse, MayRefusePut, first_refusal, peer}
use Rattle.ipcz_verdict.specs.declared.portal.Portal.{Portal}
use Rattle.ipcz_verdict.specs.Desks.{AreDue, account_of, may_refuse_close, may_refuse_get, may_refuse_open, may_refuse_put, portal_at, same_refusal}
use Rattle.ipcz_verdict.proofs.Deciding.{books_first, books_hold}
use Rattle.ipcz_verdict.proofs.Facts.{all_taken, none_left}
use Rattle.ipcz_verdict.proofs.Sound.{holder_is}

wrong : {X : Type 0} → false ≡ true → X
wrong h = cc

not_true : (c : Bool) → not c ≡ true → c ≡ false
not_true true h = cc
not_true false h = refl

not_from : (c : Bool) → c ≡ false → not c ≡ true
not_from true h = cc
not_from false h = refl

-- ---- opens

pub open_right : (a : Account) (nodes node : ℕ) (w : Refusal) → a.nodes ≡ nodes → may_refuse_open nodes node w ≡ true → MayRefuse a (steps.Open node) w
open_right a nodes node why.Stranger n h = let l : nodes ≤ node = grind (arith, nat_tests, h) in omega (arith, n, l)
open_right a nodes node why.NoWord n h = let l : node < nodes = grind (arith, nat_tests, h) in omega (arith, n, l)
open_right a nodes node why.NumbersEnd n h = let l : node < nodes = grind (arith, nat_tests, h) in omega (arith, n, l)
open_right a nodes node why.OutOfMemory n h = let l : node < nodes = grind (arith, nat_tests, h) in omega (arith, n, l)
open_right a nodes node w n h = wrong h

pub open_all : (a : Account) (nodes node : ℕ) (w : Refusal) → a.nodes ≡ nodes → MayRefuse a (steps.Open node) w → may_refuse_open nodes node w ≡ true
open_all a nodes node why.Stranger n h = let l : nodes ≤ node = omega (arith, n, h) in grind (arith, nat_tests, l)
open_all a nodes node why.NoWord n h = let l : node < nodes = omega (arith, n, h) in grind (arith, nat_tests, l)
open_all a nodes node why.NumbersEnd n h = let l : node < nodes = omega (arith, n, h) in grind (arith, nat_tests, l)
open_all a nodes node why.OutOfMemory n h = let l : node < nodes = omega (arith, n, h) in grind (arith, nat_tests, l)
open_all a nodes node w n h = absurd h

-- ---- gets

nothing_waits : (xs : List Parcel) → is_none (slice_get xs 0) ≡ true → xs ≡ []
nothing_waits [] h = refl
nothing_waits (x ∷ xs) h = cc

pub get_right : (a : Account) (pairs : ℕ) (s : List Portal) (node : ℕ) (at : End) (w : Refusal) → AreDue a pairs s [] → may_refuse_get s node at w ≡ true → MayRefuse a (steps.Get node at) w
get_right a pairs s node at why.Stranger due h = books_hold a pairs s node at due.books ∙ not_true _ h
get_right a pairs s node at why.Empty due h = books_hold a pairs s node at due.books ∙ h
get_right a pairs s node at why.PeerClosed due h =
    let first = and_parts _ _ h in
    let second = and_parts _ _ first.1 in
    let mine = books_hold a pairs s node at due.books ∙ first.0 in
    let open_at = sym (due.books.closed at) ∙ due.sound.held_unclosed at node (holder_is (a.holder at) node mine) in (
      mine,
      due.books.closed (peer at) ∙ second.0,
      all_taken (a.got at) (a.put (peer at)) (due.sound.in_order at) (due.books.waiting at open_at ∙ nothing_waits (portal_at s at).waiting second.1),
    )
get_right a pairs s node at w due h = wrong h

pub get_all : (a : Account) (pairs : ℕ) (s : List Portal) (node : ℕ) (at : End) (w : Refusal) → AreDue a pairs s [] → MayRefuse a (steps.Get node at) w → may_refuse_get s node at w ≡ true
get_all a pairs s node at why.Stranger due h = not_from _ (sym (books_hold a pairs s node at due.books) ∙ h)
get_all a pairs s node at why.Empty due h = sym (books_hold a pairs s node at due.books) ∙ h
get_all a pairs s node at why.PeerClosed due h =
    let open_at = sym (due.books.closed at) ∙ due.sound.held_unclosed at node (holder_is (a.holder at) node h.0) in
    let none : (portal_at s at).waiting ≡ [] = sym (due.books.waiting at open_at) ∙ ap (λ xs. drop (length (a.got at)) xs) (sym h.2) ∙ none_left (a.got at) in
    and_from _ _ (sym (books_hold a pairs s node at due.books) ∙ h.0) (and_from _ _ (sym (due.books.closed (peer at)) ∙ h.1) (ap (λ xs. is_none (slice_get xs 0)) none))
get_all a pairs s node at w due h = absurd h

-- ---- closes

pub close_right : (a : Account) (pairs : ℕ) (s : List Portal) (node : ℕ) (at : End) (w : Refusal) → AreDue a pairs s [] → may_refuse_close s node at w ≡ true → MayRefuse a (steps.Close node at) w
close_right a pairs s node at why.Stranger due h = books_hold a pairs s node at due.books ∙ not_true _ h
close_right a pairs s node at why.OutOfMemory due h = books_hold a pairs s node at due.books ∙ h
close_right a pairs s node at w due h = wrong h

pub close_all : (a : Account) (pairs : ℕ) (s : List Portal) (node : ℕ) (at : End) (w : Refusal) → AreDue a pairs s [] → MayRefuse a (steps.Close node at) w → may_refuse_close s node at w ≡ true
close_all a pairs s node at why.Stranger due h = not_from _ (sym (books_hold a pairs s node at due.books) ∙ h)
close_all a pairs s node at why.OutOfMemory due h = sym (books_hold a pairs s node at due.books) ∙ h
close_all a pairs s node at w due h = absurd h

-- ---- puts

refusals : List Refusal
refusals = why.OutOfMemory ∷ why.Empty ∷ why.PeerClosed ∷ why.NoWord ∷ why.SelfAttach ∷ why.PeerAttach ∷ why.Stranger ∷ why.NumbersEnd ∷ why.BadData ∷ why.TooMany
    ∷ why.Raced ∷ why.Occupied ∷ why.Passed ∷ why.Forged ∷ []

refusal_of : ℕ → Option Refusal
refusal_of n = slice_get (why.Forged ∷ refusals) n

decoded : (w : Refusal) → refusal_of (code_of w) ≡ Some w
unfolding refusal_of refusals
decoded why.OutOfMemory = refl
decoded why.Empty = refl
decoded why.PeerClosed = refl
decoded why.NoWord = refl
decoded why.SelfAttach = refl
decoded why.PeerAttach = refl
decoded why.Stranger = refl
decoded why.NumbersEnd = refl
decoded why.BadData = refl
decoded why.TooMany = refl
decoded why.Raced = refl
decoded why.Occupied = refl
decoded why.Passed = refl
decoded why.Forged = refl

refusal_tells : (v w : Refusal) → same_refusal v w ≡ true → v ≡ w
refusal_tells v w h =
    let codes : code_of v ≡ code_of w = grind (arith, nat_tests, h) in
    same (sym (decoded v) ∙ ap refusal_of codes ∙ decoded w)
  where
    same : Some v ≡ Some w → v ≡ w
    same e = cc

refusal_itself : (v w : Refusal) → v ≡ w → same_refusal v w ≡ true
refusal_itself v w e = let n : nat_eq (code_of w) (code_of w) ≡ true = grind (arith, nat_tests) in ap (λ x. same_refusal x w) e ∙ n

put_right_by : (o : Option Refusal) (a : Account) (pairs : ℕ) (s : List Portal) (nodes node : ℕ) (at : End) (w : Refusal) → AreDue a pairs s [] → a.nodes ≡ nodes →
    may_refuse_put o s nodes node at w ≡ true → MayRefusePut o a node at w
put_right_by (Some first) a pairs s nodes node at w due n h = elim (or_cases _ _ h) [
  | inl same ↦ inl (refusal_tells w first same)
  | inr memory ↦ (
      let parts = and_parts (same_refusal w why.OutOfMemory) (nat_lt node nodes) memory in
      let l : node < nodes = grind (arith, nat_tests, parts.1) in
      inr (refusal_tells w why.OutOfMemory parts.0, omega (arith, n, l)))
]
put_right_by None a pairs s nodes node at why.PeerClosed due n h = due.books.closed (peer at) ∙ h
put_right_by None a pairs s nodes node at why.NumbersEnd due n h =
    let l : last_number ≤ (portal_at s at).put = at_most last_number (portal_at s at).put h in subst (λ k. last_number ≤ k) (sym (due.books.put at)) l
  where
    at_most : (m k : ℕ) → nat_le m k ≡ true → m ≤ k
    at_most m k h = grind (arith, nat_tests, h)
put_right_by None a pairs s nodes node at why.OutOfMemory due n h = let l : node < nodes = grind (arith, nat_tests, h) in omega (arith, n, l)
put_right_by None a pairs s nodes node at w due n h = wrong h

put_all_by : (o : Option Refusal) (a : Account) (pairs : ℕ) (s : List Portal) (nodes node : ℕ) (at : End) (w : Refusal) → AreDue a pairs s [] → a.nodes ≡ nodes →
    MayRefusePut o a node at w → may_refuse_put o s nodes node at w ≡ true
put_all_by (Some first) a pairs s nodes node at w due n (inl same) = or_left _ _ (refusal_itself w first same)
put_all_by (Some first) a pairs s nodes node at w due n (inr memory) =
    let l : node < nodes = omega (arith, n, memory.1) in
    let t : nat_lt node nodes ≡ true = grind (arith, nat_tests, l) in
    or_right _ _ (and_from _ _ (refusal_itself w why.OutOfMemory memory.0) t)
put_all_by None a pairs s nodes node at why.PeerClosed due n h = sym (due.books.closed (peer at)) ∙ h
put_all_by None a pairs s nodes node at why.NumbersEnd due n h = at_most last_number (portal_at s at).put (subst (λ k. last_number ≤ k) (due.books.put at) h)
  where
    at_most : (m k : ℕ) → m ≤ k → nat_le m k ≡ true
    at_most m k h = grind (arith, nat_tests, h)
put_all_by None a pairs s nodes node at why.OutOfMemory due n h = let l : node < nodes = omega (arith, n, h) in grind (arith, nat_tests, l)
put_all_by None a pairs s nodes node at w due n h = absurd h

pub put_right : (profile : Profile) (a : Account) (pairs : ℕ) (s : List Portal) (nodes node : ℕ) (at : End) (bytes : List ℕ) (ends : List End) (w : Refusal) → AreDue a pairs s [] →
    a.nodes ≡ nodes → may_refuse_put (first_refusal profile (account_of s) node at bytes ends) s nodes node at w ≡ true →
    MayRefusePut (first_refusal profile a node at bytes ends) a node at w
put_right profile a pairs s nodes node at bytes ends w due n h =
    subst (λ o. MayRefusePut o a node at w) (sym (books_first profile a pairs s node at bytes ends due.books))
    (put_right_by (first_refusal profile (account_of s) node at bytes ends) a pairs s nodes node at w due n h)

pub put_all : (profile : Profile) (a : Account) (pairs : ℕ) (s : List Portal) (nodes node : ℕ) (at : End) (bytes : List ℕ) (ends : List End) (w : Refusal) → AreDue a pairs s [] →
    a.nodes ≡ nodes → MayRefusePut (first_refusal profile a node at bytes ends) a node at w →
    may_refuse_put (first_refusal profile (account_of s) node at bytes ends) s nodes node at w ≡ true
put_all profile a pairs s nodes node at bytes ends w due n h =
    put_all_by (first_refusal profile (account_of s) node at bytes ends) a pairs s nodes node at w due n
    (subst (λ o. MayRefusePut o a node at w) (books_first profile a pairs s node at bytes ends due.books) h)

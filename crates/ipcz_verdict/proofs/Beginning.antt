-- The books before the first line.
use Rattle.std.specs.Prelude.{◌≡◌, ◌<◌, ◌+◌, ◌-◌, ◌*◌, ℕ, zero, suc, true, false, nat_lt, Option, Some, None, List, [], ◌∷◌, ◌++◌, length, slice_get, refl}
use Rattle.std.proofs.Common.{arith, ap, ◌∙◌, sym}
use Rattle.std.proofs.lemmas.Bool.Decides.{nat_tests}
use Rattle.std.specs.Option.{unwrap_or}
use Rattle.ipcz_base.specs.declared.side.Side.{Side}
use Rattle.ipcz_base.specs.declared.side.Side.TheVariants.{A, B}
use Rattle.ipcz_base.specs.declared.end.End.{End}
use Rattle.ipcz_base.specs.declared.profile.Profile.{Profile}
use Rattle.ipcz_node.specs.FirstPairs.{first_pairs, first_pairs_from, pairs_from}
use Rattle.ipcz_promise.specs.Promise.{first_holder, start}
use Rattle.ipcz_verdict.specs.declared.portal.Portal.{Portal}
use Rattle.ipcz_verdict.specs.Accounts.{IsSound}
use Rattle.ipcz_verdict.specs.Ledger.{first_ledger}
use Rattle.ipcz_verdict.specs.Desks.{AreDue, HasAllowed, IsAt, absent, first_books, first_desk, held_by, index, portal_at, side_index}
use Rattle.ipcz_verdict.proofs.Facts.{get_within}
use Rattle.ipcz_verdict.proofs.Going.{no_line}
use Rattle.ipcz_verdict.proofs.Turns.{no_rest}

abbrev first_book : Option (ℕ × ℕ) → Side → Portal
first_book None side = absent
first_book (Some p) A = held_by p.0
first_book (Some p) B = held_by p.1

seen_first : (ps : List (ℕ × ℕ)) (n i : ℕ) (s : Side) → i ≡ 2 * n + side_index s → unwrap_or (slice_get (first_books ps) i) absent ≡ first_book (slice_get ps n) s
seen_first [] n i s h = refl
seen_first (p ∷ ps) zero zero A h = refl
seen_first (p ∷ ps) zero zero B h = absurd (omega (arith, h))
seen_first (p ∷ ps) zero (suc zero) A h = absurd (omega (arith, h))
seen_first (p ∷ ps) zero (suc zero) B h = refl
seen_first (p ∷ ps) zero (suc (suc i)) A h = absurd (omega (arith, h))
seen_first (p ∷ ps) zero (suc (suc i)) B h = absurd (omega (arith, h))
seen_first (p ∷ ps) (suc n) zero s h = absurd (omega (arith, h))
seen_first (p ∷ ps) (suc n) (suc zero) A h = absurd (omega (arith, h))
seen_first (p ∷ ps) (suc n) (suc zero) B h = absurd (omega (arith, h))
seen_first (p ∷ ps) (suc n) (suc (suc i)) s h = seen_first ps n i s (omega (arith, h))

first_length : (ps : List (ℕ × ℕ)) → length (first_books ps) ≡ 2 * length ps
first_length [] = refl
first_length (p ∷ ps) = let e : suc (suc (2 * length ps)) ≡ 2 * suc (length ps) = omega arith in ap (λ n. suc (suc n)) (first_length ps) ∙ e

fresh_holder : (o : Option (ℕ × ℕ)) (s : Side) → first_holder o s ≡ (first_book o s).holder
fresh_holder None s = refl
fresh_holder (Some p) A = refl
fresh_holder (Some p) B = refl

fresh_closed : (o : Option (ℕ × ℕ)) (s : Side) → false ≡ (first_book o s).closed
fresh_closed None s = refl
fresh_closed (Some p) A = refl
fresh_closed (Some p) B = refl

fresh_put : (o : Option (ℕ × ℕ)) (s : Side) → 0 ≡ (first_book o s).put
fresh_put None s = refl
fresh_put (Some p) A = refl
fresh_put (Some p) B = refl

fresh_got : (o : Option (ℕ × ℕ)) (s : Side) → 0 ≡ (first_book o s).got
fresh_got None s = refl
fresh_got (Some p) A = refl
fresh_got (Some p) B = refl

fresh_waiting : (o : Option (ℕ × ℕ)) (s : Side) → [] ≡ (first_book o s).waiting
fresh_waiting None s = refl
fresh_waiting (Some p) A = refl
fresh_waiting (Some p) B = refl

sound_start : (nodes : ℕ) → IsSound (start nodes 0)
sound_start nodes = record {
  in_order = λ e. refl;
  unheld = λ d e n lies. absurd (none n lies.parcel lies.put);
  one_portal = λ d e f n m x y. absurd (none n x.parcel x.put);
  one_number = λ d e f n m x y. absurd (none n x.parcel x.put);
  lies_opened = λ d e n lies. absurd (none n lies.parcel lies.put);
  lies_unclosed = λ d e n lies h. refl;
  held_opened = λ e n h. held e n (slice_get (first_pairs nodes) e.pair) refl h;
  held_unclosed = λ e n h. refl;
  new_put = λ e h. refl;
  new_got = λ e h. refl;
  new_unclosed = λ e h. refl;
}
  where
    none : {X : Type 0} (n : ℕ) (x : X) → slice_get [] n ≡ Some x → ⊥
    none n x h = cc

    held : (e : End) (n : ℕ) (o : Option (ℕ × ℕ)) → slice_get (first_pairs nodes) e.pair ≡ o → first_holder o e.side ≡ Some n → nat_lt e.pair (length (first_pairs nodes)) ≡ true
    held e n None q h = absurd (nobody e.side h)
      where
        nobody : (s : Side) → first_holder None s ≡ Some n → ⊥
        nobody s h = cc
    held e n (Some p) q h = let l : e.pair < length (first_pairs nodes) = get_within (first_pairs nodes) e.pair p q in grind (arith, nat_tests, l)

due_start : (nodes : ℕ) → 0 < nodes → AreDue (start nodes 0) (length (first_pairs nodes)) (first_books (first_pairs nodes)) []
due_start nodes some = record {
  sound = sound_start nodes;
  some_node = some;
  books = record {
    size = first_length ps;
    opened = λ pair. refl;
    holder = λ e. fresh_holder (slice_get ps e.pair) e.side ∙ sym (ap (λ (p : Portal). p.holder) (seen e));
    closed = λ e. fresh_closed (slice_get ps e.pair) e.side ∙ sym (ap (λ (p : Portal). p.closed) (seen e));
    put = λ e. fresh_put (slice_get ps e.pair) e.side ∙ sym (ap (λ (p : Portal). p.put) (seen e));
    got = λ e. fresh_got (slice_get ps e.pair) e.side ∙ sym (ap (λ (p : Portal). p.got) (seen e));
    waiting = λ e h. fresh_waiting (slice_get ps e.pair) e.side ∙ sym (ap (λ (p : Portal). p.waiting) (seen e));
  };
  due = λ e h. absurd (none h);
  rest = λ e is. absurd (none is.closed);
}
  where
    ps : List (ℕ × ℕ)
    ps = first_pairs nodes

    seen : (e : End) → portal_at (first_books ps) e ≡ first_book (slice_get ps e.pair) e.side
    seen e = seen_first ps e.pair (index e) e.side refl

    none : false ≡ true → ⊥
    none h = cc

pub begins : (nodes : ℕ) (profile : Profile) → 0 < nodes → HasAllowed (first_desk nodes profile) nodes profile []
begins nodes profile some = record {
  same_profile = refl;
  ledger = first_ledger nodes;
  run = no_rest (first_ledger nodes);
  at = at;
  most = λ m rest. no_line (first_desk nodes profile) (first_ledger nodes) m at rest;
}
  where
    at : IsAt (first_desk nodes profile) (first_ledger nodes)
    at = record { nodes = refl; due = due_start nodes some; pairs = refl; labels = refl }

-- ---- the books of the first pairs, one after the other

books_append : (ps qs : List (ℕ × ℕ)) → first_books (ps ++ qs) ≡ first_books ps ++ first_books qs
books_append [] qs = refl
books_append (p ∷ ps) qs = ap (λ s. held_by p.0 ∷ held_by p.1 ∷ s) (books_append ps qs)

append_twice : {X : Type 0} (xs ys zs : List X) → (xs ++ ys) ++ zs ≡ xs ++ (ys ++ zs)
append_twice [] ys zs = refl
append_twice (x ∷ xs) ys zs = ap (λ t. x ∷ t) (append_twice xs ys zs)

pairs_some : (i j left : ℕ) → (left ≡ 0 → ⊥) → pairs_from i j left ≡ (i, j) ∷ pairs_from i (j + 1) (left - 1)
pairs_some i j zero h = absurd (h refl)
pairs_some i j (suc n) h = let e : n ≡ suc n - 1 = omega arith in ap (λ k. (i, j) ∷ pairs_from i (j + 1) k) e

first_some : (i left : ℕ) → (left ≡ 0 → ⊥) → first_pairs_from i left ≡ pairs_from i (i + 1) (left - 1) ++ first_pairs_from (i + 1) (left - 1)
first_some i zero h = absurd (h refl)
first_some i (suc n) h = let e : n ≡ suc n - 1 = omega arith in ap (λ k. pairs_from i (i + 1) k ++ first_pairs_from (i + 1) k) e

pub two_books : (s t u : List Portal) (x y : Portal) (i j left : ℕ) → t ≡ s ++ x ∷ [] → u ≡ t ++ y ∷ [] → x ≡ held_by i → y ≡ held_by j → (left ≡ 0 → ⊥) →
    u ++ first_books (pairs_from i (j + 1) (left - 1)) ≡ s ++ first_books (pairs_from i j left)
two_books s t u x y i j left one two first second some =
    let rest : List Portal = first_books (pairs_from i (j + 1) (left - 1)) in
    ap (λ a. a ++ rest) (two ∙ ap (λ a. a ++ y ∷ []) one) ∙ append_twice (s ++ x ∷ []) (y ∷ []) rest ∙ append_twice s (x ∷ []) (y ∷ rest)
    ∙ ap (λ a. s ++ a ∷ y ∷ rest) first ∙ ap (λ a. s ++ held_by i ∷ a ∷ rest) second ∙ ap (λ ps. s ++ first_books ps) (sym (pairs_some i j left some))

pub more_books : (s t : List Portal) (i left : ℕ) → t ≡ s ++ first_books (pairs_from i (i + 1) (left - 1)) → (left ≡ 0 → ⊥) →
    t ++ first_books (first_pairs_from (i + 1) (left - 1)) ≡ s ++ first_books (first_pairs_from i left)
more_books s t i left one some =
    ap (λ a. a ++ first_books (first_pairs_from (i + 1) (left - 1))) one
    ∙ append_twice s (first_books (pairs_from i (i + 1) (left - 1))) (first_books (first_pairs_from (i + 1) (left - 1)))
    ∙ ap (λ a. s ++ a) (sym (books_append (pairs_from i (i + 1) (left - 1)) (first_pairs_from (i + 1) (left - 1))))
    ∙ ap (λ ps. s ++ first_books ps) (sym (first_some i left some))

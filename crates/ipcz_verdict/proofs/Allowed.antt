-- What an allowed call does to the accounts and to the books.
use Rattle.std.specs.Prelude.{◌≡◌, ◌⊎◌, ◌≤◌, ◌<◌, ◌+◌, ◌*◌, ℕ, zero, suc, Bool, true, false, cond, ◌||◌, nat_eq, nat_lt, Some, None, List, [], ◌∷◌, ◌++◌, length, take, drop, slice_get, refl}
use Rattle.std.proofs.Common.{arith, ap, ap₂, ◌∙◌, sym, subst, inl, inr}
use Rattle.std.proofs.lemmas.Bool.Decides.{nat_tests}
use Rattle.std.specs.Option.{unwrap_or}
use Rattle.ipcz_base.specs.declared.side.Side.{Side}
use Rattle.ipcz_base.specs.declared.side.Side.TheVariants.{A, B}
use Rattle.ipcz_base.specs.declared.end.End.{End}
use Rattle.ipcz_base.specs.declared.parcel.Parcel.{Parcel}
use Rattle.ipcz_base.specs.Ends.{same_end, has_end, end_at}
use Rattle.ipcz_promise.specs.Promise.{Account, IsDropped, close_portal, get_parcel, hold_each, holds, open_pair, peer, put_parcel}
use Rattle.ipcz_verdict.specs.declared.portal.Portal.{Portal}
use Rattle.ipcz_verdict.specs.Accounts.{IsSound, Lies}
use Rattle.ipcz_verdict.specs.Desks.{AreBooksOf, AreDue, absent, closing, counted, counting_put, ends_in, held_by, index, opening, portal_at, pushing, receiving, sending, side_index, taking, took}
use Rattle.ipcz_verdict.proofs.Changing.{change_length, each_at, each_length, seen_apart, seen_same}
use Rattle.ipcz_verdict.proofs.Closing.{books_closed, due_closed, index_in, rest_closed}
use Rattle.ipcz_verdict.proofs.Facts.{both, cases, drop_more, drop_next, end_is, end_same, end_tells, get_last, is_not, length_more, peer_twice}
use Rattle.ipcz_verdict.proofs.Keeping.{each_keeps, keeps}
use Rattle.ipcz_verdict.proofs.Sound.{each_held, get_lies, held_free, holder_is, put_lies, sound_close, sound_get, sound_open, sound_put}

-- ---- a put

within_held : (a : Account) (pairs : ℕ) (s : List Portal) (node : ℕ) (at : End) → IsSound a → AreBooksOf a pairs s → holds a node at ≡ true → index at < length s
within_held a pairs s node at law books mine = index_in a pairs s at books (law.held_opened at node (holder_is (a.holder at) node mine))

-- the books of the sender
sent_holder : (s : List Portal) (at : End) (es : List End) (d : End) → ((e : End) → has_end e es ≡ true → index e < length s) →
    (portal_at (sending s at es) d).holder ≡ cond (has_end d es) None (portal_at s d).holder
sent_holder s at es d within =
    ap (λ (p : Portal). p.holder) (each_at (counting_put s at) es None d (λ e c. subst (λ n. index e < n) (sym (change_length s (index at) counted)) (within e c)))
    ∙ ap (λ h. cond (has_end d es) None h) (keeps (λ p. p.holder) counted (λ p. refl) s at d)

pub sent_closed : (s : List Portal) (at : End) (es : List End) (d : End) → (portal_at (sending s at es) d).closed ≡ (portal_at s d).closed
sent_closed s at es d = each_keeps (λ p. p.closed) (λ p o. refl) (counting_put s at) es None d ∙ keeps (λ p. p.closed) counted (λ p. refl) s at d

sent_got : (s : List Portal) (at : End) (es : List End) (d : End) → (portal_at (sending s at es) d).got ≡ (portal_at s d).got
sent_got s at es d = each_keeps (λ p. p.got) (λ p o. refl) (counting_put s at) es None d ∙ keeps (λ p. p.got) counted (λ p. refl) s at d

sent_waiting : (s : List Portal) (at : End) (es : List End) (d : End) → (portal_at (sending s at es) d).waiting ≡ (portal_at s d).waiting
sent_waiting s at es d = each_keeps (λ p. p.waiting) (λ p o. refl) (counting_put s at) es None d ∙ keeps (λ p. p.waiting) counted (λ p. refl) s at d

sent_put : (s : List Portal) (at : End) (es : List End) (d : End) → index at < length s → (portal_at (sending s at es) d).put ≡ cond (same_end d at) ((portal_at s at).put + 1) (portal_at s d).put
sent_put s at es d within = each_keeps (λ p. p.put) (λ p o. refl) (counting_put s at) es None d ∙ elim (end_is d at) [
  | inl same ↦ ap (λ (p : Portal). p.put) (seen_same s at d counted within same.0) ∙ ap (λ c. cond c ((portal_at s at).put + 1) (portal_at s d).put) (sym same.0)
  | inr apart ↦ ap (λ (p : Portal). p.put) (seen_apart s at d counted within apart.0) ∙ ap (λ c. cond c ((portal_at s at).put + 1) (portal_at s d).put) (sym apart.0)
]

-- how many were put
count_after : (a : Account) (pairs : ℕ) (s : List Portal) (at : End) (p : Parcel) (d : End) → AreBooksOf a pairs s →
    length (cond (same_end d at) (a.put at ++ p ∷ []) (a.put d)) ≡ cond (same_end d at) ((portal_at s at).put + 1) (portal_at s d).put
count_after a pairs s at p d books = go (same_end d at)
  where
    go : (c : Bool) → length (cond c (a.put at ++ p ∷ []) (a.put d)) ≡ cond c ((portal_at s at).put + 1) (portal_at s d).put
    go true = let n : suc (length (a.put at)) ≡ (portal_at s at).put + 1 = omega (arith, books.put at) in length_more (a.put at) p ∙ n
    go false = books.put d

-- the peer is open
books_put_open : (a : Account) (pairs : ℕ) (s : List Portal) (node : ℕ) (at : End) (p : Parcel) → IsSound a → AreBooksOf a pairs s → holds a node at ≡ true →
    hold_each a node p.ends ≡ true → AreBooksOf (put_parcel a at p) pairs (pushing (sending s at p.ends) (peer at) p)
books_put_open a pairs s node at p law books mine each = record {
  size = change_length t (index (peer at)) push ∙ each_length (counting_put s at) p.ends None ∙ change_length s (index at) counted ∙ books.size;
  opened = books.opened;
  holder = λ d. ap (λ h. cond (has_end d p.ends) None h) (books.holder d) ∙ sym (keeps (λ p. p.holder) push (λ p. refl) t (peer at) d ∙ sent_holder s at p.ends d within);
  closed = λ d. books.closed d ∙ sym (keeps (λ p. p.closed) push (λ p. refl) t (peer at) d ∙ sent_closed s at p.ends d);
  put = λ d. count_after a pairs s at p d books ∙ sym (keeps (λ p. p.put) push (λ p. refl) t (peer at) d ∙ sent_put s at p.ends d here);
  got = λ d. books.got d ∙ sym (keeps (λ p. p.got) push (λ p. refl) t (peer at) d ∙ sent_got s at p.ends d);
  waiting = waiting;
}
  where
    t : List Portal
    t = sending s at p.ends

    push : Portal → Portal
    push q = record q { waiting = q.waiting ++ p ∷ [] }

    here : index at < length s
    here = within_held a pairs s node at law books mine

    within : (e : End) → has_end e p.ends ≡ true → index e < length s
    within e c = index_in a pairs s e books (law.held_opened e node (each_held a node p.ends e each c))

    there : index (peer at) < length t
    there = subst (λ n. index (peer at) < n) (sym (each_length (counting_put s at) p.ends None ∙ change_length s (index at) counted))
        (index_in a pairs s (peer at) books (law.held_opened at node (holder_is (a.holder at) node mine)))

    waiting : (d : End) → (portal_at (pushing t (peer at) p) d).closed ≡ false →
        drop (length (a.got d)) (cond (same_end (peer d) at) (a.put at ++ p ∷ []) (a.put (peer d))) ≡ (portal_at (pushing t (peer at) p) d).waiting
    waiting d open_d = elim (end_is d (peer at)) [
      | inl same ↦ (
          let q : peer d ≡ at = ap peer same.1 ∙ peer_twice at in
          ap (λ c. drop (length (a.got d)) (cond c (a.put at ++ p ∷ []) (a.put (peer d)))) (end_same (peer d) at q)
          ∙ drop_more (a.got d) (a.put at) p (ap (λ x. take (length (a.got d)) (a.put x)) (sym q) ∙ law.in_order d)
          ∙ ap (λ x. drop (length (a.got d)) (a.put x) ++ p ∷ []) (sym q)
          ∙ ap (λ w. w ++ p ∷ []) (books.waiting d open_s ∙ sym (sent_waiting s at p.ends d))
          ∙ ap (λ x. (portal_at t x).waiting ++ p ∷ []) same.1
          ∙ sym (ap (λ (x : Portal). x.waiting) (seen_same t (peer at) d push there same.0)))
      | inr apart ↦
          ap (λ c. drop (length (a.got d)) (cond c (a.put at ++ p ∷ []) (a.put (peer d))))
          (is_not (same_end (peer d) at) (λ k. apart.1 (sym (peer_twice d) ∙ ap peer (end_tells (peer d) at k))))
          ∙ books.waiting d open_s ∙ sym (sent_waiting s at p.ends d)
          ∙ sym (ap (λ (x : Portal). x.waiting) (seen_apart t (peer at) d push there apart.0))
    ]
      where
        open_s : (portal_at s d).closed ≡ false
        open_s = sym (keeps (λ p. p.closed) push (λ p. refl) t (peer at) d ∙ sent_closed s at p.ends d) ∙ open_d

-- the peer is closed
books_put_shut : (a : Account) (pairs : ℕ) (s : List Portal) (node : ℕ) (at : End) (p : Parcel) → IsSound a → AreBooksOf a pairs s → holds a node at ≡ true →
    hold_each a node p.ends ≡ true → (portal_at s (peer at)).closed ≡ true → AreBooksOf (put_parcel a at p) pairs (sending s at p.ends)
books_put_shut a pairs s node at p law books mine each closed_peer = record {
  size = each_length (counting_put s at) p.ends None ∙ change_length s (index at) counted ∙ books.size;
  opened = books.opened;
  holder = λ d. ap (λ h. cond (has_end d p.ends) None h) (books.holder d) ∙ sym (sent_holder s at p.ends d within);
  closed = λ d. books.closed d ∙ sym (sent_closed s at p.ends d);
  put = λ d. count_after a pairs s at p d books ∙ sym (sent_put s at p.ends d here);
  got = λ d. books.got d ∙ sym (sent_got s at p.ends d);
  waiting = λ d open_d.
      ap (λ c. drop (length (a.got d)) (cond c (a.put at ++ p ∷ []) (a.put (peer d))))
      (is_not (same_end (peer d) at) (λ k. both (portal_at s d).closed
      (ap (λ x. (portal_at s x).closed) (sym (peer_twice d) ∙ ap peer (end_tells (peer d) at k)) ∙ closed_peer) (sym (sent_closed s at p.ends d) ∙ open_d)))
      ∙ books.waiting d (sym (sent_closed s at p.ends d) ∙ open_d) ∙ sym (sent_waiting s at p.ends d);
}
  where
    here : index at < length s
    here = within_held a pairs s node at law books mine

    within : (e : End) → has_end e p.ends ≡ true → index e < length s
    within e c = index_in a pairs s e books (law.held_opened e node (each_held a node p.ends e each c))

dropped_before : (a : Account) (at : End) (p : Parcel) (e x : End) (n : ℕ) → a.closed x ≡ true → Lies a e x n → IsDropped a e
dropped_before a at p e x n h lies = record { at = x; closed = h; number = n; parcel = lies.parcel; put = lies.put; ungot = lies.ungot; carried = lies.carried }

no_more : (a : Account) (e : End) → (a.closed e ≡ true) ⊎ (has_end e [] ≡ true) → a.closed e ≡ true
no_more a e (inl h) = h
no_more a e (inr h) = cc

pub due_put_open : (a : Account) (pairs : ℕ) (s : List Portal) (node : ℕ) (at : End) (p : Parcel) → AreDue a pairs s [] → holds a node at ≡ true →
    hold_each a node p.ends ≡ true → (portal_at s (peer at)).closed ≡ false → AreDue (put_parcel a at p) pairs (pushing (sending s at p.ends) (peer at) p) []
due_put_open a pairs s node at p due mine each open_peer = record {
  sound = sound_put a node at p due.sound mine each;
  some_node = due.some_node;
  books = books_put_open a pairs s node at p due.sound due.books mine each;
  due = λ e h. absurd (none h);
  rest = λ e is. inl (go e is (put_lies a at p e is.at is.number (record { parcel = is.parcel; put = is.put; ungot = is.ungot; carried = is.carried })));
}
  where
    none : false ≡ true → ⊥
    none h = cc

    go : (e : End) (is : IsDropped (put_parcel a at p) e) → Lies a e is.at is.number ⊎ ((peer is.at ≡ at) × (is.number ≡ length (a.put at)) × (has_end e p.ends ≡ true)) → a.closed e ≡ true
    go e is (inl lies) = no_more a e (due.rest e (dropped_before a at p e is.at is.number is.closed lies))
    go e is (inr new) = both (a.closed is.at) is.closed (ap a.closed (sym (peer_twice is.at) ∙ ap peer new.0) ∙ due.books.closed (peer at) ∙ open_peer)

got_within : (a : Account) (e : End) → IsSound a → length (a.got e) ≤ length (a.put (peer e))
got_within a e law = go (a.got e) (a.put (peer e)) (law.in_order e)
  where
    go : (ys xs : List Parcel) → take (length ys) xs ≡ ys → length ys ≤ length xs
    go [] xs h = omega arith
    go (y ∷ ys) [] h = cc
    go (y ∷ ys) (x ∷ xs) h = omega (arith, go ys xs (cc))

pub due_put_shut : (a : Account) (pairs : ℕ) (s : List Portal) (node : ℕ) (at : End) (p : Parcel) → AreDue a pairs s [] → holds a node at ≡ true →
    hold_each a node p.ends ≡ true → (portal_at s (peer at)).closed ≡ true → AreDue (put_parcel a at p) pairs (sending s at p.ends) p.ends
due_put_shut a pairs s node at p due mine each closed_peer = record {
  sound = sound_put a node at p due.sound mine each;
  some_node = due.some_node;
  books = books_put_shut a pairs s node at p due.sound due.books mine each closed_peer;
  due = λ e h. record {
    at = peer at;
    closed = due.books.closed (peer at) ∙ closed_peer;
    number = length (a.put at);
    parcel = p;
    put = ap (λ c. slice_get (cond c (a.put at ++ p ∷ []) (a.put (peer (peer at)))) (length (a.put at))) (end_same (peer (peer at)) at (peer_twice at)) ∙ get_last (a.put at) p;
    ungot = subst (λ x. length (a.got (peer at)) ≤ length (a.put x)) (peer_twice at) (got_within a (peer at) due.sound);
    carried = h;
  };
  rest = λ e is. go e is (put_lies a at p e is.at is.number (record { parcel = is.parcel; put = is.put; ungot = is.ungot; carried = is.carried }));
}
  where
    go : (e : End) (is : IsDropped (put_parcel a at p) e) → Lies a e is.at is.number ⊎ ((peer is.at ≡ at) × (is.number ≡ length (a.put at)) × (has_end e p.ends ≡ true)) →
        (a.closed e ≡ true) ⊎ (has_end e p.ends ≡ true)
    go e is (inl lies) = inl (no_more a e (due.rest e (dropped_before a at p e is.at is.number is.closed lies)))
    go e is (inr new) = inr new.2

-- ---- a get

pub due_get : (a : Account) (pairs : ℕ) (s : List Portal) (node : ℕ) (at : End) (p : Parcel) → AreDue a pairs s [] → holds a node at ≡ true →
    slice_get (a.put (peer at)) (length (a.got at)) ≡ Some p → AreDue (get_parcel a node at p) pairs (receiving s node at p.ends) []
due_get a pairs s node at p due mine next = record {
  sound = sound_get a node at p law mine next;
  some_node = due.some_node;
  books = record {
    size = each_length (taking s at) p.ends (Some node) ∙ change_length s (index at) took ∙ books.size;
    opened = books.opened;
    holder = λ d. ap (λ h. cond (has_end d p.ends) (Some node) h) (books.holder d) ∙ sym (
        ap (λ (p : Portal). p.holder) (each_at (taking s at) p.ends (Some node) d (λ e c. subst (λ n. index e < n) (sym (change_length s (index at) took)) (within e c)))
        ∙ ap (λ h. cond (has_end d p.ends) (Some node) h) (keeps (λ p. p.holder) took (λ p. refl) s at d));
    closed = λ d. books.closed d ∙ sym (each_keeps (λ p. p.closed) (λ p o. refl) (taking s at) p.ends (Some node) d ∙ keeps (λ p. p.closed) took (λ p. refl) s at d);
    put = λ d. books.put d ∙ sym (each_keeps (λ p. p.put) (λ p o. refl) (taking s at) p.ends (Some node) d ∙ keeps (λ p. p.put) took (λ p. refl) s at d);
    got = got;
    waiting = waiting;
  };
  due = λ e h. absurd (none h);
  rest = λ e is. let t = get_lies a node at p e is.at is.number law next (record { parcel = is.parcel; put = is.put; ungot = is.ungot; carried = is.carried }) in
      inl (no_more a e (due.rest e (dropped_before a at p e is.at is.number is.closed t.0)));
}
  where
    law : IsSound a
    law = due.sound

    books : AreBooksOf a pairs s
    books = due.books

    none : false ≡ true → ⊥
    none h = cc

    here : index at < length s
    here = within_held a pairs s node at law books mine

    within : (e : End) → has_end e p.ends ≡ true → index e < length s
    within e c = index_in a pairs s e books (law.lies_opened e at (length (a.got at)) (record { parcel = p; put = next; ungot = omega arith; carried = c }))

    got : (d : End) → length (cond (same_end d at) (a.got at ++ p ∷ []) (a.got d)) ≡ (portal_at (receiving s node at p.ends) d).got
    got d = elim (end_is d at) [
      | inl same ↦ (let n : suc (length (a.got at)) ≡ (portal_at s at).got + 1 = omega (arith, books.got at) in
          ap (λ c. length (cond c (a.got at ++ p ∷ []) (a.got d))) same.0 ∙ length_more (a.got at) p ∙ n ∙ sym (kept ∙ ap (λ (p : Portal). p.got) (seen_same s at d took here same.0)))
      | inr apart ↦ ap (λ c. length (cond c (a.got at ++ p ∷ []) (a.got d))) apart.0 ∙ books.got d ∙ sym (kept ∙ ap (λ (p : Portal). p.got) (seen_apart s at d took here apart.0))
    ]
      where
        kept : (portal_at (receiving s node at p.ends) d).got ≡ (portal_at (taking s at) d).got
        kept = each_keeps (λ p. p.got) (λ p o. refl) (taking s at) p.ends (Some node) d

    waiting : (d : End) → (portal_at (receiving s node at p.ends) d).closed ≡ false →
        drop (length (cond (same_end d at) (a.got at ++ p ∷ []) (a.got d))) (a.put (peer d)) ≡ (portal_at (receiving s node at p.ends) d).waiting
    waiting d open_d = elim (end_is d at) [
      | inl same ↦ ap (λ c. drop (length (cond c (a.got at ++ p ∷ []) (a.got d))) (a.put (peer d))) same.0
          ∙ drop_next (a.got at) (a.put (peer d)) p ∙ ap (λ x. drop 1 (drop (length (a.got x)) (a.put (peer d)))) (sym same.1)
          ∙ ap (λ w. drop 1 w) (books.waiting d open_s) ∙ ap (λ x. drop 1 (portal_at s x).waiting) same.1
          ∙ sym (kept ∙ ap (λ (p : Portal). p.waiting) (seen_same s at d took here same.0))
      | inr apart ↦ ap (λ c. drop (length (cond c (a.got at ++ p ∷ []) (a.got d))) (a.put (peer d))) apart.0 ∙ books.waiting d open_s
          ∙ sym (kept ∙ ap (λ (p : Portal). p.waiting) (seen_apart s at d took here apart.0))
    ]
      where
        kept : (portal_at (receiving s node at p.ends) d).waiting ≡ (portal_at (taking s at) d).waiting
        kept = each_keeps (λ p. p.waiting) (λ p o. refl) (taking s at) p.ends (Some node) d

        open_s : (portal_at s d).closed ≡ false
        open_s = sym (each_keeps (λ p. p.closed) (λ p o. refl) (taking s at) p.ends (Some node) d ∙ keeps (λ p. p.closed) took (λ p. refl) s at d) ∙ open_d

-- ---- a close

pub due_close : (a : Account) (pairs : ℕ) (s : List Portal) (node : ℕ) (at : End) → AreDue a pairs s [] → holds a node at ≡ true →
    AreDue (close_portal a at) pairs (closing s at) (ends_in (portal_at s at).waiting)
due_close a pairs s node at due mine = record {
  sound = sound_close a at due.sound there (held_free a at node due.sound mine);
  some_node = due.some_node;
  books = books_closed a pairs s at due.books there;
  due = due_closed a pairs s [] at due.books there open_at (λ d h. absurd (none h));
  rest = rest_closed a pairs s [] at due.books open_at (λ d is. inl (no_more a d (due.rest d is)));
}
  where
    none : false ≡ true → ⊥
    none h = cc

    held : a.holder at ≡ Some node
    held = holder_is (a.holder at) node mine

    there : a.opened at.pair ≡ true
    there = due.sound.held_opened at node held

    open_at : (portal_at s at).closed ≡ false
    open_at = sym (due.books.closed at) ∙ due.sound.held_unclosed at node held

-- ---- an open

-- a list with two more
two_below : (s : List Portal) (x y : Portal) (i : ℕ) → i < length s → slice_get (s ++ x ∷ y ∷ []) i ≡ slice_get s i
two_below [] x y i h = absurd (omega (arith, h))
two_below (p ∷ s) x y zero h = refl
two_below (p ∷ s) x y (suc i) h = two_below s x y i (omega (arith, h))

two_first : (s : List Portal) (x y : Portal) (i : ℕ) → i ≡ length s → slice_get (s ++ x ∷ y ∷ []) i ≡ Some x
two_first [] x y zero h = refl
two_first [] x y (suc i) h = absurd (omega (arith, h))
two_first (p ∷ s) x y zero h = absurd (omega (arith, h))
two_first (p ∷ s) x y (suc i) h = two_first s x y i (omega (arith, h))

two_second : (s : List Portal) (x y : Portal) (i : ℕ) → i ≡ length s + 1 → slice_get (s ++ x ∷ y ∷ []) i ≡ Some y
two_second [] x y zero h = absurd (omega (arith, h))
two_second [] x y (suc zero) h = refl
two_second [] x y (suc (suc i)) h = absurd (omega (arith, h))
two_second (p ∷ s) x y zero h = absurd (omega (arith, h))
two_second (p ∷ s) x y (suc i) h = two_second s x y i (omega (arith, h))

two_beyond : (s : List Portal) (x y : Portal) (i : ℕ) → length s + 2 ≤ i → slice_get (s ++ x ∷ y ∷ []) i ≡ slice_get s i
two_beyond [] x y zero h = absurd (omega (arith, h))
two_beyond [] x y (suc zero) h = absurd (omega (arith, h))
two_beyond [] x y (suc (suc i)) h = refl
two_beyond (p ∷ s) x y zero h = absurd (omega (arith, h))
two_beyond (p ∷ s) x y (suc i) h = two_beyond s x y i (omega (arith, h))

two_length : (s : List Portal) (x y : Portal) → length (s ++ x ∷ y ∷ []) ≡ length s + 2
two_length [] x y = refl
two_length (p ∷ s) x y = let e : suc (length s + 2) ≡ suc (length s) + 2 = omega arith in ap suc (two_length s x y) ∙ e

-- the book of a portal then
opened_at : (s : List Portal) (pairs node : ℕ) (d : End) → length s ≡ 2 * pairs →
    portal_at (opening s node) d ≡ cond (nat_eq d.pair pairs) (held_by node) (portal_at s d)
opened_at s pairs node d size = go d.side refl (cases (nat_eq d.pair pairs))
  where
    x : Portal
    x = held_by node

    other : (nat_eq d.pair pairs ≡ false) → (d.pair < pairs) ⊎ (pairs < d.pair) → (k : ℕ) → k ≤ 1 → side_index d.side ≡ k → slice_get (opening s node) (index d) ≡ slice_get s (index d)
    other h (inl less) k small e = two_below s x x (index d) (omega (arith, less, size, small, e))
    other h (inr more) k small e = two_beyond s x x (index d) (omega (arith, more, size, small, e))

    apart : (nat_eq d.pair pairs ≡ false) → (d.pair < pairs) ⊎ (pairs < d.pair)
    apart h = grind (arith, nat_tests, h)

    go : (t : Side) → d.side ≡ t → (nat_eq d.pair pairs ≡ true) ⊎ (nat_eq d.pair pairs ≡ false) → portal_at (opening s node) d ≡ cond (nat_eq d.pair pairs) x (portal_at s d)
    go A e (inl same) = let n : d.pair ≡ pairs = grind (arith, nat_tests, same) in let z : side_index d.side ≡ 0 = ap side_index e in
        ap (λ o. unwrap_or o absent) (two_first s x x (index d) (omega (arith, n, size, z))) ∙ ap (λ c. cond c x (portal_at s d)) (sym same)
    go B e (inl same) = let n : d.pair ≡ pairs = grind (arith, nat_tests, same) in let z : side_index d.side ≡ 1 = ap side_index e in
        ap (λ o. unwrap_or o absent) (two_second s x x (index d) (omega (arith, n, size, z))) ∙ ap (λ c. cond c x (portal_at s d)) (sym same)
    go A e (inr not_same) = ap (λ o. unwrap_or o absent) (other not_same (apart not_same) 0 (omega arith) (ap side_index e)) ∙ ap (λ c. cond c x (portal_at s d)) (sym not_same)
    go B e (inr not_same) = ap (λ o. unwrap_or o absent) (other not_same (apart not_same) 1 (omega arith) (ap side_index e)) ∙ ap (λ c. cond c x (portal_at s d)) (sym not_same)

pub fresh_pair : (a : Account) (pairs : ℕ) (s : List Portal) → AreBooksOf a pairs s → a.opened pairs ≡ false
fresh_pair a pairs s books = let n : nat_lt pairs pairs ≡ false = grind (arith, nat_tests) in books.opened pairs ∙ n

pub due_open : (a : Account) (pairs : ℕ) (s : List Portal) (node : ℕ) → AreDue a pairs s [] → AreDue (open_pair a node (end_at pairs A)) (pairs + 1) (opening s node) []
due_open a pairs s node due = record {
  sound = sound_open a node (end_at pairs A) law fresh;
  some_node = due.some_node;
  books = record {
    size = let n : length s + 2 ≡ 2 * (pairs + 1) = omega (arith, books.size) in two_length s x x ∙ n;
    opened = λ pair. let n : nat_lt pair (pairs + 1) ≡ (nat_eq pair pairs || nat_lt pair pairs) = more pair in
        ap (λ c. nat_eq pair pairs || c) (books.opened pair) ∙ sym n;
    holder = λ d. elim (cases (nat_eq d.pair pairs)) [
      | inl same ↦ ap (λ c. cond c (Some node) (a.holder d)) same ∙ sym (ap (λ (p : Portal). p.holder) (new d same))
      | inr apart ↦ ap (λ c. cond c (Some node) (a.holder d)) apart ∙ books.holder d ∙ sym (ap (λ (p : Portal). p.holder) (old d apart))
    ];
    closed = λ d. elim (cases (nat_eq d.pair pairs)) [
      | inl same ↦ law.new_unclosed d (unopened d same) ∙ sym (ap (λ (p : Portal). p.closed) (new d same))
      | inr apart ↦ books.closed d ∙ sym (ap (λ (p : Portal). p.closed) (old d apart))
    ];
    put = λ d. elim (cases (nat_eq d.pair pairs)) [
      | inl same ↦ ap length (law.new_put d (unopened d same)) ∙ sym (ap (λ (p : Portal). p.put) (new d same))
      | inr apart ↦ books.put d ∙ sym (ap (λ (p : Portal). p.put) (old d apart))
    ];
    got = λ d. elim (cases (nat_eq d.pair pairs)) [
      | inl same ↦ ap length (law.new_got d (unopened d same)) ∙ sym (ap (λ (p : Portal). p.got) (new d same))
      | inr apart ↦ books.got d ∙ sym (ap (λ (p : Portal). p.got) (old d apart))
    ];
    waiting = λ d open_d. elim (cases (nat_eq d.pair pairs)) [
      | inl same ↦ ap₂ (λ ys xs. drop (length ys) xs) (law.new_got d (unopened d same)) (law.new_put (peer d) (unopened d same)) ∙ sym (ap (λ (p : Portal). p.waiting) (new d same))
      | inr apart ↦ books.waiting d (sym (ap (λ (p : Portal). p.closed) (old d apart)) ∙ open_d) ∙ sym (ap (λ (p : Portal). p.waiting) (old d apart))
    ];
  };
  due = λ e h. absurd (none h);
  rest = λ e is. inl (no_more a e (due.rest e (record { at = is.at; closed = is.closed; number = is.number; parcel = is.parcel; put = is.put; ungot = is.ungot; carried = is.carried })));
}
  where
    law : IsSound a
    law = due.sound

    books : AreBooksOf a pairs s
    books = due.books

    x : Portal
    x = held_by node

    none : false ≡ true → ⊥
    none h = cc

    fresh : a.opened pairs ≡ false
    fresh = fresh_pair a pairs s books

    unopened : (d : End) → nat_eq d.pair pairs ≡ true → a.opened d.pair ≡ false
    unopened d same = let n : d.pair ≡ pairs = grind (arith, nat_tests, same) in ap a.opened n ∙ fresh

    new : (d : End) → nat_eq d.pair pairs ≡ true → portal_at (opening s node) d ≡ x
    new d same = opened_at s pairs node d books.size ∙ ap (λ c. cond c x (portal_at s d)) same

    old : (d : End) → nat_eq d.pair pairs ≡ false → portal_at (opening s node) d ≡ portal_at s d
    old d apart = opened_at s pairs node d books.size ∙ ap (λ c. cond c x (portal_at s d)) apart

    more : (pair : ℕ) → nat_lt pair (pairs + 1) ≡ (nat_eq pair pairs || nat_lt pair pairs)
    more pair = grind (arith, nat_tests)

-- Closing a portal that was dropped, in the accounts and in the books.
use Rattle.std.specs.Prelude.{◌≡◌, ◌⊎◌, ◌≤◌, ◌<◌, ◌+◌, ◌-◌, ℕ, zero, suc, Bool, true, false, cond, ◌||◌, nat_lt, Some, None, List, [], ◌∷◌, ◌++◌, length, slice_get, refl}
use Rattle.std.proofs.Common.{arith, ap, ◌∙◌, sym, subst, inl, inr}
use Rattle.std.proofs.lemmas.Bool.Decides.{nat_tests}
use Rattle.std.proofs.lemmas.Bool.{or_left, or_right, or_cases}
use Rattle.ipcz_base.specs.declared.side.Side.{Side}
use Rattle.ipcz_base.specs.declared.side.Side.TheVariants.{A, B}
use Rattle.ipcz_base.specs.declared.end.End.{End}
use Rattle.ipcz_base.specs.declared.parcel.Parcel.{Parcel}
use Rattle.ipcz_base.specs.Ends.{same_end, has_end}
use Rattle.ipcz_node.specs.declared.happened.Happened.TheVariants as events
use Rattle.ipcz_promise.specs.Promise.{Account, IsDropped, close_portal, peer}
use Rattle.ipcz_verdict.specs.declared.portal.Portal.{Portal}
use Rattle.ipcz_verdict.specs.Accounts.{Lies}
use Rattle.ipcz_verdict.specs.Desks.{AreBooksOf, AreDue, ClosesSome, closing, ends_in, index, portal_at, shut, side_index}
use Rattle.ipcz_verdict.proofs.Changing.{change_length, seen_apart, seen_same}
use Rattle.ipcz_world.proofs.facts.Slices.{slice_get-drop}
use Rattle.ipcz_verdict.proofs.Facts.{both, end_is, end_itself, end_tells, has_end_append, has_end_more}
use Rattle.ipcz_verdict.proofs.Sound.{dropped_free, dropped_lies, sound_close}
use Rattle.ipcz_verdict.proofs.Turns.{no_turn, one_turn, turns_on}

side_small : (s : Side) → side_index s ≤ 1
side_small A = omega arith
side_small B = omega arith

-- a portal of a pair that was opened has a book
pub index_in : (a : Account) (pairs : ℕ) (s : List Portal) (e : End) → AreBooksOf a pairs s → a.opened e.pair ≡ true → index e < length s
index_in a pairs s e books there =
    let below : nat_lt e.pair pairs ≡ true = sym (books.opened e.pair) ∙ there in
    let less : e.pair < pairs = grind (arith, nat_tests, below) in
    omega (arith, less, books.size, side_small e.side)

pub books_closed : (a : Account) (pairs : ℕ) (s : List Portal) (e : End) → AreBooksOf a pairs s → a.opened e.pair ≡ true → AreBooksOf (close_portal a e) pairs (closing s e)
books_closed a pairs s e books there = record {
  size = change_length s (index e) shut ∙ books.size;
  opened = books.opened;
  holder = λ d. elim (end_is d e) [
    | inl same ↦ ap (λ c. cond c None (a.holder d)) same.0 ∙ sym (ap (λ (p : Portal). p.holder) (seen_same s e d shut within same.0))
    | inr apart ↦ ap (λ c. cond c None (a.holder d)) apart.0 ∙ books.holder d ∙ sym (ap (λ (p : Portal). p.holder) (seen_apart s e d shut within apart.0))
  ];
  closed = λ d. elim (end_is d e) [
    | inl same ↦ ap (λ c. cond c true (a.closed d)) same.0 ∙ sym (ap (λ (p : Portal). p.closed) (seen_same s e d shut within same.0))
    | inr apart ↦ ap (λ c. cond c true (a.closed d)) apart.0 ∙ books.closed d ∙ sym (ap (λ (p : Portal). p.closed) (seen_apart s e d shut within apart.0))
  ];
  put = λ d. elim (end_is d e) [
    | inl same ↦ ap (λ x. length (a.put x)) same.1 ∙ books.put e ∙ sym (ap (λ (p : Portal). p.put) (seen_same s e d shut within same.0))
    | inr apart ↦ books.put d ∙ sym (ap (λ (p : Portal). p.put) (seen_apart s e d shut within apart.0))
  ];
  got = λ d. elim (end_is d e) [
    | inl same ↦ ap (λ x. length (a.got x)) same.1 ∙ books.got e ∙ sym (ap (λ (p : Portal). p.got) (seen_same s e d shut within same.0))
    | inr apart ↦ books.got d ∙ sym (ap (λ (p : Portal). p.got) (seen_apart s e d shut within apart.0))
  ];
  waiting = λ d open_d. elim (end_is d e) [
    | inl same ↦ both (portal_at (closing s e) d).closed (ap (λ (p : Portal). p.closed) (seen_same s e d shut within same.0)) open_d
    | inr apart ↦
        books.waiting d (sym (ap (λ (p : Portal). p.closed) (seen_apart s e d shut within apart.0)) ∙ open_d)
        ∙ sym (ap (λ (p : Portal). p.waiting) (seen_apart s e d shut within apart.0))
  ];
}
  where
    within : index e < length s
    within = index_in a pairs s e books there

-- ---- the portals in parcels

pub in_ends : (ps : List Parcel) (i : ℕ) (p : Parcel) (d : End) → slice_get ps i ≡ Some p → has_end d p.ends ≡ true → has_end d (ends_in ps) ≡ true
in_ends [] i p d h c = cc
in_ends (q ∷ ps) zero p d h c =
    has_end_append d q.ends (ends_in ps) ∙ or_left _ (has_end d (ends_in ps)) (let same : q ≡ p = cc in ap (λ (x : Parcel). has_end d x.ends) same ∙ c)
in_ends (q ∷ ps) (suc i) p d h c = has_end_append d q.ends (ends_in ps) ∙ or_right (has_end d q.ends) _ (in_ends ps i p d h c)

pub record Carried (ps : List Parcel) (d : End) : Type 0 where
  pub place : ℕ
  pub parcel : Parcel
  pub there : slice_get ps place ≡ Some parcel
  pub carried : has_end d parcel.ends ≡ true

pub of_ends : (ps : List Parcel) (d : End) → has_end d (ends_in ps) ≡ true → Carried ps d
of_ends [] d h = cc
of_ends (p ∷ ps) d h = elim (or_cases (has_end d p.ends) (has_end d (ends_in ps)) (sym (has_end_append d p.ends (ends_in ps)) ∙ h)) [
  | inl here ↦ record { place = 0; parcel = p; there = refl; carried = here }
  | inr later ↦ (let t = of_ends ps d later in record { place = suc t.place; parcel = t.parcel; there = t.there; carried = t.carried })
]

-- what lies in the parcels that a book has, lies there by the accounts, and the other way round
pub lies_waiting : (a : Account) (pairs : ℕ) (s : List Portal) (e d : End) → AreBooksOf a pairs s → (portal_at s e).closed ≡ false →
    has_end d (ends_in (portal_at s e).waiting) ≡ true → (n : ℕ) × Lies a d e n
lies_waiting a pairs s e d books open_e h =
    let t = of_ends (portal_at s e).waiting d h in (
      length (a.got e) + t.place,
      record {
        parcel = t.parcel;
        put = sym (slice_get-drop (length (a.got e)) (a.put (peer e)) t.place) ∙ ap (λ ps. slice_get ps t.place) (books.waiting e open_e) ∙ t.there;
        ungot = omega arith;
        carried = t.carried;
      },
    )

pub waiting_lies : (a : Account) (pairs : ℕ) (s : List Portal) (e d : End) (n : ℕ) → AreBooksOf a pairs s → (portal_at s e).closed ≡ false → Lies a d e n →
    has_end d (ends_in (portal_at s e).waiting) ≡ true
waiting_lies a pairs s e d n books open_e lies =
    let q : length (a.got e) + (n - length (a.got e)) ≡ n = omega (arith, lies.ungot) in
    in_ends (portal_at s e).waiting (n - length (a.got e)) lies.parcel d
    (ap (λ ps. slice_get ps (n - length (a.got e))) (sym (books.waiting e open_e)) ∙ slice_get-drop (length (a.got e)) (a.put (peer e)) (n - length (a.got e))
    ∙ ap (slice_get (a.put (peer e))) q ∙ lies.put)
    lies.carried

-- ---- a close, and what is dropped by it

pub due_closed : (a : Account) (pairs : ℕ) (s : List Portal) (dropped : List End) (e : End) → AreBooksOf a pairs s → a.opened e.pair ≡ true →
    (portal_at s e).closed ≡ false → ((d : End) → has_end d dropped ≡ true → IsDropped a d) →
    (d : End) → has_end d (dropped ++ ends_in (portal_at s e).waiting) ≡ true → IsDropped (close_portal a e) d
due_closed a pairs s dropped e books there open_e due d h =
    elim (or_cases (has_end d dropped) (has_end d (ends_in (portal_at s e).waiting)) (sym (has_end_append d dropped (ends_in (portal_at s e).waiting)) ∙ h)) [
      | inl old ↦ (let is = due d old in
          record { at = is.at; closed = more is.at is.closed; number = is.number; parcel = is.parcel; put = is.put; ungot = is.ungot; carried = is.carried })
      | inr new ↦ (let t = lies_waiting a pairs s e d books open_e new in record {
        at = e;
        closed = ap (λ c. cond c true (a.closed e)) (end_itself e);
        number = t.0;
        parcel = t.1.parcel;
        put = t.1.put;
        ungot = t.1.ungot;
        carried = t.1.carried;
      })
    ]
  where
    more : (x : End) → a.closed x ≡ true → cond (same_end x e) true (a.closed x) ≡ true
    more x h = go (same_end x e)
      where
        go : (c : Bool) → cond c true (a.closed x) ≡ true
        go true = refl
        go false = h

pub rest_closed : (a : Account) (pairs : ℕ) (s : List Portal) (dropped : List End) (e : End) → AreBooksOf a pairs s → (portal_at s e).closed ≡ false →
    ((d : End) → IsDropped a d → (a.closed d ≡ true) ⊎ ((has_end d dropped || same_end e d) ≡ true)) →
    (d : End) → IsDropped (close_portal a e) d → (cond (same_end d e) true (a.closed d) ≡ true) ⊎ (has_end d (dropped ++ ends_in (portal_at s e).waiting) ≡ true)
rest_closed a pairs s dropped e books open_e rest d is = elim (end_is is.at e) [
  | inl same ↦ inr (has_end_append d dropped (ends_in (portal_at s e).waiting) ∙ or_right (has_end d dropped) _
      (waiting_lies a pairs s e d is.number books open_e (subst (λ x. Lies a d x is.number) same.1 lies)))
  | inr apart ↦ old (rest d (record {
    at = is.at;
    closed = ap (λ c. cond c true (a.closed is.at)) (sym apart.0) ∙ is.closed;
    number = is.number;
    parcel = is.parcel;
    put = is.put;
    ungot = is.ungot;
    carried = is.carried;
  }))
]
  where
    lies : Lies a d is.at is.number
    lies = record { parcel = is.parcel; put = is.put; ungot = is.ungot; carried = is.carried }

    more : a.closed d ≡ true → cond (same_end d e) true (a.closed d) ≡ true
    more h = go (same_end d e)
      where
        go : (c : Bool) → cond c true (a.closed d) ≡ true
        go true = refl
        go false = h

    old : (a.closed d ≡ true) ⊎ ((has_end d dropped || same_end e d) ≡ true) →
        (cond (same_end d e) true (a.closed d) ≡ true) ⊎ (has_end d (dropped ++ ends_in (portal_at s e).waiting) ≡ true)
    old (inl h) = inl (more h)
    old (inr h) = elim (or_cases (has_end d dropped) (same_end e d) h) [
      | inl k ↦ inr (has_end_append d dropped (ends_in (portal_at s e).waiting) ∙ or_left _ (has_end d (ends_in (portal_at s e).waiting)) k)
      | inr k ↦ inl (ap (λ c. cond c true (a.closed d)) (ap (λ x. same_end d x) (end_tells e d k) ∙ end_itself d))
    ]

-- ---- one of the dropped portals

due_of_more : (d e : End) (dropped : List End) → has_end d dropped ≡ true → has_end d (dropped ++ e ∷ []) ≡ true
due_of_more d e dropped h = has_end_more d e dropped ∙ or_left _ (same_end e d) h

last_due : (e : End) (dropped : List End) → has_end e (dropped ++ e ∷ []) ≡ true
last_due e dropped = has_end_more e e dropped ∙ or_right (has_end e dropped) _ (end_itself e)

pub skip_closed : (old s : List Portal) (first dropped all : List End) (e : End) → all ≡ dropped ++ e ∷ [] → (portal_at s e).closed ≡ true → ClosesSome old first s all →
    ClosesSome old first s dropped
skip_closed old s first dropped all e is closed_e way a pairs due =
    let t = way a pairs due in
    let u = subst (λ x. AreDue t.0 pairs s x) is t.3 in (
      t.0,
      t.1,
      t.2,
      record {
        sound = u.sound;
        some_node = u.some_node;
        books = u.books;
        due = λ d h. u.due d (due_of_more d e dropped h);
        rest = λ d h. elim (u.rest d h) [
          | inl k ↦ inl k
          | inr k ↦ elim (or_cases (has_end d dropped) (same_end e d) (sym (has_end_more d e dropped) ∙ k)) [
            | inl m ↦ inr m
            | inr m ↦ inl (ap t.0.closed (sym (end_tells e d m)) ∙ u.books.closed e ∙ closed_e)
          ]
        ];
      },
    )

pub close_one : (old s : List Portal) (first dropped all left : List End) (t : List Portal) (e : End) → all ≡ dropped ++ e ∷ [] → (portal_at s e).closed ≡ false →
    t ≡ closing s e → left ≡ dropped ++ ends_in (portal_at s e).waiting → ClosesSome old first s all → ClosesSome old first t left
close_one old s first dropped all left t e is open_e new more way a pairs due =
    let k = way a pairs due in
    let u = subst (λ x. AreDue k.0 pairs s x) is k.3 in
    let drop_e = u.due e (last_due e dropped) in
    let there = u.sound.lies_opened e drop_e.at drop_e.number (dropped_lies k.0 e drop_e) in
    let open_a : k.0.closed e ≡ false = u.books.closed e ∙ open_e in (
      close_portal k.0 e,
      turns_on a k.0 (close_portal k.0 e) k.1
          (one_turn k.0 (close_portal k.0 e) 0 (events.Close e) (u.some_node, (drop_e, u.sound.unheld e drop_e.at drop_e.number (dropped_lies k.0 e drop_e), open_a, refl))),
      k.2,
      subst (λ (x : List Portal). AreDue (close_portal k.0 e) pairs x left) (sym new) (subst (λ x. AreDue (close_portal k.0 e) pairs (closing s e) x) (sym more) (record {
        sound = sound_close k.0 e u.sound there (dropped_free k.0 e u.sound drop_e);
        some_node = u.some_node;
        books = books_closed k.0 pairs s e u.books there;
        due = due_closed k.0 pairs s dropped e u.books there open_e (λ d h. u.due d (due_of_more d e dropped h));
        rest = rest_closed k.0 pairs s dropped e u.books open_e (λ d h. elim (u.rest d h) [ inl m ↦ inl m | inr m ↦ inr (sym (has_end_more d e dropped) ∙ m) ]);
      })),
    )

pub nothing_closed : (s : List Portal) (dropped : List End) → ClosesSome s dropped s dropped
nothing_closed s dropped a pairs due = (a, no_turn a, refl, due)

-- Each step of the machine keeps its accounts sound.
use Rattle.std.specs.Prelude.{◌≡◌, ◌⊎◌, ◌≤◌, ℕ, suc, Bool, true, false, cond, not, ◌||◌, nat_eq, nat_lt, Option, Some, None, List, [], ◌∷◌, ◌++◌}
use Rattle.std.specs.Prelude.{length, take, slice_get, refl, if◌then◌else◌}
use Rattle.std.proofs.Common.{arith, ap, ◌∙◌, sym, subst, inl, inr}
use Rattle.std.proofs.lemmas.Bool.Decides.{nat_tests}
use Rattle.std.proofs.lemmas.Bool.{and_parts, or_left, or_right, or_parts}
use Rattle.ipcz_base.specs.declared.end.End.{End}
use Rattle.ipcz_base.specs.declared.parcel.Parcel.{Parcel}
use Rattle.ipcz_base.specs.declared.profile.Profile.{Profile}
use Rattle.ipcz_base.specs.declared.refusal.Refusal.TheVariants as why
use Rattle.ipcz_base.specs.Ends.{same_end, has_end}
use Rattle.ipcz_base.specs.Limits.{most_bytes, most_ends, takes_bytes}
use Rattle.ipcz_promise.specs.Promise.{Account, IsDropped, close_portal, first_refusal, get_parcel, hold_each, holds, is_holder, open_pair, peer, put_parcel}
use Rattle.ipcz_verdict.specs.Accounts.{IsSound, Lies}
use Rattle.ipcz_verdict.proofs.Facts.{both, some_none, peers_tell, end_tells, end_same, end_is, cases, is_not}
use Rattle.ipcz_verdict.proofs.Facts.{length_more, get_more, take_next, take_more}

-- ---- what tests tell

pub holder_is : (o : Option ℕ) (n : ℕ) → is_holder o n ≡ true → o ≡ Some n
holder_is None n h = cc
holder_is (Some m) n h = let same : m ≡ n = grind (arith, nat_tests, h) in ap Some same

pub each_held : (a : Account) (n : ℕ) (es : List End) (d : End) → hold_each a n es ≡ true → has_end d es ≡ true → a.holder d ≡ Some n
each_held a n [] d h in_es = cc
each_held a n (e ∷ es) d h in_es =
    let parts = and_parts (holds a n e) _ h in
    elim (end_is e d) [
      | inl same ↦ ap a.holder (sym same.1) ∙ holder_is (a.holder e) n parts.0
      | inr apart ↦ each_held a n es d (and_parts _ (hold_each a n es) parts.1).1 (ap (λ c. c || has_end d es) (sym apart.0) ∙ in_es)
    ]

-- what an accepted put tells
pub record Accepted (a : Account) (node : ℕ) (at : End) (ends : List End) : Type 0 where
  pub holds : holds a node at ≡ true
  pub held : hold_each a node ends ≡ true

pub accepted_tells : (profile : Profile) (a : Account) (node : ℕ) (at : End) (bytes : List ℕ) (ends : List End) →
    first_refusal profile a node at bytes ends ≡ None → Accepted a node at ends
accepted_tells profile a node at bytes ends h =
    go (holds a node at) refl (nat_lt (most_bytes profile) (length bytes) || nat_lt most_ends (length ends)) (takes_bytes profile bytes) (has_end at ends)
    (has_end (peer at) ends) (hold_each a node ends) refl h
  where
    go : (b : Bool) → holds a node at ≡ b → (many takes self other each : Bool) → hold_each a node ends ≡ each →
        (if not b then Some why.Stranger else if many then Some why.TooMany else if not takes then Some why.BadData
        else if self then Some why.SelfAttach else if other then Some why.PeerAttach else if not each then Some why.Stranger else None) ≡ None →
        Accepted a node at ends
    go false e many takes self other each f h = cc
    go true e true takes self other each f h = cc
    go true e false false self other each f h = cc
    go true e false true true other each f h = cc
    go true e false true false true each f h = cc
    go true e false true false false false f h = cc
    go true e false true false false true f h = record { holds = e; held = f }

-- ---- a new pair

pub sound_open : (a : Account) (node : ℕ) (d : End) → IsSound a → a.opened d.pair ≡ false → IsSound (open_pair a node d)
sound_open a node d law fresh = record {
  in_order = law.in_order;
  unheld = λ x e n lies. go x (law.lies_opened x e n (was x e n lies)) (law.unheld x e n (was x e n lies));
  one_portal = λ x e f n m p q. law.one_portal x e f n m (was x e n p) (was x f m q);
  one_number = λ x e f n m p q. law.one_number x e f n m (was x e n p) (was x f m q);
  lies_opened = λ x e n lies. or_right _ (a.opened x.pair) (law.lies_opened x e n (was x e n lies));
  lies_unclosed = λ x e n lies. law.lies_unclosed x e n (was x e n lies);
  held_opened = λ e n h. opened e n (cases (nat_eq e.pair d.pair)) h;
  held_unclosed = λ e n h. unclosed e n (cases (nat_eq e.pair d.pair)) h;
  new_put = λ e h. law.new_put e (old e h);
  new_got = λ e h. law.new_got e (old e h);
  new_unclosed = λ e h. law.new_unclosed e (old e h);
}
  where
    was : (x e : End) (n : ℕ) → Lies (open_pair a node d) x e n → Lies a x e n
    was x e n lies = record { parcel = lies.parcel; put = lies.put; ungot = lies.ungot; carried = lies.carried }

    go : (x : End) → a.opened x.pair ≡ true → a.holder x ≡ None → cond (nat_eq x.pair d.pair) (Some node) (a.holder x) ≡ None
    go x there none = elim (cases (nat_eq x.pair d.pair)) [
      | inl same ↦ (let q : x.pair ≡ d.pair = grind (arith, nat_tests, same) in both (a.opened x.pair) there (ap a.opened q ∙ fresh))
      | inr apart ↦ ap (λ c. cond c (Some node) (a.holder x)) apart ∙ none
    ]

    opened : (e : End) (n : ℕ) → (nat_eq e.pair d.pair ≡ true) ⊎ (nat_eq e.pair d.pair ≡ false) → cond (nat_eq e.pair d.pair) (Some node) (a.holder e) ≡ Some n →
        (nat_eq e.pair d.pair || a.opened e.pair) ≡ true
    opened e n (inl same) h = or_left _ (a.opened e.pair) same
    opened e n (inr apart) h = or_right _ (a.opened e.pair) (law.held_opened e n (ap (λ c. cond c (Some node) (a.holder e)) (sym apart) ∙ h))

    unclosed : (e : End) (n : ℕ) → (nat_eq e.pair d.pair ≡ true) ⊎ (nat_eq e.pair d.pair ≡ false) → cond (nat_eq e.pair d.pair) (Some node) (a.holder e) ≡ Some n →
        a.closed e ≡ false
    unclosed e n (inl same) h = let q : e.pair ≡ d.pair = grind (arith, nat_tests, same) in law.new_unclosed e (ap a.opened q ∙ fresh)
    unclosed e n (inr apart) h = law.held_unclosed e n (ap (λ c. cond c (Some node) (a.holder e)) (sym apart) ∙ h)

    old : (e : End) → (nat_eq e.pair d.pair || a.opened e.pair) ≡ false → a.opened e.pair ≡ false
    old e h = (or_parts _ (a.opened e.pair) h).1

-- ---- a put

-- after a put a portal lies where it did, or in the parcel that was put
pub put_lies : (a : Account) (at : End) (p : Parcel) (d e : End) (n : ℕ) → Lies (put_parcel a at p) d e n →
    Lies a d e n ⊎ ((peer e ≡ at) × (n ≡ length (a.put at)) × (has_end d p.ends ≡ true))
put_lies a at p d e n lies = elim (end_is (peer e) at) [
  | inl same ↦ here same.1 (get_more (a.put at) p lies.parcel n (ap (λ c. slice_get (cond c (a.put at ++ p ∷ []) (a.put (peer e))) n) (sym same.0) ∙ lies.put))
  | inr apart ↦ inl (record {
    parcel = lies.parcel;
    put = ap (λ c. slice_get (cond c (a.put at ++ p ∷ []) (a.put (peer e))) n) (sym apart.0) ∙ lies.put;
    ungot = lies.ungot;
    carried = lies.carried;
  })
]
  where
    here : peer e ≡ at → (slice_get (a.put at) n ≡ Some lies.parcel) ⊎ ((n ≡ length (a.put at)) × (p ≡ lies.parcel)) →
        Lies a d e n ⊎ ((peer e ≡ at) × (n ≡ length (a.put at)) × (has_end d p.ends ≡ true))
    here q (inl old) = inl (record { parcel = lies.parcel; put = ap (λ x. slice_get (a.put x) n) q ∙ old; ungot = lies.ungot; carried = lies.carried })
    here q (inr new) = inr (q, new.0, ap (λ (x : Parcel). has_end d x.ends) new.1 ∙ lies.carried)

pub sound_put : (a : Account) (node : ℕ) (at : End) (p : Parcel) → IsSound a → holds a node at ≡ true → hold_each a node p.ends ≡ true → IsSound (put_parcel a at p)
sound_put a node at p law mine each = record {
  in_order = order;
  unheld = λ d e n lies. unheld d e n (put_lies a at p d e n lies);
  one_portal = λ d e f n m x y. portals d e f n m (put_lies a at p d e n x) (put_lies a at p d f m y);
  one_number = λ d e f n m x y. numbers d e f n m (put_lies a at p d e n x) (put_lies a at p d f m y);
  lies_opened = λ d e n lies. opened d e n (put_lies a at p d e n lies);
  lies_unclosed = λ d e n lies. unclosed d e n (put_lies a at p d e n lies);
  held_opened = λ e n h. law.held_opened e n (held e n h);
  held_unclosed = λ e n h. law.held_unclosed e n (held e n h);
  new_put = λ e h. ap (λ c. cond c (a.put at ++ p ∷ []) (a.put e)) (elsewhere e h) ∙ law.new_put e h;
  new_got = law.new_got;
  new_unclosed = law.new_unclosed;
}
  where
    holder : (d : End) → has_end d p.ends ≡ true → a.holder d ≡ Some node
    holder d c = each_held a node p.ends d each c

    order : (e : End) → take (length (a.got e)) (cond (same_end (peer e) at) (a.put at ++ p ∷ []) (a.put (peer e))) ≡ a.got e
    order e = elim (end_is (peer e) at) [
      | inl same ↦ ap (λ c. take (length (a.got e)) (cond c (a.put at ++ p ∷ []) (a.put (peer e)))) same.0
          ∙ take_more (a.got e) (a.put at) p (ap (λ x. take (length (a.got e)) (a.put x)) (sym same.1) ∙ law.in_order e)
      | inr apart ↦ ap (λ c. take (length (a.got e)) (cond c (a.put at ++ p ∷ []) (a.put (peer e)))) apart.0 ∙ law.in_order e
    ]

    unheld : (d e : End) (n : ℕ) → Lies a d e n ⊎ ((peer e ≡ at) × (n ≡ length (a.put at)) × (has_end d p.ends ≡ true)) → cond (has_end d p.ends) None (a.holder d) ≡ None
    unheld d e n (inl old) = none (has_end d p.ends) (a.holder d) (law.unheld d e n old)
      where
        none : (c : Bool) (o : Option ℕ) → o ≡ None → cond c None o ≡ None
        none true o h = refl
        none false o h = h
    unheld d e n (inr new) = ap (λ c. cond c None (a.holder d)) new.2

    clash : {X : Type 0} (d e : End) (n : ℕ) → Lies a d e n → has_end d p.ends ≡ true → X
    clash d e n old c = some_none (a.holder d) (holder d c) (law.unheld d e n old)

    portals : (d e f : End) (n m : ℕ) → Lies a d e n ⊎ ((peer e ≡ at) × (n ≡ length (a.put at)) × (has_end d p.ends ≡ true)) →
        Lies a d f m ⊎ ((peer f ≡ at) × (m ≡ length (a.put at)) × (has_end d p.ends ≡ true)) → e ≡ f
    portals d e f n m (inl x) (inl y) = law.one_portal d e f n m x y
    portals d e f n m (inl x) (inr y) = clash d e n x y.2
    portals d e f n m (inr x) (inl y) = clash d f m y x.2
    portals d e f n m (inr x) (inr y) = peers_tell e f (x.0 ∙ sym y.0)

    numbers : (d e f : End) (n m : ℕ) → Lies a d e n ⊎ ((peer e ≡ at) × (n ≡ length (a.put at)) × (has_end d p.ends ≡ true)) →
        Lies a d f m ⊎ ((peer f ≡ at) × (m ≡ length (a.put at)) × (has_end d p.ends ≡ true)) → n ≡ m
    numbers d e f n m (inl x) (inl y) = law.one_number d e f n m x y
    numbers d e f n m (inl x) (inr y) = clash d e n x y.2
    numbers d e f n m (inr x) (inl y) = clash d f m y x.2
    numbers d e f n m (inr x) (inr y) = x.1 ∙ sym y.1

    opened : (d e : End) (n : ℕ) → Lies a d e n ⊎ ((peer e ≡ at) × (n ≡ length (a.put at)) × (has_end d p.ends ≡ true)) → a.opened d.pair ≡ true
    opened d e n (inl old) = law.lies_opened d e n old
    opened d e n (inr new) = law.held_opened d node (holder d new.2)

    unclosed : (d e : End) (n : ℕ) → Lies a d e n ⊎ ((peer e ≡ at) × (n ≡ length (a.put at)) × (has_end d p.ends ≡ true)) → a.closed e ≡ false → a.closed d ≡ false
    unclosed d e n (inl old) h = law.lies_unclosed d e n old h
    unclosed d e n (inr new) h = law.held_unclosed d node (holder d new.2)

    held : (e : End) (n : ℕ) → cond (has_end e p.ends) None (a.holder e) ≡ Some n → a.holder e ≡ Some n
    held e n h = go (has_end e p.ends) h
      where
        go : (c : Bool) → cond c None (a.holder e) ≡ Some n → a.holder e ≡ Some n
        go true h = cc
        go false h = h

    elsewhere : (e : End) → a.opened e.pair ≡ false → same_end e at ≡ false
    elsewhere e h = is_not (same_end e at) (λ same. both (a.opened e.pair) (ap (λ (x : End). a.opened x.pair) (end_tells e at same) ∙ law.held_opened at node (holder_is (a.holder at) node mine)) h)

-- ---- a get

pub get_lies : (a : Account) (node : ℕ) (at : End) (p : Parcel) (d e : End) (n : ℕ) → IsSound a → slice_get (a.put (peer at)) (length (a.got at)) ≡ Some p →
    Lies (get_parcel a node at p) d e n → Lies a d e n × (has_end d p.ends ≡ false)
get_lies a node at p d e n law next lies = (was, is_not (has_end d p.ends) absent)
  where
    ungot : length (a.got e) ≤ n
    ungot = go (cases (same_end e at)) lies.ungot
      where
        go : (same_end e at ≡ true) ⊎ (same_end e at ≡ false) → length (cond (same_end e at) (a.got at ++ p ∷ []) (a.got e)) ≤ n → length (a.got e) ≤ n
        go (inl same) h =
            let len : length (cond (same_end e at) (a.got at ++ p ∷ []) (a.got e)) ≡ suc (length (a.got at)) =
            ap (λ c. length (cond c (a.got at ++ p ∷ []) (a.got e))) same ∙ length_more (a.got at) p in
            let q : length (a.got e) ≡ length (a.got at) = ap (λ x. length (a.got x)) (end_tells e at same) in
            omega (arith, h, len, q)
        go (inr apart) h = let len : length (cond (same_end e at) (a.got at ++ p ∷ []) (a.got e)) ≡ length (a.got e) =
            ap (λ c. length (cond c (a.got at ++ p ∷ []) (a.got e))) apart in omega (arith, h, len)

    was : Lies a d e n
    was = record { parcel = lies.parcel; put = lies.put; ungot = ungot; carried = lies.carried }

    absent : has_end d p.ends ≡ true → ⊥
    absent c =
        let first : Lies a d at (length (a.got at)) = record { parcel = p; put = next; ungot = omega arith; carried = c } in
        let q : e ≡ at = law.one_portal d e at n (length (a.got at)) was first in
        let m : n ≡ length (a.got at) = law.one_number d e at n (length (a.got at)) was first in
        let len : length (cond (same_end e at) (a.got at ++ p ∷ []) (a.got e)) ≡ suc (length (a.got at)) =
        ap (λ c. length (cond c (a.got at ++ p ∷ []) (a.got e))) (end_same e at q) ∙ length_more (a.got at) p in
        let ungot : length (cond (same_end e at) (a.got at ++ p ∷ []) (a.got e)) ≤ n = lies.ungot in
        omega (arith, ungot, len, m)

pub sound_get : (a : Account) (node : ℕ) (at : End) (p : Parcel) → IsSound a → holds a node at ≡ true → slice_get (a.put (peer at)) (length (a.got at)) ≡ Some p →
    IsSound (get_parcel a node at p)
sound_get a node at p law mine next = record {
  in_order = order;
  unheld = λ d e n lies. let t = get_lies a node at p d e n law next lies in ap (λ c. cond c (Some node) (a.holder d)) t.1 ∙ law.unheld d e n t.0;
  one_portal = λ d e f n m x y. law.one_portal d e f n m (was d e n x) (was d f m y);
  one_number = λ d e f n m x y. law.one_number d e f n m (was d e n x) (was d f m y);
  lies_opened = λ d e n lies. law.lies_opened d e n (was d e n lies);
  lies_unclosed = λ d e n lies. law.lies_unclosed d e n (was d e n lies);
  held_opened = λ e n h. elim (cases (has_end e p.ends)) [
    | inl c ↦ law.lies_opened e at (length (a.got at)) (first e c)
    | inr c ↦ law.held_opened e n (ap (λ c. cond c (Some node) (a.holder e)) (sym c) ∙ h)
  ];
  held_unclosed = λ e n h. elim (cases (has_end e p.ends)) [
    | inl c ↦ law.lies_unclosed e at (length (a.got at)) (first e c) (law.held_unclosed at node (holder_is (a.holder at) node mine))
    | inr c ↦ law.held_unclosed e n (ap (λ c. cond c (Some node) (a.holder e)) (sym c) ∙ h)
  ];
  new_put = law.new_put;
  new_got = λ e h. ap (λ c. cond c (a.got at ++ p ∷ []) (a.got e)) (elsewhere e h) ∙ law.new_got e h;
  new_unclosed = law.new_unclosed;
}
  where
    was : (d e : End) (n : ℕ) → Lies (get_parcel a node at p) d e n → Lies a d e n
    was d e n lies = (get_lies a node at p d e n law next lies).0

    first : (d : End) → has_end d p.ends ≡ true → Lies a d at (length (a.got at))
    first d c = record { parcel = p; put = next; ungot = omega arith; carried = c }

    order : (e : End) → take (length (cond (same_end e at) (a.got at ++ p ∷ []) (a.got e))) (a.put (peer e)) ≡ cond (same_end e at) (a.got at ++ p ∷ []) (a.got e)
    order e = elim (end_is e at) [
      | inl same ↦ subst (λ c. take (length (cond c (a.got at ++ p ∷ []) (a.got e))) (a.put (peer e)) ≡ cond c (a.got at ++ p ∷ []) (a.got e)) (sym same.0)
          (subst (λ x. take (length (a.got at ++ p ∷ [])) (a.put (peer x)) ≡ a.got at ++ p ∷ []) (sym same.1) (take_next (a.got at) (a.put (peer at)) p (law.in_order at) next))
      | inr apart ↦ subst (λ c. take (length (cond c (a.got at ++ p ∷ []) (a.got e))) (a.put (peer e)) ≡ cond c (a.got at ++ p ∷ []) (a.got e)) (sym apart.0) (law.in_order e)
    ]

    elsewhere : (e : End) → a.opened e.pair ≡ false → same_end e at ≡ false
    elsewhere e h = is_not (same_end e at) (λ same. both (a.opened e.pair) (ap (λ (x : End). a.opened x.pair) (end_tells e at same) ∙ law.held_opened at node (holder_is (a.holder at) node mine)) h)

-- ---- a close, by its holder or by a node

pub sound_close : (a : Account) (at : End) → IsSound a → a.opened at.pair ≡ true → ((e : End) (n : ℕ) → Lies a at e n → a.closed e ≡ true) → IsSound (close_portal a at)
sound_close a at law there free = record {
  in_order = law.in_order;
  unheld = λ d e n lies. none (same_end d at) (a.holder d) (law.unheld d e n (was d e n lies));
  one_portal = λ d e f n m x y. law.one_portal d e f n m (was d e n x) (was d f m y);
  one_number = λ d e f n m x y. law.one_number d e f n m (was d e n x) (was d f m y);
  lies_opened = λ d e n lies. law.lies_opened d e n (was d e n lies);
  lies_unclosed = λ d e n lies h. unclosed d e n (was d e n lies) (open_e e h) (end_is d at);
  held_opened = λ e n h. law.held_opened e n (held e n (same_end e at) h);
  held_unclosed = λ e n h. apart_held e n (cases (same_end e at)) h;
  new_put = law.new_put;
  new_got = law.new_got;
  new_unclosed = λ e h. ap (λ c. cond c true (a.closed e)) (elsewhere e h) ∙ law.new_unclosed e h;
}
  where
    was : (d e : End) (n : ℕ) → Lies (close_portal a at) d e n → Lies a d e n
    was d e n lies = record { parcel = lies.parcel; put = lies.put; ungot = lies.ungot; carried = lies.carried }

    none : (c : Bool) (o : Option ℕ) → o ≡ None → cond c None o ≡ None
    none true o h = refl
    none false o h = h

    open_e : (e : End) → cond (same_end e at) true (a.closed e) ≡ false → a.closed e ≡ false
    open_e e h = go (same_end e at) h
      where
        go : (c : Bool) → cond c true (a.closed e) ≡ false → a.closed e ≡ false
        go true h = cc
        go false h = h

    unclosed : (d e : End) (n : ℕ) → Lies a d e n → a.closed e ≡ false → ((same_end d at ≡ true) × (d ≡ at)) ⊎ ((same_end d at ≡ false) × (d ≡ at → ⊥)) →
        cond (same_end d at) true (a.closed d) ≡ false
    unclosed d e n lies h (inl same) = both (a.closed e) (free e n (subst (λ x. Lies a x e n) same.1 lies)) h
    unclosed d e n lies h (inr apart) = ap (λ c. cond c true (a.closed d)) apart.0 ∙ law.lies_unclosed d e n lies h

    held : (e : End) (n : ℕ) (c : Bool) → cond c None (a.holder e) ≡ Some n → a.holder e ≡ Some n
    held e n true h = cc
    held e n false h = h

    apart_held : (e : End) (n : ℕ) → (same_end e at ≡ true) ⊎ (same_end e at ≡ false) → cond (same_end e at) None (a.holder e) ≡ Some n →
        cond (same_end e at) true (a.closed e) ≡ false
    apart_held e n (inl same) h = some_none (cond (same_end e at) None (a.holder e)) h (ap (λ c. cond c None (a.holder e)) same)
    apart_held e n (inr apart) h =
        ap (λ c. cond c true (a.closed e)) apart ∙ law.held_unclosed e n (ap (λ c. cond c None (a.holder e)) (sym apart) ∙ h)

    elsewhere : (e : End) → a.opened e.pair ≡ false → same_end e at ≡ false
    elsewhere e h = is_not (same_end e at) (λ same. both (a.opened e.pair) (ap (λ (x : End). a.opened x.pair) (end_tells e at same) ∙ there) h)

-- a portal that is held lies nowhere
pub held_free : (a : Account) (at : End) (node : ℕ) → IsSound a → holds a node at ≡ true → (e : End) (n : ℕ) → Lies a at e n → a.closed e ≡ true
held_free a at node law mine e n lies = some_none (a.holder at) (holder_is (a.holder at) node mine) (law.unheld at e n lies)

-- a portal that was dropped lies in a parcel for a closed portal, and in no other one
pub dropped_lies : (a : Account) (d : End) (is : IsDropped a d) → Lies a d is.at is.number
dropped_lies a d is = record { parcel = is.parcel; put = is.put; ungot = is.ungot; carried = is.carried }

pub dropped_free : (a : Account) (d : End) → IsSound a → IsDropped a d → (e : End) (n : ℕ) → Lies a d e n → a.closed e ≡ true
dropped_free a d law is e n lies = ap a.closed (law.one_portal d e is.at n is.number lies (dropped_lies a d is)) ∙ is.closed

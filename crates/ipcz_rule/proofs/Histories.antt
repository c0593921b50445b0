-- The history after each step: it stays but where a call is written down, and callers come, lend their view and get it back.
use Rattle.std.specs.Prelude.{◌≡◌, ◌≢◌, ◌⊎◌, ◌<◌, ◌+◌, ℕ, zero, suc, Bool, true, false, cond, eqb, nat_eq, List, [], ◌∷◌, ◌++◌, length, Some, None, refl}
use Rattle.std.proofs.Common.{arith, ap, ◌∙◌, sym, subst, inl, inr, ⊎_elim, set, length-set, length-append, append_assoc, eq-eqb, ne_eqb}
use Rattle.std.proofs.lemmas.List.{append-nil}
use Rattle.std.proofs.lemmas.Bool.Decides.{nat_tests}
use prog.Atomic.{either}
use mathlib.Core.Option.{some, some-injective, some-ne-none}
use mathlib.Core.List.{IsPrefix}
use lib.ListN.{get_elem?}
use Rattle.atomic_table.proofs.Lists.{at_set, at_snoc}
use Rattle.ipcz_rule.specs.declared.history.Call.{Call}
use Rattle.ipcz_rule.specs.declared.history.CallerView.{CallerView}
use Rattle.ipcz_rule.specs.declared.history.Entry.{Entry}
use Rattle.ipcz_rule.specs.declared.view.Part.{Part}
use Rattle.ipcz_rule.specs.declared.view.View.{View}
use Rattle.ipcz_rule.specs.Histories.{Histories, IsCaller, IsNoted, entry_of, at_node, calls_by, noted, new_caller, after_call, caller_view}

-- the one part of a list of one
pub only : (ps : List Part) (p q : Part) (k : ℕ) → ps ≡ p ∷ [] → get_elem? ps k ≡ some q → p ≡ q
only ps p q k is at = one k (subst (λ (l : List Part). get_elem? l k ≡ some q) is at)
  where
    one : (k : ℕ) → get_elem? (p ∷ []) k ≡ some q → p ≡ q
    one zero e = some-injective p q e
    one (suc k) e = absurd (some-ne-none q (sym e))

-- a caller stays where it is if there are no fewer seats
stays : (log : List Entry) (many more seat at : ℕ) (c : CallerView) → many ≡ more → IsCaller log many seat at c → IsCaller log more seat at c
stays log many more seat at c same k = record { here = k.here; begun = rw (← same) k.begun; seen = k.seen; mine = k.mine }

-- no call is written down by a step that changes a seat's part and keeps its history and its caller
pub histories_stay : (views : List View) (id : ℕ) (v v' : View) (p p' : Part) → get_elem? views id ≡ some v → v.parts ≡ p ∷ [] → v'.parts ≡ p' ∷ [] → p'.node ≡ p.node → p'.history ≡ p.history → v'.caller ≡ v.caller →
    Histories views → Histories (set views id v')
histories_stay views id v v' p p' at is is' node history caller h = record {
  log = h.log;
  seat_of = h.seat_of;
  parts = λ j u k q at_j at_k. ⊎_elim
      (λ (t : (j ≡ id) × (v' ≡ u)).
      let same : p' ≡ q = only u.parts p' q k (sym (ap (λ (z : View). z.parts) t.1) ∙ is') at_k in
      subst (λ (z : Part). z.history ≡ at_node z.node h.log) same (history ∙ (h.parts id v 0 p at (ap (λ (l : List Part). get_elem? l 0) is) ∙ ap (λ n. at_node n h.log) (sym node))))
      (λ (t : (j ≢ id) × (get_elem? views j ≡ some u)). h.parts j u k q t.1 at_k)
      (at_set views id j v' u at_j);
  callers = λ j u c at_j has. stays h.log (length views) (length (set views id v')) (h.seat_of c.id) j c (sym (length-set views id v')) (⊎_elim
      (λ (t : (j ≡ id) × (v' ≡ u)).
      subst (λ (k : ℕ). IsCaller h.log (length views) (h.seat_of c.id) k c) (sym t.0) (h.callers id v c at (sym caller ∙ (ap (λ (z : View). z.caller) t.1 ∙ has))))
      (λ (t : (j ≢ id) × (get_elem? views j ≡ some u)). h.callers j u c t.1 has)
      (at_set views id j v' u at_j));
  begun = λ k e there. subst (λ n. e.by < n) (sym (length-set views id v')) (h.begun k e there);
}

-- a list of entries by node and by caller, where there is one more

at_node-append : (n : ℕ) (xs ys : List Entry) → at_node n (xs ++ ys) ≡ at_node n xs ++ at_node n ys
at_node-append n [] ys = refl
at_node-append n (x ∷ xs) ys = go (at_node-append n xs ys) (nat_eq x.node n)
  where
    go : at_node n (xs ++ ys) ≡ at_node n xs ++ at_node n ys → (b : Bool) →
        cond b (x ∷ at_node n (xs ++ ys)) (at_node n (xs ++ ys)) ≡ cond b (x ∷ at_node n xs) (at_node n xs) ++ at_node n ys
    go more true = ap (λ l. x ∷ l) more
    go more false = more

calls_by-append : (n : ℕ) (xs ys : List Entry) → calls_by n (xs ++ ys) ≡ calls_by n xs ++ calls_by n ys
calls_by-append n [] ys = refl
calls_by-append n (x ∷ xs) ys = go (calls_by-append n xs ys) (nat_eq x.by n)
  where
    go : calls_by n (xs ++ ys) ≡ calls_by n xs ++ calls_by n ys → (b : Bool) →
        cond b (x ∷ calls_by n (xs ++ ys)) (calls_by n (xs ++ ys)) ≡ cond b (x ∷ calls_by n xs) (calls_by n xs) ++ calls_by n ys
    go more true = ap (λ l. x ∷ l) more
    go more false = more

same_test : (a b : ℕ) → a ≡ b → nat_eq a b ≡ true
same_test a b e = grind (arith, nat_tests, e)

other_test : (a b : ℕ) → a ≢ b → nat_eq a b ≡ false
other_test a b ne = grind (arith, nat_tests, ne)

pub at_node-more : (n : ℕ) (log : List Entry) (e : Entry) → e.node ≡ n → at_node n (log ++ e ∷ []) ≡ at_node n log ++ e ∷ []
at_node-more n log e is = at_node-append n log (e ∷ []) ∙ ap (λ (b : Bool). at_node n log ++ cond b (e ∷ []) []) (same_test e.node n is)

at_node-else : (n : ℕ) (log : List Entry) (e : Entry) → e.node ≢ n → at_node n (log ++ e ∷ []) ≡ at_node n log
at_node-else n log e ne = at_node-append n log (e ∷ []) ∙ (ap (λ (b : Bool). at_node n log ++ cond b (e ∷ []) []) (other_test e.node n ne) ∙ append-nil (at_node n log))

calls_by-more : (n : ℕ) (log : List Entry) (e : Entry) → e.by ≡ n → calls_by n (log ++ e ∷ []) ≡ calls_by n log ++ e ∷ []
calls_by-more n log e is = calls_by-append n log (e ∷ []) ∙ ap (λ (b : Bool). calls_by n log ++ cond b (e ∷ []) []) (same_test e.by n is)

calls_by-else : (n : ℕ) (log : List Entry) (e : Entry) → e.by ≢ n → calls_by n (log ++ e ∷ []) ≡ calls_by n log
calls_by-else n log e ne = calls_by-append n log (e ∷ []) ∙ (ap (λ (b : Bool). calls_by n log ++ cond b (e ∷ []) []) (other_test e.by n ne) ∙ append-nil (calls_by n log))

prefix_more : (xs ys zs : List Entry) → IsPrefix xs ys → IsPrefix xs (ys ++ zs)
prefix_more xs ys zs p = (p.0 ++ zs, sym (append_assoc xs p.0 zs) ∙ ap (λ w. w ++ zs) p.1)

-- nobody has a number that is none of an entry's
none_by : (log : List Entry) (n : ℕ) → ((k : ℕ) (e : Entry) → get_elem? log k ≡ some e → e.by ≢ n) → calls_by n log ≡ []
none_by [] n all = refl
none_by (x ∷ xs) n all = ap (λ (b : Bool). cond b (x ∷ calls_by n xs) (calls_by n xs)) (other_test x.by n (all 0 x refl)) ∙ none_by xs n (λ k e there. all (suc k) e there)

-- a call is written down: the seat's part and its caller have it, and no other part or caller has anything to do with it
module _ (views : List View) (id : ℕ) (v : View) (p : Part) (c : CallerView) (call : Call) (at : get_elem? views id ≡ some v) (is : v.parts ≡ p ∷ []) (has : v.caller ≡ Some c) (h : Histories views)
    (apart : (j k : ℕ) (u : View) (q : Part) → j ≢ id → get_elem? views j ≡ some u → get_elem? u.parts k ≡ some q → p.node ≢ q.node) where
  abbrev e : Entry
  e = entry_of p.node c.id call

  abbrev own : IsCaller h.log (length views) (h.seat_of c.id) id c
  own = h.callers id v c at has

  abbrev between : List Entry
  between = own.seen.0

  whole : (c.seen ++ between) ++ e ∷ [] ≡ h.log ++ e ∷ []
  whole = ap (λ l. l ++ e ∷ []) own.seen.1

  abbrev c' : CallerView
  c' = after_call between e c

  abbrev pub noted_view : View
  noted_view = record { parts = noted e p ∷ []; seen = v.seen; announced = None; caller = Some c' }

  mine_part : p.history ≡ at_node p.node h.log
  mine_part = h.parts id v 0 p at (ap (λ (l : List Part). get_elem? l 0) is)

  pub is_noted : IsNoted v p c call noted_view
  is_noted = record {
    between = between;
    view = refl;
    history = ap (at_node p.node) whole ∙ (at_node-more p.node h.log e refl ∙ ap (λ l. l ++ e ∷ []) (sym mine_part));
    own = ap (calls_by c.id) whole ∙ (calls_by-more c.id h.log e refl ∙ ap (λ l. l ++ e ∷ []) own.mine);
  }

  other_caller : (j : ℕ) (u : View) (d : CallerView) → j ≢ id → get_elem? views j ≡ some u → u.caller ≡ Some d → IsCaller (h.log ++ e ∷ []) (length views) (h.seat_of d.id) j d
  other_caller j u d ne at_j has_d =
      let k = h.callers j u d at_j has_d in
      let differ : c.id ≢ d.id = λ same. ne (sym k.here ∙ (ap h.seat_of (sym same) ∙ own.here)) in
      record { here = k.here; begun = k.begun; seen = prefix_more d.seen h.log (e ∷ []) k.seen; mine = calls_by-else d.id h.log e differ ∙ k.mine }

  pub histories_note : Histories (set views id noted_view)
  histories_note = record {
    log = h.log ++ e ∷ [];
    seat_of = h.seat_of;
    parts = λ j u k q at_j at_k. ⊎_elim
        (λ (t : (j ≡ id) × (noted_view ≡ u)).
        let same : noted e p ≡ q = only u.parts (noted e p) q k (sym (ap (λ (z : View). z.parts) t.1)) at_k in
        subst (λ (z : Part). z.history ≡ at_node z.node (h.log ++ e ∷ [])) same (ap (λ l. l ++ e ∷ []) mine_part ∙ sym (at_node-more p.node h.log e refl)))
        (λ (t : (j ≢ id) × (get_elem? views j ≡ some u)). h.parts j u k q t.1 at_k ∙ sym (at_node-else q.node h.log e (apart j k u q t.0 t.1 at_k)))
        (at_set views id j noted_view u at_j);
    callers = λ j u d at_j has_d. stays (h.log ++ e ∷ []) (length views) (length (set views id noted_view)) (h.seat_of d.id) j d (sym (length-set views id noted_view)) (⊎_elim
        (λ (t : (j ≡ id) × (noted_view ≡ u)).
        let same : c' ≡ d = let g : Some c' ≡ Some d = ap (λ (z : View). z.caller) t.1 ∙ has_d in cc in
        subst (λ (z : CallerView). IsCaller (h.log ++ e ∷ []) (length views) (h.seat_of z.id) j z) same
        (subst (λ (k : ℕ). IsCaller (h.log ++ e ∷ []) (length views) (h.seat_of c.id) k c') (sym t.0) (record {
          here = own.here;
          begun = own.begun;
          seen = ([], append-nil ((c.seen ++ between) ++ e ∷ []) ∙ whole);
          mine = calls_by-more c.id h.log e refl ∙ ap (λ l. l ++ e ∷ []) own.mine;
        })))
        (λ (t : (j ≢ id) × (get_elem? views j ≡ some u)). other_caller j u d t.0 t.1 has_d)
        (at_set views id j noted_view u at_j));
    begun = λ k x there. subst (λ n. x.by < n) (sym (length-set views id noted_view)) (⊎_elim
        (λ (before : get_elem? h.log k ≡ some x). h.begun k x before)
        (λ (last : e ≡ x). subst (λ (z : Entry). z.by < length views) last own.begun)
        (at_snoc h.log e x k there));
  }

-- a part that stood in a view, and a caller whose seat it was
abbrev pub StoodPart : List View → Part → Type 0
StoodPart views q = (a : ℕ) × (x : View) × (b : ℕ) × (get_elem? views a ≡ some x) × (get_elem? x.parts b ≡ some q)

abbrev pub StoodCaller : List View → CallerView → (ℕ → Type 0) → Type 0
StoodCaller views c At = (a : ℕ) × (x : View) × (get_elem? views a ≡ some x) × (x.caller ≡ Some c) × At a

-- no call is written down where parts and callers only go to other seats
pub histories_move : (views new : List View) (seat_of : ℕ → ℕ) (h : Histories views) → length views ≡ length new ⊎ (length views + 1 ≡ length new) →
    ((a b : ℕ) (x : View) (q : Part) → get_elem? new a ≡ some x → get_elem? x.parts b ≡ some q → StoodPart views q) →
    ((a : ℕ) (x : View) (c : CallerView) → get_elem? new a ≡ some x → x.caller ≡ Some c → StoodCaller views c (λ b. h.seat_of c.id ≡ b → seat_of c.id ≡ a)) →
    Histories new
histories_move views new seat_of h more parts callers = record {
  log = h.log;
  seat_of = seat_of;
  parts = λ a x b q at_a at_b. let t = parts a b x q at_a at_b in h.parts t.0 t.1 t.2 q t.3 t.4;
  callers = λ a x c at_a has.
      let t = callers a x c at_a has in
      let k = h.callers t.0 t.1 c t.2 t.3 in
      record { here = t.4 k.here; begun = below k.begun; seen = k.seen; mine = k.mine };
  begun = λ k e there. below (h.begun k e there);
}
  where
    below : {n : ℕ} → n < length views → n < length new
    below {n} l = ⊎_elim (λ e. omega (arith, l, e)) (λ e. omega (arith, l, e)) more

-- the seat of a number, where who was at one is at another
abbrev pub went : ℕ → ℕ → (ℕ → ℕ) → ℕ → ℕ
went there here seat_of n = either (eqb (seat_of n) there) here (seat_of n)

pub went_there : (there here : ℕ) (seat_of : ℕ → ℕ) (n : ℕ) → seat_of n ≡ there → went there here seat_of n ≡ here
went_there there here seat_of n e = ap (λ (b : Bool). either b here (seat_of n)) (eq-eqb (seat_of n) there e)

pub went_not : (there here : ℕ) (seat_of : ℕ → ℕ) (n k : ℕ) → k ≢ there → seat_of n ≡ k → went there here seat_of n ≡ k
went_not there here seat_of n k ne e = ap (λ (b : Bool). either b here (seat_of n)) (ne_eqb (seat_of n) there (λ h. ne (sym e ∙ h))) ∙ e

-- a view without a caller has none
pub no_caller : (u v : View) (c : CallerView) → u.caller ≡ None → u ≡ v → v.caller ≡ Some c → ⊥
no_caller u v c none same has = let e : None ≡ Some c = sym none ∙ (ap (λ (z : View). z.caller) same ∙ has) in cc

-- an element of a list with one more, and where it stands
pub at_end : {A : Type 0} (l : List A) (a b : A) (j : ℕ) {n : ℕ} → length l ≡ n → get_elem? (l ++ a ∷ []) j ≡ some b → (get_elem? l j ≡ some b) ⊎ ((j ≡ n) × (a ≡ b))
at_end [] a b zero e at = inr (e, some-injective a b at)
at_end [] a b (suc j) e at = absurd (some-ne-none b (sym at))
at_end (x ∷ xs) a b zero e at = inl at
at_end (x ∷ xs) a b (suc j) e at = ⊎_elim (λ (h : get_elem? xs j ≡ some b). inl h) (λ (h : (j ≡ length xs) × (a ≡ b)). inr (ap suc h.0 ∙ e, h.1)) (at_end xs a b j refl at)

-- a seat with a caller comes, or the caller of a seat gets one
module _ (views : List View) (new : View) (h : Histories views) where
  abbrev many : ℕ
  many = length views

  one_more : length views + 1 ≡ length (views ++ new ∷ [])
  one_more = sym (length-append views (new ∷ []))

  stood : (a b : ℕ) (x : View) (q : Part) → new.parts ≡ [] → get_elem? (views ++ new ∷ []) a ≡ some x → get_elem? x.parts b ≡ some q → StoodPart views q
  stood a b x q bare at_a at_b = ⊎_elim
      (λ (before : get_elem? views a ≡ some x). (a, x, b, before, at_b))
      (λ (last : new ≡ x). absurd (some-ne-none q (sym (ap (λ l. get_elem? l b) (sym bare ∙ ap (λ (z : View). z.parts) last) ∙ at_b))))
      (at_snoc views new x a at_a)

  -- one that hasn't called yet, by a number that nobody has
  pub histories_enter : new ≡ caller_view (Some (new_caller many)) → Histories (views ++ new ∷ [])
  histories_enter is = record {
    log = h.log;
    seat_of = λ n. either (eqb n many) many (h.seat_of n);
    parts = λ a x b q at_a at_b. let t = stood a b x q (ap (λ (z : View). z.parts) is) at_a at_b in h.parts t.0 t.1 t.2 q t.3 t.4;
    callers = λ a x c at_a has. ⊎_elim
        (λ (before : get_elem? views a ≡ some x).
        let k = h.callers a x c before has in
        record {
          here = ap (λ (b : Bool). either b many (h.seat_of c.id)) (ne_eqb c.id many (λ e. let l = k.begun in omega (arith, l, e))) ∙ k.here;
          begun = below k.begun;
          seen = k.seen;
          mine = k.mine;
        })
        (λ (last : (a ≡ many) × (new ≡ x)).
        let same : new_caller many ≡ c = let e : Some (new_caller many) ≡ Some c = sym (ap (λ (z : View). z.caller) is) ∙ (ap (λ (z : View). z.caller) last.1 ∙ has) in cc in
        subst (λ (z : CallerView). IsCaller h.log (length (views ++ new ∷ [])) (either (eqb z.id many) many (h.seat_of z.id)) a z) same (record {
          here = ap (λ (b : Bool). either b many (h.seat_of many)) (eq-eqb many many refl) ∙ sym last.0;
          begun = let e = one_more in omega (arith, e);
          seen = (h.log, refl);
          mine = none_by h.log many (λ k e there same. let l = h.begun k e there in omega (arith, l, same));
        }))
        (at_end views new x a refl at_a);
    begun = λ k e there. below (h.begun k e there);
  }
    where
      below : {n : ℕ} → n < length views → n < length (views ++ new ∷ [])
      below {n} l = let e = one_more in omega (arith, l, e)

-- Join: a seat takes in the parts of another, and the shown world and books stay.
use Rattle.std.specs.Prelude.{◌≡◌, ◌≢◌, ◌⊎◌, ℕ, zero, suc, Bool, Option, Some, None, List, [], ◌∷◌, ◌++◌, refl}
use Rattle.std.proofs.Common.{ap, ◌∙◌, sym, subst, inl, inr, ⊎_elim, set, length-set, eq-eqb, ne_eqb, eqb}
use prog.Atomic.{either}
use mathlib.Core.Option.{some, some-injective, some-ne-none}
use mathlib.Core.Logic.{dite}
use native.Mathlib.Decide.{ℕ_discrete}
use lib.ListN.{get_elem?}
use Rattle.atomic_table.proofs.Lists.{at_set, set_here, set_else, at_longer}
use Rattle.ipcz_rule.specs.declared.view.View.{View}
use Rattle.ipcz_rule.specs.declared.view.Part.{Part}
use Rattle.ipcz_rule.specs.declared.history.CallerView.{CallerView}
use Rattle.ipcz_rule.specs.Histories.{lent_caller}
use Rattle.ipcz_rule.specs.Rule.{St, InParts, Rules, puts_of, gets_of, drops_of}
use Rattle.ipcz_rule.specs.Kinds.{together, spent, JoinsParts}
use Rattle.ipcz_rule.proofs.Inboxes.{has_not}
use Rattle.ipcz_rule.proofs.Moved.{Stays, at_inside}
use Rattle.ipcz_rule.proofs.Histories.{StoodCaller, histories_move, went, went_there, went_not, no_caller}

-- if two lists of parts are read together, one of the two was read
pub in_both : (xs ys : List Part) (k : ℕ) (p : Part) → get_elem? (xs ++ ys) k ≡ some p → ((j : ℕ) × (get_elem? xs j ≡ some p)) ⊎ ((j : ℕ) × (get_elem? ys j ≡ some p))
in_both [] ys k p e = inr (k, e)
in_both (x ∷ xs) ys zero p e = inl (0, e)
in_both (x ∷ xs) ys (suc k) p e = ⊎_elim (λ (t : (j : ℕ) × (get_elem? xs j ≡ some p)). inl (suc t.0, t.1)) (λ (t : (j : ℕ) × (get_elem? ys j ≡ some p)). inr t) (in_both xs ys k p e)

at_behind : (xs ys : List Part) (k : ℕ) (p : Part) → get_elem? ys k ≡ some p → (j : ℕ) × (get_elem? (xs ++ ys) j ≡ some p)
at_behind [] ys k p e = (k, e)
at_behind (x ∷ xs) ys k p e = let h = at_behind xs ys k p e in (suc h.0, h.1)

module _ (views : List View) (id : ℕ) (v : View) (other : ℕ) (w : View) (at : get_elem? views id ≡ some v) (apart : ¬ (other ≡ id)) (at_other : get_elem? (set views id (together v w)) other ≡ some w) where
  abbrev first : List View
  first = set views id (together v w)

  abbrev both : List View
  both = set first other spent

  was : get_elem? views other ≡ some w
  was = sym (set_else views id other (together v w) apart) ∙ at_other

  seat_both : get_elem? both id ≡ some (together v w)
  seat_both = set_else first other id spent (λ e. apart (sym e)) ∙ set_here views id (together v w) (at_inside views id v at)

  -- each part of a view is still a part of one
  pub part_goes : (j k : ℕ) (u : View) (q : Part) → get_elem? views j ≡ some u → get_elem? u.parts k ≡ some q → (a : ℕ) × (x : View) × (b : ℕ) × (get_elem? both a ≡ some x) × (get_elem? x.parts b ≡ some q)
  part_goes j k u q seat there = dite (ℕ_discrete j other)
      (λ e. let same : w ≡ u = some-injective w u (sym was ∙ (ap (get_elem? views) (sym e) ∙ seat)) in
      let h = at_behind v.parts w.parts k q (ap (λ z. get_elem? z.parts k) same ∙ there) in
      (id, together v w, h.0, seat_both, h.1))
      (λ ne. dite (ℕ_discrete j id)
      (λ e. let same : v ≡ u = some-injective v u (sym at ∙ (ap (get_elem? views) (sym e) ∙ seat)) in
      (id, together v w, k, seat_both, at_longer v.parts w.parts k q (ap (λ z. get_elem? z.parts k) same ∙ there)))
      (λ far. (j, u, k, set_else first other j spent ne ∙ (set_else views id j (together v w) far ∙ seat), there)))

  -- each part of a view was a part of one
  pub part_came : (a b : ℕ) (x : View) (q : Part) → get_elem? both a ≡ some x → get_elem? x.parts b ≡ some q → (j : ℕ) × (u : View) × (k : ℕ) × (get_elem? views j ≡ some u) × (get_elem? u.parts k ≡ some q)
  part_came a b x q seat there = ⊎_elim
      (λ (t : (a ≡ other) × (spent ≡ x)). absurd (some-ne-none q (sym (subst (λ (z : View). get_elem? z.parts b ≡ some q) (sym t.1) there))))
      (λ (t : (a ≢ other) × (get_elem? first a ≡ some x)). ⊎_elim
      (λ (y : (a ≡ id) × (together v w ≡ x)). ⊎_elim
      (λ (z : (i : ℕ) × (get_elem? v.parts i ≡ some q)). (id, v, z.0, at, z.1))
      (λ (z : (i : ℕ) × (get_elem? w.parts i ≡ some q)). (other, w, z.0, was, z.1))
      (in_both v.parts w.parts b q (subst (λ (z : View). get_elem? z.parts b ≡ some q) (sym y.1) there)))
      (λ (y : (a ≢ id) × (get_elem? views a ≡ some x)). (a, x, b, y.1, there))
      (at_set views id a (together v w) x t.1))
      (at_set first other a spent x seat)

  -- each caller of a view was a caller of one: of the two that are joined it is the second's, if that has one
  lent : (seat_of : ℕ → ℕ) (c : CallerView) (o : Option CallerView) → w.caller ≡ o → lent_caller v.caller o ≡ Some c → StoodCaller views c (λ b. seat_of c.id ≡ b → went other id seat_of c.id ≡ id)
  lent seat_of c None none has = (id, v, at, has, λ e. went_not other id seat_of c.id id (λ same. apart (sym same)) e)
  lent seat_of c (Some d) some_d has = (other, w, was, some_d ∙ has, λ e. went_there other id seat_of c.id e)

  pub caller_came : (seat_of : ℕ → ℕ) (a : ℕ) (x : View) (c : CallerView) → get_elem? both a ≡ some x → x.caller ≡ Some c → StoodCaller views c (λ b. seat_of c.id ≡ b → went other id seat_of c.id ≡ a)
  caller_came seat_of a x c seat has = ⊎_elim
      (λ (t : (a ≡ other) × (spent ≡ x)). absurd (no_caller spent x c refl t.1 has))
      (λ (t : (a ≢ other) × (get_elem? first a ≡ some x)). ⊎_elim
      (λ (y : (a ≡ id) × (together v w ≡ x)). subst (λ (k : ℕ). StoodCaller views c (λ b. seat_of c.id ≡ b → went other id seat_of c.id ≡ k)) (sym y.0) (lent seat_of c w.caller refl (ap (λ (z : View). z.caller) y.1 ∙ has)))
      (λ (y : (a ≢ id) × (get_elem? views a ≡ some x)). (a, x, y.1, has, λ e. went_not other id seat_of c.id a t.0 e))
      (at_set views id a (together v w) x t.1))
      (at_set first other a spent x seat)

  goes : {X : Type 0} (of : Part → List X) (x : X) → InParts views of x → InParts both of x
  goes of x h = let t = part_goes h.id h.place h.view h.part h.seat h.there in record { id = t.0; view = t.1; place = t.2; part = h.part; index = h.index; seat = t.3; there = t.4; entry = h.entry }

  came : {X : Type 0} (of : Part → List X) (x : X) → InParts both of x → InParts views of x
  came of x h = let t = part_came h.id h.place h.view h.part h.seat h.there in record { id = t.0; view = t.1; place = t.2; part = h.part; index = h.index; seat = t.3; there = t.4; entry = h.entry }

-- join: the first seat is then that of each node of the other
pub joins : JoinsParts
joins count size id v other w s r at apart at_other =
    let was_other : get_elem? s.views other ≡ some w = sym (set_else s.views id other (together v w) apart) ∙ at_other in
    let owner' : ℕ → ℕ = λ n. either (eqb (r.owner n) other) id (r.owner n) in
    let moves : (n j : ℕ) → r.owner n ≡ j → j ≢ other → owner' n ≡ j = λ n j e ne. ap (λ (b : Bool). either b id (r.owner n)) (ne_eqb (r.owner n) other (λ h. ne (sym e ∙ h))) ∙ e in
    let comes : (n : ℕ) → r.owner n ≡ other → owner' n ≡ id = λ n e. ap (λ (b : Bool). either b id (r.owner n)) (eq-eqb (r.owner n) other e) in
    let vs1 = set s.views id (together v w) in
    let j = r.joined in record {
      world = r.world;
      books = r.books;
      routes = r.routes;
      owner = owner';
      nodes = r.nodes;
      words = r.words;
      shows = record {
        wide = r.shows.wide;
        deep = r.shows.deep;
        links = r.shows.links;
        claims = r.shows.claims;
        mail = r.shows.mail;
        parts = λ a x b q seat there. ⊎_elim
            (λ (t : (a ≡ other) × (spent ≡ x)). absurd (some-ne-none q (sym (subst (λ (z : View). get_elem? z.parts b ≡ some q) (sym t.1) there))))
            (λ (t : (a ≢ other) × (get_elem? vs1 a ≡ some x)). ⊎_elim
            (λ (y : (a ≡ id) × (together v w ≡ x)). ⊎_elim
            (λ (z : (i : ℕ) × (get_elem? v.parts i ≡ some q)). let known = r.shows.parts id v z.0 q at z.1 in (moves q.node id known.0 (λ e. apart (sym e)) ∙ sym y.0, known.1))
            (λ (z : (i : ℕ) × (get_elem? w.parts i ≡ some q)). let known = r.shows.parts other w z.0 q was_other z.1 in (comes q.node known.0 ∙ sym y.0, known.1))
            (in_both v.parts w.parts b q (subst (λ (z : View). get_elem? z.parts b ≡ some q) (sym y.1) there)))
            (λ (y : (a ≢ id) × (get_elem? s.views a ≡ some x)). let known = r.shows.parts a x b q y.1 there in (moves q.node a known.0 t.0, known.1))
            (at_set s.views id a (together v w) x t.1))
            (at_set vs1 other a spent x seat);
      };
      inboxes = record {
        full = r.inboxes.full;
        announced = λ a x k q to seat there says. ⊎_elim
            (λ (t : (a ≡ other) × (spent ≡ x)). absurd (has_not spent x to refl t.1 says))
            (λ (t : (a ≢ other) × (get_elem? vs1 a ≡ some x)). ⊎_elim
            (λ (y : (a ≡ id) × (together v w ≡ x)). absurd (has_not (together v w) x to refl y.1 says))
            (λ (y : (a ≢ id) × (get_elem? s.views a ≡ some x)). r.inboxes.announced a x k q to y.1 there says)
            (at_set s.views id a (together v w) x t.1))
            (at_set vs1 other a spent x seat);
      };
      joined = record {
        put = λ e n item h. goes s.views id v other w at apart at_other puts_of ((e, n), item) (j.put e n item h);
        put_only = λ e n item h. j.put_only e n item (came s.views id v other w at apart at_other puts_of ((e, n), item) h);
        got = λ e n q h. goes s.views id v other w at apart at_other gets_of ((e, n), q) (j.got e n q h);
        got_only = λ e n q h. j.got_only e n q (came s.views id v other w at apart at_other gets_of ((e, n), q) h);
        gone = λ e n h l. goes s.views id v other w at apart at_other drops_of (e, n) (j.gone e n h l);
        gone_only = λ e n h. j.gone_only e n (came s.views id v other w at apart at_other drops_of (e, n) h);
      };
      lawful = r.lawful;
      lengths = r.lengths;
      strays = r.strays;
      sources = r.sources;
      counted = λ a x k n seat there. ⊎_elim
          (λ (t : (a ≡ other) × (spent ≡ x)). absurd (some-ne-none (r.world.size, n) (sym (subst (λ (z : View). get_elem? z.seen k ≡ some (r.world.size, n)) (sym t.1) there))))
          (λ (t : (a ≢ other) × (get_elem? vs1 a ≡ some x)). ⊎_elim
          (λ (y : (a ≡ id) × (together v w ≡ x)). r.counted id v k n at (ap (λ (z : View). get_elem? z.seen k) y.1 ∙ there))
          (λ (y : (a ≢ id) × (get_elem? s.views a ≡ some x)). r.counted a x k n y.1 there)
          (at_set s.views id a (together v w) x t.1))
          (at_set vs1 other a spent x seat);
      parts = λ node below. let h = r.parts node below in
          let t = part_goes s.views id v other w at apart at_other h.id h.place h.view h.part h.seat h.there in
          record { id = t.0; view = t.1; place = t.2; part = h.part; seat = t.3; there = t.4; node_is = h.node_is };
      histories = histories_move s.views (set vs1 other spent) (went other id r.histories.seat_of) r.histories
          (inl (sym (length-set vs1 other spent ∙ length-set s.views id (together v w))))
          (part_came s.views id v other w at apart at_other)
          (caller_came s.views id v other w at apart at_other r.histories.seat_of);
    }

-- it shows the same
pub joins_stay : (count size id : ℕ) (v : View) (other : ℕ) (w : View) (s : St) (r : Rules count size s) (at : get_elem? s.views id ≡ some v) (apart : ¬ (other ≡ id))
    (there : get_elem? (set s.views id (together v w)) other ≡ some w) →
    (r' : Rules count size record { words = s.words; homes = s.homes; views = set (set s.views id (together v w)) other spent }) × Stays r r'
unfolding joins
joins_stay count size id v other w s r at apart there = (joins count size id v other w s r at apart there, (refl, refl, refl))

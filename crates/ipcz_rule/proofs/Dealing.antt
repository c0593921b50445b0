-- Deal: a new seat gets the first part of a seat's view, the seat keeps the others, and the shown world and books stay.
use Rattle.std.specs.Prelude.{◌≡◌, ◌≢◌, ◌⊎◌, ◌<◌, ◌+◌, ◌-◌, ℕ, zero, suc, Bool, List, [], ◌∷◌, ◌++◌, length, refl}
use Rattle.std.proofs.Common.{arith, ap, ◌∙◌, sym, subst, inl, inr, ⊎_elim, set, length-set, length-append, eq-eqb, ne_eqb, eqb}
use prog.Atomic.{either}
use mathlib.Core.Option.{some, some-injective}
use mathlib.Core.Logic.{dite}
use native.Mathlib.Decide.{ℕ_discrete}
use lib.ListN.{get_elem?}
use Rattle.atomic_table.specs.Table.{Splits}
use Rattle.atomic_table.proofs.Lists.{at_set, set_here, set_else, at_longer, at_last, at_snoc}
use Rattle.ipcz_rule.specs.declared.view.View.{View}
use Rattle.ipcz_rule.specs.declared.view.Part.{Part}
use Rattle.ipcz_rule.specs.Rule.{St, Spells, InParts, Rules, puts_of, gets_of, drops_of}
use Rattle.ipcz_rule.specs.Start.{head_parts, tail_parts, dealt, after_deal, opening_part, opening_parts}
use Rattle.ipcz_rule.proofs.Inboxes.{has_not}
use Rattle.ipcz_rule.proofs.Moved.{Stays, at_inside}
use Rattle.ipcz_rule.proofs.Histories.{only, at_end, histories_move, no_caller}

module _ (views : List View) (id : ℕ) (v : View) (p : Part) (ps : List Part) (at : get_elem? views id ≡ some v) (is : v.parts ≡ p ∷ ps) where
  abbrev kept : List View
  kept = set views id (after_deal v)

  abbrev both : List View
  both = kept ++ dealt v ∷ []

  as_many : length kept ≡ length views
  as_many = length-set views id (after_deal v)

  new_seat : get_elem? both (length views) ≡ some (dealt v)
  new_seat = at_last kept (dealt v) (length views) as_many

  old_seat : get_elem? both id ≡ some (after_deal v)
  old_seat = at_longer kept (dealt v ∷ []) id (after_deal v) (set_here views id (after_deal v) (at_inside views id v at))

  behind : (k : ℕ) (q : Part) → get_elem? ps k ≡ some q → get_elem? (after_deal v).parts k ≡ some q
  behind k q e = ap (λ (l : List Part). get_elem? (tail_parts l) k) is ∙ e

  alone : get_elem? (dealt v).parts 0 ≡ some p
  alone = ap (λ (l : List Part). get_elem? (head_parts l) 0) is

  -- each part of a view is still a part of one
  pub part_goes : (j k : ℕ) (u : View) (q : Part) → get_elem? views j ≡ some u → get_elem? u.parts k ≡ some q →
      (a : ℕ) × (x : View) × (b : ℕ) × (get_elem? both a ≡ some x) × (get_elem? x.parts b ≡ some q)
  part_goes j k u q seat there = dite (ℕ_discrete j id)
      (λ e. let same : v ≡ u = some-injective v u (sym at ∙ (ap (get_elem? views) (sym e) ∙ seat)) in
      own k (sym (ap (λ (l : List Part). get_elem? l k) (sym (ap (λ (z : View). z.parts) same) ∙ is)) ∙ there))
      (λ far. (j, u, k, at_longer kept (dealt v ∷ []) j u (set_else views id j (after_deal v) far ∙ seat), there))
    where
      own : (k : ℕ) → get_elem? (p ∷ ps) k ≡ some q → (a : ℕ) × (x : View) × (b : ℕ) × (get_elem? both a ≡ some x) × (get_elem? x.parts b ≡ some q)
      own zero e = (length views, dealt v, 0, new_seat, alone ∙ e)
      own (suc k) e = (id, after_deal v, k, old_seat, behind k q e)

  -- each part of a view was a part of one: the new seat's is the one that was dealt, and those of the old seat stood behind it
  pub part_came : (a b : ℕ) (x : View) (q : Part) → get_elem? both a ≡ some x → get_elem? x.parts b ≡ some q →
      ((a ≡ length views) × (p ≡ q)) ⊎ (((a ≡ id) × (get_elem? ps b ≡ some q)) ⊎ ((a ≢ id) × (get_elem? views a ≡ some x)))
  part_came a b x q seat there = ⊎_elim
      (λ (before : get_elem? kept a ≡ some x). ⊎_elim
      (λ (t : (a ≡ id) × (after_deal v ≡ x)). inr (inl (t.0, sym (ap (λ (l : List Part). get_elem? (tail_parts l) b) is) ∙ (ap (λ (z : View). get_elem? z.parts b) t.1 ∙ there))))
      (λ (t : (a ≢ id) × (get_elem? views a ≡ some x)). inr (inr t))
      (at_set views id a (after_deal v) x before))
      (λ (t : (a ≡ length views) × (dealt v ≡ x)). inl (t.0, only x.parts p q b (sym (ap (λ (z : View). z.parts) t.1) ∙ ap head_parts is) there))
      (at_end kept (dealt v) x a as_many seat)

  -- so the same entries stand in parts
  goes : {X : Type 0} (of : Part → List X) (x : X) → InParts views of x → InParts both of x
  goes of x h = let t = part_goes h.id h.place h.view h.part h.seat h.there in
      record { id = t.0; view = t.1; place = t.2; part = h.part; index = h.index; seat = t.3; there = t.4; entry = h.entry }

  came : {X : Type 0} (of : Part → List X) (x : X) → InParts both of x → InParts views of x
  came of x h = ⊎_elim
      (λ (t : (h.id ≡ length views) × (p ≡ h.part)). record {
        id = id;
        view = v;
        place = 0;
        part = p;
        index = h.index;
        seat = at;
        there = ap (λ (l : List Part). get_elem? l 0) is;
        entry = ap (λ (z : Part). get_elem? (of z) h.index) t.1 ∙ h.entry;
      })
      (λ (s : ((h.id ≡ id) × (get_elem? ps h.place ≡ some h.part)) ⊎ ((h.id ≢ id) × (get_elem? views h.id ≡ some h.view))). ⊎_elim
      (λ (t : (h.id ≡ id) × (get_elem? ps h.place ≡ some h.part)). record {
        id = id;
        view = v;
        place = suc h.place;
        part = h.part;
        index = h.index;
        seat = at;
        there = ap (λ (l : List Part). get_elem? l (suc h.place)) is ∙ t.1;
        entry = h.entry;
      })
      (λ (t : (h.id ≢ id) × (get_elem? views h.id ≡ some h.view)). record {
        id = h.id;
        view = h.view;
        place = h.place;
        part = h.part;
        index = h.index;
        seat = t.1;
        there = h.there;
        entry = h.entry;
      })
      s)
      (part_came h.id h.place h.view h.part h.seat h.there)

-- deal: the new seat is then that of the node
pub deals : (count size id : ℕ) (v : View) (p : Part) (ps : List Part) → v.parts ≡ p ∷ ps →
    ((k : ℕ) (q : Part) → get_elem? ps k ≡ some q → q.node ≢ p.node) → Splits (Rules count size) id v (after_deal v) (dealt v)
deals count size id v p ps is others s r at =
    let last : ℕ = length s.views in
    let owner' : ℕ → ℕ = λ n. either (eqb n p.node) last (r.owner n) in
    let mine = r.shows.parts id v 0 p at (ap (λ (l : List Part). get_elem? l 0) is) in
    let stays : (n : ℕ) → n ≢ p.node → owner' n ≡ r.owner n = λ n ne. ap (λ (b : Bool). either b last (r.owner n)) (ne_eqb n p.node ne) in
    let moves : owner' p.node ≡ last = ap (λ (b : Bool). either b last (r.owner p.node)) (eq-eqb p.node p.node refl) in
    let j = r.joined in record {
      world = r.world;
      books = r.books;
      routes = r.routes;
      owner = owner';
      nodes = r.nodes;
      words = r.words;
      shows = record {
        wide = r.shows.wide;
        deep = r.shows.deep;
        links = r.shows.links;
        claims = r.shows.claims;
        mail = r.shows.mail;
        parts = λ a x b q seat there. ⊎_elim
            (λ (t : (a ≡ last) × (p ≡ q)). subst (λ (z : Part). (owner' z.node ≡ a) × Spells s.words r.world z) t.1 (moves ∙ sym t.0, mine.1))
            (λ (h : ((a ≡ id) × (get_elem? ps b ≡ some q)) ⊎ ((a ≢ id) × (get_elem? s.views a ≡ some x))). ⊎_elim
            (λ (t : (a ≡ id) × (get_elem? ps b ≡ some q)).
            let known = r.shows.parts id v (suc b) q at (ap (λ (l : List Part). get_elem? l (suc b)) is ∙ t.1) in
            (stays q.node (others b q t.1) ∙ (known.0 ∙ sym t.0), known.1))
            (λ (t : (a ≢ id) × (get_elem? s.views a ≡ some x)).
            let known = r.shows.parts a x b q t.1 there in
            (stays q.node (λ e. t.0 (sym known.0 ∙ (ap r.owner e ∙ mine.0))) ∙ known.0, known.1))
            h)
            (part_came s.views id v p ps at is a b x q seat there);
      };
      inboxes = record {
        full = r.inboxes.full;
        announced = λ a x k q to seat there says. ⊎_elim
            (λ (before : get_elem? (set s.views id (after_deal v)) a ≡ some x). ⊎_elim
            (λ (t : (a ≡ id) × (after_deal v ≡ x)). absurd (has_not (after_deal v) x to refl t.1 says))
            (λ (t : (a ≢ id) × (get_elem? s.views a ≡ some x)). r.inboxes.announced a x k q to t.1 there says)
            (at_set s.views id a (after_deal v) x before))
            (λ (new : dealt v ≡ x). absurd (has_not (dealt v) x to refl new says))
            (at_snoc (set s.views id (after_deal v)) (dealt v) x a seat);
      };
      joined = record {
        put = λ e n item h. goes s.views id v p ps at is puts_of ((e, n), item) (j.put e n item h);
        put_only = λ e n item h. j.put_only e n item (came s.views id v p ps at is puts_of ((e, n), item) h);
        got = λ e n q h. goes s.views id v p ps at is gets_of ((e, n), q) (j.got e n q h);
        got_only = λ e n q h. j.got_only e n q (came s.views id v p ps at is gets_of ((e, n), q) h);
        gone = λ e n h l. goes s.views id v p ps at is drops_of (e, n) (j.gone e n h l);
        gone_only = λ e n h. j.gone_only e n (came s.views id v p ps at is drops_of (e, n) h);
      };
      lawful = r.lawful;
      lengths = r.lengths;
      strays = r.strays;
      sources = r.sources;
      counted = λ a x k n seat there. ⊎_elim
          (λ (before : get_elem? (set s.views id (after_deal v)) a ≡ some x). ⊎_elim
          (λ (t : (a ≡ id) × (after_deal v ≡ x)). r.counted id v k n at (ap (λ (z : View). get_elem? z.seen k) t.1 ∙ there))
          (λ (t : (a ≢ id) × (get_elem? s.views a ≡ some x)). r.counted a x k n t.1 there)
          (at_set s.views id a (after_deal v) x before))
          (λ (new : dealt v ≡ x). r.counted id v k n at (ap (λ (z : View). get_elem? z.seen k) new ∙ there))
          (at_snoc (set s.views id (after_deal v)) (dealt v) x a seat);
      parts = λ node below. let h = r.parts node below in
          let t = part_goes s.views id v p ps at is h.id h.place h.view h.part h.seat h.there in
          record { id = t.0; view = t.1; place = t.2; part = h.part; seat = t.3; there = t.4; node_is = h.node_is };
      histories = histories_move s.views (set s.views id (after_deal v) ++ dealt v ∷ []) r.histories.seat_of r.histories
          (inr (ap (λ n. n + 1) (sym (length-set s.views id (after_deal v))) ∙ sym (length-append (set s.views id (after_deal v)) (dealt v ∷ []))))
          (λ a b x q seat there. ⊎_elim
          (λ (t : (a ≡ last) × (p ≡ q)). (id, v, 0, at, ap (λ (l : List Part). get_elem? l 0) is ∙ ap some t.1))
          (λ (t : ((a ≡ id) × (get_elem? ps b ≡ some q)) ⊎ ((a ≢ id) × (get_elem? s.views a ≡ some x))). ⊎_elim
          (λ (y : (a ≡ id) × (get_elem? ps b ≡ some q)). (id, v, suc b, at, ap (λ (l : List Part). get_elem? l (suc b)) is ∙ y.1))
          (λ (y : (a ≢ id) × (get_elem? s.views a ≡ some x)). (a, x, b, y.1, there))
          t)
          (part_came s.views id v p ps at is a b x q seat there))
          (λ a x c seat has. ⊎_elim
          (λ (before : get_elem? (set s.views id (after_deal v)) a ≡ some x). ⊎_elim
          (λ (t : (a ≡ id) × (after_deal v ≡ x)). (id, v, at, ap (λ (z : View). z.caller) t.1 ∙ has, λ e. e ∙ sym t.0))
          (λ (t : (a ≢ id) × (get_elem? s.views a ≡ some x)). (a, x, t.1, has, λ e. e))
          (at_set s.views id a (after_deal v) x before))
          (λ (new : dealt v ≡ x). absurd (no_caller (dealt v) x c refl new has))
          (at_snoc (set s.views id (after_deal v)) (dealt v) x a seat));
    }

-- the parts of the nodes from one on
pub left-some : (count n : ℕ) → n < count →
    opening_parts count n (count - n) ≡ opening_part count n ∷ opening_parts count (n + 1) (count - (n + 1))
left-some count n below =
    let more : count - n ≡ suc (count - (n + 1)) = omega (arith, below) in
    ap (opening_parts count n) more

-- it shows the same
pub deals_stay : (count size id : ℕ) (v : View) (p : Part) (ps : List Part) (is : v.parts ≡ p ∷ ps) (others : (k : ℕ) (q : Part) → get_elem? ps k ≡ some q → q.node ≢ p.node)
    (s : St) (r : Rules count size s) (at : get_elem? s.views id ≡ some v) →
    (r' : Rules count size record { words = s.words; homes = s.homes; views = set s.views id (after_deal v) ++ dealt v ∷ [] }) × Stays r r'
unfolding deals
deals_stay count size id v p ps is others s r at = (deals count size id v p ps is others s r at, (refl, refl, refl))

-- the views after it
pub dealt_opening : (count : ℕ) (v : View) (n : ℕ) → n < count → v.parts ≡ opening_parts count n (count - n) → (dealt v).parts ≡ opening_part count n ∷ []
dealt_opening count v n below is = ap head_parts (is ∙ left-some count n below)

pub kept_opening : (count : ℕ) (v : View) (n : ℕ) → n < count → v.parts ≡ opening_parts count n (count - n) →
    (after_deal v).parts ≡ opening_parts count (n + 1) (count - (n + 1))
kept_opening count v n below is = ap tail_parts (is ∙ left-some count n below)

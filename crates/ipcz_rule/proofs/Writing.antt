-- A call is written into the history; a caller comes, and gets its view back.
use Rattle.std.specs.Prelude.{◌≡◌, ◌≢◌, ◌+◌, ℕ, Bool, [], ◌∷◌, ◌++◌, List, length, slice_index, Some, refl}
use Rattle.std.proofs.Common.{arith, ap, ◌∙◌, sym, subst, inl, inr, ◌⊎◌, ⊎_elim, set, length-set, length-append}
use Rattle.std.proofs.lemmas.List.{set-get_or}
use mathlib.Core.Option.{some, some-ne-none}
use lib.ListN.{get_elem?}
use Rattle.atomic_table.specs.Table.{keeps}
use Rattle.atomic_table.proofs.Lists.{at_set, at_snoc, at_longer}
use Rattle.ipcz_rule.specs.declared.history.Call.{Call}
use Rattle.ipcz_rule.specs.declared.history.CallerView.{CallerView}
use Rattle.ipcz_rule.specs.declared.view.Part.{Part}
use Rattle.ipcz_rule.specs.declared.view.View.{View}
use Rattle.ipcz_rule.specs.Histories.{Histories, IsNoted, noted, entry_of, caller_view, new_caller, without_caller}
use Rattle.ipcz_rule.specs.Rule.{St, InParts, Rules, puts_of, gets_of, drops_of}
use Rattle.ipcz_world.specs.Ranks.{AreTurns}
use Rattle.ipcz_rule.specs.Kinds.{IsKept, IsTurns, Notes}
use Rattle.ipcz_rule.proofs.KeptEnds.{turns_keep}
use Rattle.ipcz_rule.proofs.Histories.{noted_view, histories_note, is_noted, histories_enter, histories_move, StoodPart, at_end, went, went_there, went_not, no_caller}
use Rattle.ipcz_rule.proofs.Moved.{Moves, Stays, stays_on, ruled_by, spelled}
use Rattle.ipcz_rule.proofs.Inboxes.{inboxes_stay}
use Rattle.ipcz_rule.proofs.Joins.{joined_same}

-- two parts of one node have one seat
pub apart_from : {count size : ℕ} (s : St) (r : Rules count size s) (id : ℕ) (v : View) (p : Part) → get_elem? s.views id ≡ some v → v.parts ≡ p ∷ [] →
    (j k : ℕ) (u : View) (q : Part) → j ≢ id → get_elem? s.views j ≡ some u → get_elem? u.parts k ≡ some q → p.node ≢ q.node
apart_from s r id v p at is j k u q ne at_j at_k same =
    let mine = (r.shows.parts id v 0 p at (ap (λ (l : List Part). get_elem? l 0) is)).0 in
    let theirs = (r.shows.parts j u k q at_j at_k).0 in
    ne (sym theirs ∙ (ap r.owner (sym same) ∙ mine))

-- the rule after a call was written down: what is shown stays
module _ {count size : ℕ} (s : St) (r : Rules count size s) (id : ℕ) (v : View) (p : Part) (c : CallerView) (call : Call) (at : get_elem? s.views id ≡ some v) (is : v.parts ≡ p ∷ []) (has : v.caller ≡ Some c) where
  abbrev pub told_view : View
  told_view = noted_view s.views id v p c call at is has r.histories (apart_from s r id v p at is)

  moves : Moves s r.world r.world s.words s.homes p (noted (entry_of p.node c.id call) p)
  moves = let sp = spelled s r id v p at is in record {
    count = refl;
    size = refl;
    wide = refl;
    deep = refl;
    links = r.shows.links;
    sources = r.sources;
    claims = r.shows.claims;
    grows = omega arith;
    mail = r.shows.mail;
    node = refl;
    own = record { inside = sp.inside; state = sp.state; message = sp.message; probed = sp.probed };
    others = λ q ne other. other;
  }

  written : (r' : Rules count size record { words = s.words; homes = s.homes; views = set s.views id told_view }) × Stays r r'
  written = ruled_by s r r.world r.books r.routes s.words s.homes id v told_view p (noted (entry_of p.node c.id call) p) at is refl (inl refl)
      (histories_note s.views id v p c call at is has r.histories (apart_from s r id v p at is)) moves
      (inboxes_stay s r r.world s.words id told_view refl refl refl (λ to l. refl) (λ from to lf lt e. inl e))
      (joined_same s.views id v told_view p (noted (entry_of p.node c.id call) p) r.books at is refl refl refl refl r.joined) r.lawful
      (AreTurns r.world r.books r.routes []) (refl, refl, refl)

  pub told : IsNoted v p c call told_view
  told = is_noted s.views id v p c call at is has r.histories (apart_from s r id v p at is)

  pub written_at : (i : ℕ) → (r' : Rules count size record { words = set s.words i (slice_index s.words i); homes = s.homes; views = set s.views id told_view }) × Stays r r'
  written_at i = subst (λ (ws : List ℕ). (r' : Rules count size record { words = ws; homes = s.homes; views = set s.views id told_view }) × Stays r r') (sym (set-get_or s.words i 0)) written

pub notes_turns : Notes IsTurns
notes_turns count size slots id i m p c call is has s r deep at small =
    (told_view s r id m.0 p c call at is has, keeps, tt, written_at s r id m.0 p c call at is has i, (told s r id m.0 p c call at is has, refl))

pub notes : (all : Bool) → Notes (IsKept all)
notes all count size slots id i m p c call is has s r deep at small =
    let t = notes_turns count size slots id i m p c call is has s r deep at small in (t.0, t.1, t.2, turns_keep all count size s _ r [] (λ e k side gone. gone) t.3, t.4)

-- a seat comes that has no part: the rule stays but for the history
module _ {count size : ℕ} (s : St) (r : Rules count size s) (new : View) (views : List View) (are : views ≡ s.views ++ new ∷ []) (parts : new.parts ≡ []) (seen : new.seen ≡ []) (histories : Histories views) where
  abbrev after : St
  after = record { words = s.words; homes = s.homes; views = views }

  -- a view that is there was there, or is the new one
  came : (a : ℕ) (x : View) → get_elem? views a ≡ some x → (get_elem? s.views a ≡ some x) ⊎ (new ≡ x)
  came a x seat = at_snoc s.views new x a (ap (λ l. get_elem? l a) (sym are) ∙ seat)

  stays : (a : ℕ) (x : View) → get_elem? s.views a ≡ some x → get_elem? views a ≡ some x
  stays a x seat = ap (λ l. get_elem? l a) are ∙ at_longer s.views (new ∷ []) a x seat

  no_part : (x : View) (b : ℕ) (q : Part) → new ≡ x → get_elem? x.parts b ≡ some q → ⊥
  no_part x b q same there = some-ne-none q (sym (ap (λ l. get_elem? l b) (sym parts ∙ ap (λ (z : View). z.parts) same) ∙ there))

  goes : {X : Type 0} (of : Part → List X) (x : X) → InParts s.views of x → InParts views of x
  goes of x h = record { id = h.id; view = h.view; place = h.place; part = h.part; index = h.index; seat = stays h.id h.view h.seat; there = h.there; entry = h.entry }

  back : {X : Type 0} (of : Part → List X) (x : X) → InParts views of x → InParts s.views of x
  back of x h = ⊎_elim
      (λ (was : get_elem? s.views h.id ≡ some h.view). record { id = h.id; view = h.view; place = h.place; part = h.part; index = h.index; seat = was; there = h.there; entry = h.entry })
      (λ (same : new ≡ h.view). absurd (no_part h.view h.place h.part same h.there))
      (came h.id h.view h.seat)

  pub longer : Rules count size after
  longer = let j = r.joined in record {
    world = r.world;
    books = r.books;
    routes = r.routes;
    owner = r.owner;
    nodes = r.nodes;
    words = r.words;
    shows = record {
      wide = r.shows.wide;
      deep = r.shows.deep;
      links = r.shows.links;
      claims = r.shows.claims;
      mail = r.shows.mail;
      parts = λ a x b q seat there. ⊎_elim
          (λ (was : get_elem? s.views a ≡ some x). r.shows.parts a x b q was there)
          (λ (same : new ≡ x). absurd (no_part x b q same there))
          (came a x seat);
    };
    inboxes = record {
      full = r.inboxes.full;
      announced = λ a x b q to seat there says. ⊎_elim
          (λ (was : get_elem? s.views a ≡ some x). r.inboxes.announced a x b q to was there says)
          (λ (same : new ≡ x). absurd (no_part x b q same there))
          (came a x seat);
    };
    joined = record {
      put = λ e n item h. goes puts_of ((e, n), item) (j.put e n item h);
      put_only = λ e n item h. j.put_only e n item (back puts_of ((e, n), item) h);
      got = λ e n q h. goes gets_of ((e, n), q) (j.got e n q h);
      got_only = λ e n q h. j.got_only e n q (back gets_of ((e, n), q) h);
      gone = λ e n h l. goes drops_of (e, n) (j.gone e n h l);
      gone_only = λ e n h. j.gone_only e n (back drops_of (e, n) h);
    };
    lawful = r.lawful;
    lengths = r.lengths;
    strays = r.strays;
    sources = r.sources;
    counted = λ a x k n seat there. ⊎_elim
        (λ (was : get_elem? s.views a ≡ some x). r.counted a x k n was there)
        (λ (same : new ≡ x). absurd (some-ne-none (r.world.size, n) (sym (ap (λ l. get_elem? l k) (sym seen ∙ ap (λ (z : View). z.seen) same) ∙ there))))
        (came a x seat);
    parts = λ node below. let h = r.parts node below in
        record { id = h.id; view = h.view; place = h.place; part = h.part; seat = stays h.id h.view h.seat; there = h.there; node_is = h.node_is };
    histories = histories;
  }

  -- it shows the same
  pub longer_stays : Stays r longer
  unfolding longer
  longer_stays = (refl, refl, refl)

-- a caller that has called nothing yet comes, whatever the table is
pub callers_come : {count size : ℕ} (s : St) (r : Rules count size s) →
    (r' : Rules count size record { words = s.words; homes = s.homes; views = s.views ++ caller_view (Some (new_caller (length s.views))) ∷ [] }) × Stays r r'
callers_come s r =
    let new = caller_view (Some (new_caller (length s.views))) in
    let h = histories_enter s.views new r.histories refl in
    (longer s r new (s.views ++ new ∷ []) refl refl refl h, longer_stays s r new (s.views ++ new ∷ []) refl refl refl h)

-- the caller that a seat has goes on with a seat of its own: first the seat has none, and then the other comes
module _ {count size : ℕ} (s : St) (r : Rules count size s) (id : ℕ) (v : View) (p : Part) (at : get_elem? s.views id ≡ some v) (is : v.parts ≡ p ∷ []) where
  abbrev left : List View
  left = set s.views id (without_caller v)

  abbrev new : View
  new = caller_view v.caller

  abbrev last : ℕ
  last = length s.views

  as_many : length left ≡ length s.views
  as_many = length-set s.views id (without_caller v)

  -- each part that is there was there
  part_stood : (a b : ℕ) (x : View) (q : Part) → get_elem? left a ≡ some x → get_elem? x.parts b ≡ some q → StoodPart s.views q
  part_stood a b x q seat there = ⊎_elim
      (λ (t : (a ≡ id) × (without_caller v ≡ x)). (id, v, b, at, ap (λ (z : View). get_elem? z.parts b) t.1 ∙ there))
      (λ (t : (a ≢ id) × (get_elem? s.views a ≡ some x)). (a, x, b, t.1, there))
      (at_set s.views id a (without_caller v) x seat)

  part_stood_too : (a b : ℕ) (x : View) (q : Part) → get_elem? (left ++ new ∷ []) a ≡ some x → get_elem? x.parts b ≡ some q → StoodPart s.views q
  part_stood_too a b x q seat there = ⊎_elim
      (λ (was : get_elem? left a ≡ some x). part_stood a b x q was there)
      (λ (same : new ≡ x). absurd (some-ne-none q (sym (ap (λ (z : View). get_elem? z.parts b) same ∙ there))))
      (at_snoc left new x a seat)

  -- and so was each caller
  caller_stood : (a : ℕ) (x : View) (c : CallerView) → get_elem? left a ≡ some x → x.caller ≡ Some c → (a ≢ id) × (get_elem? s.views a ≡ some x)
  caller_stood a x c seat has = ⊎_elim
      (λ (t : (a ≡ id) × (without_caller v ≡ x)). absurd (no_caller (without_caller v) x c refl t.1 has))
      (λ (t : (a ≢ id) × (get_elem? s.views a ≡ some x)). t)
      (at_set s.views id a (without_caller v) x seat)

  alone : Histories left
  alone = histories_move s.views left r.histories.seat_of r.histories (inl (sym as_many)) part_stood
      (λ a x c seat has. let t = caller_stood a x c seat has in (a, x, t.1, has, λ e. e))

  both : Histories (left ++ new ∷ [])
  both = histories_move s.views (left ++ new ∷ []) (went id last r.histories.seat_of) r.histories
      (inr (ap (λ n. n + 1) (sym as_many) ∙ sym (length-append left (new ∷ [])))) part_stood_too
      (λ a x c seat has. ⊎_elim
      (λ (was : get_elem? left a ≡ some x). let t = caller_stood a x c was has in (a, x, t.1, has, λ e. went_not id last r.histories.seat_of c.id a t.0 e))
      (λ (t : (a ≡ last) × (new ≡ x)). (id, v, at, ap (λ (z : View). z.caller) t.1 ∙ has, λ e. went_there id last r.histories.seat_of c.id e ∙ sym t.0))
      (at_end left new x a as_many seat))

  same : Moves s r.world r.world s.words s.homes p p
  same = record {
    count = refl;
    size = refl;
    wide = refl;
    deep = refl;
    links = r.shows.links;
    sources = r.sources;
    claims = r.shows.claims;
    grows = omega arith;
    mail = r.shows.mail;
    node = refl;
    own = spelled s r id v p at is;
    others = λ q ne other. other;
  }

  left_alone : (r' : Rules count size record { words = s.words; homes = s.homes; views = left }) × Stays r r'
  left_alone = ruled_by s r r.world r.books r.routes s.words s.homes id v (without_caller v) p p at is is (inl refl) alone same
      (inboxes_stay s r r.world s.words id (without_caller v) refl refl refl (λ to l. refl) (λ from to lf lt e. inl e))
      (joined_same s.views id v (without_caller v) p p r.books at is is refl refl refl r.joined) r.lawful
      (AreTurns r.world r.books r.routes []) (refl, refl, refl)

  pub returns : (r' : Rules count size record { words = s.words; homes = s.homes; views = left ++ new ∷ [] }) × Stays r r'
  returns =
      let t : St = record { words = s.words; homes = s.homes; views = left } in
      (longer t left_alone.0 new (left ++ new ∷ []) refl refl refl both, stays_on r left_alone.0 (longer t left_alone.0 new (left ++ new ∷ []) refl refl refl both) left_alone.1 (longer_stays t left_alone.0 new (left ++ new ∷ []) refl refl refl both))

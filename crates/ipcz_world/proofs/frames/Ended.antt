-- A sink's end has no terminal any more: what is said of all but terminals and retired ends is kept, since the end is in no place.
use Rattle.ipcz_world.proofs.frames.NearInv.{NearInv}
use Rattle.ipcz_world.proofs.Vocabulary.{Words, Spares, opposite_end, End, Router, ends_in, World, Key, node_at, router_at, Books, is_closed, Records}
use Rattle.ipcz_world.proofs.Vocabulary.{At, is_nowhere, terminal_node, times, names_end, side_router, side_node, EndPlaces, HeldOnce, times_held}
use Rattle.ipcz_world.proofs.Vocabulary.{Gones, Retired, is_left, move_weight}
use Rattle.std.specs.Prelude.{◌≡◌, ◌≢◌, ◌≤◌, ◌<◌, ℕ, Bool, true, false, cond, Some, refl}
use Rattle.std.proofs.Common.{arith, sym, ◌∙◌, ap, inl, inr}
use Rattle.std.proofs.lemmas.Option.{same_Some}
use Rattle.ipcz_world.proofs.frames.OfRecords.{held_times, holds_times, in_places}
use Rattle.ipcz_base.specs.declared.message.Message.TheVariants as messages
use Rattle.ipcz_world.specs.Records.{Terminal, terminal_descriptor}
use Rattle.ipcz_world.proofs.facts.RecordsAfter.{set_terminal}
use Rattle.ipcz_world.proofs.frames.Booking.{flag, end_tells, in_router-within, total-has}
use Rattle.ipcz_world.proofs.frames.Holding.{times-has, times_held-at}
use Rattle.ipcz_world.proofs.frames.Weighing.{in_router-is, in_places-has, in_message-item}
use Rattle.ipcz_world.proofs.frames.Aside.{IsAside, KeepsOwners, central_left, peripheral_left, counts-aside, roles-aside}
use Rattle.ipcz_world.proofs.frames.Aside.{stands-aside, bypasses-aside, live-aside, stages-aside, controls-aside, moves-aside, books_kept-aside}
use Rattle.ipcz_world.proofs.frames.Aside.{items-aside, order-aside, proxy_numbers-aside, fresh_numbers-aside, conserved-aside, held_once-aside}

module _ (v : World) (b : Books) (g : Records) (e : End) (k : Key) (at : g.terminal e ≡ At k) where
  abbrev pub ended : Records
  ended = set_terminal g e Retired

  -- the end's terminal is told in nodes alone
  same_by : {X : Type 0} (f : Terminal → X) → f Retired ≡ f (At k) → (d : End) → f (ended.terminal d) ≡ f (g.terminal d)
  same_by f same d = elim (end_tells d e) [
    | inl a ↦ ap (λ c. f (cond c Retired (g.terminal d))) a.0 ∙ same ∙ ap f (sym at) ∙ ap (λ z. f (g.terminal z)) (sym a.1)
    | inr a ↦ ap (λ c. f (cond c Retired (g.terminal d))) a.0
  ]

  pub is_ended : IsAside g g.owner (central_left g) (peripheral_left g) ended.terminal
  unfolding is_nowhere terminal_descriptor move_weight is_left
  is_ended = record {
    linked = λ i. refl;
    more = λ l s e. e;
    nowhere = same_by is_nowhere refl;
    descriptor = same_by terminal_descriptor refl;
    weight = λ f. same_by (move_weight f) refl;
  }

  owners : KeepsOwners g g.owner
  owners = record { unclaimed = λ i. refl; fresh = λ o i e. e; link = λ i e. e }

  pub other-ended : (d : End) → d ≢ e → ended.terminal d ≡ g.terminal d
  other-ended d ne = elim (end_tells d e) [
    | inl a ↦ absurd (ne a.1)
    | inr a ↦ ap (λ c. cond c Retired (g.terminal d)) a.0
  ]

  pub words-ended : Words v g → Words v ended
  unfolding side_router side_node is_left
  words-ended law = record {
    each = λ i. let is = law.each i in assumption is;
    source = law.source;
  }

  pub spares-ended : Spares v g → Spares v ended
  spares-ended law = assumption law

  pub gones-ended : Gones v b g → Gones v b ended
  unfolding is_left
  gones-ended law = assumption law

  -- an end that is closed is in no place
  module _ (on : k.node < v.count) (on_nodes : (q : Key) (r : Router) → router_at v q ≡ Some r → q.node < v.count)
      (closed : is_closed b e ≡ true) (law : HeldOnce v b g) where
    most : (c : Bool) → cond c 0 1 ≤ 1
    most true = omega arith
    most false = omega arith

    unplaced : (in_places (names_end e) g v ≡ 0) × (times_held v e ≡ 0)
    unplaced = let l = most (is_nowhere (g.terminal e)) in
        (omega (arith, law.once e, ap flag closed, l), omega (arith, law.once e, ap flag closed, l))

    at_node : (n : ℕ) → terminal_node (g.terminal e) ≡ Some n → n ≡ k.node
    unfolding terminal_node
    at_node n h = same_Some n k.node (sym h ∙ ap terminal_node at)

    pub end_places-ended : EndPlaces v g → EndPlaces v ended
    end_places-ended places = record {
      held = λ n d h. away d n (places.held n d h) (λ f. let m = at_node n (ap (λ z. terminal_node (g.terminal z)) (sym f) ∙ places.held n d h) in
          let t = times_held-at v k.node e on in let one = holds_times d (node_at v n).held h in
          omega (arith, t, one, unplaced.1, ap (λ z. held_times z (node_at v n).held) f, ap (λ z. held_times e (node_at v z).held) m));
      pending = λ n d h. away d n (places.pending n d h) (λ f. let m = at_node n (ap (λ z. terminal_node (g.terminal z)) (sym f) ∙
          places.pending n d h) in
          let t = times_held-at v k.node e on in let one = times-has d (node_at v n).pending h in
          omega (arith, t, one, unplaced.1, ap (λ z. times z (node_at v n).pending) f, ap (λ z. times e (node_at v z).pending) m));
      each = λ q r a. record {
        out = λ n item d i h. away d q.node ((places.each q r a).out n item d i h) (λ f.
            let one = times-has d (ends_in item) h in
            let has = total-has (names_end e r.end) r.out_queue n item i in
            let le = in_router-within (names_end e) g v q r (on_nodes q r a) a in
            omega (arith, one, has, le, in_router-is (names_end e) r, unplaced.0, ap (λ z. times z (ends_in item)) f));
        inn = λ n item d i h. away d q.node ((places.each q r a).inn n item d i h) (λ f.
            let one = times-has d (ends_in item) h in
            let has = total-has (names_end e (opposite_end r.end)) r.in_queue n item i in
            let le = in_router-within (names_end e) g v q r (on_nodes q r a) a in
            omega (arith, one, has, le, in_router-is (names_end e) r, unplaced.0, ap (λ z. times z (ends_in item)) f));
      };
      within = λ n i l s number item moves d u h. away d n (places.within n i l s number item moves d u h) (λ f.
          let one = times-has d (ends_in item) h in
          let has = in_places-has (names_end e) g v n n i (messages.Item l s number item moves) u in
          omega (arith, one, has, in_message-item (names_end e) g l s number item moves, unplaced.0, ap (λ z. times z (ends_in item)) f));
    }
      where
        away : (d : End) (n : ℕ) → terminal_node (g.terminal d) ≡ Some n → (d ≡ e → ⊥) → terminal_node (ended.terminal d) ≡ Some n
        away d n t ne = ap terminal_node (other-ended d ne) ∙ t

    pub near-ended : NearInv v b g → NearInv v b ended
    near-ended law = record {
      counts = counts-aside is_ended v owners law.counts;
      ordered = law.ordered;
      shape = law.shape;
      roles = roles-aside is_ended v law.bypasses law.begun law.stands law.roles;
      begun = assumption law.begun;
      stands = stands-aside is_ended v law.stands;
      words = words-ended law.words;
      spares = spares-ended law.spares;
      bypasses = bypasses-aside is_ended v owners law.bypasses;
      live = live-aside is_ended v law.live;
      stages = stages-aside is_ended v law.stages;
      controls = controls-aside is_ended v law.controls;
      moves = moves-aside is_ended v law.moves;
      end_places = end_places-ended law.end_places;
      books_kept = books_kept-aside is_ended v law.books_kept;
      items = items-aside is_ended v law.items;
      order = order-aside is_ended v law.order;
      proxy_numbers = proxy_numbers-aside is_ended v law.proxy_numbers;
      fresh_numbers = fresh_numbers-aside is_ended v law.fresh_numbers;
      conserved = conserved-aside is_ended v law.conserved;
      held_once = held_once-aside is_ended v law.held_once;
      no_strays = law.no_strays;
    }

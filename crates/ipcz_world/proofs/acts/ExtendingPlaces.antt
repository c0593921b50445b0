-- A terminal becomes a proxy, and the message that takes its end along gets the descriptor: the messages, and the place of each end.
use Rattle.ipcz_world.proofs.frames.Opened.{links-open}
use Rattle.ipcz_world.proofs.Vocabulary.{Side, A, B, End, LinkId, Central, Descriptor, Item, Message, opposite, same_link, is_central, same_end}
use Rattle.ipcz_world.proofs.Vocabulary.{has_end, item_at, Router, ends_in, World, Key, node_at, router_at, Books, is_closed, Records, is_recorded}
use Rattle.ipcz_world.proofs.Vocabulary.{is_begun, inner_link, side_node, side_router, side_end, is_nowhere, terminal_node, view, IsUnderWay, makes}
use Rattle.ipcz_world.proofs.Vocabulary.{is_made_before, under_way, of_end, moves_of, names_end, times, total_list, Controls, of_bypass, control_weight}
use Rattle.ipcz_world.proofs.Vocabulary.{inner_of, moving_link, EndPlaces, BooksKept, times_held, Items, FreshNumbers, standing_router, none}
use Rattle.ipcz_world.proofs.Vocabulary.{descriptor_of, Moving, key_at, move_weight, IsItemUnderWay}
use Rattle.ipcz_world.proofs.frames.OfRecords.{holds, held_times, holds_times, in_message, in_places}
use Rattle.std.specs.Prelude.{◌≡◌, ◌≢◌, ◌⊎◌, ◌≤◌, ◌<◌, ◌+◌, ℕ, Bool, true, false, cond, Some, None, is_some, refl, List, [], ◌∷◌}
use Rattle.std.specs.Prelude.{◌++◌, length, slice_get}
use Rattle.std.proofs.Common.{arith, ap, subst, ◌∙◌, sym, inl, inr}
use Rattle.ipcz_base.specs.declared.message.Message.TheVariants as messages
use Rattle.ipcz_world.proofs.frames.Frames.{same_key_tells, same_key-itself}
use Rattle.ipcz_world.specs.Records.{PeripheralRecord}
use Rattle.ipcz_world.proofs.frames.RecordRules.{side_router-inner, side_node-proxy, side_node-inner}
use Rattle.ipcz_world.specs.Whereabouts.{times_closed}
use Rattle.ipcz_world.proofs.frames.Touching.{HasSameEnds}
use Rattle.ipcz_world.proofs.frames.Draining.{standing-standing}
use Rattle.ipcz_world.proofs.frames.Fitting.{fits_of, items_by}
use Rattle.ipcz_world.proofs.frames.Flowing.{IsRewritten, came_rewritten, made_still, under_way-rewritten, under_way-congr, weighed}
use Rattle.ipcz_world.proofs.frames.Flowing.{weighed-two, total_below-has}
use Rattle.ipcz_world.proofs.frames.Opened.{OpenInv, OpenMoves}
use Rattle.ipcz_world.proofs.frames.Weighing.{in_places-is, in_places-has, in_message-item}
use Rattle.ipcz_world.proofs.acts.Sending.{about-item, moves-item}
use Rattle.ipcz_world.proofs.acts.ExtendingAround.{next_key, extended, extended_records, IsGrown, IsExtend, other_link, other_key}
use Rattle.ipcz_world.proofs.acts.ExtendingAround.{inner_one, recorded_more, recorded_new, recorded_back, router_same, node_same, end_same}
use Rattle.ipcz_world.proofs.acts.ExtendingAround.{bypass_same, side_same, stood, inner_end_is, one_begun}
use Rattle.ipcz_world.proofs.acts.ExtendingItems.{makes-more, same_item, of_peer, about-peer, expected-peer, at_end_is, other_terminal}
use Rattle.ipcz_world.proofs.acts.ExtendingItems.{seen_extended, length_same, fits-extended}
use Rattle.ipcz_world.proofs.acts.ExtendingFacts.{last_of, total-append, central-inner, key_at-none, moving_link-moving, same_end-turned}
use Rattle.ipcz_world.proofs.acts.ExtendingFacts.{in_middle, one_or_none, two_ways, in_two_out, in_two_in}
use Rattle.ipcz_world.proofs.frames.FreshPairs.{terminal_node-at, expected_none, expected_alike, about_same}
use Rattle.ipcz_world.proofs.frames.Awaited.{expected_move-moving}
use Rattle.ipcz_world.proofs.frames.Booking.{expected_move-at}
use Rattle.ipcz_world.proofs.frames.Holding.{times-has}
use Rattle.ipcz_world.proofs.facts.Tests.{same_some}
use Rattle.ipcz_world.proofs.facts.LinkTests.{same_end-itself, same_end-tells}

-- with the message that gets the descriptor
module _ {w v : World} {b : Books} {g : Records} {q : Key} {r : Router} {a : ℕ} (law : OpenInv w b g) (is : IsExtend w q r a)
    (t : IsGrown w v q (extended w q r a)) {l : LinkId} {s : Side} {n : ℕ} {item : Item} {moves : List Descriptor} {pre post : List Message}
    (p : IsRewritten w v q.node a pre post (messages.Item l s n item moves)
    (messages.Item l s n item (moves ++ descriptor_of r (inner_link (next_key w q.node)) ∷ []))) (away : q.node ≢ a)
    (named : has_end r.end (ends_in item) ≡ true) (ends : HasSameEnds w v) where
  abbrev k : Key
  k = next_key w q.node

  abbrev h2 : Records
  h2 = extended_records w g q r a

  abbrev e2 : Descriptor
  e2 = descriptor_of r (inner_link k)

  abbrev m0 : Message
  m0 = messages.Item l s n item moves

  abbrev m1 : Message
  m1 = messages.Item l s n item (moves ++ e2 ∷ [])

  pub came : (from to i : ℕ) (x : Message) → IsUnderWay v from to i x →
      (IsUnderWay w from to i x) ⊎ ((x ≡ m1) × (from ≡ q.node) × (to ≡ a) × IsUnderWay w from to i m0)
  came = came_rewritten w v q.node a pre post m0 m1 p

  more : (link : LinkId) (u : Side) → makes link u m0 ≡ true → makes link u m1 ≡ true
  more link u e = makes-more link l u s n item moves e2 e

  still : (from to i : ℕ) (x : Message) → IsUnderWay v from to i x → (link : LinkId) (u : Side) → is_made_before w from to i link u ≡ true →
      is_made_before v from to i link u ≡ true
  still from to i x c link u e = made_still w v q.node a pre post m0 m1 p from to i x c link u (more link u) e

  -- an item under way was so, with moves of some kind
  item_came : (from to i : ℕ) (x : LinkId) (u : Side) (m : ℕ) (z : Item) (ds : List Descriptor) →
      IsUnderWay v from to i (messages.Item x u m z ds) → (cs : List Descriptor) × IsItemUnderWay w from to i x u m z cs
  item_came from to i x u m z ds c = elim (came from to i (messages.Item x u m z ds) c) [
    | inl o ↦ (ds, o)
    | inr o ↦ (moves, subst (λ f. IsUnderWay w from to i f) (same_item x l u s m n z item ds (moves ++ e2 ∷ []) moves o.0) o.3)
  ]

  pub items-extended : Items v h2
  items-extended = items_by v h2 (λ from to i x u m z ds c. let o = item_came from to i x u m z ds c in
      fits-extended w v b g q r a law is t from to i x u m (fits_of w g from to i x u m z o.0 law.items o.1)
      (still from to i (messages.Item x u m z ds) c x u))

  -- any message but an item was under way
  plain_came : (from to i : ℕ) (x : Message) → IsUnderWay v from to i x → (x ≡ m1 → ⊥) → IsUnderWay w from to i x
  plain_came from to i x c other = elim (came from to i x c) [ inl o ↦ o | inr o ↦ absurd (other o.0) ]

  -- no message begins a bypass of the new link
  peer_recorded : (from to i : ℕ) (x : LinkId) (u : Side) (old target fresh : ℕ) →
      IsUnderWay w from to i (messages.BypassPeer x u old target fresh) → same_link x (inner_link k) ≡ false
  peer_recorded from to i x u old target fresh c = go (same_link x (inner_link k)) refl
    where
      go : (o : Bool) → same_link x (inner_link k) ≡ o → same_link x (inner_link k) ≡ false
      go false e = e
      go true e =
          let f = weighed (λ from to. of_bypass g old (of_peer (inner_link k))) w from to i (messages.BypassPeer x u old target fresh) c in
          let one : of_bypass g old (of_peer (inner_link k)) (messages.BypassPeer x u old target fresh) ≡ 1 =
          about-peer g old (inner_link k) x u target fresh e in
          let zero : control_weight g (λ from to. of_peer (inner_link k)) old ≡ 0 =
          expected-peer g (inner_link k) old (λ st. other_link law is t (inner_of g old)
          ((law.bypasses old).inner (one_begun (g.bypass old).stage st))) in
          absurd (omega (arith, f, one, law.controls.control old (λ from to. of_peer (inner_link k)), zero))

  pub controls-extended : Controls v h2
  controls-extended = record {
    control = λ o f. let u = under_way-rewritten (λ from to. of_bypass h2 o (f from to)) w v q.node a pre post m0 m1 p in
        let same : under_way (λ from to. of_bypass h2 o (f from to)) w ≡ under_way (λ from to. of_bypass g o (f from to)) w =
        under_way-congr (λ from to. of_bypass h2 o (f from to)) (λ from to. of_bypass g o (f from to)) w
        (λ from to i m c. about_same g h2 o (f from to) m (bypass_same law is t)) in
        omega (
          arith,
          u,
          same,
          law.controls.control o f,
          about-item h2 o (f q.node a) l s n item moves,
          about-item h2 o (f q.node a) l s n item (moves ++ e2 ∷ []),
          expected_same f o,
        );
    will_stop = λ from to i x u m c. ap is_some (bypass_same law is t x) ∙ law.controls.will_stop from to i x u m
        (plain_came from to i (messages.ProxyWillStop x u m) c (λ e. grind (arith, e)));
    behind = λ from to i x u old target fresh c e. let o = plain_came from to i (messages.BypassPeer x u old target fresh) c
        (λ e. grind (arith, e)) in
        still from to i (messages.BypassPeer x u old target fresh) c x u
        (law.controls.behind from to i x u old target fresh o (sym
        (router_same law is t x u (peer_recorded from to i x u old target fresh o)) ∙ e));
    flush_central = λ from to i x u c. law.controls.flush_central from to i x u (flush from to i x u c);
    flush_recorded = λ from to i x u c. recorded_more law is t x
        (law.controls.flush_recorded from to i x u (flush from to i x u c));
    flush_to = λ from to i x u c. law.controls.flush_to from to i x u (flush from to i x u c) ∙ sym
        (node_same law is t x u (other_link law is t x
        (law.controls.flush_recorded from to i x u (flush from to i x u c))));
    flush_from = λ from to i x u c. law.controls.flush_from from to i x u (flush from to i x u c) ∙ sym
        (node_same law is t x (opposite u) (other_link law is t x
        (law.controls.flush_recorded from to i x u (flush from to i x u c))));
  }
    where
      flush : (from to i : ℕ) (x : LinkId) (u : Side) → IsUnderWay v from to i (messages.Flush x u) →
          IsUnderWay w from to i (messages.Flush x u)
      flush from to i x u c = plain_came from to i (messages.Flush x u) c (λ e. grind (arith, e))

      expected_same : (f : ℕ → ℕ → Message → ℕ) (o : ℕ) → control_weight h2 f o ≡ control_weight g f o
      expected_same f o = go (is_begun (g.bypass o)) refl
        where
          go : (c : Bool) → is_begun (g.bypass o) ≡ c → control_weight h2 f o ≡ control_weight g f o
          go true e = let n1 = node_same law is t (inner_of g o) B
              (other_link law is t (inner_of g o) ((law.bypasses o).inner e)) in let sd =
              side_same law is t o e in expected_alike g h2 f o refl n1 sd
              (λ z. node_same law is t (Central o) z refl)
          go false e = expected_none h2 f o e ∙ sym (expected_none g f o e)

  -- a descriptor is one of before, or the new one
  pub descriptor_came : (from to i j : ℕ) (x : Message) (c : Descriptor) → IsUnderWay v from to i x → slice_get (moves_of x) j ≡ Some c →
      ((z : Message) × IsUnderWay w from to i z × (slice_get (moves_of z) j ≡ Some c)) ⊎ ((c ≡ e2) × (from ≡ q.node) × (to ≡ a))
  descriptor_came from to i j x c u f = elim (came from to i x u) [
    | inl o ↦ inl (x, o, f)
    | inr o ↦ elim (last_of moves e2 c j (ap (λ ms. slice_get ms j) (sym (ap moves_of o.0 ∙ moves-item l s n item (moves ++ e2 ∷ []))) ∙
        f)) [
          | inl z ↦ inl (m0, o.3, ap (λ ms. slice_get ms j) (moves-item l s n item moves) ∙ z)
          | inr z ↦ inr (z, o.1, o.2)
        ]
  ]

  pub moves-extended : OpenMoves v h2
  moves-extended = record {
    within = λ m i x u z c ds e. elim (came m m i (messages.Item x u z c ds) e) [
      | inl o ↦ law.moves.within m i x u z c ds o
      | inr o ↦ absurd (away (sym o.1 ∙ o.2))
    ];
    recorded = λ from to i j m c u e. elim (descriptor_came from to i j m c u e) [
      | inl o ↦ recorded_more law is t c.link (law.moves.recorded from to i j o.0 c o.1 o.2)
      | inr o ↦ ap
          (λ z. is_recorded v h2 z.link) o.0 ∙ recorded_new law is t
    ];
    peripheral = λ from to i j m c u e. elim (descriptor_came from to i j m c u e)
        [ inl o ↦ law.moves.peripheral from to i j o.0 c o.1 o.2 | inr o ↦ ap (λ z. is_central z.link) o.0 ∙ central-inner k ];
    sender = λ from to i j m c u e. elim (descriptor_came from to i j m c u e) [
      | inl o ↦ node_same law is t c.link A (other_link law is t c.link
          (law.moves.recorded from to i j o.0 c o.1 o.2)) ∙ law.moves.sender from to i j o.0 c o.1 o.2
      | inr o ↦ ap (λ z. side_node h2 z.link A) o.0 ∙ side_node-proxy h2 k ∙ sym o.1
    ];
    receiver = λ from to i j m c u e. elim (descriptor_came from to i j m c u e) [
      | inl o ↦ node_same law is t c.link B (other_link law is t c.link
          (law.moves.recorded from to i j o.0 c o.1 o.2)) ∙ law.moves.receiver from to i j o.0 c o.1 o.2
      | inr o ↦ ap (λ z. side_node h2 z.link B) o.0 ∙ side_node-inner h2 k ∙ new_peripheral (λ z. z.node) ∙ sym o.2
    ];
    awaited = λ from to i j m c u e. elim (descriptor_came from to i j m c u e) [
      | inl o ↦ router_same law is t c.link B (other_link law is t c.link
          (law.moves.recorded from to i j o.0 c o.1 o.2)) ∙ law.moves.awaited from to i j o.0 c o.1 o.2
      | inr o ↦ ap (λ z. side_router h2 z.link B) o.0 ∙ side_router-inner h2 k ∙ new_peripheral (λ z. key_at z.node z.router)
    ];
    end = λ from to i j m c u e. elim (descriptor_came from to i j m c u e) [
      | inl o ↦ end_same law is t c.link B (other_link law is t c.link
          (law.moves.recorded from to i j o.0 c o.1 o.2)) ∙ law.moves.end from to i j o.0 c o.1 o.2
      | inr o ↦ ap (λ z. side_end h2 z.link B) o.0 ∙ inner_end_is h2 k B ∙ new_peripheral (λ z. z.end) ∙ ap (λ z. z.end) (sym o.0)
    ];
    one = λ e f. let u = under_way-rewritten (λ from to m. total_list (of_end e f) (moves_of m)) w v q.node a pre post m0 m1 p in
        let sum : total_list (of_end e f) (moves_of m1) ≡ total_list (of_end e f) (moves_of m0) + of_end e f e2 =
        ap (total_list (of_end e f)) (moves-item l s n item (moves ++ e2 ∷ [])) ∙ total-append (of_end e f) moves e2 ∙ ap
        (λ z. total_list (of_end e f) z + of_end e f e2) (sym (moves-item l s n item moves)) in
        weigh e f (same_end e r.end) refl (omega (arith, u, sum, law.moves.one e f));
    moving = λ x rec none. elim (recorded_back law is t (inner_link x) rec) [
      | inl o ↦ let f = other_link law is t (inner_link x) o in
          let same : h2.peripheral x ≡ g.peripheral x = grind (arith, other_key law is t x o) in
          let none2 : (g.peripheral x).router ≡ None = ap (λ z. z.router) (sym same) ∙ none in
          ap (λ z. moving_link (h2.terminal z.end)) same ∙ ap moving_link
          (ap h2.terminal (sym (inner_end_is g x B)) ∙ other_terminal w v b g q r a law is t x o
          (side_router-inner g x ∙ ap (key_at (g.peripheral x).node) none2 ∙ key_at-none (g.peripheral x).node) ∙ ap g.terminal
          (inner_end_is g x B)) ∙ law.moves.moving x o none2
      | inr o ↦ let same : x ≡ k = inner_one x k o in subst (λ z. moving_link (h2.terminal (h2.peripheral z).end) ≡ Some (inner_link z))
          (sym same) (ap (λ e. moving_link (h2.terminal e)) (new_peripheral (λ z. z.end)) ∙ ap moving_link new_terminal ∙ moving_link-moving
          e2)
    ];
  }
    where
      new_peripheral : {X : Type 0} (f : PeripheralRecord → X) → f (h2.peripheral k) ≡ f
          (record { end = r.end; proxy = q.serial; node = a; router = None; by = None; left = none })
      new_peripheral f = ap f (grind (arith, same_key-itself k))

      new_terminal : h2.terminal r.end ≡ Moving e2
      new_terminal = grind (arith, same_end-itself r.end)

      weigh : (e : End) (f : Descriptor → ℕ) (c : Bool) → same_end e r.end ≡ c →
          under_way (λ from to m. total_list (of_end e f) (moves_of m)) v ≡ move_weight f (g.terminal e) + of_end e f e2 →
          under_way (λ from to m. total_list (of_end e f) (moves_of m)) v ≡ move_weight f (h2.terminal e)
      weigh e f true c sum = let z : e ≡ r.end = same_end-tells e r.end c in
          let old : move_weight f (g.terminal e) ≡ 0 = ap (move_weight f) (ap g.terminal z ∙ at_end_is w v b g q r a law is t) ∙
          expected_move-at f q in
          let new : of_end e f e2 ≡ f e2 = grind (arith, z, same_end-itself r.end) in
          omega (arith, sum, old, new, ap (move_weight f) (ap h2.terminal z ∙ new_terminal) ∙ expected_move-moving f e2)
      weigh e f false c sum = let new : of_end e f e2 ≡ 0 = grind (arith, c, same_end-turned e r.end) in
          omega (arith, sum, new, ap (move_weight f) (same_terminal e c))
        where
          same_terminal : (e : End) → same_end e r.end ≡ false → h2.terminal e ≡ g.terminal e
          same_terminal e c = grind (arith, c)

  pub fresh_numbers-extended : FreshNumbers v h2
  fresh_numbers-extended x z at = let u = was_both x z at in record {
    own = λ e f len on off c.
        let le : len ≤ u.0.out_queue.current = (law.fresh_numbers x u.0 u.1).own e f len (ap (λ e. e.primary) (sym u.2) ∙ on)
        (ap (λ e. e.decaying) (sym u.2) ∙ off) (ap (λ e. e.length_to) (sym u.2) ∙ c) in omega (arith, le, u.3);
    comes = λ e f len from to i m c ds on off d o. let j = item_came from to i e.link e.side m c ds o in
        (law.fresh_numbers x u.0 u.1).comes e f len from to i m c j.0 (ap (λ e. e.primary) (sym u.2) ∙ on)
        (ap (λ e. e.decaying) (sym u.2) ∙ off) (sym (length_same w v b g q r a law is t f.link (opposite f.side)) ∙ d) j.1;
    other = λ c e f len on off d there.
        let recorded = (((links-open law) x u.0 u.1).primary e (ap (λ e. e.primary) (sym u.2) ∙ on)).recorded in
        let o = standing_came e.link (opposite e.side) c recorded there in
        let le : len ≤ o.0.out_queue.current = (law.fresh_numbers x u.0 u.1).other o.0 e f len (ap (λ e. e.primary) (sym u.2) ∙ on)
        (ap (λ e. e.decaying) (sym u.2) ∙ off) (sym (length_same w v b g q r a law is t f.link (opposite f.side)) ∙ d) o.1 in
        omega (arith, le, o.2);
  }
    where
      was_both : (x : Key) (z : Router) → router_at v x ≡ Some z →
          (u : Router) × (router_at w x ≡ Some u) × (z.outward ≡ u.outward) × (z.out_queue.current ≡ u.out_queue.current)
      was_both x z at = elim (stood law is t x z at) [
        | inl o ↦ (z, o.0, refl, refl)
        | inr n ↦ (
          r,
          ap (router_at w) n.1 ∙ is.here,
          ap (λ z. z.outward) n.0,
          ap (λ z. z.out_queue.current) n.0,
        )
      ]

      standing_came : (x : LinkId) (u : Side) (c : Router) → is_recorded w g x ≡ true → standing_router (view v h2 x u) ≡ Some c →
          (z : Router) × (standing_router (view w g x u) ≡ Some z) × (c.out_queue.current ≡ z.out_queue.current)
      standing_came x u c rec e = elim (seen_extended w v b g q r a law is t x u rec) [
        | inl o ↦ (c, ap standing_router (sym o) ∙ e, refl)
        | inr o ↦ let same : extended w q r a ≡ c = same_some (sym (ap standing_router o.new ∙ standing-standing (extended w q r a)) ∙ e) in
            (r, ap standing_router o.old ∙ standing-standing r, ap (λ z. z.out_queue.current) (sym same))
      ]

  -- what names the end that moves is the item under way, and nothing else
  at_message : IsUnderWay w q.node a (length pre) m0
  at_message = record {
    sender = p.sender;
    receiver = p.receiver;
    place =
        ap (λ ms. slice_get ms (length pre)) p.was ∙ in_middle pre post m0;
  }

  names_one : 1 ≤ in_message (names_end r.end) g m0
  names_one = omega (arith, in_message-item (names_end r.end) g l s n item moves, times-has r.end (ends_in item) named)

  at_most_one : in_places (names_end r.end) g w + (times_held w r.end + times_closed b r.end) ≤ 1
  at_most_one = one_or_none (is_nowhere (g.terminal r.end)) (in_places (names_end r.end) g w + (times_held w r.end + times_closed b r.end))
      (law.held_once.once r.end)

  placed : 1 ≤ in_places (names_end r.end) g w
  placed = omega (arith, names_one, in_places-has (names_end r.end) g w q.node a (length pre) m0 at_message)

  here_node : (m : ℕ) → terminal_node (g.terminal r.end) ≡ Some m → m < w.count
  here_node m e = subst (λ z. z < w.count) (same_some (sym (ap terminal_node (at_end_is w v b g q r a law is t) ∙ terminal_node-at q) ∙ e))
      (law.counts.on_node q r is.here)

  not_held : (m : ℕ) → terminal_node (g.terminal r.end) ≡ Some m →
      1 ≤ held_times r.end (node_at w m).held + times r.end (node_at w m).pending → ⊥
  not_held m e le = omega (
    arith,
    placed,
    at_most_one,
    le,
    total_below-has w.count m
        (λ j. held_times r.end (node_at w j).held + times r.end (node_at w j).pending) (here_node m e),
  )

  pub not_closed : is_closed b r.end ≡ false
  not_closed = go (is_closed b r.end) refl
    where
      go : (c : Bool) → is_closed b r.end ≡ c → is_closed b r.end ≡ false
      go false e = e
      go true e = absurd (omega (arith, placed, at_most_one, ap {B = ℕ} (λ c. cond c 1 0) e))

  term_kept : (e : End) (m : ℕ) → terminal_node (g.terminal e) ≡ Some m → (e ≡ r.end → ⊥) → terminal_node (h2.terminal e) ≡ Some m
  term_kept e m f other = go (same_end e r.end) refl
    where
      go : (c : Bool) → same_end e r.end ≡ c → terminal_node (h2.terminal e) ≡ Some m
      go true c = absurd (other (same_end-tells e r.end c))
      go false c = grind (arith, c, f)

  -- an item in a queue doesn't name it
  not_queued_out : (x : Key) (z : Router) (m : ℕ) (i : Item) → router_at w x ≡ Some z → item_at z.out_queue m ≡ Some i →
      has_end r.end (ends_in i) ≡ true → ⊥
  not_queued_out x z m i at f has =
      let two = in_two_out w g (names_end r.end) x z q.node a (length pre) m0 m i (law.counts.on_node x z at) at at_message f in
      omega (arith, two, names_one, at_most_one, times-has r.end (ends_in i) has)

  not_queued_in : (x : Key) (z : Router) (m : ℕ) (i : Item) → router_at w x ≡ Some z → item_at z.in_queue m ≡ Some i →
      has_end r.end (ends_in i) ≡ true → ⊥
  not_queued_in x z m i at f has =
      let two = in_two_in w g (names_end r.end) x z q.node a (length pre) m0 m i (law.counts.on_node x z at) at at_message f in
      omega (arith, two, names_one, at_most_one, times-has r.end (ends_in i) has)

  not_within : (m i : ℕ) (x : LinkId) (u : Side) (j : ℕ) (z : Item) (ds : List Descriptor) → IsUnderWay w m m i (messages.Item x u j z ds) →
      has_end r.end (ends_in z) ≡ true → ⊥
  not_within m i x u j z ds o has =
      let two = weighed-two (λ from to c. in_message (names_end r.end) g c) w q.node a (length pre) m0 m m i (messages.Item x u j z ds)
      at_message o (two_ways m q.node a away) in
      omega (
        arith,
        two,
        names_one,
        at_most_one,
        times-has r.end (ends_in z) has,
        in_message-item (names_end r.end) g x u j z ds,
        in_places-is (names_end r.end) g w,
      )

  pub end_places-extended : EndPlaces v h2
  end_places-extended = record {
    held = λ m e has. let f = subst (λ c. holds e c ≡ true) (ends.held m) has in let k = law.end_places.held m e f in
        term_kept e m k (λ z. not_held m (ap (λ e. terminal_node (g.terminal e)) (sym z) ∙ k)
        (omega (arith, holds_times r.end (node_at w m).held (subst (λ e. holds e (node_at w m).held ≡ true) z f))));
    pending = λ m e has. let f = subst (λ c. has_end e c ≡ true) (ends.pending m) has in let k = law.end_places.pending m e f in
        term_kept e m k (λ z. not_held m (ap (λ e. terminal_node (g.terminal e)) (sym z) ∙ k)
        (omega (arith, times-has r.end (node_at w m).pending (subst (λ e. has_end e (node_at w m).pending ≡ true) z f))));
    each = λ x z at. record {
      out = λ m i e f has. let u = same_queues x z at in let o = ap (λ c. item_at c m) (sym u.2) ∙ f in
          term_kept e x.node ((law.end_places.each x u.0 u.1).out m i e o has)
          (λ y. not_queued_out x u.0 m i u.1 o (subst (λ e. has_end e (ends_in i) ≡ true) y has));
      inn = λ m i e f has. let u = same_queues x z at in let o = ap (λ c. item_at c m) (sym u.3) ∙ f in
          term_kept e x.node ((law.end_places.each x u.0 u.1).inn m i e o has)
          (λ y. not_queued_in x u.0 m i u.1 o (subst (λ e. has_end e (ends_in i) ≡ true) y has));
    };
    within = λ m i x u j z ds e c has. elim (came m m i (messages.Item x u j z ds) c) [
      | inl o ↦ term_kept e m (law.end_places.within m i x u j z ds e o has)
          (λ y. not_within m i x u j z ds o (subst (λ e. has_end e (ends_in z) ≡ true) y has))
      | inr o ↦ absurd (away (sym o.1 ∙ o.2))
    ];
  }
    where
      same_queues : (x : Key) (z : Router) → router_at v x ≡ Some z →
          (u : Router) × (router_at w x ≡ Some u) × (z.out_queue ≡ u.out_queue) × (z.in_queue ≡ u.in_queue)
      same_queues x z at = elim (stood law is t x z at) [
        | inl o ↦ (z, o.0, refl, refl)
        | inr f ↦ (r, ap (router_at w) f.1 ∙ is.here, ap (λ z. z.out_queue) f.0, ap (λ z. z.in_queue) f.0)
      ]

  pub books_kept-extended : BooksKept v b h2
  books_kept-extended = record {
    own_pair = law.books_kept.own_pair;
    mark_last = law.books_kept.mark_last;
    gone_last = law.books_kept.gone_last;
    retired_closed = law.books_kept.retired_closed;
    numbers = law.books_kept.numbers;
    mark_seen = λ x z at e. grind (
      arith,
      t.router x,
      same_key_tells x q,
      is.here,
      law.books_kept.mark_seen x z,
      law.books_kept.mark_seen q r,
    );
  }

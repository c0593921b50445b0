-- Messages alone move: if routers and words are the same, and nothing is under way but what was and Flushes, the invariant is kept.
use Rattle.ipcz_world.proofs.frames.Roles.{Roles}
use Rattle.ipcz_world.proofs.frames.RolesKept.{role-in}
use Rattle.ipcz_world.proofs.frames.GonesKept.{gones-by, gone_like-itself}
use Rattle.ipcz_world.proofs.frames.Sourcing.{sourced-by, had-itself}
use Rattle.ipcz_word.specs.Word.{Word}
use Rattle.ipcz_world.proofs.frames.OfRecords.{holds, held_times, in_node, in_message, in_places}
use Rattle.ipcz_world.proofs.Vocabulary.{Weight, at_end, names_end, times, Side, A, B, End, LinkId, Central, Peripheral, Descriptor, Item}
use Rattle.ipcz_world.proofs.Vocabulary.{Message, opposite, has_end, is_central, Router, World, Key, node_at, router_at, Books, Records, is_recorded}
use Rattle.ipcz_world.proofs.Vocabulary.{inner_link, side_node, side_router, across_side, IsUnderWay, of_end, moves_of, total_below, total_list, view}
use Rattle.ipcz_world.proofs.Vocabulary.{view_by, router_view, passes, key_passes, next_sent, taking_queue, is_gone, is_awaited, Counts, Ordered}
use Rattle.ipcz_world.proofs.Vocabulary.{Shape, Stands, Words, Spares, BypassRecords, Stages, Controls, of_bypass, inner_of}
use Rattle.ipcz_world.proofs.Vocabulary.{Terminals, EndPlaces, BooksKept, Conserved, HeldOnce, times_held, Items, Order, ProxyNumbers, FreshNumbers}
use Rattle.ipcz_world.proofs.Vocabulary.{standing_router, Inv, spare_of, may_have_sent, Moves, IsItemUnderWay}
use Rattle.ipcz_world.specs.Places.{in_message as in_message', in_node as in_node'}
use Rattle.std.specs.Prelude.{◌≡◌, ℕ, ◌+◌, Bool, true, false, Option, Some, None, List, [], slice_get, refl}
use Rattle.std.specs.FinMap.{get}
use Rattle.std.proofs.Common.{arith, sym, ◌∙◌, ap, inl, inr}
use Rattle.ipcz_base.specs.declared.message.Message.TheVariants as messages
use Rattle.ipcz_node.specs.Hands.{link_asked, side_asked}
use Rattle.ipcz_world.proofs.frames.Flowing.{CameFrom}
use Rattle.ipcz_world.proofs.frames.Weighing.{in_places-is}
use Rattle.ipcz_world.proofs.frames.MessagesPassing.{IsFlush, Passes, HasHands}
use Rattle.ipcz_world.proofs.frames.Totalling.{total_below-same}
use Rattle.ipcz_world.proofs.frames.BypassesKept.{bypasses-still}
use Rattle.ipcz_world.proofs.frames.WordsKept.{word-kept}

-- whether a message is an item
abbrev is_item : Message → Bool
is_item (messages.Item l s n item moves) = true
is_item other = false

-- whether it says that a proxy will stop
abbrev is_will_stop : Message → Bool
is_will_stop (messages.ProxyWillStop l s n) = true
is_will_stop other = false

-- whether it says that a bypass begins
abbrev is_peer : Message → Bool
is_peer (messages.BypassPeer l s old target fresh) = true
is_peer other = false

moves-flush : (l : LinkId) (s : Side) → moves_of (messages.Flush l s) ≡ []
unfolding moves_of
moves-flush l s = refl

about-flush : (g : Records) (o : ℕ) (h : Message → ℕ) (l : LinkId) (s : Side) → of_bypass g o h (messages.Flush l s) ≡ 0
unfolding of_bypass
about-flush g o h l s = refl

weight-flush : (f : Weight) (g : Records) (l : LinkId) (s : Side) → in_message f g (messages.Flush l s) ≡ 0
unfolding in_message'
weight-flush f g l s = refl

link-flush : (l : LinkId) (s : Side) → link_asked (messages.Flush l s) ≡ l
unfolding link_asked
link-flush l s = refl

side-flush : (l : LinkId) (s : Side) → side_asked (messages.Flush l s) ≡ s
unfolding side_asked
side-flush l s = refl

module _ (w v : World) (g : Records) (p : Passes w v g) where
  router : (q : Key) → router_at v q ≡ router_at w q
  unfolding router_at
  router q = ap (λ m. get m q.serial) (p.nodes q.node).routers

  back : (q : Key) (r : Router) → router_at v q ≡ Some r → router_at w q ≡ Some r
  back q r e = sym (router q) ∙ e

  recorded : (l : LinkId) → is_recorded v g l ≡ is_recorded w g l
  unfolding is_recorded
  recorded (Central i) = refl
  recorded (Peripheral n x) = rw ((p.nodes n).next_peripheral, p.count) refl

  was_recorded : (l : LinkId) → is_recorded v g l ≡ true → is_recorded w g l ≡ true
  was_recorded l e = sym (recorded l) ∙ e

  known : (o : Option Key) (test : Router → Bool) → key_passes v o test ≡ key_passes w o test
  unfolding key_passes
  known None test = refl
  known (Some q) test = ap (λ x. passes x test) (router q)

  seen : (l : LinkId) (s : Side) → view v g l s ≡ view w g l s
  unfolding view_by
  seen l s = go (side_router g l s)
    where
      go : (o : Option Key) → view_by v g l s o ≡ view_by w g l s o
      go None = refl
      go (Some q) = ap (router_view l s) (router q)

  -- what isn't a Flush was under way
  item : (from to i : ℕ) (l : LinkId) (s : Side) (n : ℕ) (x : Item) (moves : List Descriptor) → IsItemUnderWay v from to i l s n x moves →
      CameFrom w v from to i (messages.Item l s n x moves)
  item from to i l s n x moves u = elim (p.came from to i _ u) [ inl c ↦ c | inr f ↦ absurd (grind (arith, ap is_item f.is)) ]

  moved : (from to i j : ℕ) (m : Message) (d : Descriptor) → IsUnderWay v from to i m → slice_get (moves_of m) j ≡ Some d →
      CameFrom w v from to i m
  moved from to i j m d u e = elim (p.came from to i m u) [
    | inl c ↦ c
    | inr f ↦ absurd
        (grind (arith, ap moves_of f.is, moves-flush f.link f.side, e))
  ]

  will_stop : (from to i : ℕ) (l : LinkId) (s : Side) (n : ℕ) → IsUnderWay v from to i (messages.ProxyWillStop l s n) →
      CameFrom w v from to i (messages.ProxyWillStop l s n)
  will_stop from to i l s n u = elim (p.came from to i _ u) [ inl c ↦ c | inr f ↦ absurd (grind (arith, ap is_will_stop f.is)) ]

  peer : (from to i : ℕ) (l : LinkId) (s : Side) (old target fresh : ℕ) →
      IsUnderWay v from to i (messages.BypassPeer l s old target fresh) → CameFrom w v from to i (messages.BypassPeer l s old target fresh)
  peer from to i l s old target fresh u = elim (p.came from to i _ u) [ inl c ↦ c | inr f ↦ absurd (grind (arith, ap is_peer f.is)) ]

  -- a Flush is right
  flush : Controls w g → (from to i : ℕ) (l : LinkId) (s : Side) → IsUnderWay v from to i (messages.Flush l s) →
      IsFlush w g from to (messages.Flush l s)
  flush law from to i l s u = elim (p.came from to i _ u) [
    | inl c ↦ record {
      link = l;
      side = s;
      is = refl;
      central = law.flush_central from to c.at l s c.was;
      recorded = law.flush_recorded from to c.at l s c.was;
      receiver = law.flush_to from to c.at l s c.was;
      sender = law.flush_from from to c.at l s c.was;
    }
    | inr f ↦ f
  ]

  same_link_in : (from to : ℕ) (l : LinkId) (s : Side) (f : IsFlush w g from to (messages.Flush l s)) → l ≡ f.link
  same_link_in from to l s f = sym (link-flush l s) ∙ ap link_asked f.is ∙ link-flush f.link f.side

  same_side_in : (from to : ℕ) (l : LinkId) (s : Side) (f : IsFlush w g from to (messages.Flush l s)) → s ≡ f.side
  same_side_in from to l s f = sym (side-flush l s) ∙ ap side_asked f.is ∙ side-flush f.link f.side

  node_weighs : (f : Weight) (n : ℕ) → in_node f g (node_at v n) ≡ in_node f g (node_at w n)
  unfolding in_node'
  node_weighs f n = rw ((p.nodes n).routers, (p.nodes n).strays) refl

  weighs : (f : Weight) → in_places f g v ≡ in_places f g w
  weighs f = in_places-is f g v ∙ grind (arith, nodes_weigh, p.totals (λ from to m. in_message f g m) (λ from to l s. weight-flush f g l s))
      ∙ sym (in_places-is f g w)
    where
      nodes_weigh : total_below v.count (λ n. in_node f g (node_at v n)) ≡ total_below w.count (λ n. in_node f g (node_at w n))
      nodes_weigh = ap (λ c. total_below c (λ n. in_node f g (node_at v n))) p.count ∙ total_below-same w.count _ _ (λ n l. node_weighs f n)

  counts-passes : HasHands v → Counts w g → Counts v g
  counts-passes hands law = record {
    node = λ n h. grind (arith, (p.nodes n).node, p.count, law.node n, h);
    nodes = λ n h. grind (arith, (p.nodes n).nodes, p.count, law.nodes n, h);
    claimed = grind (arith, p.claimed, p.size, law.claimed);
    unclaimed = λ i. grind (arith, p.claimed, law.unclaimed i);
    on_node = λ q r at. grind (arith, p.count, law.on_node q r (back q r at));
    serial = λ q r at. grind (arith, (p.nodes q.node).next_router, law.serial q r (back q r at));
    side_serial = λ l s q a e. grind (arith, (p.nodes q.node).next_router, law.side_serial l s q (was_recorded l a) e);
    side_on_node = λ l s a. grind (arith, p.count, law.side_on_node l s (was_recorded l a));
    hand = hands.hand;
    hand_from = hands.hand_from;
    in_hand = hands.in_hand;
  }

  ordered-passes : Ordered w → Ordered v
  ordered-passes law q r at = law q r (back q r at)

  shape-passes : Shape w → Shape v
  shape-passes law q r at = law q r (back q r at)

  roles-passes : Roles w g → Roles v g
  roles-passes law q r at = role-in recorded (law q r (back q r at))

  stands-passes : Stands w g → Stands v g
  stands-passes law = record {
    central = λ i s q a b n e. known (Some q) _ ∙ law.central i s q a b n e;
    awaited = law.awaited;
    awaited_stage = law.awaited_stage;
    awaited_side = law.awaited_side;
    proxy = λ q a b n. known (side_router g (inner_link q) A) _ ∙ law.proxy q (was_recorded _ a) b n;
    inner = λ q k a b n e. known (Some k) _ ∙ law.inner q k (was_recorded _ a) b n e;
    by_begun = law.by_begun;
    by_inner = law.by_inner;
    left_recorded = λ l s h. recorded l ∙ law.left_recorded l s h;
    left_known = law.left_known;
    left_gone = λ l s h. known (side_router g l s) _ ∙ law.left_gone l s h;
    left_live = law.left_live;
  }

  words-passes : Words w g → Words v g
  words-passes law = record {
    each = λ i. word-kept {w = w}
        (record {
          word = p.words i;
          linked = refl;
          begun = refl;
          early = λ l. l;
          side = λ b. refl;
          inner = λ b. refl;
          left = λ s. refl;
          marked = λ s l b n. known (side_router g (Central i) s) (λ x. x.marked);
          holds = λ s l b n. known (side_router g (Central i) s) (λ x. x.holds);
        })
        (law.each i);
    source = sourced-by w v (λ q r at h. had-itself w q r (back q r at))
        (λ q r e i at m l. ap (λ (z : Word). z.source) (p.words i)) law.source;
  }

  spares-passes : Spares w g → Spares v g
  spares-passes law = record {
    spare = λ q r i at. law.spare q r i (back q r at);
    spare_back = λ q i h. ap spare_of (router q) ∙ law.spare_back q i h;
    opening = λ n i h. law.opening n i (sym (p.nodes n).opening ∙ h);
    opening_back = λ n i h. (p.nodes n).opening ∙ law.opening_back n i h;
    fresh = law.fresh;
    fresh_back = law.fresh_back;
  }

  bypasses-passes : BypassRecords w g → BypassRecords v g
  bypasses-passes law = bypasses-still w v g recorded law

  stages-passes : Stages w g → Stages v g
  stages-passes law o = record {
    proxy_old = λ a b. known _ _ ∙ (law o).proxy_old a b;
    proxy_inner = λ a b. known _ _ ∙ (law o).proxy_inner a b;
    proxy_begun = λ r a at. (law o).proxy_begun r a (back _ r at);
    proxy_end = λ r a at. (law o).proxy_end r a (back _ r at);
    across_old = λ a b. known _ _ ∙ (law o).across_old a b;
    across_marked = λ a b. known _ _ ∙ (law o).across_marked a b;
    across_free = λ a b. known _ _ ∙ (law o).across_free a b;
    across_fresh = λ a b. known _ _ ∙ (law o).across_fresh a b;
    inner_primary = λ q a e. known _ _ ∙ (law o).inner_primary q a e;
    inner_decaying = λ a b. known _ _ ∙ (law o).inner_decaying a b;
  }

  controls-passes : Controls w g → Controls v g
  controls-passes law = record {
    control = λ o h. p.totals (λ from to. of_bypass g o (h from to)) (λ from to l s. about-flush g o (h from to) l s) ∙ law.control o h;
    will_stop = λ from to i l s n u. let c = will_stop from to i l s n u in law.will_stop from to c.at l s n c.was;
    behind = λ from to i l s old target fresh u e. let c = peer from to i l s old target fresh u in
        c.made l s (law.behind from to c.at l s old target fresh c.was e);
    flush_central = λ from to i l s u. let f = flush law from to i l s u in ap is_central (same_link_in from to l s f) ∙ f.central;
    flush_recorded = λ from to i l s u. let f = flush law from to i l s u in
        recorded l ∙ ap (is_recorded w g) (same_link_in from to l s f) ∙ f.recorded;
    flush_to = λ from to i l s u. let f = flush law from to i l s u in
        f.receiver ∙ ap (λ k. side_node g k f.side) (sym (same_link_in from to l s f)) ∙ ap (side_node g l)
        (sym (same_side_in from to l s f));
    flush_from = λ from to i l s u. let f = flush law from to i l s u in
        f.sender ∙ ap (λ k. side_node g k (opposite f.side)) (sym (same_link_in from to l s f)) ∙ ap (λ t. side_node g l (opposite t))
        (sym (same_side_in from to l s f));
  }

  moves-passes : Moves w g → Moves v g
  moves-passes law = record {
    ends = λ from to i l s n x moves u. let c = item from to i l s n x moves u in law.ends from to c.at l s n x moves c.was;
    within = λ n i l s number x moves u. let c = item n n i l s number x moves u in law.within n c.at l s number x moves c.was;
    recorded = λ from to i j m d u e. let c = moved from to i j m d u e in recorded d.link ∙ law.recorded from to c.at j m d c.was e;
    peripheral = λ from to i j m d u e. let c = moved from to i j m d u e in law.peripheral from to c.at j m d c.was e;
    sender = λ from to i j m d u e. let c = moved from to i j m d u e in law.sender from to c.at j m d c.was e;
    receiver = λ from to i j m d u e. let c = moved from to i j m d u e in law.receiver from to c.at j m d c.was e;
    awaited = λ from to i j m d u e. let c = moved from to i j m d u e in law.awaited from to c.at j m d c.was e;
    end = λ from to i j m d u e. let c = moved from to i j m d u e in law.end from to c.at j m d c.was e;
    one = λ e h. p.totals (λ from to m. total_list (of_end e h) (moves_of m))
        (λ from to l s. ap (total_list (of_end e h)) (moves-flush l s)) ∙ law.one e h;
    moving = λ q a. law.moving q (was_recorded _ a);
  }

  terminals-passes : Terminals w g → Terminals v g
  terminals-passes law = record {
    each = λ q r at. law.each q r (back q r at);
    stands = λ e q h. known (Some q) _ ∙ law.stands e q h;
    link_opened = λ l s a. law.link_opened l s (was_recorded l a);
    both = law.both;
    unopened = law.unopened;
    other_pair = law.other_pair;
  }

  end_places-passes : EndPlaces w g → EndPlaces v g
  end_places-passes law = record {
    held = λ n e h. law.held n e (sym (ap (holds e) (p.nodes n).held) ∙ h);
    pending = λ n e h. law.pending n e (sym (ap (has_end e) (p.nodes n).pending) ∙ h);
    each = λ q r at. law.each q r (back q r at);
    within = λ n i l s number x moves e u. let c = item n n i l s number x moves u in law.within n c.at l s number x moves e c.was;
  }

  books-passes : (b : Books) → BooksKept w b g → BooksKept v b g
  books-passes b law = record {
    own_pair = law.own_pair;
    mark_last = law.mark_last;
    gone_last = law.gone_last;
    retired_closed = law.retired_closed;
    numbers = law.numbers;
    mark_seen =
        λ q r at. law.mark_seen q r (back q r at);
  }

  items-passes : Items w g → Items v g
  items-passes law = record {
    recorded = λ from to i l s n x moves u. let c = item from to i l s n x moves u in
        recorded l ∙ law.recorded from to c.at l s n x moves c.was;
    sender = λ from to i l s n x moves u. let c = item from to i l s n x moves u in law.sender from to c.at l s n x moves c.was;
    receiver = λ from to i l s n x moves u. let c = item from to i l s n x moves u in law.receiver from to c.at l s n x moves c.was;
    below_length = λ from to i l s n x moves length u. let c = item from to i l s n x moves u in
        law.below_length from to c.at l s n x moves length c.was;
    was_sent = λ from to i l s n x moves m u h. let c = item from to i l s n x moves u in
        law.was_sent from to c.at l s n x moves m c.was (sym (ap (next_sent l (opposite s)) (seen l (opposite s))) ∙ h);
    by_sender = λ from to i l s n x moves u. let c = item from to i l s n x moves u in
        ap may_have_sent (seen l (opposite s)) ∙ law.by_sender from to c.at l s n x moves c.was;
    sender_gone = λ from to i l s n x moves u h. let c = item from to i l s n x moves u in
        law.sender_gone from to c.at l s n x moves c.was (sym (ap is_gone (seen l (opposite s))) ∙ h);
    not_passed = λ from to i l s n x moves q u h. let c = item from to i l s n x moves u in
        law.not_passed from to c.at l s n x moves q c.was (sym (ap (taking_queue l s) (seen l s)) ∙ h);
    behind = λ from to i l s n x moves u h. let c = item from to i l s n x moves u in
        c.made l s (law.behind from to c.at l s n x moves c.was (sym (ap is_awaited (seen l s)) ∙ h));
    not_awaited_low = λ from to i j s n x moves o u. let c = item from to i (Central j) s n x moves u in
        law.not_awaited_low from to c.at j s n x moves o c.was;
    receiver_there = λ from to i l s n x moves u. let c = item from to i l s n x moves u in
        ap is_gone (seen l s) ∙ law.receiver_there from to c.at l s n x moves c.was;
  }

  order-passes : Order w g → Order v g
  order-passes law = record {
    current = λ l s u q a b d. law.current l s u q (was_recorded l a) (sym (ap (next_sent l (opposite s)) (seen l (opposite s))) ∙ b)
        (sym (ap (taking_queue l s) (seen l s)) ∙ d);
    stored = λ l s u q n x a b d. law.stored l s u q n x (was_recorded l a) (sym (ap (next_sent l (opposite s)) (seen l (opposite s))) ∙ b)
        (sym (ap (taking_queue l s) (seen l s)) ∙ d);
  }

  proxy_numbers-passes : ProxyNumbers w g → ProxyNumbers v g
  proxy_numbers-passes law = record {
    out_current = λ o r at. law.out_current o r (back _ r at);
    out_items = λ o r n x at. law.out_items o r n x (back _ r at);
    in_current = λ o r at. law.in_current o r (back _ r at);
    in_items = λ o r n x at. law.in_items o r n x (back _ r at);
    across_gone = λ o r at a h. law.across_gone o r (back _ r at) a (sym (ap is_gone (seen (Central o) (across_side g o))) ∙ h);
    inner_gone = λ o r at a h. law.inner_gone o r (back _ r at) a (sym (ap is_gone (seen (inner_of g o) B)) ∙ h);
    out_finished = λ o r at. law.out_finished o r (back _ r at);
    in_finished = λ o r at. law.in_finished o r (back _ r at);
  }

  fresh_numbers-passes : FreshNumbers w g → FreshNumbers v g
  fresh_numbers-passes law q r at = record {
    own = λ e d n. (law q r (back q r at)).own e d n;
    comes = λ e d length from to i n x moves a b f u. let c = item from to i e.link e.side n x moves u in
        (law q r (back q r at)).comes e d length from to c.at n x moves a b f c.was;
    other = λ z e d n a b f h. (law q r (back q r at)).other z e d n a b f
        (sym (ap standing_router (seen e.link (opposite e.side))) ∙ h);
  }

  conserved-passes : (b : Books) → Conserved w b g → Conserved v b g
  conserved-passes b law = record {
    exact = λ e h. weighs (at_end e h) ∙ law.exact e h;
    read_put = law.read_put;
    prefix = law.prefix;
    gone_closed = law.gone_closed;
    reach = λ q r at. law.reach q r (back q r at);
    current = λ q r at. law.current q r (back q r at);
    sink = λ q r at. law.sink q r (back q r at);
    move_out = λ from to i j m d u e. let c = moved from to i j m d u e in law.move_out from to c.at j m d c.was e;
    move_in = λ from to i j m d u e. let c = moved from to i j m d u e in law.move_in from to c.at j m d c.was e;
    move_open = λ from to i j m d u e. let c = moved from to i j m d u e in law.move_open from to c.at j m d c.was e;
    unopened_put = law.unopened_put;
    unopened_got = law.unopened_got;
  }

  held_once-passes : (b : Books) → HeldOnce w b g → HeldOnce v b g
  held_once-passes b law = record {
    once = λ e. omega (arith, law.once e, weighs (names_end e), held e);
    moves_in_parcel = λ from to i l s n x moves j d u. let c = item from to i l s n x moves u in
        law.moves_in_parcel from to c.at l s n x moves j d c.was;
  }
    where
      held : (e : End) → times_held v e ≡ times_held w e
      held e = ap (λ n. total_below n (λ i. held_times e (node_at v i).held + times e (node_at v i).pending)) p.count
          ∙ total_below-same w.count _ _ (λ i l. omega (arith, ap (held_times e) (p.nodes i).held, ap (times e) (p.nodes i).pending))

  pub inv-passes : (b : Books) → HasHands v → Inv w b g → Inv v b g
  inv-passes b hands law = record {
    counts = counts-passes hands law.counts;
    ordered = ordered-passes law.ordered;
    shape = shape-passes law.shape;
    roles = roles-passes law.roles;
    begun = law.begun;
    stands = stands-passes law.stands;
    words = words-passes law.words;
    spares = spares-passes law.spares;
    bypasses = bypasses-passes law.bypasses;
    live = law.live;
    stages = stages-passes law.stages;
    controls = controls-passes law.controls;
    moves = moves-passes law.moves;
    terminals = terminals-passes law.terminals;
    end_places = end_places-passes law.end_places;
    books_kept = books-passes b law.books_kept;
    retired_ends = law.retired_ends;
    gones = gones-by w v b g g (λ q r at. record { router = r; at = back q r at; alike = gone_like-itself r }) (λ l s h. h) law.gones;
    items = items-passes law.items;
    order = order-passes law.order;
    proxy_numbers = proxy_numbers-passes law.proxy_numbers;
    fresh_numbers = fresh_numbers-passes law.fresh_numbers;
    conserved = conserved-passes b law.conserved;
    held_once = held_once-passes b law.held_once;
    no_strays = λ n. (p.nodes n).strays ∙ law.no_strays n;
  }

-- A proxy begins: no item moves, so numbers and places are as they were.
use Rattle.ipcz_world.proofs.Vocabulary.{IsOrdered, Weight, in_router, at_end, names_end, times, Side, A, B, End, LinkId, Central, Peripheral}
use Rattle.ipcz_world.proofs.Vocabulary.{LinkEnd, Descriptor, Item, Message, opposite, same_end, has_end, opposite_end, has_link, same_link, Router}
use Rattle.ipcz_world.proofs.Vocabulary.{World, Key, same_key, node_at, router_at, Books, is_closed, Records, is_linked, is_begun, is_recorded}
use Rattle.ipcz_world.proofs.Vocabulary.{is_nowhere, inner_link, side_router, side_length, across_side, IsUnderWay, makes, of_end, moves_of}
use Rattle.ipcz_world.proofs.Vocabulary.{total_below, total_list, Standing, view, view_by, router_view, is_attached, sending_queue, fed_queue}
use Rattle.ipcz_world.proofs.Vocabulary.{next_sent, taking_queue, is_gone, is_awaited, Ordered, inner_of, moving_link, Terminals, EndPlaces}
use Rattle.ipcz_world.proofs.Vocabulary.{BooksKept, Conserved, HeldOnce, times_held, Items, Order, ProxyNumbers, FreshNumbers, has_passed}
use Rattle.ipcz_world.proofs.Vocabulary.{standing_router, Inv, is_left, may_have_sent, Moves, IsItemUnderWay}
use Rattle.ipcz_world.proofs.frames.EachKept.{each-one}
use Rattle.std.specs.Prelude.{◌||◌}
use Rattle.ipcz_world.proofs.acts.BegunRecords.{left-begun}
use Rattle.ipcz_world.proofs.frames.OfRecords.{holds, held_times, in_places}
use Rattle.ipcz_world.specs.Places.{in_message as in_message'}
use Rattle.std.specs.Prelude.{◌≡◌, ◌≢◌, ◌⊎◌, ◌≤◌, ◌<◌, ℕ, zero, suc, ◌+◌, Bool, true, false, cond, nat_eq, Option, Some, None, is_some}
use Rattle.std.specs.Prelude.{List, [], ◌∷◌, slice_get, refl}
use Rattle.std.proofs.Common.{arith, sym, ◌∙◌, ap, subst, inl, inr}
use Rattle.std.proofs.lemmas.Bool.Decides.{nat_tests}
use Rattle.std.proofs.lemmas.Option.{same_Some, none-some}
use Rattle.ipcz_base.specs.declared.message.Message.TheVariants as messages
use Rattle.ipcz_node.specs.Hands.{has_moved}
use Rattle.ipcz_world.proofs.frames.Frames.{same_key_tells}
use Rattle.ipcz_world.proofs.frames.RecordRules.{is_recorded-central}
use Rattle.ipcz_world.proofs.facts.RecordsAfter.{begin_records}
use Rattle.ipcz_world.proofs.frames.Sums.{total_below-same}
use Rattle.ipcz_world.proofs.frames.Weights.{in_option}
use Rattle.ipcz_world.proofs.frames.Views.{Stood, view_rules}
use Rattle.ipcz_world.proofs.frames.Flowing.{CameFrom, IsLast, came_pushed, under_way-pushed}
use Rattle.ipcz_world.proofs.acts.Beginning.{Begins}
use Rattle.ipcz_world.proofs.acts.BegunRecords.{linked-begun, end_at, inner_router, router-begun, node-begun, end-begun, source-begun}
use Rattle.ipcz_world.proofs.acts.BegunRecords.{view-begun, length-begun, begun-here, begun-else, side-begun}
use Rattle.ipcz_world.proofs.acts.BegunWorld.{Sends}
use Rattle.ipcz_world.proofs.acts.BegunAround.{IsBegunFrom, before, rec-begun}
use Rattle.ipcz_world.proofs.acts.BegunStages.{passes-begun}
use Rattle.ipcz_world.proofs.facts.Lengths.{same_link-itself, same_link-tells}
use Rattle.ipcz_world.proofs.frames.SourceWeights.{places-sources}

-- who carries a descriptor makes its link's router
moved : (l : LinkId) (ds : List Descriptor) (i : ℕ) (d : Descriptor) → slice_get ds i ≡ Some d → d.link ≡ l → has_moved l ds ≡ true
moved l [] i d e f = cc
moved l (x ∷ ds) zero d e f = let a : x.link ≡ l = ap (λ t. t.link) (same_Some x d e) ∙ f in grind (arith, a, same_link-itself l)
moved l (x ∷ ds) (suc i) d e f = grind (arith, moved l ds i d e f)

pub of_link : (e : End) (l : LinkId) (d : Descriptor) → 1 ≤ of_end e (λ x. cond (same_link x.link l) 1 0) d → d.link ≡ l
of_link e l d h = go (same_end d.end e) (same_link d.link l) refl refl
  where
    go : (s t : Bool) → same_end d.end e ≡ s → same_link d.link l ≡ t → d.link ≡ l
    go true true p q = same_link-tells d.link l q
    go true false p q = absurd (grind (arith, h, p, q))
    go false t p q = absurd (grind (arith, h, p))

pub carries : (l : LinkId) (m : Message) (j : ℕ) (d : Descriptor) → slice_get (moves_of m) j ≡ Some d → d.link ≡ l → makes l B m ≡ true
unfolding moves_of makes
carries l (messages.Item k s n item moves) j d e f = moved l moves j d e f
carries l other j d e f = absurd (none-some d e)

-- the message of a begin
abbrev pub begin_message : LinkEnd → LinkEnd → ℕ → ℕ → Message
begin_message into out o fresh = messages.BypassPeer into.link (opposite into.side) o out.other fresh

module _ {w v : World} {b : Books} {g : Records} {k : Key} {r y : Router} {p : Key} {into out : LinkEnd} {o fresh : ℕ} (law : Inv w b g)
    (is : Begins w g k r p into out o fresh) (c : Sends w v k y into.other (begin_message into out o fresh))
    (new : IsBegunFrom r y into out) where
  -- the records after the begin
  abbrev after : Records
  after = begin_records g k o fresh p

  was_there : (q : Key) (z : Router) → router_at v q ≡ Some z → ((router_at w q ≡ Some z) × (q ≢ k)) ⊎ ((q ≡ k) × (z ≡ y))
  was_there = before law is c new

  pub rec : (l : LinkId) → is_recorded v after l ≡ is_recorded w g l
  rec = rec-begun law is c new

  -- a message was under way, or is the one of the begin
  pub came : (from to i : ℕ) (m : Message) → IsUnderWay v from to i m →
      CameFrom w v from to i m ⊎ IsLast w k.node into.other (begin_message into out o fresh) from to i m
  came from to i m u = came_pushed w v k.node into.other (begin_message into out o fresh) c.pushed from to i m u

  pub ordered-begun : Ordered v
  ordered-begun = each-one w v k y IsOrdered c.routers law.ordered (record {
    out = λ n item i. grind (arith, new.out_queue, (law.ordered k r is.here).out n item, i);
    inn = λ n item i. grind (arith, new.in_queue, (law.ordered k r is.here).inn n item, i);
  })

  -- an item, or a message with descriptors, is no begin
  item-came : {X : Type 0} (from to i : ℕ) (l : LinkId) (s : Side) (n : ℕ) (item : Item) (moves : List Descriptor) →
      IsItemUnderWay v from to i l s n item moves → (CameFrom w v from to i (messages.Item l s n item moves) → X) → X
  item-came from to i l s n item moves u old = elim (came from to i _ u) [ inl e ↦ old e | inr e ↦ absurd (grind (arith, e.message)) ]

  move-came : {X : Type 0} (from to i j : ℕ) (m : Message) (d : Descriptor) → IsUnderWay v from to i m → slice_get (moves_of m) j ≡ Some d →
      (CameFrom w v from to i m → X) → X
  unfolding moves_of
  move-came from to i j m d u e old = elim (came from to i m u) [
    | inl a ↦ old a
    | inr a ↦ absurd
        (none-some d (ap (λ t. slice_get (moves_of t) j) (sym a.message) ∙ e))
  ]

  pub moves-begun : Moves v after
  unfolding moves_of
  moves-begun = record {
    ends = λ from to i l s n item moves u. item-came from to i l s n item moves u (λ e. law.moves.ends from to e.at l s n item moves e.was);
    within = λ n i l s number item moves u. item-came n n i l s number item moves u
        (λ e. law.moves.within n e.at l s number item moves e.was);
    recorded = λ from to i j m d u f. move-came from to i j m d u f (λ e. rec d.link ∙ law.moves.recorded from to e.at j m d e.was f);
    peripheral = λ from to i j m d u f. move-came from to i j m d u f (λ e. law.moves.peripheral from to e.at j m d e.was f);
    sender = λ from to i j m d u f. move-came from to i j m d u f
        (λ e. node-begun g k o fresh p d.link A ∙ law.moves.sender from to e.at j m d e.was f);
    receiver = λ from to i j m d u f. move-came from to i j m d u f
        (λ e. node-begun g k o fresh p d.link B ∙ law.moves.receiver from to e.at j m d e.was f);
    awaited = λ from to i j m d u f. move-came from to i j m d u f
        (λ e. router-begun g k o fresh p d.link B ∙ law.moves.awaited from to e.at j m d e.was f);
    end = λ from to i j m d u f. move-came from to i j m d u f (λ e. end-begun g k o fresh p d.link B ∙ law.moves.end from to e.at j m d
        e.was f);
    one = λ e f. omega (
      arith,
      under_way-pushed (λ from to m. total_list (of_end e f) (moves_of m)) w v k.node into.other
          (begin_message into out o fresh) c.pushed,
      law.moves.one e f,
    );
    moving = λ q a f. ap (λ t. moving_link (g.terminal t)) (end_at g k o fresh p q) ∙ law.moves.moving q (sym (rec (inner_link q)) ∙ a)
        (sym (inner_router g k o fresh p q) ∙ f);
  }

  pub terminals-begun : Terminals v after
  terminals-begun = record {
    each = λ q z at. record {
      terminal = λ t. elim (was_there q z at) [
        | inl a ↦ (law.terminals.each q z a.0).terminal t
        | inr a ↦ absurd
            (grind (arith, a.1, new.terminal, t))
      ];
      opened = elim (was_there q z at) [
        | inl a ↦ (law.terminals.each q z a.0).opened
        | inr a ↦ ap (λ t. is_nowhere (g.terminal t.end)) a.1
            ∙ ap (λ t. is_nowhere (g.terminal t)) new.end ∙ (law.terminals.each k r is.here).opened
      ];
    };
    stands = λ e q t. passes-begun law is c new _ (Some q)
        (law.terminals.stands e q t) (λ u f. absurd (grind (arith, is.proxy, f)));
    link_opened = λ l s a. ap (λ t. is_nowhere (g.terminal t)) (end-begun g k o fresh p l s) ∙ law.terminals.link_opened l s
        (sym (rec l) ∙ a);
    both = law.terminals.both;
    unopened = λ e a. law.terminals.unopened e (sym (linked-begun g k o fresh p e.pair is.owner) ∙ a);
    other_pair = λ e a n. law.terminals.other_pair e (sym (linked-begun g k o fresh p e.pair is.owner) ∙ a) n;
  }

  pub end_places-begun : EndPlaces v after
  end_places-begun = record {
    held = λ n e a. law.end_places.held n e (sym (ap (holds e) (c.nodes n).held) ∙ a);
    pending = λ n e a. law.end_places.pending n e (sym (ap (has_end e) (c.nodes n).pending) ∙ a);
    each = λ q z at. record {
      out = λ n item e i d. elim (was_there q z at) [
        | inl a ↦ (law.end_places.each q z a.0).out n item e i d
        | inr a ↦ grind
            (arith, a, new.out_queue, (law.end_places.each k r is.here).out n item e, i, d)
      ];
      inn = λ n item e i d. elim (was_there q z at) [
        | inl a ↦ (law.end_places.each q z a.0).inn n item e i d
        | inr a ↦ grind
            (arith, a, new.in_queue, (law.end_places.each k r is.here).inn n item e, i, d)
      ];
    };
    within = λ n i l s number item moves e u d. item-came n n i l s number item moves u
        (λ f. law.end_places.within n f.at l s number item moves e f.was d);
  }

  pub books-begun : BooksKept v b after
  books-begun = record {
    own_pair = law.books_kept.own_pair;
    mark_last = law.books_kept.mark_last;
    gone_last = law.books_kept.gone_last;
    retired_closed = law.books_kept.retired_closed;
    numbers = law.books_kept.numbers;
    mark_seen = λ q z at e. elim (was_there q z at) [
      | inl a ↦ law.books_kept.mark_seen q z a.0 e
      | inr a ↦ ap
          (λ t. is_closed b (opposite_end t.end)) a.1 ∙ ap (λ t. is_closed b (opposite_end t)) new.end ∙ law.books_kept.mark_seen k r
          is.here
          (sym (ap (λ t. t.mark_seen) a.1 ∙ new.mark_seen) ∙ e)
    ];
  }

  -- its links are the same, in other positions
  attached-same : (l : LinkId) (s : Side) → is_attached l s y ≡ is_attached l s r
  unfolding is_attached has_link
  attached-same (Central i) s = grind (arith, new.primary, new.decaying, is.outer, is.still)
  attached-same (Peripheral n x) A = grind (arith, new.inward_primary, new.inward_decaying, is.inner, is.inward_still)
  attached-same (Peripheral n x) B = grind (arith, new.primary, new.decaying, is.outer, is.still)

  -- a side is seen as before, or with the router after its begin
  abbrev Sees : LinkId → Side → Type 0
  Sees l s = (view v after l s ≡ view w g l s) ⊎ ((view w g l s ≡ Standing r) × (view v after l s ≡ Standing y))

  sees : (l : LinkId) (s : Side) → Sees l s
  unfolding view_by router_view
  sees l s = subst (λ a. (a ≡ view w g l s) ⊎ ((view w g l s ≡ Standing r) × (a ≡ Standing y))) (sym (view-begun v g k o fresh p l s))
      (go (side_router g l s))
    where
      at : (q : Key) → ((same_key q k ≡ true) × (q ≡ k)) ⊎ ((same_key q k ≡ false) × (q ≢ k)) →
          (router_view l s (router_at v q) ≡ router_view l s (router_at w q)) ⊎
          ((router_view l s (router_at w q) ≡ Standing r) × (router_view l s (router_at v q) ≡ Standing y))
      at q (inr e) = inl (let f : router_at v q ≡ router_at w q = grind (arith, e, c.routers q) in ap (router_view l s) f)
      at q (inl e) = has (is_attached l s r) refl
        where
          old : router_at w q ≡ Some r
          old = ap (router_at w) e.1 ∙ is.here

          now : router_at v q ≡ Some y
          now = grind (arith, e, c.routers q)

          has : (t : Bool) → is_attached l s r ≡ t → (router_view l s (router_at v q) ≡ router_view l s (router_at w q)) ⊎
              ((router_view l s (router_at w q) ≡ Standing r) × (router_view l s (router_at v q) ≡ Standing y))
          has true f = inr (grind (arith, old, f), grind (arith, now, attached-same l s, f))
          has false f = inl (grind (arith, old, now, attached-same l s, f))

      go : (q : Option Key) → (view_by v g l s q ≡ view_by w g l s q) ⊎
          ((view_by w g l s q ≡ Standing r) × (view_by v g l s q ≡ Standing y))
      go None = inl refl
      go (Some q) = at q (same_key_tells q k)

  sending-same : (l : LinkId) (s : Side) → sending_queue l s y ≡ sending_queue l s r
  unfolding sending_queue
  sending-same (Central i) s = new.out_queue
  sending-same (Peripheral n x) A = new.in_queue
  sending-same (Peripheral n x) B = new.out_queue

  fed-same : (l : LinkId) (s : Side) → fed_queue l s y ≡ fed_queue l s r
  unfolding fed_queue
  fed-same (Central i) s = new.in_queue
  fed-same (Peripheral n x) A = new.out_queue
  fed-same (Peripheral n x) B = new.in_queue

  next-same : (l : LinkId) (s : Side) → next_sent l s (view v after l s) ≡ next_sent l s (view w g l s)
  next-same l s = elim (sees l s) [ inl e ↦ ap (next_sent l s) e | inr e ↦ grind (arith, view_rules, e, sending-same l s) ]

  taking-same : (l : LinkId) (s : Side) → taking_queue l s (view v after l s) ≡ taking_queue l s (view w g l s)
  taking-same l s = elim (sees l s) [ inl e ↦ ap (taking_queue l s) e | inr e ↦ grind (arith, view_rules, e, fed-same l s) ]

  sent-same : (l : LinkId) (s : Side) → may_have_sent (view v after l s) ≡ may_have_sent (view w g l s)
  sent-same l s = elim (sees l s) [ inl e ↦ ap may_have_sent e | inr e ↦ grind (arith, view_rules, e) ]

  gone-same : (l : LinkId) (s : Side) → is_gone (view v after l s) ≡ is_gone (view w g l s)
  gone-same l s = elim (sees l s) [ inl e ↦ ap is_gone e | inr e ↦ grind (arith, view_rules, e) ]

  awaited-same : (l : LinkId) (s : Side) → is_awaited (view v after l s) ≡ is_awaited (view w g l s)
  awaited-same l s = elim (sees l s) [ inl e ↦ ap is_awaited e | inr e ↦ grind (arith, view_rules, e) ]

  stood : (l : LinkId) (s : Side) (q : Router) → standing_router (view v after l s) ≡ Some q → Stood (view w g l s) q
  stood l s q h = elim (sees l s) [
    | inl e ↦ record { router = q; stood = sym (ap standing_router e) ∙ h; out_queue = refl }
    | inr e ↦ record { router = r; stood = grind (arith, view_rules, e); out_queue = grind (arith, view_rules, e, new.out_queue, h) }
  ]

  len : (l : LinkId) (s : Side) → side_length after l s ≡ side_length g l s
  len l s = length-begun g k o fresh p l s is.inner_free is.live law.stands.by_begun

  pub items-begun : Items v after
  items-begun = record {
    recorded = λ from to i l s n item moves u. item-came from to i l s n item moves u
        (λ e. rec l ∙ law.items.recorded from to e.at l s n item moves e.was);
    sender = λ from to i l s n item moves u. item-came from to i l s n item moves u
        (λ e. law.items.sender from to e.at l s n item moves e.was ∙ sym (node-begun g k o fresh p l (opposite s)));
    receiver = λ from to i l s n item moves u. item-came from to i l s n item moves u
        (λ e. law.items.receiver from to e.at l s n item moves e.was ∙ sym (node-begun g k o fresh p l s));
    below_length = λ from to i l s n item moves length u f. item-came from to i l s n item moves u
        (λ e. law.items.below_length from to e.at l s n item moves length e.was (sym (len l (opposite s)) ∙ f));
    was_sent = λ from to i l s n item moves a u f. item-came from to i l s n item moves u
        (λ e. law.items.was_sent from to e.at l s n item moves a e.was (sym (next-same l (opposite s)) ∙ f));
    by_sender = λ from to i l s n item moves u. item-came from to i l s n item moves u
        (λ e. sent-same l (opposite s) ∙ law.items.by_sender from to e.at l s n item moves e.was);
    sender_gone = λ from to i l s n item moves u f. item-came from to i l s n item moves u
        (λ e. ap (λ z. is_some z || is_left after l (opposite s)) (len l (opposite s)) ∙
        ap (λ z. is_some (side_length g l (opposite s)) || z) (left-begun g k o fresh p l (opposite s)) ∙ law.items.sender_gone from to e.at l s n item moves e.was
        (sym (gone-same l (opposite s)) ∙ f));
    not_passed = λ from to i l s n item moves q u f. item-came from to i l s n item moves u
        (λ e. law.items.not_passed from to e.at l s n item moves q e.was (sym (taking-same l s) ∙ f));
    behind = λ from to i l s n item moves u f. item-came from to i l s n item moves u
        (λ e. e.made l s (law.items.behind from to e.at l s n item moves e.was (sym (awaited-same l s) ∙ f)));
    not_awaited_low = λ from to i j s n item moves a u f d. item-came from to i (Central j) s n item moves u
        (λ e. born from to e.at j s n item moves a e.was f d);
    receiver_there = λ from to i l s n item moves u. item-came from to i l s n item moves u
        (λ e. gone-same l s ∙ law.items.receiver_there from to e.at l s n item moves e.was);
  }
    where
      born : (from to i j : ℕ) (s : Side) (n : ℕ) (item : Item) (moves : List Descriptor) (a : ℕ) →
          IsItemUnderWay w from to i (Central j) s n item moves → (g.central j).router s ≡ None → (g.central j).born ≡ Some a →
          (after.bypass a).taken_at ≤ n
      born from to i j s n item moves a u f d =
          let l : is_linked (g.owner j) ≡ true = sym (is_recorded-central w g j) ∙ law.items.recorded from to i (Central j) s n item moves u
          in
          let t : 2 ≤ (g.bypass a).stage = (law.bypasses a).born_stage j l d in
          let e : nat_eq a o ≡ false = apart a t (nat_eq a o) refl in
          subst (λ z. z.taken_at ≤ n) (sym (begun-else g k o fresh p a e)) (law.items.not_awaited_low from to i j s n item moves a u f d)
        where
          apart : (a : ℕ) → 2 ≤ (g.bypass a).stage → (t : Bool) → nat_eq a o ≡ t → nat_eq a o ≡ false
          apart a t true e = absurd (let f : a ≡ o = grind (arith, e, nat_tests) in grind (arith, t, f, is.live, nat_tests))
          apart a t false e = e

  pub order-begun : Order v after
  order-begun = record {
    current = λ l s u q a d e f. law.order.current l s u q (sym (rec l) ∙ a) (sym (next-same l (opposite s)) ∙ d)
        (sym (taking-same l s) ∙ e) (sym (ap (λ t. has_passed t u) (len l (opposite s))) ∙ f);
    stored = λ l s u q n item a d e i f. law.order.stored l s u q n item (sym (rec l) ∙ a) (sym (next-same l (opposite s)) ∙ d)
        (sym (taking-same l s) ∙ e) i (sym (ap (λ t. has_passed t n) (len l (opposite s))) ∙ f);
  }

  pub fresh_numbers-begun : FreshNumbers v after
  fresh_numbers-begun q z at = record {
    own = λ i d n a e f. elim (was_there q z at) [
      | inl x ↦ (law.fresh_numbers q z x.0).own i d n a e f
      | inr x ↦ absurd
          (none-some i (sym (ap (λ t. t.outward.primary) x.1 ∙ new.primary) ∙ a))
    ];
    comes = λ i d length from to j n item moves a e f u. elim (was_there q z at) [
      | inl x ↦ item-came from to j i.link i.side n item moves u (λ t. (law.fresh_numbers q z x.0).comes i d length from to t.at n item moves
          a e (sym (len d.link (opposite d.side)) ∙ f) t.was)
      | inr x ↦ absurd (none-some i (sym (ap (λ t. t.outward.primary) x.1 ∙ new.primary) ∙ a))
    ];
    other = λ x i d n a e f t. elim (was_there q z at) [
      | inl j ↦ let s = stood i.link (opposite i.side) x t in grind
          (arith, s.out_queue, (law.fresh_numbers q z j.0).other s.router i d n a e (sym (len d.link (opposite d.side)) ∙ f) s.stood)
      | inr j ↦ absurd (none-some i (sym (ap (λ t. t.outward.primary) j.1 ∙ new.primary) ∙ a))
    ];
  }

  proxy-then : (j : ℕ) (z : Router) → is_begun (g.bypass j) ≡ true → nat_eq j o ≡ false → router_at v (after.bypass j).proxy ≡ Some z →
      router_at w (g.bypass j).proxy ≡ Some z
  proxy-then j z a n at = elim (was_there (g.bypass j).proxy z (ap (λ t. router_at v t.proxy) (sym (begun-else g k o fresh p j n)) ∙ at))
      [ inl e ↦ e.0 | inr e ↦ absurd (is.unbegun j a e.0) ]

  -- a bypass of a later stage is another, and as it was
  later : (j n : ℕ) → 2 ≤ n → n ≤ (after.bypass j).stage → nat_eq j o ≡ false
  later j n a d = go (nat_eq j o) refl
    where
      go : (t : Bool) → nat_eq j o ≡ t → nat_eq j o ≡ false
      go true e = absurd (let f : j ≡ o = grind (arith, e, nat_tests) in let u : (after.bypass j).stage ≡ 1 =
          ap (λ t. (after.bypass t).stage) f ∙ ap (λ t. t.stage) (begun-here g k o fresh p) in omega (arith, u, a, d))
      go false e = e

  late : (j n : ℕ) → nat_eq j o ≡ false → n ≤ (after.bypass j).stage → n ≤ (g.bypass j).stage
  late j n e d = subst (λ t. n ≤ t.stage) (begun-else g k o fresh p j e) d

  -- the proxy of a later bypass, before
  earlier : (j n : ℕ) (z : Router) → 2 ≤ n → n ≤ (after.bypass j).stage → router_at v (after.bypass j).proxy ≡ Some z →
      router_at w (g.bypass j).proxy ≡ Some z
  earlier j n z a d at = let e = later j n a d in proxy-then j z (let f : n ≤ (g.bypass j).stage = late j n e d in
      grind (arith, f, a, nat_tests)) e at

  pub proxy_numbers-begun : ProxyNumbers v after
  proxy_numbers-begun = record {
    out_current = λ j z at a. let e = later j 2 (omega arith) a in
        subst (λ t. z.out_queue.current ≤ t.taken_at) (sym (begun-else g k o fresh p j e))
        (law.proxy_numbers.out_current j z (earlier j 2 z (omega arith) a at) (late j 2 e a));
    out_items = λ j z n item at a i. let e = later j 2 (omega arith) a in
        subst (λ t. n < t.taken_at) (sym (begun-else g k o fresh p j e))
        (law.proxy_numbers.out_items j z n item (earlier j 2 z (omega arith) a at) (late j 2 e a) i);
    in_current = λ j z at a. let e = later j 3 (omega arith) a in
        subst (λ t. z.in_queue.current ≤ t.accepted_at) (sym (begun-else g k o fresh p j e))
        (law.proxy_numbers.in_current j z (earlier j 3 z (omega arith) a at) (late j 3 e a));
    in_items = λ j z n item at a i. let e = later j 3 (omega arith) a in
        subst (λ t. n < t.accepted_at) (sym (begun-else g k o fresh p j e))
        (law.proxy_numbers.in_items j z n item (earlier j 3 z (omega arith) a at) (late j 3 e a) i);
    across_gone = λ j z at a f. let e = later j 3 (omega arith) a in
        subst (λ t. t.taken_at ≤ z.out_queue.current) (sym (begun-else g k o fresh p j e))
        (law.proxy_numbers.across_gone j z (earlier j 3 z (omega arith) a at) (late j 3 e a)
        (ap (λ t. is_gone (view w g (Central j) (opposite t))) (sym (side-begun g k o fresh p j e)) ∙ sym
        (gone-same (Central j) (across_side after j)) ∙ f));
    inner_gone = λ j z at a f. let e = later j 5 (omega arith) (omega (arith, a)) in
        subst (λ t. t.accepted_at ≤ z.in_queue.current) (sym (begun-else g k o fresh p j e))
        (law.proxy_numbers.inner_gone j z (earlier j 5 z (omega arith) (omega (arith, a)) at)
        (sym (ap (λ t. t.stage) (begun-else g k o fresh p j e)) ∙ a)
        (ap (λ t. is_gone (view w g (inner_link t.inner) B)) (sym (begun-else g k o fresh p j e)) ∙ sym (gone-same (inner_of after j) B) ∙
        f));
    out_finished = λ j z at a f. let e = later j 4 (omega arith) a in
        subst (λ t. t.taken_at ≤ z.out_queue.current) (sym (begun-else g k o fresh p j e))
        (law.proxy_numbers.out_finished j z (earlier j 4 z (omega arith) a at) (late j 4 e a) f);
    in_finished = λ j z at a f. let e = later j 4 (omega arith) a in
        subst (λ t. t.accepted_at ≤ z.in_queue.current) (sym (begun-else g k o fresh p j e))
        (law.proxy_numbers.in_finished j z (earlier j 4 z (omega arith) a at) (late j 4 e a) f);
  }

  -- nothing is lost or made
  places-begun : (f : Weight) → in_places f after v ≡ in_places f g w
  unfolding in_router in_message'
  places-begun f = places-sources f g after v (source-begun g k o fresh p) ∙ omega (arith, c.places f g, ap (in_option f) is.here, same)
    where
      same : in_router f y ≡ in_router f r
      same = grind (arith, new.end, new.out_queue, new.in_queue)

  pub conserved-begun : Conserved v b after
  conserved-begun = record {
    exact = λ e f. places-begun (at_end e f) ∙ law.conserved.exact e f;
    read_put = law.conserved.read_put;
    prefix = law.conserved.prefix;
    gone_closed = law.conserved.gone_closed;
    reach = λ q z at t. elim (was_there q z at) [
      | inl a ↦ law.conserved.reach q z a.0 t
      | inr a ↦ absurd
          (grind (arith, a.1, new.terminal, t))
    ];
    current = λ q z at t. elim (was_there q z at) [
      | inl a ↦ law.conserved.current q z a.0 t
      | inr a ↦ absurd
          (grind (arith, a.1, new.terminal, t))
    ];
    sink = λ q z at t. elim (was_there q z at) [
      | inl a ↦ law.conserved.sink q z a.0 t
      | inr a ↦ absurd (grind (arith, a.1, new.terminal, t))
    ];
    move_out = λ from to i j m d u f. move-came from to i j m d u f (λ e. law.conserved.move_out from to e.at j m d e.was f);
    move_in = λ from to i j m d u f. move-came from to i j m d u f (λ e. law.conserved.move_in from to e.at j m d e.was f);
    move_open = λ from to i j m d u f. move-came from to i j m d u f (λ e. law.conserved.move_open from to e.at j m d e.was f);
    unopened_put = law.conserved.unopened_put;
    unopened_got = law.conserved.unopened_got;
  }

  pub held_once-begun : HeldOnce v b after
  held_once-begun = record {
    once = λ e. omega (arith, law.held_once.once e, places-begun (names_end e), held e);
    moves_in_parcel = λ from to i l s n item moves j d u f. item-came from to i l s n item moves u
        (λ e. law.held_once.moves_in_parcel from to e.at l s n item moves j d e.was f);
  }
    where
      held : (e : End) → times_held v e ≡ times_held w e
      held e = ap (λ n. total_below n (λ i. held_times e (node_at v i).held + times e (node_at v i).pending)) c.count
          ∙ total_below-same w.count _ _ (λ i. omega (arith, ap (held_times e) (c.nodes i).held, ap (times e) (c.nodes i).pending))

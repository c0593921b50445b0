-- A sink retires under its lock and sends Gone: the invariant is kept, with the books and the records after it.
use Rattle.ipcz_world.proofs.frames.RolesTell.{links-in}
use Rattle.std.specs.Prelude.{◌≡◌, ◌≢◌, ◌⊎◌, ◌≤◌, ◌<◌, ◌+◌, ◌&&◌, ◌||◌, ◌++◌, ℕ, Bool, true, false, cond, Option, Some, None, [], ◌∷◌, length}
use Rattle.std.specs.Prelude.{is_some, slice_get, refl}
use Rattle.ipcz_world.proofs.Vocabulary.{Queue, Side, A, B, End, LinkId, Central, Peripheral, LinkEnd, Item, Message, opposite, opposite_end}
use Rattle.ipcz_world.proofs.Vocabulary.{same_end, Router, is_terminal, inward_edge, Edge, Node, World, Key, same_key, node_at, router_at, flow}
use Rattle.ipcz_world.proofs.Vocabulary.{Books, read, is_closed, Records, At, is_recorded, side_router, side_node, side_end, side_length, bypass_of}
use Rattle.ipcz_world.proofs.Vocabulary.{key_passes, has_primary, is_attached, is_outward, view, view_by, router_view, Standing, IsRecorded}
use Rattle.ipcz_world.proofs.Vocabulary.{Terminals, Weight, Inv, across_side, taking_queue, Mark, Gone, end_at, push_out, is_retired, add_put}
use Rattle.ipcz_world.proofs.Vocabulary.{next_number, Retired, is_left, length_by, key_at, RetiredEnds, Gones}
use Rattle.ipcz_world.proofs.frames.RecordRules.{is_recorded-central}
use Rattle.ipcz_world.proofs.frames.StandingRules.{standing_rules}
use Rattle.std.proofs.Common.{arith, ap, subst, ◌∙◌, sym, inl, inr}
use Rattle.std.proofs.lemmas.Bool.Decides.{nat_tests}
use Rattle.std.proofs.lemmas.Bool.{and_parts, or_left}
use Rattle.std.proofs.lemmas.Option.{none-some, same_Some}
use Rattle.ipcz_base.specs.declared.message.Message.TheVariants as messages
use Rattle.ipcz_router.specs.ActTable.{can_retire}
use Rattle.ipcz_world.proofs.frames.OfRecords.{source, in_message, in_node, in_places}
use Rattle.ipcz_world.proofs.facts.Updates.{retire_act}
use Rattle.ipcz_world.proofs.facts.Updates.{remove_router, push_message}
use Rattle.ipcz_world.specs.Books.{after_retire}
use Rattle.ipcz_world.proofs.facts.RecordsAfter.{set_terminal}
use Rattle.ipcz_world.proofs.facts.RecordsAfter.{leave_records}
use Rattle.ipcz_world.specs.Standing.{fed_queue}
use Rattle.ipcz_world.specs.Standing as views
use Rattle.ipcz_world.specs.Places.{in_node as in_node'}
use Rattle.ipcz_world.specs.Routes.{source as source'}
use Rattle.ipcz_world.proofs.acts.Flags.{OnWord}
use Rattle.ipcz_world.proofs.acts.Retiring as retiring
use Rattle.ipcz_world.proofs.acts.Retiring.{Known}
use Rattle.ipcz_world.proofs.facts.LinkTests.{opposite_end-twice, same_end-itself, same_end-tells}
use Rattle.ipcz_world.proofs.facts.Lengths.{HasEnd, has_link-tells, opposite-twice, view-standing}
use Rattle.ipcz_world.proofs.facts.Tests.{not_both}
use Rattle.ipcz_world.proofs.frames.Fitting.{ItemFits}
use Rattle.ipcz_world.proofs.frames.Flowing.{IsPushed, under_way-pushed, slice_get-last}
use Rattle.ipcz_world.proofs.frames.SameMessages.{recorded-same}
use Rattle.ipcz_world.proofs.frames.Changing.{IsNodeChanged, pushed_by, same_routers}
use Rattle.ipcz_world.proofs.frames.Departing.{IsLeaver, h, h_is, is_off_here, near-departed, left_back, left_primary, left_more}
use Rattle.ipcz_world.proofs.frames.Draining.{taking_queue-standing}
use Rattle.ipcz_world.proofs.frames.Ended as ends
use Rattle.ipcz_world.proofs.frames.Frames.{same_key-itself, same_key_tells, node-set_node, word-set_node, mail-set_node, claimed-set_node}
use Rattle.ipcz_world.proofs.frames.Frames.{size-set_node, count-set_node}
use Rattle.ipcz_world.proofs.frames.GivingUp.{Gives, Keeps, passes-still, same-messages}
use Rattle.ipcz_world.proofs.frames.GonesKept.{IsGoneRight, right-of, gones-all}
use Rattle.ipcz_world.proofs.frames.Aside.{recorded-aside, terminals-aside}
use Rattle.ipcz_world.proofs.frames.LeftRecords.{off_of}
use Rattle.ipcz_world.proofs.frames.NearInv.{NearInv, inv-near, near-inv}
use Rattle.ipcz_world.proofs.frames.OneRouter.{SameButRouter, remove-router, words-remove_router}
use Rattle.ipcz_world.proofs.frames.Touching.{IsTouched, HasSameHands, HasSameEnds, recorded_same, either}
use Rattle.ipcz_world.proofs.acts.GoneSent as gone
use Rattle.ipcz_world.proofs.frames.Known.{node_of_router}
use Rattle.ipcz_world.proofs.frames.Views.{view_rules}
use Rattle.ipcz_world.proofs.frames.Booking.{flag, end_tells, more_here, length-more}
use Rattle.ipcz_world.proofs.frames.Weighing.{in_places-is, in_nodes-changed, in_message-item}

-- who has left isn't seen
view-left : (v : World) (g : Records) (l : LinkId) (s : Side) (k : Key) → side_router g l s ≡ Some k → router_at v k ≡ None →
    view v g l s ≡ views.Gone
unfolding view_by router_view
view-left v g l s k known none = rw (known, none) refl

not_central : (i : ℕ) (s : Side) → is_outward (Central i) s ≡ false → ⊥
unfolding is_outward
not_central i s h = cc

not_mark : Mark ≡ Gone → ⊥
not_mark h = cc

around_pair : (g : Records) (l : LinkId) (s : Side) → (side_end g l (opposite s)).pair ≡ (side_end g l s).pair
unfolding side_end
around_pair g (Central i) s = refl
around_pair g (Peripheral n x) s = refl

module _ (w : World) (b : Books) (g : Records) (k : Key) (r : Router) (i : ℕ) (law : Inv w b g) (here : router_at w k ≡ Some r)
    (on : OnWord w g k r i) (can : can_retire r ≡ true) where
  abbrev link : LinkId
  link = Central i

  abbrev s : Side
  s = opposite r.end.side

  abbrev e : End
  e = r.end

  abbrev n : ℕ
  n = length (b.put e)

  abbrev u : World
  u = remove_router w k

  abbrev m : Message
  m = messages.Item link s n Gone []

  abbrev pub v : World
  v = push_message u k.node on.end.other m

  pub leaver : IsLeaver w b g k r
  leaver = retiring.retire_leaver w b g k r i law here on can

  terminal : is_terminal r ≡ true
  terminal = grind (arith, can)

  one : SameButRouter w u k None
  one = remove-router w k r here

  pub gives : Gives w u k r None
  gives = record { one = one; here = here; part = λ z f. absurd (none-some z f); no_item = λ f. leaver.empty }

  pub keeps : Keeps w u r None
  keeps = record { words = words-remove_router w k; flags = λ z f. absurd (none-some z f) }

  abbrev pub h' : Records
  h' = h (near-inv law) leaver gives keeps

  pub at : h'.terminal e ≡ At k
  at = (law.terminals.each k r here).terminal terminal

  abbrev pub t : Records
  t = ends.ended u b h' e k at

  on_node : k.node < w.count
  on_node = law.counts.on_node k r here

  closed : is_closed b e ≡ true
  closed = sym (law.conserved.sink k r here terminal) ∙ grind (arith, can)

  near : NearInv u b h'
  near = near-departed (near-inv law) leaver gives keeps

  near_ended : NearInv u b t
  near_ended = ends.near-ended u b h' e k at (subst (λ m. k.node < m) (sym one.count) on_node) near.counts.on_node closed near.held_once near

  -- who stands across
  pub z : Known w (side_router g (Central i) (opposite r.end.side)) (has_primary (Central i) (opposite r.end.side))
  z = retiring.across w b g k r i law here on can

  rec : IsRecorded w g k r on.end
  rec = ((links-in law) k r here).primary on.end on.primary

  known : side_router g link s ≡ Some z.key
  known = z.is

  receiver : on.end.other ≡ side_node g link s
  receiver = rec.other ∙ ap (λ l. side_node g l (opposite on.end.side)) on.link ∙ ap (λ a. side_node g link (opposite a)) on.side

  has_z : HasEnd z.router.outward.primary (Central i) (opposite r.end.side)
  has_z = has_link-tells z.router.outward.primary (Central i) (opposite r.end.side) z.passed

  apart : z.key ≢ k
  apart f =
      let same : z.router ≡ r = same_Some z.router r (sym z.at ∙ ap (router_at w) f ∙ here) in
      let link_end : has_z.end ≡ on.end = same_Some has_z.end on.end (sym has_z.there ∙ ap (λ y. y.outward.primary) same ∙ on.primary) in
      other_side r.end.side (sym on.side ∙ ap (λ x. x.side) (sym link_end) ∙ has_z.at_side)
    where
      other_side : (a : Side) → a ≡ opposite a → ⊥
      other_side A f = cc
      other_side B f = cc

  z_stays : router_at u z.key ≡ Some z.router
  z_stays = one.routers z.key ∙ elim (same_key_tells z.key k) [
    | inl f ↦ absurd (apart f.1)
    | inr f ↦ ap (λ b. cond b None (router_at w z.key)) f.0 ∙ z.at
  ]

  gone_k : router_at u k ≡ None
  gone_k = one.routers k ∙ ap (λ b. cond b None (router_at w k)) (same_key-itself k)

  abbrev x : Node
  x = push_out (node_at u k.node) on.end.other m

  changed : IsNodeChanged u v k.node x
  changed = record {
    node = λ j. node-set_node u k.node x j;
    word = λ j. word-set_node u k.node x j;
    claimed = claimed-set_node u k.node x;
    size = size-set_node u k.node x;
    count = count-set_node u k.node x;
  }

  on_u : k.node < u.count
  on_u = subst (λ a. k.node < a) (sym one.count) on_node

  to_u : on.end.other < u.count
  to_u = subst (λ a. on.end.other < a) (sym one.count) (subst (λ a. a < w.count) (sym receiver)
      (law.counts.side_on_node link s (is_recorded-central w g i ∙ on.linked)))

  pushed : IsPushed u v k.node on.end.other m
  pushed = pushed_by u v k.node on.end.other x m changed (λ j. mail-set_node u k.node x j) refl on_u to_u

  router_v : (q : Key) → router_at v q ≡ router_at u q
  router_v q = same_routers u v q (grind (arith, changed.node q.node, nat_tests))

  touched : IsTouched u v z.key z.router z.router
  touched = record {
    one = record {
      here = z_stays;
      router = λ q. router_v q ∙ go q (same_key_tells q z.key);
      claimed = changed.claimed;
      size = changed.size;
      count = changed.count;
      node = λ j. grind (arith, changed.node j, nat_tests);
      nodes = λ j. grind (arith, changed.node j, nat_tests);
      opening = λ j. grind (arith, changed.node j, nat_tests);
      next_router = λ j. grind (arith, changed.node j, nat_tests);
      next_peripheral = λ j. grind (arith, changed.node j, nat_tests);
      strays = λ j. grind (arith, changed.node j, nat_tests);
    };
    word = changed.word;
  }
    where
      go : (q : Key) → ((same_key q z.key ≡ true) × (q ≡ z.key)) ⊎ ((same_key q z.key ≡ false) × (q ≢ z.key)) →
          router_at u q ≡ cond (same_key q z.key) (Some z.router) (router_at u q)
      go q (inl f) = rw f.0 (ap (router_at u) f.1 ∙ z_stays)
      go q (inr f) = rw f.0 refl

  hands : HasSameHands u v
  hands = record { hand = λ j. grind (arith, changed.node j, nat_tests); mail = λ j. mail-set_node u k.node x j }

  same_ends : HasSameEnds u v
  same_ends = record {
    count = changed.count;
    held = λ j. grind (arith, changed.node j, nat_tests);
    pending = λ j. grind (arith, changed.node j, nat_tests);
  }

  sends : source t link s ≡ e
  unfolding source'
  sends = ap (λ p. end_at p (opposite s)) (retiring.pair_is w b g k r i law here on can) ∙ ap (end_at r.end.pair) (opposite-twice r.end.side)

  node_same : (f : Weight) → in_node f t x ≡ in_node f t (node_at u k.node)
  unfolding in_node'
  node_same f = refl

  places : (f : Weight) → in_places f t v ≡ in_places f t u + f e n Gone
  places f = omega (
    arith,
    in_places-is f t u,
    in_places-is f t v,
    in_nodes-changed f t u v k.node x changed on_u,
    node_same f,
    under_way-pushed (λ from to m. in_message f t m) u v k.node on.end.other m pushed,
    in_message-item f t link s n Gone [],
    ap (λ d. f d n Gone) sends,
  )

  -- a router that stands in u stood in w, and isn't the sink
  stood : (q : Key) (y : Router) → router_at u q ≡ Some y → (router_at w q ≡ Some y) × (q ≢ k)
  stood q y a = go (same_key_tells q k)
    where
      go : ((same_key q k ≡ true) × (q ≡ k)) ⊎ ((same_key q k ≡ false) × (q ≢ k)) → (router_at w q ≡ Some y) × (q ≢ k)
      go (inl f) = absurd (none-some y (sym (one.routers q ∙ ap (λ b. cond b None (router_at w q)) f.0) ∙ a))
      go (inr f) = (sym (one.routers q ∙ ap (λ b. cond b None (router_at w q)) f.0) ∙ a, f.1)

  lone : (q : Key) (y : Router) → router_at u q ≡ Some y → is_terminal y ≡ true → y.end ≢ e
  lone q y a l f = (stood q y a).1 (same_at (sym ((law.terminals.each q y (stood q y a).0).terminal l) ∙ ap g.terminal f ∙ at))
    where
      same_at : At q ≡ At k → q ≡ k
      same_at h = cc

  view_to : view v t link s ≡ Standing z.router
  unfolding side_router is_attached
  view_to = view-standing v t link s z.key z.router known (router_v z.key ∙ z_stays) (or_left _ _ z.passed)

  view_from : view v t link (opposite s) ≡ views.Gone
  unfolding side_router
  view_from = view-left v t link (opposite s) k (ap (side_router g link) (opposite-twice r.end.side) ∙ on.known) (router_v k ∙ gone_k)

  end_z : opposite_end z.router.end ≡ e
  unfolding side_end
  end_z = let rec_z : IsRecorded w g z.key z.router has_z.end = ((links-in law) z.key z.router z.at).primary has_z.end has_z.there in
      ap opposite_end (rec_z.end ∙ ap (λ l. side_end g l has_z.end.side) has_z.on_link ∙ ap (side_end g (Central i)) has_z.at_side) ∙
      opposite_end-twice (end_at (g.central i).pair r.end.side) ∙ ap (λ p. end_at p r.end.side) (retiring.pair_is w b g k r i law here on can)

  fits : ItemFits v t k.node on.end.other (length (flow u k.node on.end.other)) link s n
  unfolding side_router side_node length_by bypass_of is_left is_recorded taking_queue fed_queue
  fits = record {
    recorded = (is_off_here (near-inv law) leaver gives keeps).linked i ∙ on.linked;
    sender = sym (node_of_router g link (opposite s) k (ap (side_router g link) (opposite-twice r.end.side) ∙ on.known));
    receiver = receiver;
    below_length = λ len f. absurd (none-some len (sym unlong ∙ f));
    was_sent = λ a f. absurd (grind (arith, f, view_from, view_rules));
    by_sender = grind (arith, view_from, view_rules);
    sender_gone = λ f. right (is_some (side_length t link (opposite s))) (is_left t link (opposite s)) left_there;
    not_passed = λ q f. low q (same_Some z.router.in_queue q (sym (ap (taking_queue link s) view_to ∙ taking_queue-standing link s z.router) ∙ f));
    behind = λ f. absurd (grind (arith, f, view_to, view_rules));
    not_awaited_low = λ c o l f born. absurd (awaited c (same_word l) f);
    receiver_there = grind (arith, view_to, view_rules);
  }
    where
      right : (a c : Bool) → c ≡ true → (a || c) ≡ true
      right true c f = refl
      right false c f = f

      same_word : {c : ℕ} → link ≡ Central c → i ≡ c
      same_word l = cc

      unlong : side_length t link (opposite s) ≡ None
      unlong = rw (retiring.live w b g k r i law here on can) refl

      left_there : is_left h' link (opposite s) ≡ true
      left_there = ap (is_left h' link) (opposite-twice r.end.side) ∙ ap (is_left h' link) (sym on.side) ∙
          ap (λ l. is_left h' l on.end.side) (sym on.link) ∙ left_primary (near-inv law) leaver gives keeps on.end on.primary

      low : (q : Queue Item) → z.router.in_queue ≡ q → q.current ≤ n
      low q f = subst (λ p. p.current ≤ n) f (subst (λ d. z.router.in_queue.current ≤ length (b.put d)) end_z
          (law.gones.in_put z.key z.router z.at))

      awaited : (c : ℕ) → i ≡ c → (g.central c).router s ≡ None → ⊥
      awaited c f a = none-some z.key (sym (ap (key_at ((g.central i).node s)) (ap (λ m. (g.central m).router s) f ∙ a)) ∙ known)

  pub sent : gone.IsGoneSent u v b t e z.key z.router k.node on.end.other link s
  sent = record {
    touched = touched;
    pushed = pushed;
    hands = hands;
    same = same_ends;
    places = places;
    ended = ap (λ c. cond c Retired (h'.terminal e)) (same_end-itself e);
    lone = lone;
    closed = closed;
    unretired = retiring.unretired w b g k r i law here on can r.end.side;
    fits = fits;
    still = λ q y d a p l f. still q y d (stood q y a).0 p l f;
  }
    where
      -- who stands at the message's side is marked
      still : (q : Key) (y : Router) (d : LinkEnd) → router_at w q ≡ Some y → y.outward.primary ≡ Some d → d.link ≡ link → d.side ≡ s →
          y.outward.decaying ≡ None
      still q y d a p l f = none y.outward.decaying refl
        where
          rec_y : IsRecorded w g q y d
          rec_y = ((links-in law) q y a).primary d p

          side : side_router g link s ≡ Some q
          side = sym (ap (λ x. side_router g x d.side) l ∙ ap (side_router g link) f) ∙ rec_y.router

          marked : y.marked ≡ true
          marked = grind (arith, standing_rules, retiring.marked_at w b g k r i law here on can s, side, a)

          none : (o : Option LinkEnd) → y.outward.decaying ≡ o → y.outward.decaying ≡ None
          none None o = o
          none (Some c) o = absurd (grind (arith, (law.shape q y a).marked_still marked, o))

  pub near_sent : NearInv v (add_put b e Gone) t
  near_sent = gone.near-pushed u v b t e z.key z.router k.node on.end.other link s near_ended sent

  abbrev pub c : Books
  c = add_put b e Gone

  -- what the books after it say
  closed_same : (d : End) → is_closed c d ≡ is_closed b d
  closed_same = gone.closed_same u v b t e z.key z.router k.node on.end.other link s near_ended sent

  retired_more : (d : End) → is_retired b d ≡ true → is_retired c d ≡ true
  retired_more = gone.retired_more u v b t e z.key z.router k.node on.end.other link s near_ended sent

  retired_here : is_retired c e ≡ true
  retired_here = gone.retired_here u v b t e z.key z.router k.node on.end.other link s near_ended sent

  retired_other : (d : End) → d ≢ e → is_retired c d ≡ is_retired b d
  retired_other = gone.retired_other u v b t e z.key z.router k.node on.end.other link s near_ended sent

  longer : (d : End) (a : ℕ) → a ≤ length (b.put d) → a ≤ length (c.put d)
  longer = gone.longer u v b t e z.key z.router k.node on.end.other link s near_ended sent

  put_same : (d : End) → d ≢ e → c.put d ≡ b.put d
  put_same = gone.put_same u v b t e z.key z.router k.node on.end.other link s near_ended sent

  put_here : c.put e ≡ b.put e ++ Gone ∷ []
  put_here = more_here (b.put e ++ Gone ∷ []) (b.put e) e

  open_pair : (a : Side) → is_retired b (end_at e.pair a) ≡ false
  open_pair = retiring.unretired w b g k r i law here on can

  -- whose end has retired before isn't of the pair
  other_pair : (d : End) → is_retired b d ≡ true → d.pair ≢ e.pair
  other_pair d h f = not_both (is_retired b d) h (ap (λ p. is_retired b (end_at p d.side)) f ∙ open_pair d.side)

  other_end : (d : End) → is_retired b d ≡ true → d ≢ e
  other_end d h f = other_pair d h (ap (λ x. x.pair) f)

  other_peer : (d : End) → is_retired b d ≡ true → opposite_end d ≢ e
  other_peer d h f = other_pair d h (ap (λ x. x.pair) f)

  off_terminals : Terminals w h'
  off_terminals = terminals-aside (is_off_here (near-inv law) leaver gives keeps) w law.terminals

  terminals : Terminals v t
  unfolding side_end
  terminals = record {
    each = λ q y a. let o = off_terminals.each q y (stood q y (sym (router_v q) ∙ a)).0 in record {
      terminal = λ l. ends.other-ended u b h' e k at y.end (lone q y (sym (router_v q) ∙ a) l) ∙ o.terminal l;
      opened = (ends.is_ended u b h' e k at).nowhere y.end ∙ o.opened;
    };
    stands = λ d q a. seen d q a (end_tells d e);
    link_opened = λ l p a. (ends.is_ended u b h' e k at).nowhere (side_end h' l p) ∙ off_terminals.link_opened l p
        (sym (recorded-same w u h' l (same-messages one)) ∙ sym (recorded-aside (ends.is_ended u b h' e k at) u l) ∙
        sym (recorded_same u v z.key z.router z.router t touched l) ∙ a);
    both = λ d. (ends.is_ended u b h' e k at).nowhere (opposite_end d) ∙ off_terminals.both d ∙ sym ((ends.is_ended u b h' e k at).nowhere d);
    unopened = λ d a. (ends.is_ended u b h' e k at).nowhere d ∙ off_terminals.unopened d a;
    other_pair = λ d a f. (ends.is_ended u b h' e k at).nowhere d ∙ off_terminals.other_pair d a f;
  }
    where
      not_at : (q : Key) → Retired ≡ At q → ⊥
      not_at q f = cc

      seen : (d : End) (q : Key) → t.terminal d ≡ At q → ((same_end d e ≡ true) × (d ≡ e)) ⊎ ((same_end d e ≡ false) × (d ≢ e)) →
          key_passes v (Some q) (λ y. is_terminal y && same_end y.end d) ≡ true
      seen d q a (inl f) = absurd (not_at q (sym (ap (λ b. cond b Retired (h'.terminal d)) f.0) ∙ a))
      seen d q a (inr f) =
          let p = passes-still gives (λ y. is_terminal y && same_end y.end d) (Some q)
          (off_terminals.stands d q (sym (ap (λ b. cond b Retired (h'.terminal d)) f.0) ∙ a))
          (λ x y. absurd (f.1 (sym (same_end-tells r.end d (and_parts (is_terminal r) (same_end r.end d) y).1)))) in
          grind (arith, standing_rules, p, router_v q)

  no_inward : (d : LinkEnd) → (inward_edge r).primary ≡ Some d → ⊥
  no_inward d p = go r.inward refl
    where
      go : (o : Option Edge) → r.inward ≡ o → ⊥
      go None f = grind (arith, f, p)
      go (Some y) f = grind (arith, f, terminal)

  not_itself : opposite_end e ≢ e
  not_itself f = apart_side e.side (ap (λ x. x.side) f)
    where
      apart_side : (a : Side) → opposite a ≡ a → ⊥
      apart_side A f = cc
      apart_side B f = cc

  retired_ends : RetiredEnds c t
  unfolding is_left side_end
  retired_ends = record {
    retired = λ d a. elim (end_tells d e) [
      | inl f ↦ ap (λ x. cond x Retired (h'.terminal d)) f.0
      | inr f ↦ ap (λ x. cond x Retired (h'.terminal d)) f.0 ∙ law.retired_ends.retired d (sym (retired_other d f.1) ∙ a)
    ];
    peer_closed = λ d a. closed_same (opposite_end d) ∙ elim (end_tells d e) [
      | inl f ↦ ap (λ x. is_closed b (opposite_end x)) f.1 ∙ law.gones.dropped_closed k r here (retiring.noted w b g k r i law here on can)
      | inr f ↦ law.retired_ends.peer_closed d (sym (retired_other d f.1) ∙ a)
    ];
    peer_stays = λ d a. elim (end_tells d e) [
      | inl f ↦ ap (λ x. is_retired c (opposite_end x)) f.1 ∙ retired_other (opposite_end e) not_itself ∙ open_pair (opposite e.side)
      | inr f ↦ retired_other (opposite_end d) (other_peer d (sym (retired_other d f.1) ∙ a)) ∙
          law.retired_ends.peer_stays d (sym (retired_other d f.1) ∙ a)
    ];
    all_read = λ d a. elim (end_tells d e) [
      | inl f ↦ ap (read b) f.1 ∙ read_all ∙ ap length (sym (put_same (opposite_end e) not_itself)) ∙
          ap (λ x. length (c.put (opposite_end x))) (sym f.1)
      | inr f ↦ law.retired_ends.all_read d (sym (retired_other d f.1) ∙ a) ∙
          ap length (sym (put_same (opposite_end d) (other_peer d (sym (retired_other d f.1) ∙ a))))
    ];
    gone_read = λ d a l. elim (end_tells d e) [
      | inl f ↦ absurd (not_both (is_retired c d) (ap (is_retired c) f.1 ∙ retired_here) l)
      | inr f ↦ let o = law.retired_ends.gone_read d (sym (ap (λ x. cond x Retired (h'.terminal d)) f.0) ∙ a) (sym (retired_other d f.1) ∙ l) in
          (retired_more (opposite_end d) o.0, o.1 ∙ ap length (sym (put_same (opposite_end d) (other_end (opposite_end d) o.0))))
    ];
    no_bypass = λ o a l m. retired_other (end_at (g.central o).pair a)
        (λ f. retiring.unbypassed w b g k r i law here on can o l m (ap (λ x. x.pair) f)) ∙ law.retired_ends.no_bypass o a l m;
    left = λ d j a l m p. elim (end_tells d e) [
      | inl f ↦ let same : j ≡ i = law.live.one_live j i ((sym ((is_off_here (near-inv law) leaver gives keeps).linked j)) ∙ l) on.linked
          (p ∙ ap (λ x. x.pair) f.1 ∙ sym (retiring.pair_is w b g k r i law here on can)) m (retiring.live w b g k r i law here on can) in
          ap (λ n. is_left h' (Central n) d.side) same ∙ ap (λ x. is_left h' (Central i) x.side) f.1 ∙ left_mine
      | inr f ↦ left_more (near-inv law) leaver gives keeps (Central j) d.side (law.retired_ends.left d j (sym (retired_other d f.1) ∙ a)
          ((sym ((is_off_here (near-inv law) leaver gives keeps).linked j)) ∙ l) m p)
    ];
    left_of = λ l p a. elim (left_back (near-inv law) leaver gives keeps l p a) [
      | inl f ↦ or_more (side_end g l p) (law.retired_ends.left_of l p f)
      | inr (inl f) ↦ or_left _ _ (ap (is_retired c) (mine l p f.0 f.1 f.2 f.3) ∙ retired_here)
      | inr (inr f) ↦ absurd (no_inward f.0 f.1)
    ];
    accepted = λ o a. accepts (end_at (g.central o).pair (across_side g o)) (g.bypass o).accepted_at (law.retired_ends.accepted o a);
  }
    where
      left_mine : is_left h' (Central i) e.side ≡ true
      left_mine = ap (is_left h' (Central i)) (sym on.side) ∙ ap (λ l. is_left h' l on.end.side) (sym on.link) ∙
          left_primary (near-inv law) leaver gives keeps on.end on.primary

      read_all : read b e ≡ length (b.put (opposite_end e))
      read_all = omega (
        arith,
        law.conserved.current k r here terminal,
        retiring.all w b g k r i law here on can,
        law.conserved.read_put (opposite_end e),
        ap (read b) (opposite_end-twice e),
      )

      mine : (l : LinkId) (p : Side) (d : LinkEnd) → r.outward.primary ≡ Some d → l ≡ d.link → p ≡ d.side → side_end g l p ≡ e
      mine l p d f h j = ap (λ x. side_end g x p) h ∙ ap (side_end g d.link) j ∙ sym (((links-in law) k r here).primary d f).end

      or_more : (d : End) → (is_retired b d || is_retired b (opposite_end d)) ≡ true → (is_retired c d || is_retired c (opposite_end d)) ≡ true
      or_more d h = elim (either (is_retired b d) (is_retired b (opposite_end d)) h) [
        | inl f ↦ or_left _ _ (retired_more d f)
        | inr f ↦ right (is_retired c d) (is_retired c (opposite_end d)) (retired_more (opposite_end d) f)
      ]
        where
          right : (a c : Bool) → c ≡ true → (a || c) ≡ true
          right true c f = refl
          right false c f = f

      accepts : (d : End) (a : ℕ) → a + cond (is_retired b d) 1 0 ≤ length (b.put d) → a + cond (is_retired c d) 1 0 ≤ length (c.put d)
      accepts d a l = elim (end_tells d e) [
        | inl f ↦ omega (
          arith,
          l,
          ap flag (ap (is_retired b) f.1 ∙ open_pair e.side),
          ap flag (ap (is_retired c) f.1 ∙ retired_here),
          ap (λ x. length (c.put x)) f.1,
          ap length put_here,
          length-more (b.put e) Gone,
          ap (λ x. length (b.put x)) f.1,
        )
        | inr f ↦ omega (arith, l, ap flag (retired_other d f.1), ap length (put_same d f.1))
      ]

  gones : Gones v c t
  unfolding is_left side_end
  gones = gones-all right
    where
      right : (q : Key) (y : Router) → router_at v q ≡ Some y → IsGoneRight c t y
      right q y a = record {
        sent = λ h. let p = o.sent h in (
          retired_more (opposite_end y.end) p.0,
          p.1 ∙ ap length (sym (put_same (opposite_end y.end) (other_end (opposite_end y.end) p.0))),
        );
        sent_back = λ l p h j. elim (end_tells (opposite_end y.end) e) [
          | inl f ↦ absurd (omega (
            arith,
            o.in_put,
            j,
            ap (λ d. length (c.put d)) f.1,
            ap length put_here,
            length-more (b.put e) Gone,
            ap (λ d. length (b.put d)) f.1,
          ))
          | inr f ↦ o.sent_back l p (sym (retired_other (opposite_end y.end) f.1) ∙ h) (j ∙ ap length (put_same (opposite_end y.end) f.1))
        ];
        left_primary = λ d p l. elim (left_back (near-inv law) leaver gives keeps d.link (opposite d.side) l) [
          | inl f ↦ retired_more (opposite_end y.end) (o.left_primary d p f)
          | inr (inl f) ↦ ap (is_retired c) (across_end d p f.0 f.1 f.2 f.3) ∙ retired_here
          | inr (inr f) ↦ absurd (no_inward f.0 f.1)
        ];
        left_inner = λ d p l. elim (left_back (near-inv law) leaver gives keeps d.link (opposite d.side) l) [
          | inl f ↦ put_by (opposite_end y.end) y.in_queue.current (o.left_inner d p f) (λ j. open_left d p f j)
          | inr (inl f) ↦ absurd (not_inner d p f.0 f.1 f.2)
          | inr (inr f) ↦ absurd (no_inward f.0 f.1)
        ];
        out_put = longer y.end y.out_queue.current o.out_put;
        in_put = longer (opposite_end y.end) y.in_queue.current o.in_put;
        still = λ p l h. elim (end_tells (end_at y.end.pair p) e) [
          | inl f ↦ retiring.pair_still w b g k r i law here on can q y was (ap (λ d. d.pair) f.1) l
          | inr f ↦ o.still p l (sym (retired_other (end_at y.end.pair p) f.1) ∙ h)
        ];
        dropped = λ j l h p. o.dropped j l (mark_was (opposite_end y.end) j h) p;
        dropped_closed = λ p. closed_same (opposite_end y.end) ∙ o.dropped_closed p;
        dropped_back = λ j l h p f. o.dropped_back j l (mark_was (opposite_end y.end) j h) p f;
      }
        where
          was : router_at w q ≡ Some y
          was = (stood q y (sym (router_v q) ∙ a)).0

          o : IsGoneRight b g y
          o = right-of law.gones q y was

          put_by : (d : End) (a : ℕ) → length (b.put d) ≤ a → (d ≡ e → ⊥) → length (c.put d) ≤ a
          put_by d a l f = omega (arith, l, ap length (put_same d f))

          -- across the sink's link stands a router of the peer
          across_end : (d : LinkEnd) → y.outward.primary ≡ Some d → (x : LinkEnd) → r.outward.primary ≡ Some x → d.link ≡ x.link →
              opposite d.side ≡ x.side → opposite_end y.end ≡ e
          across_end d p x f l h =
              let same : x ≡ on.end = same_Some x on.end (sym f ∙ on.primary) in
              let on_link : d.link ≡ Central i = l ∙ ap (λ y. y.link) same ∙ on.link in
              let side : opposite d.side ≡ e.side = h ∙ ap (λ y. y.side) same ∙ on.side in
              ap opposite_end ((((links-in law) q y was).primary d p).end ∙ ap (λ l. side_end g l d.side) on_link) ∙
              ap (end_at (g.central i).pair) side ∙ ap (λ n. end_at n e.side) (retiring.pair_is w b g k r i law here on can)

          not_inner : (d : LinkEnd) → (inward_edge y).primary ≡ Some d → (x : LinkEnd) → r.outward.primary ≡ Some x → d.link ≡ x.link → ⊥
          not_inner d p x f l =
              let same : x ≡ on.end = same_Some x on.end (sym f ∙ on.primary) in
              let on_link : d.link ≡ Central i = l ∙ ap (λ y. y.link) same ∙ on.link in
              not_central i d.side (ap (λ z. is_outward z d.side) (sym on_link) ∙ ((links-in law) q y was).inward_primary_inward d p)

          -- no side of a link of the pair was left before
          open_left : (d : LinkEnd) → (inward_edge y).primary ≡ Some d → is_left g d.link (opposite d.side) ≡ true → opposite_end y.end ≡ e → ⊥
          open_left d p f j =
              let y_pair : y.end.pair ≡ e.pair = ap (λ x. x.pair) j in
              let there : (side_end g d.link (opposite d.side)).pair ≡ e.pair =
              around_pair g d.link d.side ∙ sym (ap (λ x. x.pair) (((links-in law) q y was).inward_primary d p).end) ∙ y_pair in
              elim (either _ _ (law.retired_ends.left_of d.link (opposite d.side) f)) [
                | inl h ↦ other_pair (side_end g d.link (opposite d.side)) h there
                | inr h ↦ other_pair (opposite_end (side_end g d.link (opposite d.side))) h there
              ]

          mark_was : (d : End) (j : ℕ) → slice_get (c.put d) j ≡ Some Mark → slice_get (b.put d) j ≡ Some Mark
          mark_was d j h = elim (end_tells d e) [
            | inl f ↦ elim (slice_get-last (b.put e) Gone Mark j (sym (ap (λ x. slice_get (c.put x) j) f.1 ∙ ap (λ xs. slice_get xs j) put_here) ∙ h)) [
              | inl p ↦ ap (λ x. slice_get (b.put x) j) f.1 ∙ p
              | inr p ↦ absurd (not_mark p.1)
            ]
            | inr f ↦ ap (λ xs. slice_get xs j) (sym (put_same d f.1)) ∙ h
          ]

  pub inv-retired : Inv v c t
  inv-retired = inv-near near_sent terminals retired_ends gones

  pub records_are : t ≡ leave_records g r
  records_are = ap (λ x. set_terminal x r.end Retired) (sym (h_is (near-inv law) leaver gives keeps)) ∙ sym (when_terminal g r terminal)
    where
      when_terminal : (g : Records) (r : Router) → is_terminal r ≡ true → leave_records g r ≡ set_terminal (off_of g r) r.end Retired
      when_terminal g r e = rw e refl

  pub world_is : v ≡ retire_act w k on.end n
  world_is = ap (λ l. push_message u k.node on.end.other (messages.Item l s n Gone [])) (sym on.link) ∙
      ap (λ a. push_message u k.node on.end.other (messages.Item on.end.link (opposite a) n Gone [])) (sym on.side)

-- a sink that can retire
pub inv-retire : (w : World) (b : Books) (g : Records) (k : Key) (r : Router) (i : ℕ) (law : Inv w b g) → router_at w k ≡ Some r →
    (on : OnWord w g k r i) → can_retire r ≡ true →
    Inv (retire_act w k on.end (next_number r)) (after_retire b (router_at w k)) (leave_records g r)
unfolding after_retire
inv-retire w b g k r i law here on can =
    subst (λ o. Inv (retire_act w k on.end (next_number r)) (after_retire b o) (leave_records g r)) (sym here)
    (subst (λ m. Inv (retire_act w k on.end m) (add_put b r.end Gone) (leave_records g r))
    (sym (law.conserved.reach k r here (retiring.terminal w b g k r i law here on can)))
    (subst (λ x. Inv x (add_put b r.end Gone) (leave_records g r)) (world_is w b g k r i law here on can)
    (subst (Inv (v w b g k r i law here on can) (c w b g k r i law here on can)) (records_are w b g k r i law here on can)
    (inv-retired w b g k r i law here on can))))

-- What an act keeps that changes one router's links and flags, and no item, terminal or end.
use Rattle.ipcz_world.proofs.Vocabulary.{IsOrdered, has, Weight, in_router, times, at_end, names_end, Side, A, B, End, LinkId, Central, Peripheral}
use Rattle.ipcz_world.proofs.Vocabulary.{Descriptor, Item, Message, opposite, is_central, same_end, has_end, opposite_end, total, total_below}
use Rattle.ipcz_world.proofs.Vocabulary.{total_list, Router, is_terminal, World, Key, node_at, router_at, same_key, Books, Records, is_begun}
use Rattle.ipcz_world.proofs.Vocabulary.{is_linked, is_recorded, inner_link, side_node, side_router, side_end, bypass_of, proxy_side, is_nowhere}
use Rattle.ipcz_world.proofs.Vocabulary.{terminal_node, key_passes, IsUnderWay, moves_of, under_way, of_end, Ordered, Spares, of_bypass}
use Rattle.ipcz_world.proofs.Vocabulary.{control_weight, moving_link, Terminals, EndPlaces, BooksKept, Conserved, HeldOnce, times_held, HasTerminal}
use Rattle.ipcz_world.proofs.Vocabulary.{HasEndsHere, item_at, is_left, spare_of, Moves, move_weight}
use Rattle.ipcz_world.proofs.frames.EachKept.{each-one}
use Rattle.ipcz_world.proofs.frames.OfRecords.{holds, held_times, source, in_message, in_places}
use Rattle.ipcz_world.specs.Places.{in_message as in_message', in_node as in_node', in_places as in_places'}
use Rattle.ipcz_world.specs.Routes.{source as source'}
use Rattle.std.specs.Prelude.{◌≡◌, ℕ, ◌+◌, Bool, false, cond, ◌&&◌, nat_eq, Option, Some, None, List, slice_get, refl, true, ◌⊎◌, ◌≢◌}
use Rattle.std.proofs.Common.{arith, ap, ◌∙◌, sym, inl, inr}
use Rattle.std.proofs.lemmas.Option.{none-some}
use Rattle.ipcz_base.specs.declared.message.Message.TheVariants as messages
use Rattle.ipcz_world.proofs.frames.Frames.{same_key_tells}
use Rattle.ipcz_world.specs.Bypasses.{is_by}
use Rattle.ipcz_world.specs.Inv.{HasNoStrays}
use Rattle.ipcz_world.proofs.frames.Totalling.{total_below-same}
use Rattle.ipcz_world.proofs.frames.OneChange.{OneChanges, passes-same}
use Rattle.ipcz_world.proofs.frames.EndsKept.{terminal-kept, ends-kept}
use Rattle.ipcz_world.proofs.frames.EachKept.{each-by}

-- two routers alike but for links and flags
pub record IsLike (r x : Router) : Type 0 where
  pub end : x.end ≡ r.end
  pub out_queue : x.out_queue ≡ r.out_queue
  pub in_queue : x.in_queue ≡ r.in_queue
  pub terminal : is_terminal x ≡ is_terminal r
  pub closed : x.closed ≡ r.closed
  pub mark_seen : x.mark_seen ≡ r.mark_seen
  pub mark_dropped : x.mark_dropped ≡ r.mark_dropped
  pub gone_sent : x.gone_sent ≡ r.gone_sent
  pub spare : x.spare ≡ r.spare

-- one router changes in its links: what callers hold is as it was, while messages, hands and words may move on
pub record Changed (w v : World) (k : Key) (r x : Router) : Type 0 where
  pub one : OneChanges w v k r x
  pub open one use *
  pub held : (n : ℕ) → (node_at v n).held ≡ (node_at w n).held
  pub pending : (n : ℕ) → (node_at v n).pending ≡ (node_at w n).pending

pub like-itself : (t : Router) → IsLike t t
like-itself t = record { end = refl; out_queue = refl; in_queue = refl; terminal = refl; closed = refl; mark_seen = refl; mark_dropped = refl; gone_sent = refl; spare = refl }

-- what a router was before: alike, with the same inward edge
pub record WasLike (w : World) (q : Key) (t : Router) : Type 0 where
  pub router : Router
  pub here_before : router_at w q ≡ Some router
  pub alike : IsLike router t
  pub inward : t.inward ≡ router.inward

pub was_like : {w v : World} {k : Key} {r x : Router} → Changed w v k r x → IsLike r x → x.inward ≡ r.inward → (q : Key) (t : Router) →
    router_at v q ≡ Some t → WasLike w q t
was_like {w} {v} {k} {r} {x} c like inward q t e = go (same_key_tells q k)
  where
    go : ((same_key q k ≡ true) × (q ≡ k)) ⊎ ((same_key q k ≡ false) × (q ≢ k)) → WasLike w q t
    go (inl m) = let same : x ≡ t = grind (arith, c.router q, e, m.0) in
        record { router = r; here_before = rw m.1 c.here; alike = rw (← same) like; inward = ap (λ z. z.inward) (sym same) ∙ inward }
    go (inr m) = record { router = t; here_before = grind (arith, c.router q, e, m.0); alike = like-itself t; inward = refl }

-- each item under way was so before, at some place
pub record Carried (w v : World) : Type 0 where
  pub place : ℕ → ℕ → ℕ → ℕ
  pub was : (a b i : ℕ) (link : LinkId) (s : Side) (n : ℕ) (item : Item) (moves : List Descriptor) →
      IsUnderWay v a b i (messages.Item link s n item moves) → IsUnderWay w a b (place a b i) (messages.Item link s n item moves)

-- records that agree but for how far bypasses are and who stands at the sides of central links
pub record Agree (g h : Records) : Type 0 where
  pub owner : (i : ℕ) → h.owner i ≡ g.owner i
  pub pair : (i : ℕ) → (h.central i).pair ≡ (g.central i).pair
  pub node : (i : ℕ) (s : Side) → (h.central i).node s ≡ (g.central i).node s
  pub born : (i : ℕ) → (h.central i).born ≡ (g.central i).born
  pub left : (i : ℕ) → (h.central i).left ≡ (g.central i).left
  pub peripheral : (p : Key) → h.peripheral p ≡ g.peripheral p
  pub terminal : (e : End) → h.terminal e ≡ g.terminal e
  pub begun : (q : Key) → h.begun q ≡ g.begun q
  pub proxy : (o : ℕ) → (h.bypass o).proxy ≡ (g.bypass o).proxy
  pub inner : (o : ℕ) → (h.bypass o).inner ≡ (g.bypass o).inner
  pub fresh : (o : ℕ) → (h.bypass o).fresh ≡ (g.bypass o).fresh
  pub is_begun : (o : ℕ) → is_begun (h.bypass o) ≡ is_begun (g.bypass o)

module _ (g h : Records) (a : Agree g h) where
  pub side_node-agree : (link : LinkId) (s : Side) → side_node h link s ≡ side_node g link s
  unfolding side_node
  side_node-agree (Central i) s = a.node i s
  side_node-agree (Peripheral n p) A = refl
  side_node-agree (Peripheral n p) B = ap (λ c. c.node) (a.peripheral (record { node = n; serial = p }))

  pub side_end-agree : (link : LinkId) (s : Side) → side_end h link s ≡ side_end g link s
  unfolding side_end
  side_end-agree (Central i) s = grind (arith, a.pair i)
  side_end-agree (Peripheral n p) s = ap (λ c. c.end) (a.peripheral (record { node = n; serial = p }))

  pub is_left-agree : (link : LinkId) (s : Side) → is_left h link s ≡ is_left g link s
  unfolding is_left
  is_left-agree (Central i) s = ap (λ x. has x s) (a.left i)
  is_left-agree (Peripheral n p) s = ap (λ c. has c.left s) (a.peripheral (record { node = n; serial = p }))

  pub source-agree : (link : LinkId) (s : Side) → source h link s ≡ source g link s
  unfolding source'
  source-agree (Central i) s = grind (arith, a.pair i)
  source-agree (Peripheral n p) A = grind (arith, a.peripheral (record { node = n; serial = p }))
  source-agree (Peripheral n p) B = grind (arith, a.peripheral (record { node = n; serial = p }))

  pub bypass_of-agree : (link : LinkId) → bypass_of h link ≡ bypass_of g link
  unfolding bypass_of
  bypass_of-agree (Central i) = grind (arith, a.is_begun i)
  bypass_of-agree (Peripheral n p) = grind (arith, a.peripheral (record { node = n; serial = p }))

  pub proxy_side-agree : (o : ℕ) → proxy_side h o ≡ proxy_side g o
  proxy_side-agree o = grind (arith, a.peripheral (h.bypass o).inner, a.inner o)

  pub side_router-inner-agree : (p : Key) (s : Side) → side_router h (inner_link p) s ≡ side_router g (inner_link p) s
  unfolding side_router
  side_router-inner-agree p A = grind (arith, a.peripheral p)
  side_router-inner-agree p B = grind (arith, a.peripheral p)

  pub side_router-peripheral-agree : (link : LinkId) (s : Side) → is_central link ≡ false → side_router h link s ≡ side_router g link s
  unfolding is_central
  side_router-peripheral-agree (Central i) s e = absurd (grind (arith, e))
  side_router-peripheral-agree (Peripheral n p) s e = side_router-inner-agree (record { node = n; serial = p }) s

  in_message-agree : (f : Weight) (m : Message) → in_message f h m ≡ in_message f g m
  unfolding in_message'
  in_message-agree f (messages.Item link s n item moves) = ap (λ e. f e n item) (source-agree link s)
  in_message-agree f other = refl

  names_it : ℕ → Option ℕ → Bool
  names_it o None = false
  names_it o (Some p) = nat_eq p o

  is_by-agree : (link : LinkId) (o : ℕ) → is_by h link o ≡ is_by g link o
  unfolding names_it
  is_by-agree link o = ap (names_it o) (bypass_of-agree link)

  -- what the messages of a bypass weigh is the same by both
  pub about-agree : (o : ℕ) (t : Message → ℕ) (m : Message) → of_bypass h o t m ≡ of_bypass g o t m
  unfolding of_bypass
  about-agree o t (messages.ProxyWillStop link s in_length) = ap (λ b. cond b (t (messages.ProxyWillStop link s in_length)) 0)
      (is_by-agree link o)
  about-agree o t other = refl

  -- and what is control_weight of a bypass that is as far as before
  pub expected-agree : (t : ℕ → ℕ → Message → ℕ) (o : ℕ) → h.bypass o ≡ g.bypass o → control_weight h t o ≡ control_weight g t o
  unfolding control_weight
  expected-agree t o e = λ i.
      cond (nat_eq (e i).stage 1) (t (e i).proxy.node (inward i) (messages.BypassPeer (inner_link (e i).inner) B o (beyond i) (e i).fresh))
      (cond (nat_eq (e i).stage 2) (t (inward i) (beyond i) (messages.AcceptBypass o (opposite (side i)) (e i).fresh (e i).taken_at))
      (cond (nat_eq (e i).stage 3) (t (beyond i) (e i).proxy.node (messages.StopProxying (side i) o (e i).accepted_at (e i).taken_at))
      (cond (nat_eq (e i).stage 4) (t (e i).proxy.node (inward i) (messages.ProxyWillStop (inner_link (e i).inner) B (e i).accepted_at))
      0)))
    where
      side : proxy_side h o ≡ proxy_side g o
      side = proxy_side-agree o

      inward : side_node h (inner_link (h.bypass o).inner) B ≡ side_node g (inner_link (g.bypass o).inner) B
      inward = ap (λ p. side_node h (inner_link p) B) (a.inner o) ∙ side_node-agree (inner_link (g.bypass o).inner) B

      beyond : side_node h (Central o) (opposite (proxy_side h o)) ≡ side_node g (Central o) (opposite (proxy_side g o))
      beyond = ap (λ s. side_node h (Central o) (opposite s)) side ∙ side_node-agree (Central o) (opposite (proxy_side g o))

  pub places-agree : (f : Weight) (w : World) → in_places f h w ≡ in_places f g w
  unfolding in_places' in_node'
  places-agree f w = ap (λ t. total_below w.count (λ n. total (λ serial r. in_router f r) (node_at w n).routers + total_list t
      (node_at w n).strays) + under_way (λ a b. t) w) (λ i m. in_message-agree f m i)

module _ (w v : World) (g h : Records) (k : Key) (r x : Router) (c : Changed w v k r x) (a : Agree g h) where
  pub is_recorded-kept : (link : LinkId) → is_recorded v h link ≡ is_recorded w g link
  unfolding is_recorded
  is_recorded-kept (Central i) = grind (arith, a.owner i)
  is_recorded-kept (Peripheral n p) = grind (arith, c.count, c.next_peripheral n)

  pub key_passes-kept : (q : Option Key) (test : Router → Bool) → test x ≡ test r → key_passes v q test ≡ key_passes w q test
  key_passes-kept q test e = passes-same c.one test e q

  pub spare_of-kept : x.spare ≡ r.spare → (q : Key) → spare_of (router_at v q) ≡ spare_of (router_at w q)
  unfolding spare_of
  spare_of-kept e q = grind (arith, c.router q, same_key_tells q k, c.here, e)

  pub no_strays-kept : HasNoStrays w → HasNoStrays v
  no_strays-kept law n = c.strays n ∙ law n

  pub ordered-kept : IsLike r x → Ordered w → Ordered v
  ordered-kept like law = each-one w v k x IsOrdered c.router law (record {
    out = λ n item i. grind (arith, like.out_queue, (law k r c.here).out n item, i);
    inn = λ n item i. grind (arith, like.in_queue, (law k r c.here).inn n item, i);
  })

  pub spares-kept : IsLike r x → ((i : ℕ) → h.owner i ≡ g.owner i) → ((o : ℕ) → (g.bypass o).stage ≡ 1 → (h.bypass o).stage ≡ 1) →
      Spares w g → Spares v h
  spares-kept like same stages law = record {
    spare = λ q y i at sp. grind (arith, c.router q, same_key_tells q k, c.here, like.spare, same i, law.spare q y i, law.spare k r i);
    spare_back = λ q i o. spare_of-kept like.spare q ∙ law.spare_back q i (sym (same i) ∙ o);
    opening = λ n i o. same i ∙ law.opening n i (sym (c.opening n) ∙ o);
    opening_back = λ n i o. c.opening n ∙ law.opening_back n i (sym (same i) ∙ o);
    fresh = λ o i e. stages o (law.fresh o i (sym (same i) ∙ e));
    fresh_back = λ o i e. a.fresh o ∙ law.fresh_back o i (sym (same i) ∙ e);
  }

  pub terminals-kept : IsLike r x → Terminals w g → Terminals v h
  terminals-kept like law = record {
    each = each-by w v k x (HasTerminal g) (HasTerminal h) c.router (λ q z is. terminal-kept {g = g} a.terminal refl (λ m. m) is) law.each
        (terminal-kept {g = g} a.terminal like.end (λ m. sym like.terminal ∙ m) (law.each k r c.here));
    stands = λ e q t. key_passes-kept (Some q) (λ y. is_terminal y && same_end y.end e) (grind (arith, like.end, like.terminal)) ∙
        law.stands e q (sym (a.terminal e) ∙ t);
    link_opened = λ link s rec. ap is_nowhere (a.terminal (side_end h link s) ∙ ap g.terminal (side_end-agree g h a link s)) ∙
        law.link_opened link s (sym (is_recorded-kept link) ∙ rec);
    both = λ e. ap is_nowhere (a.terminal (opposite_end e)) ∙ law.both e ∙ ap is_nowhere (sym (a.terminal e));
    unopened = λ e f. ap is_nowhere (a.terminal e) ∙ law.unopened e (ap is_linked (sym (a.owner e.pair)) ∙ f);
    other_pair = λ e f n. ap is_nowhere (a.terminal e) ∙ law.other_pair e (ap is_linked (sym (a.owner e.pair)) ∙ f)
        (ap (λ i. nat_eq i e.pair) (sym (a.pair e.pair)) ∙ n);
  }

  pub end_places-kept : IsLike r x → Carried w v → EndPlaces w g → EndPlaces v h
  end_places-kept like carried law = record {
    held = λ n e t. ap terminal_node (a.terminal e) ∙ law.held n e (ap (holds e) (sym (c.held n)) ∙ t);
    pending = λ n e t. ap terminal_node (a.terminal e) ∙ law.pending n e (ap (has_end e) (sym (c.pending n)) ∙ t);
    each = each-by w v k x (HasEndsHere g) (HasEndsHere h) c.router
        (λ q z is. ends-kept {g = g} {r = z} a.terminal (λ n item i. i) (λ n item i. i) is) law.each
        (ends-kept {g = g} {r = r} a.terminal (λ n item i. ap (λ z. item_at z n) (sym like.out_queue) ∙ i)
        (λ n item i. ap (λ z. item_at z n) (sym like.in_queue) ∙ i) (law.each k r c.here));
    within = λ n i link s number item moves e u t. ap terminal_node (a.terminal e) ∙ law.within n (carried.place n n i) link s number item
        moves e (carried.was n n i link s number item moves u) t;
  }

  pub books_kept-kept : (b : Books) → IsLike r x → BooksKept w b g → BooksKept v b h
  books_kept-kept b like law = record {
    own_pair = law.own_pair;
    mark_last = law.mark_last;
    gone_last = law.gone_last;
    retired_closed = law.retired_closed;
    numbers = law.numbers;
    mark_seen = λ q y at m. grind (
      arith,
      c.router q,
      same_key_tells q k,
      c.here,
      like.end,
      like.mark_seen,
      law.mark_seen q y,
      law.mark_seen k r,
      at,
      m,
    );
  }

  moving : Carried w v → (from to i j : ℕ) (m : Message) (d : Descriptor) → IsUnderWay v from to i m → slice_get (moves_of m) j ≡ Some d →
      (i' : ℕ) × IsUnderWay w from to i' m
  unfolding moves_of
  moving carried from to i j (messages.Item link s n item moves) d u e =
      (carried.place from to i, carried.was from to i link s n item moves u)
  moving carried from to i j (messages.BypassPeer link s old target fresh) d u e = absurd (none-some d e)
  moving carried from to i j (messages.AcceptBypass old s fresh length) d u e = absurd (none-some d e)
  moving carried from to i j (messages.StopProxying s old in_length out_length) d u e = absurd (none-some d e)
  moving carried from to i j (messages.ProxyWillStop link s in_length) d u e = absurd (none-some d e)
  moving carried from to i j (messages.Flush link s) d u e = absurd (none-some d e)

  pub conserved-kept : (b : Books) → IsLike r x → Carried w v → ((f : Weight) → in_places f h v ≡ in_places f g w) → Conserved w b g →
      Conserved v b h
  conserved-kept b like carried places law = record {
    exact = λ e t. places (at_end e t) ∙ law.exact e t;
    read_put = law.read_put;
    prefix = law.prefix;
    gone_closed = law.gone_closed;
    reach = λ q y at t. grind (
      arith,
      c.router q,
      same_key_tells q k,
      c.here,
      like.end,
      like.terminal,
      like.out_queue,
      law.reach q y,
      law.reach k r,
      at,
      t,
    );
    current = λ q y at t. grind (
      arith,
      c.router q,
      same_key_tells q k,
      c.here,
      like.end,
      like.terminal,
      like.in_queue,
      law.current q y,
      law.current k r,
      at,
      t,
    );
    sink = λ q y at t. grind (
      arith,
      c.router q,
      same_key_tells q k,
      c.here,
      like.end,
      like.terminal,
      like.closed,
      law.sink q y,
      law.sink k r,
      at,
      t,
    );
    move_out = λ from to i j m d u e. law.move_out from to (moving carried from to i j m d u e).0 j m d
        (moving carried from to i j m d u e).1 e;
    move_in = λ from to i j m d u e. law.move_in from to (moving carried from to i j m d u e).0 j m d (moving carried from to i j m d u e).1
        e;
    move_open = λ from to i j m d u e. law.move_open from to (moving carried from to i j m d u e).0 j m d
        (moving carried from to i j m d u e).1 e;
    unopened_put = λ e n. law.unopened_put e (ap is_nowhere (sym (a.terminal e)) ∙ n);
    unopened_got = λ e n. law.unopened_got e (ap is_nowhere (sym (a.terminal e)) ∙ n);
  }

  held-same : (e : End) → times_held v e ≡ times_held w e
  held-same e = ap (λ n. total_below n (λ i. held_times e (node_at v i).held + times e (node_at v i).pending)) c.count
      ∙ total_below-same w.count (λ i. held_times e (node_at v i).held + times e (node_at v i).pending)
      (λ i. held_times e (node_at w i).held + times e (node_at w i).pending) (λ i l. grind (arith, c.held i, c.pending i))

  pub held_once-kept : (b : Books) → Carried w v → ((f : Weight) → in_places f h v ≡ in_places f g w) → HeldOnce w b g → HeldOnce v b h
  held_once-kept b carried places law = record {
    once = λ e. grind (arith, places (names_end e), held-same e, law.once e, a.terminal e);
    moves_in_parcel = λ from to i link s n item moves j d u e. law.moves_in_parcel from to (carried.place from to i) link s n item moves j d
        (carried.was from to i link s n item moves u) e;
  }

  pub moves-kept : Carried w v → ((e : End) (t : Descriptor → ℕ) →
      under_way (λ from to m. total_list (of_end e t) (moves_of m)) v ≡ under_way (λ from to m. total_list (of_end e t) (moves_of m)) w) →
      Moves w g → Moves v h
  moves-kept carried totals law = record {
    ends = λ from to i link s n item moves u d. law.ends from to (carried.place from to i) link s n item moves
        (carried.was from to i link s n item moves u) d;
    within = λ n i link s number item moves u. law.within n (carried.place n n i) link s number item moves
        (carried.was n n i link s number item moves u);
    recorded = λ from to i j m d u e. is_recorded-kept d.link ∙ law.recorded from to (moving carried from to i j m d u e).0 j m d
        (moving carried from to i j m d u e).1 e;
    peripheral = λ from to i j m d u e. law.peripheral from to (moving carried from to i j m d u e).0 j m d
        (moving carried from to i j m d u e).1 e;
    sender = λ from to i j m d u e. side_node-agree g h a d.link A ∙ law.sender from to (moving carried from to i j m d u e).0 j m d
        (moving carried from to i j m d u e).1 e;
    receiver = λ from to i j m d u e. side_node-agree g h a d.link B ∙ law.receiver from to (moving carried from to i j m d u e).0 j m d
        (moving carried from to i j m d u e).1 e;
    awaited = λ from to i j m d u e. side_router-peripheral-agree g h a d.link B
        (law.peripheral from to (moving carried from to i j m d u e).0 j m d (moving carried from to i j m d u e).1 e) ∙ law.awaited from to
        (moving carried from to i j m d u e).0 j m d (moving carried from to i j m d u e).1 e;
    end = λ from to i j m d u e. side_end-agree g h a d.link B ∙ law.end from to (moving carried from to i j m d u e).0 j m d
        (moving carried from to i j m d u e).1 e;
    one = λ e t. totals e t ∙ law.one e t ∙ ap (move_weight t) (sym (a.terminal e));
    moving = λ p rec none. ap moving_link (a.terminal (h.peripheral p).end ∙ ap (λ c. g.terminal c.end) (a.peripheral p)) ∙ law.moving p
        (sym (is_recorded-kept (inner_link p)) ∙ rec) (ap (λ c. c.router) (sym (a.peripheral p)) ∙ none);
  }

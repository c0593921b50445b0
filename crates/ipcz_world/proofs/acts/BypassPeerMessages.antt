-- The router inward takes the fresh link: the messages of bypasses, the descriptors under way, and the places of items.
use Rattle.ipcz_world.proofs.Vocabulary.{Weight, in_router, Side, A, B, End, LinkId, Central, Peripheral, Message, opposite, is_central, same_link}
use Rattle.ipcz_world.proofs.Vocabulary.{total, total_below, total_list, Router, World, Key, node_at, flow, Books, Records, is_begun, is_recorded}
use Rattle.ipcz_world.proofs.Vocabulary.{inner_link, side_node, proxy_side, across_side, IsUnderWay, of_end, moves_of, under_way, Controls, of_bypass}
use Rattle.ipcz_world.proofs.Vocabulary.{control_weight, inner_of, bypass_peer, Descriptor, Moves}
use Rattle.ipcz_world.specs.Places.{in_message as in_message', in_node as in_node', in_places as in_places'}
use Rattle.std.specs.Prelude.{◌≡◌, ◌≢◌, ◌⊎◌, ◌≤◌, ℕ, ◌+◌, Bool, true, false, cond, nat_eq, is_some, Option, Some, None, refl}
use Rattle.std.proofs.Common.{arith, ap, ◌∙◌, sym, inl, inr}
use Rattle.std.proofs.lemmas.Bool.Decides.{nat_tests}
use Rattle.ipcz_base.specs.declared.message.Message.TheVariants as messages
use Rattle.ipcz_world.proofs.frames.OfRecords.{in_node, in_places, in_message}
use Rattle.ipcz_world.specs.Bypasses.{is_by}
use Rattle.ipcz_world.proofs.facts.RecordsAfter.{taken_records}
use Rattle.ipcz_world.proofs.frames.Unmoved.{Agree}
use Rattle.ipcz_world.proofs.frames.Placing.{places-handed_on}
use Rattle.ipcz_world.proofs.frames.Totalling.{total_below-same, total_pairs-same, total_pairs}
use Rattle.ipcz_world.proofs.frames.Handing.{handed_on, place_before, under_way-handed_on}
use Rattle.ipcz_world.proofs.frames.Sealing.{no_strays_of, Sealed, Closed, controls_of}
use Rattle.ipcz_world.proofs.acts.BypassPeerAround.{central_peer, CanPeer, here, in_hand, on_node, from_node, is, itself, begun, r_side}
use Rattle.ipcz_world.proofs.acts.BypassPeerAround.{changed, at_o, inner_same, fresh_same, proxy_side_same, across_side_same, same_bypass}
use Rattle.ipcz_world.proofs.acts.BypassPeerAround.{two, begun_apart, apart, router_same, node_same, end_same, source_same, bypass_same}
use Rattle.ipcz_world.proofs.acts.BypassPeerAround.{recorded_more}
use Rattle.ipcz_world.proofs.acts.BypassPeerRecords.{target_below}
use Rattle.ipcz_world.proofs.acts.BypassPeerNumbers.{was_message, item_apart, made, stage_after, taken_after}
use Rattle.ipcz_world.proofs.frames.Flowing.{total_below-has}
use Rattle.ipcz_world.proofs.frames.Sums.{total_list-at, total_list-agree}

module _ {w : World} {b : Books} {g : Records} {from : ℕ} {k : Key} {r : Router} {o : ℕ} {link : LinkId} {side : Side}
    {target fresh : ℕ} (law : Sealed w b g) (can : Closed (CanPeer w from k r o link side target fresh)) where
  -- what the hand makes of the router, the world and the records
  abbrev x : Router
  x = bypass_peer r target fresh

  abbrev sent : Message
  sent = messages.AcceptBypass o (opposite r.end.side) fresh r.out_queue.current

  abbrev came : Message
  came = messages.BypassPeer link side o target fresh

  abbrev v : World
  v = handed_on w from k x target sent

  abbrev h : Records
  h = taken_records g k r o fresh target

  -- links that have a record aren't the fresh one
  abbrev Apart : LinkId → Type 0
  Apart l = same_link l (Central fresh) ≡ false

  abbrev before : ℕ → ℕ → ℕ → ℕ
  before a c i = place_before from k.node a c i

  pub refl-agree : Agree g g
  refl-agree = record {
    owner = λ i. refl;
    pair = λ i. refl;
    node = λ i s. refl;
    born = λ i. refl;
    left = λ i. refl;
    peripheral = λ p. refl;
    terminal =
        λ t. refl;
    begun = λ q. refl;
    proxy = λ j. refl;
    inner = λ j. refl;
    fresh = λ j. refl;
    is_begun = λ j. refl;
  }

  in_message-same : (f : Weight) (a c i : ℕ) (m : Message) → IsUnderWay v a c i m → in_message f h m ≡ in_message f g m
  unfolding in_message'
  in_message-same f a c i (messages.Item l s n item moves) u =
      ap (λ d. f d n item) (source_same law can l s (item_apart law can a c i l s n item moves u))
  in_message-same f a c i (messages.BypassPeer l s old t new) u = refl
  in_message-same f a c i (messages.AcceptBypass old s new n) u = refl
  in_message-same f a c i (messages.StopProxying s old n m) u = refl
  in_message-same f a c i (messages.ProxyWillStop l s n) u = refl
  in_message-same f a c i (messages.Flush l s) u = refl

  stray_free : (f : Weight) (n : ℕ) → in_node f h (node_at v n) ≡ in_node f g (node_at v n)
  unfolding in_node'
  stray_free f n = ap (λ ms. total (λ serial q. in_router f q) (node_at v n).routers + total_list (in_message f h) ms)
      ((changed law can).strays n ∙ no_strays_of law n) ∙
      sym (ap (λ ms. total (λ serial q. in_router f q) (node_at v n).routers + total_list
      (in_message f g) ms) ((changed law can).strays n ∙ no_strays_of law n))

  pub places : (f : Weight) → in_places f h v ≡ in_places f g w
  unfolding in_places' under_way in_message' in_router
  places f = omega (arith, nodes_part, flows_part, moved)
    where
      nodes_part : total_below v.count (λ n. in_node f h (node_at v n)) ≡ total_below v.count (λ n. in_node f g (node_at v n))
      nodes_part = total_below-same v.count (λ n. in_node f h (node_at v n)) (λ n. in_node f g (node_at v n)) (λ n l. stray_free f n)

      flows_part : total_pairs v.count (λ a c. total_list (in_message f h) (flow v a c)) ≡ total_pairs v.count
          (λ a c. total_list (in_message f g) (flow v a c))
      flows_part = total_pairs-same v.count (λ a c. total_list (in_message f h) (flow v a c))
          (λ a c. total_list (in_message f g) (flow v a c)) (λ a c la lc. total_list-agree (in_message f h) (in_message f g) (flow v a c)
          (λ i m p. in_message-same f a c i m (record { sender = la; receiver = lc; place = p })))

      moved : in_places f g v + (in_router f r + in_message f g came) ≡ in_places f g w + (in_router f x + in_message f g sent)
      moved = places-handed_on f g w from k r x target sent came (from_node law can) (on_node law can) (target_below law can) (here law can)
          (in_hand law can)

  pub descriptors : (t : End) (f : Descriptor → ℕ) → under_way (λ a c m. total_list (of_end t f) (moves_of m)) v ≡ under_way
      (λ a c m. total_list (of_end t f) (moves_of m)) w
  unfolding moves_of
  descriptors t f = omega (
    arith,
    under_way-handed_on (λ a c m. total_list (of_end t f) (moves_of m)) w from k x target sent came (from_node law can)
        (on_node law can) (target_below law can) (in_hand law can),
  )

  peripheral_apart : (l : LinkId) → is_central l ≡ false → Apart l
  unfolding is_central
  peripheral_apart (Central i) m = absurd (grind (arith, m))
  peripheral_apart (Peripheral n p) m = refl

  -- a BypassPeer under way names the inner link of its bypass
  peers_link : (a c i : ℕ) (l : LinkId) (s : Side) (old t new : ℕ) → IsUnderWay w a c i (messages.BypassPeer l s old t new) →
      is_central l ≡ false
  unfolding control_weight of_bypass under_way central_peer is_central
  peers_link a c i l s old t new u = go (is_central l) refl
    where
      f : ℕ → ℕ → Message → ℕ
      f a c m = central_peer m

      weighs : of_bypass g old (f a c) (messages.BypassPeer l s old t new) ≡ cond (is_central l) 1 0
      weighs = rw (itself law can old) refl

      found : of_bypass g old (f a c) (messages.BypassPeer l s old t new) ≤ control_weight g f old
      found = omega (
        arith,
        (controls_of law).control old f,
        total_below-has w.count a (λ b. total_below w.count (λ d. total_list (of_bypass g old (f b d)) (flow w b d))) u.sender,
        total_below-has w.count c (λ d. total_list (of_bypass g old (f a d)) (flow w a d)) u.receiver,
        total_list-at (of_bypass g old (f a c)) (flow w a c) i (messages.BypassPeer l s old t new) u.place,
      )

      none_expected : control_weight g f old ≡ 0
      none_expected = grind (arith, nat_tests)

      go : (b' : Bool) → is_central l ≡ b' → is_central l ≡ false
      go false m = m
      go true m = absurd (omega (arith, found, none_expected, weighs ∙ ap (λ b'. cond b' 1 0) m))

  names_it : ℕ → Option ℕ → Bool
  names_it j None = false
  names_it j (Some p) = nat_eq p j

  is_by-same : (l : LinkId) (j : ℕ) → is_by h l j ≡ is_by g l j
  unfolding names_it
  is_by-same l j = ap (names_it j) (bypass_same law can l)

  about-same : (j : ℕ) (t : Message → ℕ) (m : Message) → of_bypass h j t m ≡ of_bypass g j t m
  unfolding of_bypass
  about-same j t (messages.ProxyWillStop l s i) = ap (λ b'. cond b' (t (messages.ProxyWillStop l s i)) 0) (is_by-same l j)
  about-same j t other = refl

  expected_before : (t : ℕ → ℕ → Message → ℕ) → control_weight g t o ≡ t from k.node came
  unfolding control_weight
  expected_before t = rw (is law can).stage (λ i. t (sym (is law can).sender i) (sym (is law can).receiver i)
      (messages.BypassPeer (sym (is law can).on_link i) (sym (is law can).at_side i) o (sym (is law can).beyond i)
      (sym (is law can).on_word i)))

  expected_after : (t : ℕ → ℕ → Message → ℕ) → control_weight h t o ≡ t k.node target sent
  unfolding control_weight
  expected_after t = rw (stage_after law can)
      (λ i. t (inward i) (across i) (messages.AcceptBypass o (side_at i) (word i) (taken_after law can i)))
    where
      inward : side_node h (inner_of h o) B ≡ k.node
      inward = ap (λ p. side_node h (inner_link p) B) (inner_same law can o) ∙ node_same law can (inner_of g o) B refl ∙
          sym (is law can).receiver

      across : side_node h (Central o) (across_side h o) ≡ target
      across = ap (side_node h (Central o)) (across_side_same law can o) ∙
          node_same law can (Central o) (across_side g o) (begun_apart law can o (begun law can)) ∙ sym
          (is law can).beyond

      side_at : across_side h o ≡ opposite r.end.side
      side_at = across_side_same law can o ∙ ap opposite (sym (r_side law can))

      word : (h.bypass o).fresh ≡ fresh
      word = fresh_same law can o ∙ sym (is law can).on_word

  -- what is control_weight of the other bypasses is as before
  expected_same : (t : ℕ → ℕ → Message → ℕ) (j : ℕ) → nat_eq j o ≡ false → (b' : Bool) → is_begun (g.bypass j) ≡ b' →
      control_weight h t j ≡ control_weight g t j
  unfolding control_weight
  expected_same t j ne false m = let zero_at : (g.bypass j).stage ≡ 0 = grind (arith, m, nat_tests) in rw (two law can j ne, zero_at) refl
  expected_same t j ne true m = λ i.
      cond (nat_eq (e' i).stage 1) (t (e' i).proxy.node (inward i)
      (messages.BypassPeer (inner_link (e' i).inner) B j (beyond i) (e' i).fresh))
      (cond (nat_eq (e' i).stage 2) (t (inward i) (beyond i) (messages.AcceptBypass j (opposite (proxy_side_same law can j i)) (e' i).fresh
      (e' i).taken_at))
      (cond (nat_eq (e' i).stage 3) (t (beyond i) (e' i).proxy.node
      (messages.StopProxying (proxy_side_same law can j i) j (e' i).accepted_at (e' i).taken_at))
      (cond (nat_eq (e' i).stage 4) (t (e' i).proxy.node (inward i) (messages.ProxyWillStop (inner_link (e' i).inner) B (e' i).accepted_at))
      0)))
    where
      e' : h.bypass j ≡ g.bypass j
      e' = same_bypass law can j ne

      inward : side_node h (inner_link (h.bypass j).inner) B ≡ side_node g (inner_link (g.bypass j).inner) B
      inward = ap (λ p. side_node h (inner_link p) B) (inner_same law can j) ∙ node_same law can (inner_of g j) B refl

      beyond : side_node h (Central j) (opposite (proxy_side h j)) ≡ side_node g (Central j) (opposite (proxy_side g j))
      beyond = ap (λ z. side_node h (Central j) (opposite z)) (proxy_side_same law can j) ∙ node_same law can (Central j) (across_side g j)
          (begun_apart law can j m)

  about_came : (t : Message → ℕ) → of_bypass g o t came ≡ t came
  unfolding of_bypass
  about_came t = rw (itself law can o) refl

  about_sent : (t : Message → ℕ) → of_bypass g o t sent ≡ t sent
  unfolding of_bypass
  about_sent t = rw (itself law can o) refl

  about_none : (j : ℕ) (f f' : Message → ℕ) → nat_eq o j ≡ false → of_bypass g j f sent ≡ of_bypass g j f' came
  unfolding of_bypass
  about_none j f f' m = rw m refl

  pub controls-peer : Controls v h
  controls-peer = record {
    control = λ j t. control_at j t (at_o law can j);
    will_stop = λ a c i l s n u. ap is_some (bypass_same law can l) ∙ (controls_of law).will_stop a c (before a c i) l s n
        (was_message law can a c i (messages.ProxyWillStop l s n) (λ m. grind (arith, m)) u);
    behind = λ a c i l s old t new u n. let u' : IsUnderWay w a c (before a c i) (messages.BypassPeer l s old t new) =
        was_message law can a c i (messages.BypassPeer l s old t new) (λ m. grind (arith, m)) u in
        made law can a c i l s u'.receiver ((controls_of law).behind a c (before a c i) l s old t new u'
        (sym (router_same law can l s (peripheral_apart l (peers_link a c (before a c i) l s old t new u'))) ∙ n));
    flush_central = λ a c i l s u. (controls_of law).flush_central a c (before a c i) l s (was_flush a c i l s u);
    flush_recorded = λ a c i l s u. recorded_more law can l ((controls_of law).flush_recorded a c (before a c i) l s (was_flush a c i l s u));
    flush_to = λ a c i l s u. (controls_of law).flush_to a c (before a c i) l s (was_flush a c i l s u) ∙ sym
        (node_same law can l s (flush_apart a c i l s u));
    flush_from = λ a c i l s u. (controls_of law).flush_from a c (before a c i) l s (was_flush a c i l s u) ∙ sym
        (node_same law can l (opposite s) (flush_apart a c i l s u));
  }
    where
      was_flush : (a c i : ℕ) (l : LinkId) (s : Side) → IsUnderWay v a c i (messages.Flush l s) →
          IsUnderWay w a c (before a c i) (messages.Flush l s)
      was_flush a c i l s u = was_message law can a c i (messages.Flush l s) (λ m. grind (arith, m)) u

      flush_apart : (a c i : ℕ) (l : LinkId) (s : Side) → IsUnderWay v a c i (messages.Flush l s) → Apart l
      flush_apart a c i l s u = apart law can l ((controls_of law).flush_recorded a c (before a c i) l s (was_flush a c i l s u))

      control_at : (j : ℕ) (t : ℕ → ℕ → Message → ℕ) → ((nat_eq j o ≡ true) × (j ≡ o)) ⊎ ((nat_eq j o ≡ false) × (j ≢ o)) →
          under_way (λ a c. of_bypass h j (t a c)) v ≡ control_weight h t j
      control_at j t m = omega (arith, same, moved, (controls_of law).control j t, weighs m)
        where
          same : under_way (λ a c. of_bypass h j (t a c)) v ≡ under_way (λ a c. of_bypass g j (t a c)) v
          same = ap (λ f. under_way f v) (λ i a c m. about-same j (t a c) m i)

          moved : under_way (λ a c. of_bypass g j (t a c)) v + of_bypass g j (t from k.node) came ≡ under_way (λ a c. of_bypass g j (t a c))
              w + of_bypass g j (t k.node target) sent
          moved = under_way-handed_on (λ a c. of_bypass g j (t a c)) w from k x target sent came (from_node law can) (on_node law can)
              (target_below law can) (in_hand law can)

          weighs : ((nat_eq j o ≡ true) × (j ≡ o)) ⊎ ((nat_eq j o ≡ false) × (j ≢ o)) →
              control_weight g t j + of_bypass g j (t k.node target) sent ≡ control_weight h t j + of_bypass g j (t from k.node) came
          weighs (inl m) = rw m.1 (omega (
            arith,
            expected_before t,
            expected_after t,
            about_came (t from k.node),
            about_sent (t k.node target),
          ))
          weighs (inr m) = omega (
            arith,
            expected_same t j m.0 (is_begun (g.bypass j)) refl,
            about_none j (t k.node target) (t from k.node) (grind (arith, m.0, nat_tests)),
          )

  per_recorded : (l : LinkId) → is_central l ≡ false → is_recorded v h l ≡ is_recorded v g l
  unfolding is_recorded is_central
  per_recorded (Central i) m = absurd (grind (arith, m))
  per_recorded (Peripheral n p) m = refl

  pub moves-peer : Moves v g → Moves v h
  unfolding is_central
  moves-peer kept = record {
    ends = kept.ends;
    within = kept.within;
    recorded = λ a c i j m d u n. per_recorded d.link (kept.peripheral a c i j m d u n) ∙ kept.recorded a c i j m d u n;
    peripheral = kept.peripheral;
    sender = λ a c i j m d u n. node_same law can d.link A (peripheral_apart d.link (kept.peripheral a c i j m d u n)) ∙
        kept.sender a c i j m d u
        n;
    receiver = λ a c i j m d u n. node_same law can d.link B (peripheral_apart d.link (kept.peripheral a c i j m d u n)) ∙
        kept.receiver a c i j m d
        u n;
    awaited = λ a c i j m d u n. router_same law can d.link B (peripheral_apart d.link (kept.peripheral a c i j m d u n)) ∙
        kept.awaited a c i j m d
        u n;
    end = λ a c i j m d u n. end_same law can d.link B (peripheral_apart d.link (kept.peripheral a c i j m d u n)) ∙
        kept.end a c i j m d u n;
    one = kept.one;
    moving = λ p rec n. kept.moving p (sym (per_recorded (inner_link p) refl) ∙ rec) n;
  }

  pub places_g : (f : Weight) → in_places f g v ≡ in_places f g w
  unfolding in_message' in_router
  places_g f = omega (
    arith,
    places-handed_on f g w from k r x target sent came (from_node law can) (on_node law can) (target_below law can)
        (here law can) (in_hand law can),
  )

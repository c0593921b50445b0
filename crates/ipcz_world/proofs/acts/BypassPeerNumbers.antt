-- The router inward takes the fresh link: numbers of items, under way and in queues.
use Rattle.std.proofs.lemmas.Bool.{or_left, or_right}
use Rattle.ipcz_world.proofs.acts.BypassPeerAround.{left_same}
use Rattle.ipcz_world.proofs.frames.Touching.{either}
use Rattle.std.specs.Prelude.{◌≡◌, ◌≢◌, ◌⊎◌, ◌<◌, ◌≤◌, ℕ, true, false, nat_eq, is_some, Option, Some, None, option_map, unwrap_or, List}
use Rattle.std.specs.Prelude.{refl}
use Rattle.std.proofs.Common.{arith, ap, ◌∙◌, sym, inl, inr}
use Rattle.std.proofs.lemmas.Bool.Decides.{nat_tests}
use Rattle.std.proofs.lemmas.Option.{none-some, same_Some}
use Rattle.ipcz_world.proofs.Vocabulary.{Side, A, B, LinkId, Central, Peripheral, LinkEnd, Item, Message, opposite, same_side, same_link, Queue}
use Rattle.ipcz_world.proofs.Vocabulary.{item_at, Router, inward_edge, World, Key, router_at, Books, Records, is_begun, is_linked, is_recorded}
use Rattle.ipcz_world.proofs.Vocabulary.{inner_link, across_side, known_from, side_length, is_gone, Standing, view, next_sent, taking_queue}
use Rattle.ipcz_world.proofs.Vocabulary.{sending_queue, fed_queue, has_inward_decaying, IsUnderWay, makes, is_made_before, inner_of, Items, Order}
use Rattle.ipcz_world.proofs.Vocabulary.{ProxyNumbers, FreshNumbers, has_passed, standing_router, bypass_peer, Descriptor, none, no_edge}
use Rattle.ipcz_base.specs.declared.message.Message.TheVariants as messages
use Rattle.ipcz_world.proofs.frames.RecordRules.{is_recorded-central}
use Rattle.ipcz_world.proofs.facts.RecordsAfter.{taken_records}
use Rattle.ipcz_world.proofs.frames.Unmoved.{Carried, WasLike}
use Rattle.ipcz_world.proofs.frames.Handing.{handed_on, place_before, was_under_way, was_made_before}
use Rattle.ipcz_world.proofs.frames.Viewing.{Stood, stood, IsSameView}
use Rattle.ipcz_world.proofs.facts.Lengths.{opposite-twice, side_is, is_attached-proxy, is_attached-inner, view-standing, length-old}
use Rattle.ipcz_world.proofs.facts.Lengths.{length-proxy, length-inner, length-live, length-none, known_from-no, known_from-yes}
use Rattle.ipcz_world.proofs.facts.Lengths.{has_passed-none}
use Rattle.ipcz_world.proofs.frames.Sealing.{Sealed, Closed, stands_of, links_of, stages_of, bypasses_of, order_of, items_of}
use Rattle.ipcz_world.proofs.frames.Sealing.{proxy_numbers_of, fresh_numbers_of}
use Rattle.ipcz_world.proofs.acts.BypassPeerAround.{CanPeer, here, in_hand, on_node, is, itself, begun, known, z_inner, on, by_o, at_o}
use Rattle.ipcz_world.proofs.acts.BypassPeerAround.{is_begun_same, proxy_same, inner_same, accepted_same, proxy_side_same}
use Rattle.ipcz_world.proofs.acts.BypassPeerAround.{across_side_same, central_same, same_bypass, begun_apart, apart, node_same}
use Rattle.ipcz_world.proofs.acts.BypassPeerAround.{recorded_more, recorded_back, view_same, view_beyond, split, was_router}
use Rattle.ipcz_world.proofs.acts.BypassPeerLinks.{x_dec, taken_same, outward_b}
use Rattle.ipcz_world.proofs.facts.Queues.{HasOutQueue, out_queue_of}
use Rattle.ipcz_world.proofs.frames.Frames.{OneOrBefore}

module _ {w : World} {b : Books} {g : Records} {from : ℕ} {k : Key} {r : Router} {o : ℕ} {link : LinkId} {side : Side}
    {target fresh : ℕ} (law : Sealed w b g) (can : Closed (CanPeer w from k r o link side target fresh)) where
  -- what the hand makes of the router, the world and the records
  abbrev x : Router
  x = bypass_peer r target fresh

  abbrev sent : Message
  sent = messages.AcceptBypass o (opposite r.end.side) fresh r.out_queue.current

  abbrev came : Message
  came = messages.BypassPeer link side o target fresh

  abbrev v : World
  v = handed_on w from k x target sent

  abbrev h : Records
  h = taken_records g k r o fresh target

  -- links that have a record aren't the fresh one
  abbrev Apart : LinkId → Type 0
  Apart l = same_link l (Central fresh) ≡ false

  pub was_message : (a c i : ℕ) (m : Message) → (m ≡ sent → ⊥) → IsUnderWay v a c i m → IsUnderWay w a c (place_before from k.node a c i) m
  was_message a c i m new u = go (was_under_way w from k x target sent came a c i m (on_node law can) (in_hand law can) u)
    where
      go : IsUnderWay w a c (place_before from k.node a c i) m ⊎ (m ≡ sent) → IsUnderWay w a c (place_before from k.node a c i) m
      go (inl t) = t
      go (inr t) = absurd (new t)

  pub was : (a c i : ℕ) (l : LinkId) (s : Side) (n : ℕ) (item : Item) (moves : List Descriptor) →
      IsUnderWay v a c i (messages.Item l s n item moves) → IsUnderWay w a c (place_before from k.node a c i)
      (messages.Item l s n item moves)
  was a c i l s n item moves u = was_message a c i (messages.Item l s n item moves) (λ m. grind (arith, m)) u

  abbrev pub carried : Carried w v
  carried = record { place = place_before from k.node; was = was }

  abbrev before : ℕ → ℕ → ℕ → ℕ
  before a c i = place_before from k.node a c i

  pub item_apart : (a c i : ℕ) (l : LinkId) (s : Side) (n : ℕ) (item : Item) (moves : List Descriptor) →
      IsUnderWay v a c i (messages.Item l s n item moves) → Apart l
  item_apart a c i l s n item moves u =
      apart law can l ((items_of law).recorded a c (before a c i) l s n item moves (was a c i l s n item moves u))

  pub made : (a c i : ℕ) (l : LinkId) (s : Side) → c < w.count → is_made_before w a c (before a c i) l s ≡ true →
      is_made_before v a c i l s ≡ true
  unfolding makes
  made a c i l s m = was_made_before w from k x target sent came a c i l s (on_node law can) m (in_hand law can) refl

  -- the length that is known from now on
  data Grown (l : LinkId) (s : Side) : Type 0 where
    Same : side_length h l s ≡ side_length g l s → Grown l s
    Inward : l ≡ inner_of g o → s ≡ B → side_length g l s ≡ None → side_length h l s ≡ Some r.out_queue.current → Grown l s

  pub stage_after : (h.bypass o).stage ≡ 2
  stage_after = rw (itself law can o) refl

  pub taken_after : (h.bypass o).taken_at ≡ r.out_queue.current
  taken_after = rw (itself law can o) refl

  known3 : (j n : ℕ) → known_from 3 (h.bypass j).stage n ≡ known_from 3 (g.bypass j).stage n
  known3 j n = grind (arith, at_o law can j, (is law can).stage, known_from-no 3 2 n, known_from-no 3 1 n)

  known3-taken : (j : ℕ) → known_from 3 (h.bypass j).stage (h.bypass j).taken_at ≡ known_from 3 (g.bypass j).stage (g.bypass j).taken_at
  known3-taken j = grind (
    arith,
    at_o law can j,
    (is law can).stage,
    known_from-no 3 2 r.out_queue.current,
    known_from-no 3 1 (g.bypass o).taken_at,
  )

  grown-inner : (p : Key) → Grown (inner_link p) B
  grown-inner p = go (g.peripheral p).by refl
    where
      at : (j : ℕ) → (g.peripheral p).by ≡ Some j → ((nat_eq j o ≡ true) × (j ≡ o)) ⊎ ((nat_eq j o ≡ false) × (j ≢ o)) →
          Grown (inner_link p) B
      at j m (inl t) = let m' : (g.peripheral p).by ≡ Some o = m ∙ ap Some t.1 in let same : (g.bypass o).inner ≡ p =
          (stands_of law).by_inner p o m' in
          Inward (ap inner_link (sym same)) refl (length-inner g p o m' ∙ rw (is law can).stage
          (known_from-no 2 1 (g.bypass o).taken_at (omega arith)))
          (length-inner h p o m' ∙ rw (stage_after, taken_after) (known_from-yes 2 2 r.out_queue.current (omega arith)))
      at j m (inr t) = Same (length-inner h p j m ∙ ap (λ c. known_from 2 c.stage c.taken_at) (same_bypass law can j t.0) ∙ sym
          (length-inner g p j m))

      go : (t : Option ℕ) → (g.peripheral p).by ≡ t → Grown (inner_link p) B
      go None m = Same (length-none h p B m ∙ sym (length-none g p B m))
      go (Some j) m = at j m (at_o law can j)

  grown-proxy : (p : Key) → Grown (inner_link p) A
  grown-proxy p = go (g.peripheral p).by refl
    where
      go : (t : Option ℕ) → (g.peripheral p).by ≡ t → Grown (inner_link p) A
      go None m = Same (length-none h p A m ∙ sym (length-none g p A m))
      go (Some j) m = Same (length-proxy h p j m ∙ ap (known_from 3 (h.bypass j).stage) (accepted_same law can j) ∙ known3 j
          (g.bypass j).accepted_at ∙ sym (length-proxy g p j m))

  grown-central : (i : ℕ) (s : Side) → Grown (Central i) s
  grown-central i s = Same (grind (
    arith,
    length-old h i s,
    length-old g i s,
    length-live h i s,
    length-live g i s,
    is_begun_same law can i,
    proxy_side_same law can i,
    known3-taken i,
    ap (known_from 3 (h.bypass i).stage) (accepted_same law can i) ∙ known3 i (g.bypass i).accepted_at,
  ))

  grown : (l : LinkId) (s : Side) → Grown l s
  grown (Central i) s = grown-central i s
  grown (Peripheral n p) A = grown-proxy (record { node = n; serial = p })
  grown (Peripheral n p) B = grown-inner (record { node = n; serial = p })

  view_r : view w g (inner_of g o) B ≡ Standing r
  view_r = view-standing w g (inner_of g o) B k r (known law can) (here law can)
      (grind (arith, is_attached-inner (g.bypass o).inner r, z_inner law can))

  sends : (l : LinkId) (s : Side) (q : Router) → view w g l s ≡ Standing q →
      next_sent l s (view w g l s) ≡ Some (sending_queue l s q).current
  unfolding next_sent
  sends l s q m = rw m refl

  takes : (l : LinkId) (s : Side) (q : Router) → view w g l s ≡ Standing q → taking_queue l s (view w g l s) ≡ Some (fed_queue l s q)
  unfolding taking_queue
  takes l s q m = rw m refl

  limit : (l : LinkId) (t : Side) (n len : ℕ) → Grown l t → side_length h l t ≡ Some len →
      ((q : Router) → view w g l t ≡ Standing q → n < (sending_queue l t q).current) → (side_length g l t ≡ Some len → n < len) → n < len
  unfolding sending_queue
  limit l t n len (Same m) f below old = old (sym m ∙ f)
  limit l t n len (Inward p s unknown m) f below old = let a : n < (sending_queue l t r).current = below r (rw (p, s) view_r) in
      let c : n < r.out_queue.current = rw (p, s) at a in
      let d : len ≡ r.out_queue.current = same_Some _ _ (sym f ∙ m) in omega (arith, c, d)

  some_grown : (l : LinkId) (t : Side) → Grown l t → is_some (side_length g l t) ≡ true → is_some (side_length h l t) ≡ true
  some_grown l t (Same m) a = ap is_some m ∙ a
  some_grown l t (Inward p s unknown m) a = ap is_some m

  not_passed_before : (l : LinkId) (t : Side) (n : ℕ) → Grown l t → has_passed (side_length h l t) n ≡ false →
      has_passed (side_length g l t) n ≡ false
  not_passed_before l t n (Same m) a = ap (λ z. has_passed z n) (sym m) ∙ a
  not_passed_before l t n (Inward p s unknown m) a = ap (λ z. has_passed z n) unknown ∙ has_passed-none n

  pub items-peer : Items v h
  items-peer = record {
    recorded = λ a c i l s n item moves u. recorded_more law can l ((items_of law).recorded a c (before a c i) l s n item moves
        (was a c i l s n item moves u));
    sender = λ a c i l s n item moves u. (items_of law).sender a c (before a c i) l s n item moves (was a c i l s n item moves u) ∙ sym
        (node_same law can l (opposite s) (item_apart a c i l s n item moves u));
    receiver = λ a c i l s n item moves u. (items_of law).receiver a c (before a c i) l s n item moves (was a c i l s n item moves u) ∙ sym
        (node_same law can l s (item_apart a c i l s n item moves u));
    below_length = λ a c i l s n item moves len u f. limit l (opposite s) n len (grown l (opposite s)) f
        (λ q m. (items_of law).was_sent a c (before a c i) l s n item moves (sending_queue l (opposite s) q).current
        (was a c i l s n item moves u) (sends l (opposite s) q m))
        (λ m. (items_of law).below_length a c (before a c i) l s n item moves len (was a c i l s n item moves u) m);
    was_sent = λ a c i l s n item moves p u f. (items_of law).was_sent a c (before a c i) l s n item moves p (was a c i l s n item moves u)
        (sym (view_same law can l (opposite s) (item_apart a c i l s n item moves u)).next ∙ f);
    by_sender = λ a c i l s n item moves u. (view_same law can l (opposite s) (item_apart a c i l s n item moves u)).sent ∙
        (items_of law).by_sender
        a c (before a c i) l s n item moves (was a c i l s n item moves u);
    sender_gone = λ a c i l s n item moves u f. elim (either _ _
        ((items_of law).sender_gone a c (before a c i) l s n item moves (was a c i l s n item moves u)
        (sym (view_same law can l (opposite s) (item_apart a c i l s n item moves u)).gone ∙ f))) [
          | inl d ↦ or_left _ _ (some_grown l (opposite s) (grown l (opposite s)) d)
          | inr d ↦ or_right _ _ (left_same law can l (opposite s) ∙ d)
        ];
    not_passed = λ a c i l s n item moves q u f. (items_of law).not_passed a c (before a c i) l s n item moves q
        (was a c i l s n item moves u) (sym (view_same law can l s (item_apart a c i l s n item moves u)).taking ∙ f);
    behind = λ a c i l s n item moves u f. made a c i l s ((was a c i l s n item moves u).receiver)
        ((items_of law).behind a c (before a c i) l s n item moves (was a c i l s n item moves u)
        (sym (view_same law can l s (item_apart a c i l s n item moves u)).awaited ∙ f));
    not_awaited_low = λ a c i d s n item moves j u none born. low_at a c i d s n item moves j u none born (at_o law can j);
    receiver_there = λ a c i l s n item moves u. (view_same law can l s (item_apart a c i l s n item moves u)).gone ∙
        (items_of law).receiver_there
        a c (before a c i) l s n item moves (was a c i l s n item moves u);
  }
    where
      low_at : (a c i d : ℕ) (s : Side) (n : ℕ) (item : Item) (moves : List Descriptor) (j : ℕ) →
          IsUnderWay v a c i (messages.Item (Central d) s n item moves) → (h.central d).router s ≡ None → (h.central d).born ≡ Some j →
          ((nat_eq j o ≡ true) × (j ≡ o)) ⊎ ((nat_eq j o ≡ false) × (j ≢ o)) → (h.bypass j).taken_at ≤ n
      low_at a c i d s n item moves j u none born t = go t
        where
          u' : IsUnderWay w a c (before a c i) (messages.Item (Central d) s n item moves)
          u' = was a c i (Central d) s n item moves u

          same : h.central d ≡ g.central d
          same = central_same law can d (item_apart a c i (Central d) s n item moves u)

          born' : (g.central d).born ≡ Some j
          born' = ap (λ z. z.born) (sym same) ∙ born

          linked : is_linked (g.owner d) ≡ true
          linked = sym (is_recorded-central w g d) ∙ (items_of law).recorded a c (before a c i) (Central d) s n item moves u'

          go : ((nat_eq j o ≡ true) × (j ≡ o)) ⊎ ((nat_eq j o ≡ false) × (j ≢ o)) → (h.bypass j).taken_at ≤ n
          go (inl t) = absurd (omega (
            arith,
            (bypasses_of law j).born_stage d linked born',
            ap (λ z. (g.bypass z).stage) t.1,
            (is law can).stage,
          ))
          go (inr t) = rw (taken_same law can j t.0) ((items_of law).not_awaited_low a c (before a c i) d s n item moves j u'
              (ap (λ z. z.router s) (sym same) ∙ none) born')

  pub order-peer : Order v h
  unfolding next_sent taking_queue
  order-peer = record {
    current = λ l s u q rec f t notyet. current_at l s u q f t notyet (recorded_back law can l rec);
    stored = λ l s u q n item rec f t i notyet. stored_at l s u q n item f t i notyet (recorded_back law can l rec);
  }
    where
      one_awaited : (s : Side) (u : ℕ) (q : Queue Item) → next_sent (Central fresh) (opposite s) (view v h (Central fresh) (opposite s)) ≡
          Some u → taking_queue (Central fresh) s (view v h (Central fresh) s) ≡ Some q →
          ((same_side s r.end.side ≡ true) × (s ≡ r.end.side)) ⊎ ((same_side s r.end.side ≡ false) × (s ≡ opposite r.end.side)) → ⊥
      one_awaited s u q f t (inl m) = none-some u (sym (ap (λ c. next_sent (Central fresh) (opposite c)
          (view v h (Central fresh) (opposite c))) m.1 ∙ ap (next_sent (Central fresh) (opposite r.end.side)) (view_beyond law can)) ∙ f)
      one_awaited s u q f t (inr m) = none-some q (sym (ap (λ c. taking_queue (Central fresh) c (view v h (Central fresh) c)) m.1 ∙ ap
          (taking_queue (Central fresh) (opposite r.end.side)) (view_beyond law can)) ∙ t)

      current_at : (l : LinkId) (s : Side) (u : ℕ) (q : Queue Item) → next_sent l (opposite s) (view v h l (opposite s)) ≡ Some u →
          taking_queue l s (view v h l s) ≡ Some q → has_passed (side_length h l (opposite s)) u ≡ false →
          (is_recorded w g l ≡ true) ⊎ (l ≡ Central fresh) → q.current ≤ u
      current_at l s u q f t notyet (inl rec) =
          (order_of law).current l s u q rec (sym (view_same law can l (opposite s) (apart law can l rec)).next ∙ f)
          (sym (view_same law can l s (apart law can l rec)).taking ∙ t) (not_passed_before l (opposite s) u (grown l (opposite s)) notyet)
      current_at l s u q f t notyet (inr m) = absurd (one_awaited s u q (rw m at f) (rw m at t) (side_is s r.end.side))

      stored_at : (l : LinkId) (s : Side) (u : ℕ) (q : Queue Item) (n : ℕ) (item : Item) →
          next_sent l (opposite s) (view v h l (opposite s)) ≡ Some u → taking_queue l s (view v h l s) ≡ Some q → item_at q n ≡ Some item →
          has_passed (side_length h l (opposite s)) n ≡ false → (is_recorded w g l ≡ true) ⊎ (l ≡ Central fresh) → n < u
      stored_at l s u q n item f t i notyet (inl rec) = (order_of law).stored l s u q n item rec
          (sym (view_same law can l (opposite s) (apart law can l rec)).next ∙ f)
          (sym (view_same law can l s (apart law can l rec)).taking ∙ t) i
          (not_passed_before l (opposite s) n (grown l (opposite s)) notyet)
      stored_at l s u q n item f t i notyet (inr m) = absurd (one_awaited s u q (rw m at f) (rw m at t) (side_is s r.end.side))

  -- the proxy, and its numbers against those of the router inward
  y_stood : Stood w (g.bypass o).proxy (has_inward_decaying (inner_of g o) A)
  y_stood = stood w (g.bypass o).proxy (has_inward_decaying (inner_of g o) A)
      ((stages_of law o).proxy_inner (begun law can) (omega (arith, (is law can).stage)))

  view_y : view w g (inner_of g o) A ≡ Standing y_stood.router
  view_y = view-standing w g (inner_of g o) A (g.bypass o).proxy y_stood.router ((bypasses_of law o).proxy_inner (begun law can))
      y_stood.here
      (grind (arith, is_attached-proxy (g.bypass o).inner y_stood.router, y_stood.passed))

  none_inner : side_length g (inner_of g o) B ≡ None
  none_inner = length-inner g (g.bypass o).inner o (by_o law can) ∙
      rw (is law can).stage (known_from-no 2 1 (g.bypass o).taken_at (omega arith))

  y_out : y_stood.router.out_queue.current ≤ r.out_queue.current
  unfolding fed_queue sending_queue
  y_out = (order_of law).current (inner_of g o) A (sending_queue (inner_of g o) B r).current (fed_queue (inner_of g o) A y_stood.router)
      ((bypasses_of law o).inner (begun law can)) (sends (inner_of g o) B r view_r) (takes (inner_of g o) A y_stood.router view_y)
      (ap (λ t. has_passed t r.out_queue.current) none_inner ∙ has_passed-none r.out_queue.current)

  y_items : (n : ℕ) (item : Item) → item_at y_stood.router.out_queue n ≡ Some item → n < r.out_queue.current
  unfolding fed_queue sending_queue
  y_items n item i = (order_of law).stored (inner_of g o) A (sending_queue (inner_of g o) B r).current
      (fed_queue (inner_of g o) A y_stood.router) n item ((bypasses_of law o).inner (begun law can)) (sends (inner_of g o) B r view_r)
      (takes (inner_of g o) A y_stood.router view_y) i
      (ap (λ t. has_passed t n) none_inner ∙ has_passed-none n)

  cur : {p q : Queue Item} → p ≡ q → p.current ≡ q.current
  cur m = ap (λ z. z.current) m

  was_proxy : (j : ℕ) (t : Router) → router_at v (h.bypass j).proxy ≡ Some t → WasLike w (g.bypass j).proxy t
  was_proxy j t m = was_router law can (g.bypass j).proxy t (ap (router_at v) (sym (proxy_same law can j)) ∙ m)

  far_of : (j : ℕ) → 3 ≤ (h.bypass j).stage → nat_eq j o ≡ false
  far_of j st = grind (arith, st, at_o law can j)

  begun_from : (j : ℕ) → 3 ≤ (g.bypass j).stage → is_begun (g.bypass j) ≡ true
  begun_from j n = grind (arith, n, nat_tests)

  pub proxy_numbers-peer : ProxyNumbers v h
  proxy_numbers-peer = record {
    out_current = λ j t m l. let c : WasLike w (g.bypass j).proxy t = was_proxy j t m in
        omega (arith, out_current_at j c.router c.here_before l (at_o law can j), cur c.alike.out_queue);
    out_items = λ j t n item m l i. let c : WasLike w (g.bypass j).proxy t = was_proxy j t m in
        out_items_at j c.router n item c.here_before l (ap (λ q. item_at q n) (sym c.alike.out_queue) ∙ i) (at_o law can j);
    in_current = λ j t m l. let c : WasLike w (g.bypass j).proxy t = was_proxy j t m in
        omega (arith, in_current_at j c.router c.here_before l (far_of j l), cur c.alike.in_queue);
    in_items = λ j t n item m l i. let c : WasLike w (g.bypass j).proxy t = was_proxy j t m in
        in_items_at j c.router n item c.here_before l (ap (λ q. item_at q n) (sym c.alike.in_queue) ∙ i) (far_of j l);
    across_gone = λ j t m l n. let c : WasLike w (g.bypass j).proxy t = was_proxy j t m in
        omega (arith, across_gone_at j c.router c.here_before l n (far_of j l), cur c.alike.out_queue);
    inner_gone = λ j t m l n. let c : WasLike w (g.bypass j).proxy t = was_proxy j t m in
        omega (arith, inner_gone_at j c.router c.here_before l n (far_of j (omega (arith, l))), cur c.alike.in_queue);
    out_finished = λ j t m l n. out_finished_at j t (ap (router_at v) (sym (proxy_same law can j)) ∙ m) l n (far_of j (omega (arith, l)))
        (split law can (g.bypass j).proxy t (ap (router_at v) (sym (proxy_same law can j)) ∙ m));
    in_finished = λ j t m l n. let c : WasLike w (g.bypass j).proxy t = was_proxy j t m in
        omega (arith, in_finished_at j t c l n (far_of j (omega (arith, l))), cur c.alike.in_queue);
  }
    where
      y_is : (t : Router) → router_at w (g.bypass o).proxy ≡ Some t → y_stood.router ≡ t
      y_is t m = same_Some _ _ (sym y_stood.here ∙ m)

      out_current_at : (j : ℕ) (t : Router) → router_at w (g.bypass j).proxy ≡ Some t → 2 ≤ (h.bypass j).stage →
          ((nat_eq j o ≡ true) × (j ≡ o)) ⊎ ((nat_eq j o ≡ false) × (j ≢ o)) → t.out_queue.current ≤ (h.bypass j).taken_at
      out_current_at j t m l (inl c) = let m' : router_at w (g.bypass o).proxy ≡ Some t = rw c.1 at m in rw (c.0, ← y_is t m') y_out
      out_current_at j t m l (inr c) = rw c.0 ((proxy_numbers_of law).out_current j t m (rw c.0 at l))

      out_items_at : (j : ℕ) (t : Router) (n : ℕ) (item : Item) → router_at w (g.bypass j).proxy ≡ Some t → 2 ≤ (h.bypass j).stage →
          item_at t.out_queue n ≡ Some item → ((nat_eq j o ≡ true) × (j ≡ o)) ⊎ ((nat_eq j o ≡ false) × (j ≢ o)) → n < (h.bypass j).taken_at
      out_items_at j t n item m l i (inl c) = let m' : router_at w (g.bypass o).proxy ≡ Some t = rw c.1 at m in
          rw c.0 (y_items n item (rw (y_is t m') i))
      out_items_at j t n item m l i (inr c) = rw c.0 ((proxy_numbers_of law).out_items j t n item m (rw c.0 at l) i)

      in_current_at : (j : ℕ) (t : Router) → router_at w (g.bypass j).proxy ≡ Some t → 3 ≤ (h.bypass j).stage → nat_eq j o ≡ false →
          t.in_queue.current ≤ (h.bypass j).accepted_at
      in_current_at j t m l c = rw c ((proxy_numbers_of law).in_current j t m (rw c at l))

      in_items_at : (j : ℕ) (t : Router) (n : ℕ) (item : Item) → router_at w (g.bypass j).proxy ≡ Some t → 3 ≤ (h.bypass j).stage →
          item_at t.in_queue n ≡ Some item → nat_eq j o ≡ false → n < (h.bypass j).accepted_at
      in_items_at j t n item m l i c = rw c ((proxy_numbers_of law).in_items j t n item m (rw c at l) i)

      across_gone_at : (j : ℕ) (t : Router) → router_at w (g.bypass j).proxy ≡ Some t → 3 ≤ (h.bypass j).stage →
          is_gone (view v h (Central j) (across_side h j)) ≡ true → nat_eq j o ≡ false → (h.bypass j).taken_at ≤ t.out_queue.current
      across_gone_at j t m l n c = let l' : 3 ≤ (g.bypass j).stage = rw c at l in
          let n' : is_gone (view v h (Central j) (across_side g j)) ≡ true = rw (across_side_same law can j) at n in
          rw c ((proxy_numbers_of law).across_gone j t m l' (sym (view_same law can (Central j) (across_side g j)
          (begun_apart law can j (begun_from j l'))).gone ∙ n'))

      inner_gone_at : (j : ℕ) (t : Router) → router_at w (g.bypass j).proxy ≡ Some t → (h.bypass j).stage ≡ 5 →
          is_gone (view v h (inner_of h j) B) ≡ true → nat_eq j o ≡ false → (h.bypass j).accepted_at ≤ t.in_queue.current
      inner_gone_at j t m l n c = let n' : is_gone (view v h (inner_of g j) B) ≡ true = rw (inner_same law can j) at n in
          rw c ((proxy_numbers_of law).inner_gone j t m (rw c at l) (sym (view_same law can (inner_of g j) B refl).gone ∙ n'))

      out_finished_at : (j : ℕ) (t : Router) → router_at v (g.bypass j).proxy ≡ Some t → 4 ≤ (h.bypass j).stage →
          t.outward.decaying ≡ None → nat_eq j o ≡ false → OneOrBefore w k x (g.bypass j).proxy t →
          (h.bypass j).taken_at ≤ t.out_queue.current
      out_finished_at j t m l n c (inl a) = absurd (grind (arith, on law can, ap (λ q. q.outward.decaying) a.1 ∙ n))
      out_finished_at j t m l n c (inr a) = rw c ((proxy_numbers_of law).out_finished j t a.1 (rw c at l) n)

      in_finished_at : (j : ℕ) (t : Router) (z : WasLike w (g.bypass j).proxy t) → 4 ≤ (h.bypass j).stage →
          (inward_edge t).decaying ≡ None →
          nat_eq j o ≡ false → (h.bypass j).accepted_at ≤ z.router.in_queue.current
      in_finished_at j t z l n c = rw c ((proxy_numbers_of law).in_finished j z.router z.here_before (rw c at l)
          (ap (λ u. (unwrap_or u no_edge).decaying) (sym z.inward) ∙ n))

  -- the length toward the asked router over its decaying link isn't known yet
  unknown : side_length h (inner_of g o) A ≡ None
  unknown = length-proxy h (g.bypass o).inner o (by_o law can) ∙ rw stage_after (known_from-no 3 2 (h.bypass o).accepted_at (omega arith))

  pub fresh_numbers-peer : FreshNumbers v h
  fresh_numbers-peer q t a = record {
    own = λ p d len prim dec f. own_at q t p d len prim dec f (split law can q t a);
    comes = λ p d len a' c i n item moves prim dec f u. comes_at q t p d len a' c i n item moves prim dec f u (split law can q t a)
        (grown d.link (opposite d.side));
    other = λ t' p d len prim dec f there. other_at q t t' p d len prim dec f there (split law can q t a)
        (grown d.link (opposite d.side));
  }
    where
      own_at : (q : Key) (t : Router) (p d : LinkEnd) (len : ℕ) → t.outward.primary ≡ Some p → t.outward.decaying ≡ Some d →
          t.outward.length_to ≡ Some len → OneOrBefore w k x q t → len ≤ t.out_queue.current
      own_at q t p d len prim dec f (inl m) = omega (
        arith,
        same_Some _ _ (sym f ∙ ap (λ u. u.outward.length_to) (sym m.1)),
        cur (ap (λ u. u.out_queue) m.1),
      )
      own_at q t p d len prim dec f (inr m) = (fresh_numbers_of law q t m.1).own p d len prim dec f

      not_x : (t : Router) (d : LinkEnd) (len : ℕ) → x ≡ t → t.outward.decaying ≡ Some d →
          side_length h d.link (opposite d.side) ≡ Some len → ⊥
      not_x t d len m dec f = let f' : side_length h (inner_of g o) A ≡ Some len =
          rw ((x_dec law can t d m dec).0, (x_dec law can t d m dec).1) at f in
          none-some len (sym unknown ∙ f')

      not_inward : (q : Key) (t : Router) (d : LinkEnd) → router_at w q ≡ Some t → t.outward.decaying ≡ Some d → d.link ≡ inner_of g o →
          opposite d.side ≡ B → ⊥
      not_inward q t d m dec l s =
          a_not_b (sym (outward_b law can d (g.bypass o).inner l (((links_of law) q t m).decaying_outward d dec)) ∙ sym
          (opposite-twice d.side) ∙ ap opposite s)
        where
          a_not_b : B ≡ A → ⊥
          a_not_b n = grind (arith, n)

      comes_at : (q : Key) (t : Router) (p d : LinkEnd) (len a' c i n : ℕ) (item : Item) (moves : List Descriptor) →
          t.outward.primary ≡ Some p → t.outward.decaying ≡ Some d → side_length h d.link (opposite d.side) ≡ Some len →
          IsUnderWay v a' c i (messages.Item p.link p.side n item moves) → OneOrBefore w k x q t → Grown d.link (opposite d.side) → len ≤ n
      comes_at q t p d len a' c i n item moves prim dec f u (inl m) gr = absurd (not_x t d len m.1 dec f)
      comes_at q t p d len a' c i n item moves prim dec f u (inr m) (Same s) =
          (fresh_numbers_of law q t m.1).comes p d len a' c (before a' c i) n item moves prim dec (sym s ∙ f)
          (was a' c i p.link p.side n item moves u)
      comes_at q t p d len a' c i n item moves prim dec f u (inr m) (Inward l s un z) = absurd (not_inward q t d m.1 dec l s)

      other_at : (q : Key) (t t' : Router) (p d : LinkEnd) (len : ℕ) → t.outward.primary ≡ Some p → t.outward.decaying ≡ Some d →
          side_length h d.link (opposite d.side) ≡ Some len → standing_router (view v h p.link (opposite p.side)) ≡ Some t' →
          OneOrBefore w k x q t → Grown d.link (opposite d.side) → len ≤ t'.out_queue.current
      other_at q t t' p d len prim dec f there (inl m) gr = absurd (not_x t d len m.1 dec f)
      other_at q t t' p d len prim dec f there (inr m) (Same s) =
          let same : IsSameView p.link (opposite p.side) (view v h p.link (opposite p.side)) (view w g p.link (opposite p.side)) =
          view_same law can p.link (opposite p.side) (apart law can p.link ((((links_of law) q t m.1).primary p prim).recorded)) in
          let found : HasOutQueue (standing_router (view w g p.link (opposite p.side))) t'.out_queue =
          out_queue_of _ _ (sym same.out_queue ∙ ap (option_map (λ u. u.out_queue)) there) in
          omega (arith, (fresh_numbers_of law q t m.1).other found.router p d len prim dec (sym s ∙ f) found.there, cur found.queue)
      other_at q t t' p d len prim dec f there (inr m) (Inward l s un z) = absurd (not_inward q t d m.1 dec l s)

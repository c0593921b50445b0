-- The router across takes the fresh link: numbers of items, under way and in queues.
use Rattle.std.proofs.lemmas.Bool.{or_left, or_right}
use Rattle.ipcz_world.proofs.frames.Unmoved.{is_left-agree}
use Rattle.ipcz_world.proofs.frames.Touching.{either}
use Rattle.std.specs.Prelude.{◌≡◌, ◌≢◌, ◌⊎◌, ◌<◌, ◌≤◌, ℕ, Bool, true, false, cond, nat_eq, Some, None, option_map, unwrap_or, List}
use Rattle.std.specs.Prelude.{refl}
use Rattle.std.proofs.Common.{arith, ap, ◌∙◌, sym, inl, inr}
use Rattle.std.proofs.lemmas.Bool.Decides.{nat_tests}
use Rattle.std.proofs.lemmas.Option.{none-some, same_Some}
use Rattle.ipcz_world.proofs.Vocabulary.{Side, A, B, LinkId, Central, LinkEnd, Item, Message, opposite, same_side, Queue, item_at, Router}
use Rattle.ipcz_world.proofs.Vocabulary.{inward_edge, World, Key, same_key, router_at, Books, Records, is_begun, is_recorded, side_router}
use Rattle.ipcz_world.proofs.Vocabulary.{across_side, side_length, is_gone, is_awaited, view, next_sent, taking_queue, sending_queue, fed_queue}
use Rattle.ipcz_world.proofs.Vocabulary.{IsUnderWay, is_made_before, inner_of, Items, Order, ProxyNumbers, FreshNumbers, has_passed, standing_router}
use Rattle.ipcz_world.proofs.Vocabulary.{Descriptor, no_edge, accept_bypass}
use Rattle.ipcz_base.specs.declared.message.Message.TheVariants as messages
use Rattle.ipcz_world.proofs.frames.Frames.{same_key_tells}
use Rattle.ipcz_world.proofs.facts.RecordsAfter.{accepted_records}
use Rattle.ipcz_world.proofs.frames.Unmoved.{side_node-agree, proxy_side-agree, is_recorded-kept, WasLike, was_like}
use Rattle.ipcz_world.proofs.frames.Handing.{handed_on, place_before, was_made_before}
use Rattle.ipcz_world.proofs.frames.Viewing.{IsSameView}
use Rattle.ipcz_world.proofs.facts.Lengths.{opposite-twice, side_is}
use Rattle.ipcz_world.proofs.frames.Sealing.{Sealed, Closed, links_of, positions_of, order_of, items_of, proxy_numbers_of, fresh_numbers_of}
use Rattle.ipcz_world.proofs.acts.AcceptBypassAround.{from_some, CanAccept, in_hand, on, on_node, is, begun, proxy_is, on_old, at_side}
use Rattle.ipcz_world.proofs.acts.AcceptBypassAround.{y_stood, y_here, z_known_some, z_known, z_stood, z_here, z_end, fresh_born}
use Rattle.ipcz_world.proofs.acts.AcceptBypassAround.{fresh_awaited, fresh_known, view_x, view_z, sends, y_out, x_in, x_items, y_in}
use Rattle.ipcz_world.proofs.acts.AcceptBypassAround.{y_items, z_in, z_items, z_fresh, z_out}
use Rattle.ipcz_world.proofs.acts.AcceptBypassViews.{at_o, like, changed, agree, was, is_new, same_view_at, Grown, Same, FromProxy}
use Rattle.ipcz_world.proofs.acts.AcceptBypassViews.{FromAcross, Inward, taken_after, grown, is_new-here, new_at, view_new}
use Rattle.ipcz_world.proofs.acts.AcceptBypassViews.{makes_new, not_from_new, limit, some_grown, opposite-same, not_passed_before}
use Rattle.ipcz_world.proofs.acts.AcceptBypassViews.{fresh_none, none_before, after_inner, after_old, not_new-old, not_new-inner}
use Rattle.ipcz_world.proofs.acts.AcceptBypassViews.{view_z_after}
use Rattle.ipcz_world.proofs.facts.Updates.{tells_stop}
use Rattle.ipcz_world.proofs.facts.Queues.{HasOutQueue, out_queue_of}

module _ {w : World} {b : Books} {g : Records} {from : ℕ} {k : Key} {r : Router} {e : LinkEnd} {o : ℕ} {side : Side} {fresh length : ℕ}
    (law : Sealed w b g) (can : Closed (CanAccept w from k r e o side fresh length)) where
  abbrev y : Router
  y = (y_stood law can).router

  abbrev zk : Key
  zk = from_some (side_router g (inner_of g o) B) (z_known_some law can)

  abbrev z : Router
  z = (z_stood law can).router

  -- what the hand makes of the router, the world and the records
  abbrev x : Router
  x = accept_bypass r from side fresh length

  abbrev sent : Message
  sent = tells_stop r o side length

  abbrev v : World
  v = handed_on w from k x e.other sent

  abbrev h : Records
  h = accepted_records g k r o side fresh

  abbrev before : ℕ → ℕ → ℕ → ℕ
  before a c i = place_before from k.node a c i

  pub items-accept : Items v h
  unfolding taking_queue fed_queue is_awaited is_gone
  items-accept = record {
    recorded = λ a c i link s n item moves u. is_recorded-kept w v g h k r x (changed law can) (agree law can) link ∙
        (items_of law).recorded a c (before a c i)
        link s n item moves (was law can a c i link s n item moves u);
    sender = λ a c i link s n item moves u. (items_of law).sender a c (before a c i) link s n item moves
        (was law can a c i link s n item moves u) ∙
        sym (side_node-agree g h (agree law can) link (opposite s));
    receiver = λ a c i link s n item moves u. (items_of law).receiver a c (before a c i) link s n item moves
        (was law can a c i link s n item moves u) ∙ sym (side_node-agree g h (agree law can) link s);
    below_length = λ a c i link s n item moves len u f. limit law can link (opposite s) n len (grown law can link (opposite s)) f
        (λ q e'. (items_of law).was_sent a c (before a c i) link s n item moves (sending_queue link (opposite s) q).current
        (was law can a c i link s n item moves u) (sends law can link (opposite s) q e'))
        (λ f'. (items_of law).below_length a c (before a c i) link s n item moves len (was law can a c i link s n item moves u) f');
    was_sent = λ a c i link s n item moves p u f. (items_of law).was_sent a c (before a c i) link s n item moves p
        (was law can a c i link s n item moves u) (sym (same_from a c i link s n item moves u).next ∙ f);
    by_sender = λ a c i link s n item moves u. (same_from a c i link s n item moves u).sent ∙ (items_of law).by_sender a c (before a c i)
        link s n item moves (was law can a c i link s n item moves u);
    sender_gone = λ a c i link s n item moves u f. elim (either _ _
        ((items_of law).sender_gone a c (before a c i) link s n item moves (was law can a c i link s n item moves u)
        (sym (same_from a c i link s n item moves u).gone ∙ f))) [
          | inl d ↦ or_left _ _ (some_grown law can link (opposite s) (grown law can link (opposite s)) d)
          | inr d ↦ or_right _ _ (is_left-agree g h (agree law can) link (opposite s) ∙ d)
        ];
    not_passed = λ a c i link s n item moves q u f. not_passed_at a c i link s n item moves q u f (is_new law can link s) refl;
    behind = λ a c i link s n item moves u f. behind_at a c i link s n item moves u f (is_new law can link s) refl;
    not_awaited_low = λ a c i d s n item moves j u none born. rw (taken_after law can j)
        ((items_of law).not_awaited_low a c (before a c i) d s n item moves j (was law can a c i (Central d) s n item moves u)
        (none_before law can d s none) (sym ((agree law can).born d) ∙ born));
    receiver_there = λ a c i link s n item moves u. there_at a c i link s n item moves u (is_new law can link s) refl;
  }
    where
      same_from : (a c i : ℕ) (link : LinkId) (s : Side) (n : ℕ) (item : Item) (moves : List Descriptor) →
          IsUnderWay v a c i (messages.Item link s n item moves) →
          IsSameView link (opposite s) (view v h link (opposite s)) (view w g link (opposite s))
      same_from a c i link s n item moves u = same_view_at law can link (opposite s)
          (not_from_new law can a c (before a c i) link s n item moves (was law can a c i link s n item moves u))

      not_passed_at : (a c i : ℕ) (link : LinkId) (s : Side) (n : ℕ) (item : Item) (moves : List Descriptor) (q : Queue Item) →
          IsUnderWay v a c i (messages.Item link s n item moves) → taking_queue link s (view v h link s) ≡ Some q →
          (t : Bool) → is_new law can link s ≡ t → q.current ≤ n
      not_passed_at a c i link s n item moves q u f false t = (items_of law).not_passed a c (before a c i) link s n item moves q
          (was law can a c i link s n item moves u) (sym (same_view_at law can link s t).taking ∙ f)
      not_passed_at a c i link s n item moves q u f true t = let p : (link ≡ Central fresh) × (s ≡ side) = new_at law can link s t in
          let u' : IsUnderWay w a c (before a c i) (messages.Item (Central fresh) side n item moves) =
          rw (p.0, p.1) at (was law can a c i link s n item moves u) in
          let low : (g.bypass o).taken_at ≤ n = (items_of law).not_awaited_low a c (before a c i) fresh side n item moves o u'
          (fresh_none law can)
          (fresh_born law can) in
          let f' : taking_queue (Central fresh) side (view v h (Central fresh) side) ≡ Some q = rw (p.0, p.1) at f in
          let same : r.in_queue ≡ q = same_Some _ _ (sym (ap (taking_queue (Central fresh) side) (view_new law can)) ∙ f') in
          let same' : r.in_queue.current ≡ q.current = ap (λ z. z.current) same in
          omega (arith, low, same', x_in law can, y_out law can)

      behind_at : (a c i : ℕ) (link : LinkId) (s : Side) (n : ℕ) (item : Item) (moves : List Descriptor) →
          IsUnderWay v a c i (messages.Item link s n item moves) → is_awaited (view v h link s) ≡ true →
          (t : Bool) → is_new law can link s ≡ t → is_made_before v a c i link s ≡ true
      behind_at a c i link s n item moves u f false t = let u' : IsUnderWay w a c (before a c i) (messages.Item link s n item moves) =
          was law can a c i link s n item moves u in
          was_made_before w from k x e.other sent (messages.AcceptBypass o side fresh length) a c i link s (on_node law can) u'.receiver
          (in_hand law can)
          (makes_new law can link s ∙ t)
          ((items_of law).behind a c (before a c i) link s n item moves u' (sym (same_view_at law can link s t).awaited ∙ f))
      behind_at a c i link s n item moves u f true t = let p : (link ≡ Central fresh) × (s ≡ side) = new_at law can link s t in
          let f' : is_awaited (view v h (Central fresh) side) ≡ true = rw (p.0, p.1) at f in
          absurd (grind (arith, sym (ap is_awaited (view_new law can)) ∙ f'))

      there_at : (a c i : ℕ) (link : LinkId) (s : Side) (n : ℕ) (item : Item) (moves : List Descriptor) →
          IsUnderWay v a c i (messages.Item link s n item moves) → (t : Bool) → is_new law can link s ≡ t →
          is_gone (view v h link s) ≡ false
      there_at a c i link s n item moves u false t = (same_view_at law can link s t).gone ∙
          (items_of law).receiver_there a c (before a c i) link s
          n item moves (was law can a c i link s n item moves u)
      there_at a c i link s n item moves u true t = let p : (link ≡ Central fresh) × (s ≡ side) = new_at law can link s t in
          rw (p.0, p.1) (ap is_gone (view_new law can))

  -- the sender's number and the receiver's queue of the fresh link, both ways
  pub order-accept : Order v h
  unfolding next_sent taking_queue fed_queue sending_queue
  order-accept = record {
    current = λ link s u q rec f t notyet. current_at link s u q rec f t notyet (is_new law can link (opposite s)) refl
        (is_new law can link s) refl;
    stored = λ link s u q n item rec f t at notyet. stored_at link s u q n item rec f t at notyet (is_new law can link (opposite s)) refl
        (is_new law can link s) refl;
  }
    where
      to_x : (link : LinkId) (s : Side) (u : ℕ) → link ≡ Central fresh → s ≡ side →
          next_sent link (opposite s) (view v h link (opposite s)) ≡ Some u → u ≡ z.out_queue.current
      to_x link s u l m f = let f' : next_sent (Central fresh) (opposite side) (view v h (Central fresh) (opposite side)) ≡ Some u =
          rw (l, m) at f in
          same_Some _ _ (sym f' ∙ (view_z_after law can).next ∙ ap (next_sent (Central fresh) (opposite side)) (view_z law can))

      at_x : (link : LinkId) (s : Side) (q : Queue Item) → link ≡ Central fresh → s ≡ side →
          taking_queue link s (view v h link s) ≡ Some q → q ≡ r.in_queue
      at_x link s q l m t = let t' : taking_queue (Central fresh) side (view v h (Central fresh) side) ≡ Some q = rw (l, m) at t in
          same_Some _ _ (sym t' ∙ ap (taking_queue (Central fresh) side) (view_new law can))

      to_z : (link : LinkId) (s : Side) (u : ℕ) → link ≡ Central fresh → opposite s ≡ side →
          next_sent link (opposite s) (view v h link (opposite s)) ≡ Some u → u ≡ r.out_queue.current
      to_z link s u l m f = let f' : next_sent (Central fresh) side (view v h (Central fresh) side) ≡ Some u = rw (l, m) at f in
          same_Some _ _ (sym f' ∙ ap (next_sent (Central fresh) side) (view_new law can))

      at_z : (link : LinkId) (s : Side) (q : Queue Item) → link ≡ Central fresh → opposite s ≡ side →
          taking_queue link s (view v h link s) ≡ Some q → q ≡ z.in_queue
      at_z link s q l m t = let n : s ≡ opposite side = sym (opposite-twice s) ∙ ap opposite m in
          let t' : taking_queue (Central fresh) (opposite side) (view v h (Central fresh) (opposite side)) ≡ Some q = rw (l, n) at t in
          same_Some _ _ (sym t' ∙ (view_z_after law can).taking ∙ ap (taking_queue (Central fresh) (opposite side)) (view_z law can))

      current_at : (link : LinkId) (s : Side) (u : ℕ) (q : Queue Item) → is_recorded v h link ≡ true →
          next_sent link (opposite s) (view v h link (opposite s)) ≡ Some u → taking_queue link s (view v h link s) ≡ Some q →
          has_passed (side_length h link (opposite s)) u ≡ false → (m : Bool) → is_new law can link (opposite s) ≡ m → (m' : Bool) →
          is_new law can link s ≡ m' → q.current ≤ u
      current_at link s u q rec f t notyet true m m' e' = let p : (link ≡ Central fresh) × (opposite s ≡ side) =
          new_at law can link (opposite s) m in
          let a : q.current ≡ z.in_queue.current = ap (λ c. c.current) (at_z link s q p.0 p.1 t) in
          omega (arith, to_z link s u p.0 p.1 f, a, z_in law can, y_in law can)
      current_at link s u q rec f t notyet false m true e' = let p : (link ≡ Central fresh) × (s ≡ side) = new_at law can link s e' in
          let a : q.current ≡ r.in_queue.current = ap (λ c. c.current) (at_x link s q p.0 p.1 t) in
          omega (arith, to_x link s u p.0 p.1 f, a, x_in law can, y_out law can, z_out law can)
      current_at link s u q rec f t notyet false m false e' = (order_of law).current link s u q
          (sym (is_recorded-kept w v g h k r x (changed law can) (agree law can) link) ∙ rec)
          (sym (same_view_at law can link (opposite s) m).next ∙ f) (sym (same_view_at law can link s e').taking ∙ t)
          (not_passed_before law can link (opposite s) u (grown law can link (opposite s)) notyet)

      stored_at : (link : LinkId) (s : Side) (u : ℕ) (q : Queue Item) (n : ℕ) (item : Item) → is_recorded v h link ≡ true →
          next_sent link (opposite s) (view v h link (opposite s)) ≡ Some u → taking_queue link s (view v h link s) ≡ Some q →
          item_at q n ≡ Some item → has_passed (side_length h link (opposite s)) n ≡ false → (m : Bool) →
          is_new law can link (opposite s) ≡ m →
          (m' : Bool) → is_new law can link s ≡ m' → n < u
      stored_at link s u q n item rec f t at notyet true m m' e' = let p : (link ≡ Central fresh) × (opposite s ≡ side) =
          new_at law can link (opposite s) m in
          let a : n < y.in_queue.current = z_items law can n item (ap (λ c. item_at c n) (sym (at_z link s q p.0 p.1 t)) ∙ at) in
          omega (arith, to_z link s u p.0 p.1 f, a, y_in law can)
      stored_at link s u q n item rec f t at notyet false m true e' = let p : (link ≡ Central fresh) × (s ≡ side) =
          new_at law can link s e' in
          let a : n < y.out_queue.current = x_items law can n item (ap (λ c. item_at c n) (sym (at_x link s q p.0 p.1 t)) ∙ at) in
          omega (arith, to_x link s u p.0 p.1 f, a, y_out law can, z_out law can)
      stored_at link s u q n item rec f t at notyet false m false e' =
          (order_of law).stored link s u q n item (sym (is_recorded-kept w v g h k r x (changed law can) (agree law can) link) ∙ rec)
          (sym (same_view_at law can link (opposite s) m).next ∙ f) (sym (same_view_at law can link s e').taking ∙ t) at
          (not_passed_before law can link (opposite s) n (grown law can link (opposite s)) notyet)

  pub router_j : (q : Key) → router_at v q ≡ cond (same_key q k) (Some x) (router_at w q)
  router_j = (changed law can).router

  pub was_router : (q : Key) (t : Router) → router_at v q ≡ Some t → WasLike w q t
  was_router = was_like (changed law can) (like law can) refl

  pub was_proxy : (j : ℕ) (t : Router) → router_at v (h.bypass j).proxy ≡ Some t → WasLike w (g.bypass j).proxy t
  was_proxy j t at = was_router (g.bypass j).proxy t (ap (router_at v) (sym ((agree law can).proxy j)) ∙ at)

  pub two_of : (j : ℕ) → 2 ≤ (h.bypass j).stage → 2 ≤ (g.bypass j).stage
  two_of j st = grind (arith, st, at_o law can j, (is law can).stage)

  begun_of : (j : ℕ) → 2 ≤ (g.bypass j).stage → is_begun (g.bypass j) ≡ true
  begun_of j st = grind (arith, st, nat_tests)

  far_of : (j : ℕ) → 4 ≤ (h.bypass j).stage → nat_eq j o ≡ false
  far_of j st = grind (arith, st, at_o law can j)

  pub across_side-after : (j : ℕ) → across_side h j ≡ across_side g j
  across_side-after j = ap opposite (proxy_side-agree g h (agree law can) j)

  pub across_is_after : across_side h o ≡ side
  across_is_after = across_side-after o ∙ sym (is law can).at_side

  same_number : (a c : Queue Item) → a ≡ c → a.current ≡ c.current
  same_number a c p = ap (λ t. t.current) p

  pub proxy_numbers-accept : ProxyNumbers v h
  unfolding is_gone
  proxy_numbers-accept = record {
    out_current = λ j t at st. let c : WasLike w (g.bypass j).proxy t = was_proxy j t at in
        omega (
          arith,
          (proxy_numbers_of law).out_current j c.router c.here_before (two_of j st),
          same_number _ _ c.alike.out_queue,
          taken_after law can j,
        );
    out_items = λ j t n item at st i. let c : WasLike w (g.bypass j).proxy t = was_proxy j t at in
        omega (
          arith,
          (proxy_numbers_of law).out_items j c.router n item c.here_before (two_of j st)
              (ap (λ q. item_at q n) (sym c.alike.out_queue) ∙ i),
          taken_after law can j,
        );
    in_current = λ j t at st. let c : WasLike w (g.bypass j).proxy t = was_proxy j t at in
        omega (arith, in_current_at j c.router c.here_before st (at_o law can j), same_number _ _ c.alike.in_queue);
    in_items = λ j t n item at st i. let c : WasLike w (g.bypass j).proxy t = was_proxy j t at in
        in_items_at j c.router n item c.here_before st (ap (λ q. item_at q n) (sym c.alike.in_queue) ∙ i) (at_o law can j);
    across_gone = λ j t at st gone. let c : WasLike w (g.bypass j).proxy t = was_proxy j t at in
        omega (
          arith,
          across_gone_at j c.router c.here_before st gone (at_o law can j),
          same_number _ _ c.alike.out_queue,
          taken_after law can j,
        );
    inner_gone = λ j t at st gone. let c : WasLike w (g.bypass j).proxy t = was_proxy j t at in
        omega (arith, inner_gone_at j c.router c.here_before st gone (far_of j (omega (arith, st))), same_number _ _ c.alike.in_queue);
    out_finished = λ j t at st none. out_finished_at j t (ap (router_at v) (sym ((agree law can).proxy j)) ∙ at) st none (far_of j st)
        (same_key_tells (g.bypass j).proxy k);
    in_finished = λ j t at st none. let c : WasLike w (g.bypass j).proxy t = was_proxy j t at in
        omega (arith, in_finished_at j t c st none (far_of j st), same_number _ _ c.alike.in_queue);
  }
    where
      y_is : (t : Router) → router_at w (g.bypass o).proxy ≡ Some t → y ≡ t
      y_is t at = same_Some _ _ (sym (y_here law can) ∙ at)

      in_current_at : (j : ℕ) (t : Router) → router_at w (g.bypass j).proxy ≡ Some t → 3 ≤ (h.bypass j).stage →
          ((nat_eq j o ≡ true) × (j ≡ o)) ⊎ ((nat_eq j o ≡ false) × (j ≢ o)) → t.in_queue.current ≤ (h.bypass j).accepted_at
      in_current_at j t at st (inl m) = let at' : router_at w (g.bypass o).proxy ≡ Some t = rw m.1 at at in
          rw (m.0, ← y_is t at') (y_in law can)
      in_current_at j t at st (inr m) = rw m.0 ((proxy_numbers_of law).in_current j t at (rw m.0 at st))

      in_items_at : (j : ℕ) (t : Router) (n : ℕ) (item : Item) → router_at w (g.bypass j).proxy ≡ Some t → 3 ≤ (h.bypass j).stage →
          item_at t.in_queue n ≡ Some item → ((nat_eq j o ≡ true) × (j ≡ o)) ⊎ ((nat_eq j o ≡ false) × (j ≢ o)) →
          n < (h.bypass j).accepted_at
      in_items_at j t n item at st i (inl m) = let at' : router_at w (g.bypass o).proxy ≡ Some t = rw m.1 at at in
          rw m.0 (y_items law can n item (rw (y_is t at') i))
      in_items_at j t n item at st i (inr m) = rw m.0 ((proxy_numbers_of law).in_items j t n item at (rw m.0 at st) i)

      across_gone_at : (j : ℕ) (t : Router) → router_at w (g.bypass j).proxy ≡ Some t → 3 ≤ (h.bypass j).stage →
          is_gone (view v h (Central j) (across_side h j)) ≡ true → ((nat_eq j o ≡ true) × (j ≡ o)) ⊎ ((nat_eq j o ≡ false) × (j ≢ o)) →
          (g.bypass j).taken_at ≤ t.out_queue.current
      across_gone_at j t at st gone (inl m) = let gone' : is_gone (view v h (Central o) (across_side h o)) ≡ true = rw m.1 at gone in
          let gone2 : is_gone (view v h (Central o) side) ≡ true = rw across_is_after at gone' in
          absurd (grind (
            arith,
            sym gone2 ∙ (same_view_at law can (Central o) side (not_new-old law can o side (begun law can))).gone ∙
                ap is_gone (view_x law can),
          ))
      across_gone_at j t at st gone (inr m) = let gone' : is_gone (view v h (Central j) (across_side g j)) ≡ true =
          rw (across_side-after j) at gone in let st' : 3 ≤ (g.bypass j).stage = rw m.0 at st in
          (proxy_numbers_of law).across_gone j t at st' (sym (same_view_at law can (Central j) (across_side g j)
          (not_new-old law can j (across_side g j) (begun_of j (omega (arith, st'))))).gone ∙ gone')

      inner_gone_at : (j : ℕ) (t : Router) → router_at w (g.bypass j).proxy ≡ Some t → (h.bypass j).stage ≡ 5 →
          is_gone (view v h (inner_of h j) B) ≡ true → nat_eq j o ≡ false → (h.bypass j).accepted_at ≤ t.in_queue.current
      inner_gone_at j t at st gone m = let gone' : is_gone (view v h (inner_of g j) B) ≡ true = rw m at gone in
          rw m ((proxy_numbers_of law).inner_gone j t at (rw m at st)
          (sym (same_view_at law can (inner_of g j) B (not_new-inner law can (g.bypass j).inner B)).gone ∙ gone'))

      out_finished_at : (j : ℕ) (t : Router) → router_at v (g.bypass j).proxy ≡ Some t → 4 ≤ (h.bypass j).stage →
          t.outward.decaying ≡ None → nat_eq j o ≡ false →
          ((same_key (g.bypass j).proxy k ≡ true) × ((g.bypass j).proxy ≡ k)) ⊎
          ((same_key (g.bypass j).proxy k ≡ false) × ((g.bypass j).proxy ≢ k)) → (h.bypass j).taken_at ≤ t.out_queue.current
      out_finished_at j t at st none m (inl c) = let p : x ≡ t = same_Some _ _ (sym (rw c.0 at (router_j (g.bypass j).proxy)) ∙ at) in
          absurd (grind (arith, on law can, ap (λ q. q.outward.decaying) p ∙ none))
      out_finished_at j t at st none m (inr c) = rw m ((proxy_numbers_of law).out_finished j t
          (sym (rw c.0 at (router_j (g.bypass j).proxy)) ∙ at) (rw m at st) none)

      in_finished_at : (j : ℕ) (t : Router) (c : WasLike w (g.bypass j).proxy t) → 4 ≤ (h.bypass j).stage →
          (inward_edge t).decaying ≡ None →
          nat_eq j o ≡ false → (h.bypass j).accepted_at ≤ c.router.in_queue.current
      in_finished_at j t c st none m = rw m ((proxy_numbers_of law).in_finished j c.router c.here_before (rw m at st)
          (ap (λ u. (unwrap_or u no_edge).decaying) (sym c.inward) ∙ none))

  -- the router inward alone has the fresh link
  z_alone : (q : Key) (t : Router) (p : LinkEnd) → router_at w q ≡ Some t → t.outward.primary ≡ Some p → p.link ≡ Central fresh →
      (q ≡ zk) × (p.side ≡ opposite side)
  z_alone q t p at prim l = go (side_is p.side side)
    where
      rec : side_router g (Central fresh) p.side ≡ Some q
      rec = rw l at ((((links_of law) q t at).primary p prim).router)

      go : ((same_side p.side side ≡ true) × (p.side ≡ side)) ⊎ ((same_side p.side side ≡ false) × (p.side ≡ opposite side)) →
          (q ≡ zk) × (p.side ≡ opposite side)
      go (inl m) = absurd (none-some q (sym (fresh_awaited law can) ∙ rw m.1 at rec))
      go (inr m) = (same_Some q zk (sym (rw m.1 at rec) ∙ fresh_known law can), m.1)

  -- its decaying link is the inner one
  z_decays : (q : Key) (t : Router) (d : LinkEnd) → q ≡ zk → router_at w q ≡ Some t → t.outward.decaying ≡ Some d →
      (d.link ≡ inner_of g o) × (opposite d.side ≡ A)
  z_decays q t d m at dec = let same : t ≡ z = same_Some t z (sym (rw m at at) ∙ z_here law can) in let u : d ≡ (z_end law can).end =
      same_Some d (z_end law can).end (sym dec ∙ ap (λ c. c.outward.decaying) same ∙ (z_end law can).there) in
      (ap (λ c. c.link) u ∙ (z_end law can).on_link, ap (λ c. opposite c.side) u ∙ ap opposite (z_end law can).at_side)

  -- the router inward is the one that has the inner link decaying
  inner_is_z : (q : Key) (t : Router) (d : LinkEnd) → router_at w q ≡ Some t → t.outward.decaying ≡ Some d → d.link ≡ inner_of g o →
      opposite d.side ≡ A → q ≡ zk
  inner_is_z q t d at dec l s = let m : d.side ≡ B = sym (opposite-twice d.side) ∙ ap opposite s in
      let rec : side_router g (inner_of g o) B ≡ Some q = rw (l, m) at ((((links_of law) q t at).decaying d dec).router) in
      same_Some q zk (sym rec ∙ z_known law can)

  z_primary_end : (q : Key) (t : Router) (p : LinkEnd) → q ≡ zk → router_at w q ≡ Some t → t.outward.primary ≡ Some p →
      (p.link ≡ Central fresh) × (p.side ≡ opposite side)
  z_primary_end q t p m at prim = let same : t ≡ z = same_Some t z (sym (rw m at at) ∙ z_here law can) in
      let u : p ≡ (z_fresh law can).end =
      same_Some p (z_fresh law can).end (sym prim ∙ ap (λ c. c.outward.primary) same ∙ (z_fresh law can).there) in
      (ap (λ c. c.link) u ∙ (z_fresh law can).on_link, ap (λ c. c.side) u ∙ (z_fresh law can).at_side)

  -- the links of the router across afterwards
  record XEnds (p d : LinkEnd) : Type 0 where
    p_link : p.link ≡ Central fresh
    p_side : p.side ≡ side
    p_other : p.other ≡ from
    d_link : d.link ≡ Central o
    d_side : d.side ≡ side
    d_is : d ≡ e

  x_ends : (t : Router) (p d : LinkEnd) → x ≡ t → t.outward.primary ≡ Some p → t.outward.decaying ≡ Some d → XEnds p d
  x_ends t p d m prim dec = record {
    p_link = ap (λ c. c.link) p_is;
    p_side = ap (λ c. c.side) p_is;
    p_other = ap (λ c. c.other) p_is;
    d_link = ap (λ c. c.link) d_is ∙ on_old law can;
    d_side = ap (λ c. c.side) d_is ∙ at_side law can;
    d_is = d_is;
  }
    where
      p_is : p ≡ record { link = Central fresh; side = side; other = from }
      p_is = same_Some _ _ (sym prim ∙ ap (λ c. c.outward.primary) (sym m))

      d_is : d ≡ e
      d_is = same_Some _ _ (sym dec ∙ ap (λ c. c.outward.decaying) (sym m) ∙ on law can)

  pub fresh_numbers-accept : FreshNumbers v h
  unfolding standing_router
  fresh_numbers-accept q t at = record {
    own = λ p d len prim dec f. own_at q t p d len at prim dec f (same_key_tells q k);
    comes = λ p d len a c i n item moves prim dec f u. comes_at q t p d len a c i n item moves at prim dec f
        (was law can a c i p.link p.side n item moves u) (same_key_tells q k);
    other = λ t' p d len prim dec f there. other_at q t t' p d len at prim dec f there (same_key_tells q k);
  }
    where
      of_w : (q : Key) (t : Router) → router_at v q ≡ Some t → same_key q k ≡ false → router_at w q ≡ Some t
      of_w q t at m = sym (rw m at (router_j q)) ∙ at

      is_x : (q : Key) (t : Router) → router_at v q ≡ Some t → same_key q k ≡ true → x ≡ t
      is_x q t at m = same_Some x t (sym (rw m at (router_j q)) ∙ at)

      own_at : (q : Key) (t : Router) (p d : LinkEnd) (len : ℕ) → router_at v q ≡ Some t → t.outward.primary ≡ Some p →
          t.outward.decaying ≡ Some d → t.outward.length_to ≡ Some len →
          ((same_key q k ≡ true) × (q ≡ k)) ⊎ ((same_key q k ≡ false) × (q ≢ k)) → len ≤ t.out_queue.current
      own_at q t p d len at prim dec f (inl m) = let a : x ≡ t = is_x q t at m.0 in let c : len ≡ r.out_queue.current =
          same_Some _ _ (sym f ∙ ap (λ u. u.outward.length_to) (sym a)) in
          omega (arith, c, ap (λ u. u.out_queue.current) a)
      own_at q t p d len at prim dec f (inr m) = (fresh_numbers_of law q t (of_w q t at m.0)).own p d len prim dec f

      comes_at : (q : Key) (t : Router) (p d : LinkEnd) (len a c i n : ℕ) (item : Item) (moves : List Descriptor) → router_at v q ≡ Some t →
          t.outward.primary ≡ Some p → t.outward.decaying ≡ Some d →
          side_length h d.link (opposite d.side) ≡ Some len → IsUnderWay w a c (before a c i) (messages.Item p.link p.side n item moves) →
          ((same_key q k ≡ true) × (q ≡ k)) ⊎ ((same_key q k ≡ false) × (q ≢ k)) → len ≤ n
      comes_at q t p d len a c i n item moves at prim dec f u (inl m) = let ends : XEnds p d = x_ends t p d (is_x q t at m.0) prim dec in
          let f' : side_length h (Central o) (opposite side) ≡ Some len = rw (ends.d_link, ends.d_side) at f in
          let u' : IsUnderWay w a c (before a c i) (messages.Item (Central fresh) side n item moves) = rw (ends.p_link, ends.p_side) at u in
          omega (
            arith,
            same_Some _ _ (sym f' ∙ after_old law can),
            (items_of law).not_awaited_low a c (before a c i) fresh side n item moves o u'
                (fresh_none law can) (fresh_born law can),
          )
      comes_at q t p d len a c i n item moves at prim dec f u (inr m) = go (grown law can d.link (opposite d.side))
        where
          at' : router_at w q ≡ Some t
          at' = of_w q t at m.0

          go : Grown law can d.link (opposite d.side) → len ≤ n
          go (Same e') = (fresh_numbers_of law q t at').comes p d len a c (before a c i) n item moves prim dec (sym e' ∙ f) u
          go (FromProxy l s none e') = absurd (omega (
            arith,
            (is law can).stage,
            ((positions_of law).each q t at').across_stage d o dec l (opposite-same law can d.side side s ∙ (is law can).at_side),
          ))
          go (FromAcross l s none e') = absurd (none-some p (sym (((positions_of law).each q t at').own_alone d o dec l
              (sym (opposite-twice d.side) ∙ ap opposite s ∙ sym (proxy_is law can))) ∙ prim))
          go (Inward l s none e') = let ends : (p.link ≡ Central fresh) × (p.side ≡ opposite side) =
              z_primary_end q t p (inner_is_z q t d at' dec l s) at' prim in
              let u' : IsUnderWay w a c (before a c i) (messages.Item (Central fresh) (opposite side) n item moves) =
              rw (ends.0, ends.1) at u in
              absurd (grind (
                arith,
                not_from_new law can a c (before a c i) (Central fresh) (opposite side) n item moves u',
                opposite-twice side,
                is_new-here law can,
              ))

      other_at : (q : Key) (t t' : Router) (p d : LinkEnd) (len : ℕ) → router_at v q ≡ Some t → t.outward.primary ≡ Some p →
          t.outward.decaying ≡ Some d →
          side_length h d.link (opposite d.side) ≡ Some len → standing_router (view v h p.link (opposite p.side)) ≡ Some t' →
          ((same_key q k ≡ true) × (q ≡ k)) ⊎ ((same_key q k ≡ false) × (q ≢ k)) → len ≤ t'.out_queue.current
      other_at q t t' p d len at prim dec f there (inl m) = let ends : XEnds p d = x_ends t p d (is_x q t at m.0) prim dec in
          let f' : side_length h (Central o) (opposite side) ≡ Some len = rw (ends.d_link, ends.d_side) at f in
          let th : standing_router (view v h (Central fresh) (opposite side)) ≡ Some t' = rw (ends.p_link, ends.p_side) at there in
          let out : t'.out_queue ≡ z.out_queue =
          same_Some _ _ (sym (ap (option_map (λ u. u.out_queue)) th) ∙ (view_z_after law can).out_queue ∙ ap
          (λ c. option_map (λ u. u.out_queue) (standing_router c)) (view_z law can)) in
          omega (arith, same_Some _ _ (sym f' ∙ after_old law can), same_number _ _ out, z_out law can)
      other_at q t t' p d len at prim dec f there (inr m) = go (is_new law can p.link (opposite p.side)) refl
          (grown law can d.link (opposite d.side))
        where
          at' : router_at w q ≡ Some t
          at' = of_w q t at m.0

          go : (b : Bool) → is_new law can p.link (opposite p.side) ≡ b → Grown law can d.link (opposite d.side) →
              len ≤ t'.out_queue.current
          go true n gr = let new : (p.link ≡ Central fresh) × (opposite p.side ≡ side) = new_at law can p.link (opposite p.side) n in
              let th : standing_router (view v h (Central fresh) side) ≡ Some t' = rw (new.0, new.1) at there in
              let out : r.out_queue ≡ t'.out_queue =
              ap (λ c. c.out_queue) (same_Some x t' (sym (ap standing_router (view_new law can)) ∙ th)) in
              let dd : (d.link ≡ inner_of g o) × (opposite d.side ≡ A) = z_decays q t d (z_alone q t p at' prim new.0).0 at' dec in
              let f' : side_length h (inner_of g o) A ≡ Some len = rw (dd.0, dd.1) at f in
              omega (arith, same_Some _ _ (sym f' ∙ after_inner law can), same_number _ _ out)
          go false n (Same e') = let same : IsSameView p.link (opposite p.side) (view v h p.link (opposite p.side))
              (view w g p.link (opposite p.side)) = same_view_at law can p.link (opposite p.side) n in
              let found : HasOutQueue (standing_router (view w g p.link (opposite p.side))) t'.out_queue =
              out_queue_of (standing_router (view w g p.link (opposite p.side))) t'.out_queue
              (sym same.out_queue ∙ ap (option_map (λ u. u.out_queue)) there) in
              omega (
                arith,
                (fresh_numbers_of law q t at').other found.router p d len prim dec (sym e' ∙ f) found.there,
                same_number _ _ found.queue,
              )
          go false n (FromProxy l s none e') = absurd (omega (
            arith,
            (is law can).stage,
            ((positions_of law).each q t at').across_stage d o dec l (opposite-same law can d.side side s ∙ (is law can).at_side),
          ))
          go false n (FromAcross l s none e') = absurd (none-some p
              (sym (((positions_of law).each q t at').own_alone d o dec l (sym (opposite-twice d.side) ∙ ap opposite s ∙ sym (proxy_is law can))) ∙
              prim))
          go false n (Inward l s none e') = let ends : (p.link ≡ Central fresh) × (p.side ≡ opposite side) =
              z_primary_end q t p (inner_is_z q t d at' dec l s) at' prim in
              let n' : is_new law can (Central fresh) (opposite (opposite side)) ≡ false = rw (ends.0, ends.1) at n in
              absurd (grind (arith, n', opposite-twice side, is_new-here law can))

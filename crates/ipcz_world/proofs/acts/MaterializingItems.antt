-- A descriptor becomes a terminal, and the message that carried it has it no more: what is said of items and numbers is kept.
use Rattle.ipcz_world.proofs.acts.MaterializingAround.{left_same}
use Rattle.std.specs.Prelude.{◌≡◌, ◌⊎◌, ◌≤◌, ℕ, suc, Bool, true, false, cond, ◌&&◌, nat_eq, Option, Some, None, refl, List, []}
use Rattle.std.specs.Prelude.{◌∷◌, slice_get}
use Rattle.std.proofs.Common.{arith, ap, ◌∙◌, sym, inl, inr}
use Rattle.std.proofs.lemmas.Bool.Decides.{nat_tests}
use Rattle.ipcz_world.proofs.Vocabulary.{Side, A, B, End, LinkId, Central, Peripheral, Descriptor, Item, Message, opposite, same_side, same_link}
use Rattle.ipcz_world.proofs.Vocabulary.{has_link, same_end, Router, from_descriptor, World, Key, flow, Books, Records, is_recorded, is_begun}
use Rattle.ipcz_world.proofs.Vocabulary.{bypass_of, known_from, inner_link, side_router, side_end, side_length, across_side, terminal_descriptor}
use Rattle.ipcz_world.proofs.Vocabulary.{Standing, view, view_by, router_view, next_sent, taking_queue, is_gone, is_awaited, is_attached}
use Rattle.ipcz_world.proofs.Vocabulary.{sending_queue, fed_queue, makes, is_made_before, under_way, of_end, moves_of, total_list, total_below}
use Rattle.ipcz_world.proofs.Vocabulary.{inner_of, moving_link, Order, ProxyNumbers, has_passed, reach, Moving, length_by, bypass_length}
use Rattle.ipcz_world.proofs.Vocabulary.{awaited_view, may_have_sent, move_weight}
use Rattle.ipcz_base.specs.declared.message.Message.TheVariants as messages
use Rattle.ipcz_seq.specs.Queue.{queue_from}
use Rattle.ipcz_world.proofs.frames.Frames.{same_key-itself}
use Rattle.ipcz_world.proofs.frames.RecordRules.{is_recorded-central, side_router-proxy, side_router-inner}
use Rattle.ipcz_world.specs.Standing.{Waiting}
use Rattle.ipcz_world.proofs.frames.Seen.{view_by-known, view_by-unknown}
use Rattle.ipcz_world.proofs.frames.Draining.{next_sent-standing, taking_queue-standing, view_rules}
use Rattle.ipcz_world.proofs.frames.Fitting.{ItemFits}
use Rattle.ipcz_world.proofs.frames.Flowing.{weighed}
use Rattle.ipcz_world.proofs.frames.Opened.{OpenInv}
use Rattle.ipcz_world.proofs.acts.SendingOut.{has_link-end}
use Rattle.ipcz_world.proofs.frames.Awaited.{no_router, moving_known, expected_move-moving}
use Rattle.ipcz_world.proofs.facts.Reaching.{is_reach, reach_one}
use Rattle.ipcz_world.proofs.acts.ExtendingAround.{inner_end_is}
use Rattle.ipcz_world.proofs.acts.ExtendingItems.{next_sent-waiting, taking_queue-waiting, awaited-central, blank_at, awaited-inner}
use Rattle.ipcz_world.proofs.acts.MaterializingAround.{made_key_records, IsMade, IsMaterial, unmade, waits, end_is, node_same, end_same}
use Rattle.ipcz_world.proofs.acts.MaterializingAround.{bypass_same, side_same, recorded_same, router_new, router_same, side_new}
use Rattle.ipcz_world.proofs.acts.MaterializingStages.{proxy_was}
use Rattle.ipcz_world.proofs.facts.Lengths.{same_link-itself, view-standing, same_link-tells, same_side-tells}
use Rattle.ipcz_world.proofs.frames.Sums.{total_below-none, total_list-at as total_list-has}
use Rattle.ipcz_world.proofs.facts.Tests.{same_some}
use Rattle.ipcz_world.proofs.facts.LinkTests.{same_end-itself, same_end-tells}

-- weighs the descriptors of the same numbers
abbrev of_numbers : Descriptor → Descriptor → ℕ
of_numbers d x = cond (nat_eq x.next_out d.next_out && nat_eq x.next_in d.next_in) 1 0

numbers_weigh : (d x : Descriptor) → 1 ≤ of_numbers d x → (x.next_out ≡ d.next_out) × (x.next_in ≡ d.next_in)
numbers_weigh d x h = go (nat_eq x.next_out d.next_out) (nat_eq x.next_in d.next_in) refl refl h
  where
    go : (c e : Bool) → nat_eq x.next_out d.next_out ≡ c → nat_eq x.next_in d.next_in ≡ e → 1 ≤ cond (c && e) 1 0 →
        (x.next_out ≡ d.next_out) × (x.next_in ≡ d.next_in)
    go true true c e l = (grind (arith, c, nat_tests), grind (arith, e, nat_tests))
    go true false c e l = absurd (omega (arith, l))
    go false e c f l = absurd (omega (arith, l))

pub total_list-at : (f : Descriptor → ℕ) (ds : List Descriptor) (j : ℕ) (d : Descriptor) → slice_get ds j ≡ Some d → f d ≤ total_list f ds
total_list-at f ds j d e = total_list-has f ds j d e

pub none_of_end : (f : Descriptor → ℕ) (e : End) (ds : List Descriptor) →
    ((j : ℕ) (c : Descriptor) → slice_get ds j ≡ Some c → same_end c.end e ≡ false) → total_list (of_end e f) ds ≡ 0
none_of_end f e [] h = refl
none_of_end f e (x ∷ ds) h = let z = h 0 x refl in let r = none_of_end f e ds (λ j c k. h (suc j) c k) in grind (arith, z, r)

list_zeros : (ms : List Message) → total_list (λ m. 0) ms ≡ 0
list_zeros [] = refl
list_zeros (m ∷ ms) = omega (arith, list_zeros ms)

pub no_weight : (w : World) → under_way (λ from to m. 0) w ≡ 0
unfolding under_way
no_weight w = total_below-none w.count (λ from. total_below w.count (λ to. total_list (λ m. 0) (flow w from to)))
    (λ from. total_below-none w.count (λ to. total_list (λ m. 0) (flow w from to)) (λ to. list_zeros (flow w from to)))

pub makes-less : (link l : LinkId) (u s : Side) (n : ℕ) (item : Item) (ds : List Descriptor) (d : Descriptor) →
    (same_link d.link link && same_side u B) ≡ false → makes link u (messages.Item l s n item (d ∷ ds)) ≡ true →
    makes link u (messages.Item l s n item ds) ≡ true
unfolding makes
makes-less link l A s n item ds d h e = e
makes-less link l B s n item ds d h e = grind (arith, h, e)

fed-B : (k : Key) (x : Router) → fed_queue (inner_link k) B x ≡ x.in_queue
unfolding fed_queue
fed-B k x = refl

sending-B : (k : Key) (x : Router) → sending_queue (inner_link k) B x ≡ x.out_queue
unfolding sending_queue
sending-B k x = refl

waiting_rules : (d : Descriptor) → (is_gone (Waiting d) ≡ false) × (is_awaited (Waiting d) ≡ true) × (may_have_sent (Waiting d) ≡ false)
unfolding is_gone is_awaited may_have_sent
waiting_rules d = (refl, refl, refl)

attached-B : (k : Key) (d : Descriptor) (a : ℕ) → d.link ≡ inner_link k → is_attached (inner_link k) B (from_descriptor d a) ≡ true
unfolding is_attached
attached-B k d a e = let f = has_link-end (from_descriptor d a).outward.primary (record { link = d.link; side = B; other = a }) refl in
    grind (arith, ap (λ l. has_link (from_descriptor d a).outward.primary l B) (sym e) ∙ f)

pub reach-blank : (f : ℕ) → reach {T = Item} (queue_from f) ≡ f
reach-blank f = reach_one {X = Item} (queue_from f) (reach {T = Item} (queue_from f)) f (is_reach {X = Item} (queue_from f))
    (record { from = grind arith; absent = blank_at f f; filled = λ m c e. absurd (omega (arith, c, e)) })

length_by-made : (w v : World) (b : Books) (g : Records) (a : ℕ) (q p : Key) (d : Descriptor) (law : OpenInv w b g)
    (is : IsMaterial w g a q p d) (t : IsMade w v q (from_descriptor d a)) (link : LinkId) (s : Side) (o : Option ℕ) →
    length_by (made_key_records g p q d.end) link s o ≡ length_by g link s o
unfolding length_by bypass_length
length_by-made w v b g a q p d law is t link s None = refl
length_by-made w v b g a q p d law is t (Central i) s (Some o) = ap
    (λ z. cond (same_side s z) (known_from 3 (g.bypass o).stage (g.bypass o).taken_at)
    (known_from 3 (g.bypass o).stage (g.bypass o).accepted_at)) (side_same law is t o)
length_by-made w v b g a q p d law is t (Peripheral n x) A (Some o) = refl
length_by-made w v b g a q p d law is t (Peripheral n x) B (Some o) = refl

module _ (w v : World) (b : Books) (g : Records) (a : ℕ) (q p : Key) (d : Descriptor) (law : OpenInv w b g) (is : IsMaterial w g a q p d)
    (t : IsMade w v q (from_descriptor d a)) where
  abbrev h : Records
  h = made_key_records g p q d.end

  abbrev pub y : Router
  y = from_descriptor d a

  abbrev pub d0 : Descriptor
  d0 = (moving_known (g.terminal d.end) (inner_link p) (waits law is t)).0

  pub moving : g.terminal d.end ≡ Moving d0
  moving = (moving_known (g.terminal d.end) (inner_link p) (waits law is t)).1

  -- the terminal waits for these very numbers
  pub numbers : (d0.next_out ≡ d.next_out) × (d0.next_in ≡ d.next_in)
  numbers =
      let all = weighed (λ from to m. total_list (of_end d.end (of_numbers d)) (moves_of m)) w a q.node is.index is.message is.under_way in
      let one = total_list-at (of_end d.end (of_numbers d)) (moves_of is.message) is.place d is.descriptor in
      let own : of_end d.end (of_numbers d) d ≡ 1 = grind (arith, same_end-itself d.end, nat_tests) in
      numbers_weigh d d0 (omega (
        arith,
        all,
        one,
        own,
        law.moves.one d.end (of_numbers d),
        ap (move_weight (of_numbers d)) moving ∙ expected_move-moving (of_numbers d) d0,
      ))

  -- the end of another link that waits is another
  pub other_terminal : (k : Key) → is_recorded w g (inner_link k) ≡ true → (g.peripheral k).router ≡ None →
      same_link (inner_link k) (inner_link p) ≡ false → h.terminal (g.peripheral k).end ≡ g.terminal (g.peripheral k).end
  other_terminal k rec none apart = go (same_end (g.peripheral k).end d.end) refl
    where
      go : (c : Bool) → same_end (g.peripheral k).end d.end ≡ c → h.terminal (g.peripheral k).end ≡ g.terminal (g.peripheral k).end
      go false c = grind (arith, c)
      go true c = let s : (g.peripheral k).end ≡ d.end = same_end-tells (g.peripheral k).end d.end c in
          let l : inner_link k ≡ inner_link p = same_some (sym (law.moves.moving k rec none) ∙ ap (λ e. moving_link (g.terminal e)) s ∙
          waits law is t) in absurd (grind (arith, apart, l, same_link-itself (inner_link p)))

  awaited_same : (link : LinkId) (s : Side) → is_recorded w g link ≡ true → side_router g link s ≡ None →
      (same_link link (inner_link p) && same_side s B) ≡ false →
      awaited_view link (terminal_descriptor (h.terminal (side_end h link s))) ≡ awaited_view link
      (terminal_descriptor (g.terminal (side_end g link s)))
  awaited_same (Central i) s rec none apart = awaited-central i (terminal_descriptor (h.terminal (side_end h (Central i) s)))
      (terminal_descriptor (g.terminal (side_end g (Central i) s)))
  awaited_same (Peripheral n x) A rec none apart = absurd (grind (arith, none, side_router-proxy g (record { node = n; serial = x })))
  awaited_same (Peripheral n x) B rec none apart = let k : Key = record { node = n; serial = x } in
      let f = other_terminal k rec (no_router (g.peripheral k).node (g.peripheral k).router (sym (side_router-inner g k) ∙ none))
      (grind (arith, apart)) in
      ap (λ z. awaited_view (inner_link k) (terminal_descriptor z))
      (ap h.terminal (end_same law is t (inner_link k) B ∙ inner_end_is g k B) ∙ f ∙ ap g.terminal
      (sym (inner_end_is g k B)))

  -- the side that waited for the terminal
  pub record IsArrived (link : LinkId) (s : Side) : Type 0 where
    pub link_is : link ≡ inner_link p
    pub side_is : s ≡ B
    pub old : view w g link s ≡ Waiting d0
    pub new : view v h link s ≡ Standing y

  new_view : view v h (inner_link p) B ≡ Standing y
  new_view = view-standing v h (inner_link p) B q y (router_new law is t) (t.router q ∙ grind (arith, same_key-itself q))
      (attached-B p d a is.link)

  old_view : view w g (inner_link p) B ≡ Waiting d0
  old_view = ap (view_by w g (inner_link p) B) (unmade law is t) ∙ view_by-unknown w g (inner_link p) B ∙
      ap (λ e. awaited_view (inner_link p) (terminal_descriptor (g.terminal e))) (inner_end_is g p B ∙ end_is law is t) ∙ ap
      (λ z. awaited_view (inner_link p) (terminal_descriptor z)) moving ∙ awaited-inner p d0

  pub seen_made : (link : LinkId) (s : Side) → is_recorded w g link ≡ true → (view v h link s ≡ view w g link s) ⊎ IsArrived link s
  seen_made link s rec = go (same_link link (inner_link p) && same_side s B) refl
    where
      there : (o : Option Key) → side_router g link s ≡ o → (same_link link (inner_link p) && same_side s B) ≡ false →
          view v h link s ≡ view w g link s
      there None e c = ap (view_by v h link s) (router_same law is t link s c ∙ e) ∙ view_by-unknown v h link s ∙
          awaited_same link s rec e c ∙ sym (ap (view_by w g link s) e ∙ view_by-unknown w g link s)
      there (Some x) e c = ap (view_by v h link s) (router_same law is t link s c ∙ e) ∙ view_by-known v h link s x ∙ ap
          (router_view link s) (t.router x ∙ grind (arith, side_new law is t link s x rec e)) ∙ sym
          (ap (view_by w g link s) e ∙ view_by-known w g link s x)

      go : (c : Bool) → (same_link link (inner_link p) && same_side s B) ≡ c → (view v h link s ≡ view w g link s) ⊎ IsArrived link s
      go false c = inl (there (side_router g link s) refl c)
      go true c = let l : link ≡ inner_link p = same_link-tells link (inner_link p) (grind (arith, c)) in let u : s ≡ B =
          same_side-tells s B (grind (arith, c)) in
          inr (record {
            link_is = l;
            side_is = u;
            old = ap (λ l. view w g l s) l ∙ ap (view w g (inner_link p)) u ∙ old_view;
            new =
                ap (λ l. view v h l s) l ∙ ap (view v h (inner_link p)) u ∙ new_view;
          })

  sent_same : (link : LinkId) (s : Side) → is_recorded w g link ≡ true →
      next_sent link s (view v h link s) ≡ next_sent link s (view w g link s)
  sent_same link s rec = elim (seen_made link s rec) [
    | inl o ↦ ap (next_sent link s) o
    | inr n ↦ ap (next_sent link s) n.new ∙ next_sent-standing link s y ∙ ap (λ l. Some (sending_queue l s y).current) n.link_is ∙ ap
        (λ s. Some (sending_queue (inner_link p) s y).current) n.side_is ∙ ap (λ z. Some z.current) (sending-B p y) ∙ ap Some
        (sym numbers.0) ∙ sym (ap (next_sent link s) n.old ∙ next_sent-waiting link s d0)
  ]

  taken_same : (link : LinkId) (s : Side) → is_recorded w g link ≡ true →
      taking_queue link s (view v h link s) ≡ taking_queue link s (view w g link s)
  taken_same link s rec = elim (seen_made link s rec) [
    | inl o ↦ ap (taking_queue link s) o
    | inr n ↦ ap (taking_queue link s) n.new ∙ taking_queue-standing link s y ∙ ap (λ l. Some (fed_queue l s y)) n.link_is ∙ ap
        (λ s. Some (fed_queue (inner_link p) s y)) n.side_is ∙ ap Some (fed-B p y) ∙ ap (λ z. Some (queue_from z)) (sym numbers.1) ∙ sym
        (ap (taking_queue link s) n.old ∙ taking_queue-waiting link s d0)
  ]

  gone_same : (link : LinkId) (s : Side) → is_recorded w g link ≡ true → is_gone (view v h link s) ≡ is_gone (view w g link s)
  gone_same link s rec = elim (seen_made link s rec) [
    | inl o ↦ ap is_gone o
    | inr n ↦ ap is_gone n.new ∙ grind (arith, view_rules) ∙ sym
        (ap is_gone n.old ∙ (waiting_rules d0).0)
  ]

  may_still : (link : LinkId) (s : Side) → is_recorded w g link ≡ true → may_have_sent (view w g link s) ≡ true →
      may_have_sent (view v h link s) ≡ true
  may_still link s rec e = elim (seen_made link s rec) [
    | inl o ↦ ap may_have_sent o ∙ e
    | inr n ↦ ap may_have_sent n.new ∙ grind
        (arith, view_rules)
  ]

  awaited_back : (link : LinkId) (s : Side) → is_recorded w g link ≡ true → is_awaited (view v h link s) ≡ true →
      is_awaited (view w g link s) ≡ true
  awaited_back link s rec e = elim (seen_made link s rec) [
    | inl o ↦ ap is_awaited (sym o) ∙ e
    | inr n ↦ ap is_awaited n.old ∙
        (waiting_rules d0).1
  ]

  pub length_same : (link : LinkId) (s : Side) → side_length h link s ≡ side_length g link s
  length_same link s = ap (length_by h link s) (bypass_same law is t link) ∙ by_option link s (bypass_of g link)
    where
      by_option : (link : LinkId) (s : Side) (o : Option ℕ) → length_by h link s o ≡ length_by g link s o
      by_option link s o = length_by-made w v b g a q p d law is t link s o

  pub fits-made : (from to i : ℕ) (link : LinkId) (s : Side) (n : ℕ) → ItemFits w g from to i link s n →
      (is_awaited (view v h link s) ≡ true → is_made_before w from to i link s ≡ true → is_made_before v from to i link s ≡ true) →
      ItemFits v h from to i link s n
  fits-made from to i link s n fit made = record {
    recorded = recorded_same law is t link ∙ fit.recorded;
    sender = fit.sender ∙ sym (node_same law is t link (opposite s));
    receiver = fit.receiver ∙ sym (node_same law is t link s);
    below_length = λ len e. fit.below_length len (sym (length_same link (opposite s)) ∙ e);
    was_sent = λ u e. fit.was_sent u (sym (sent_same link (opposite s) fit.recorded) ∙ e);
    by_sender = may_still link (opposite s) fit.recorded fit.by_sender;
    sender_gone = λ e. rw (length_same link (opposite s), left_same law is t link (opposite s)) (fit.sender_gone (sym (gone_same link (opposite s) fit.recorded) ∙ e));
    not_passed = λ z e. fit.not_passed z (sym (taken_same link s fit.recorded) ∙ e);
    behind = λ e. made e (fit.behind (awaited_back link s fit.recorded e));
    not_awaited_low = fit.not_awaited_low;
    receiver_there = gone_same link s fit.recorded ∙ fit.receiver_there;
  }

  pub order-made : Order v h
  order-made = record {
    current = λ link s u z rec sent taken short. let o = sym (recorded_same law is t link) ∙ rec in
        law.order.current link s u z o (sym (sent_same link (opposite s) o) ∙ sent) (sym (taken_same link s o) ∙ taken)
        (ap (λ x. has_passed x u) (sym (length_same link (opposite s))) ∙ short);
    stored = λ link s u z m x rec sent taken at short. let o = sym (recorded_same law is t link) ∙ rec in
        law.order.stored link s u z m x o (sym (sent_same link (opposite s) o) ∙ sent) (sym (taken_same link s o) ∙ taken) at
        (ap (λ x. has_passed x m) (sym (length_same link (opposite s))) ∙ short);
  }

  begun_from : (o n : ℕ) → 1 ≤ n → n ≤ (g.bypass o).stage → is_begun (g.bypass o) ≡ true
  begun_from o n one le = grind (arith, one, le, nat_tests)

  old_recorded : (o n : ℕ) → 1 ≤ n → n ≤ (g.bypass o).stage → is_recorded w g (Central o) ≡ true
  old_recorded o n one le = is_recorded-central w g o ∙ (law.bypasses o).old (begun_from o n one le)

  pub proxy_numbers-made : ProxyNumbers v h
  proxy_numbers-made = record {
    out_current = λ o z at s. law.proxy_numbers.out_current o z (proxy_was law is t o z (begun_from o 2 (omega arith) s) at)
        s;
    out_items = λ o z m x at s e. law.proxy_numbers.out_items o z m x
        (proxy_was law is t o z (begun_from o 2 (omega arith) s) at) s e;
    in_current = λ o z at s. law.proxy_numbers.in_current o z (proxy_was law is t o z (begun_from o 3 (omega arith) s) at)
        s;
    in_items = λ o z m x at s e. law.proxy_numbers.in_items o z m x
        (proxy_was law is t o z (begun_from o 3 (omega arith) s) at) s e;
    across_gone = λ o z at s e. law.proxy_numbers.across_gone o z
        (proxy_was law is t o z (begun_from o 3 (omega arith) s) at) s
        (sym (gone_same (Central o) (across_side g o) (old_recorded o 3 (omega arith) s)) ∙
        ap (λ k. is_gone (view v h (Central o) (opposite k))) (sym (side_same law is t o)) ∙ e);
    inner_gone = λ o z at s e. let c = begun_from o 5 (omega arith) (omega (arith, s)) in
        law.proxy_numbers.inner_gone o z (proxy_was law is t o z c at) s
        (sym (gone_same (inner_of g o) B ((law.bypasses o).inner c)) ∙ e);
    out_finished = λ o z at s e. law.proxy_numbers.out_finished o z
        (proxy_was law is t o z (begun_from o 4 (omega arith) s) at) s e;
    in_finished = λ o z at s e. law.proxy_numbers.in_finished o z
        (proxy_was law is t o z (begun_from o 4 (omega arith) s) at) s e;
  }

-- The sends of a router, out and in, keep all that holds.
use Rattle.ipcz_world.proofs.frames.Opened.{links-open, positions-open}
use Rattle.ipcz_world.proofs.frames.Booking.{flag}
use Rattle.ipcz_world.proofs.Vocabulary.{Side, A, B, LinkId, Central, Peripheral, LinkEnd, Item, Descriptor, Edge, opposite, opposite_end, has_link}
use Rattle.ipcz_world.proofs.Vocabulary.{item_at, current_item, Router, is_terminal, inward_edge, ends_in, World, Key, router_at, flow, Books}
use Rattle.ipcz_world.proofs.Vocabulary.{Records, is_begun, is_recorded, inner_link, side_node, side_router, side_end, side_length, bypass_of}
use Rattle.ipcz_world.proofs.Vocabulary.{terminal_descriptor, view, view_by, is_attached, is_gone, sending_queue, key_passes, has_primary}
use Rattle.ipcz_world.proofs.Vocabulary.{has_decaying, IsRecorded, is_outward, Inv, is_begun_router, is_done, Parcel, Mark, Gone, end_at, is_left}
use Rattle.ipcz_world.proofs.Vocabulary.{is_retired, way_out, way_in, pop_out, send_on, has_gone_next, item_passes, awaited_view, is_made_by}
use Rattle.std.proofs.lemmas.Option.{none-some}
use Rattle.std.proofs.Common.{true≢false}
use Rattle.std.specs.Prelude.{cond, suc, ◌+◌, length, slice_get, is_some}
use Rattle.ipcz_seq.specs.Queue.{is_drained}
use Rattle.ipcz_world.specs.Records.{across_side}
use Rattle.ipcz_world.specs.Books.{read}
use Rattle.ipcz_world.proofs.frames.Touching.{either}
use Rattle.ipcz_world.proofs.frames.GonesKept.{IsGoneRight, right-of}
use Rattle.ipcz_world.proofs.facts.LinkTests.{opposite_end-twice}
use Rattle.ipcz_world.proofs.frames.Booking.{out_numbers}
use Rattle.ipcz_world.proofs.acts.Reading.{in_numbers, slice_get-below}
use Rattle.ipcz_world.proofs.facts.Drained.{drained_item, gone_found, gone_stands, next_gone}
use Rattle.ipcz_world.specs.Routes.{source as source'}
use Rattle.std.specs.Prelude.{◌≡◌, ◌⊎◌, ◌≤◌, ◌<◌, ℕ, Bool, true, false, ◌||◌, nat_le, Option, Some, None, refl, []}
use Rattle.std.proofs.Common.{arith, ap, subst, ◌∙◌, sym, inl, inr}
use Rattle.std.proofs.lemmas.Bool.Decides.{nat_tests}
use Rattle.ipcz_world.proofs.frames.RecordRules.{record_rules, bypass_of-inner}
use Rattle.ipcz_world.proofs.frames.OfRecords.{source}
use Rattle.ipcz_world.proofs.frames.Draining.{drained_same, drained_pop}
use Rattle.ipcz_world.proofs.frames.Weighing.{in_router-is, in_popped}
use Rattle.ipcz_world.proofs.frames.Known.{node_of_router}
use Rattle.ipcz_world.proofs.frames.Awaited.{awaited_none, awaited_made}
use Rattle.ipcz_world.proofs.facts.Reaching.{reach-pop}
use Rattle.ipcz_world.proofs.acts.Sending.{IsSend, send_act, closed-sent}
use Rattle.ipcz_world.proofs.frames.Opened.{OpenInv, opened}
use Rattle.ipcz_world.proofs.acts.SendingOut.{choose-tells, has_link-end, length-known, length-inner_in, below_out, there_out, low_out}
use Rattle.ipcz_world.proofs.acts.SendingOut.{not_gone, attached-inner_primary, attached-inner_decaying}
use Rattle.std.proofs.lemmas.Bool.{or_left, or_right}
use Rattle.ipcz_world.proofs.facts.Lengths.{opposite-twice}
use Rattle.ipcz_world.proofs.facts.LinkTests.{inward_link}

-- an outward link end is attached, and fed by the out queue
attached-out : (r : Router) (e : LinkEnd) → is_outward e.link e.side ≡ true →
    (has_link r.outward.primary e.link e.side || has_link r.outward.decaying e.link e.side) ≡ true → is_attached e.link e.side r ≡ true
unfolding is_attached is_outward
attached-out r e out h = go e.link e.side out h
  where
    go : (l : LinkId) (t : Side) → is_outward l t ≡ true → (has_link r.outward.primary l t || has_link r.outward.decaying l t) ≡ true →
        is_attached l t r ≡ true
    go (Central i) t o q = q
    go (Peripheral n x) A o q = absurd (grind (arith, o))
    go (Peripheral n x) B o q = q

attached-in : (r : Router) (e : LinkEnd) → is_outward e.link e.side ≡ false →
    (has_link (inward_edge r).primary e.link e.side || has_link (inward_edge r).decaying e.link e.side) ≡ true →
    is_attached e.link e.side r ≡ true
unfolding is_attached is_outward
attached-in r e out h = go e.link e.side out h
  where
    go : (l : LinkId) (t : Side) → is_outward l t ≡ false → (has_link (inward_edge r).primary l t || has_link (inward_edge r).decaying l t)
        ≡ true → is_attached l t r ≡ true
    go (Central i) t o q = absurd (grind (arith, o))
    go (Peripheral n x) A o q = q
    go (Peripheral n x) B o q = absurd (grind (arith, o))

pub sending_queue-out : (l : LinkId) (t : Side) (r : Router) → is_outward l t ≡ true → sending_queue l t r ≡ r.out_queue
unfolding sending_queue is_outward
sending_queue-out (Central i) t r o = refl
sending_queue-out (Peripheral n x) A r o = absurd (grind (arith, o))
sending_queue-out (Peripheral n x) B r o = refl

pub sending_queue-in : (l : LinkId) (t : Side) (r : Router) → is_outward l t ≡ false → sending_queue l t r ≡ r.in_queue
unfolding sending_queue is_outward
sending_queue-in (Central i) t r o = absurd (grind (arith, o))
sending_queue-in (Peripheral n x) A r o = refl
sending_queue-in (Peripheral n x) B r o = absurd (grind (arith, o))

-- whose items go over a link from a side
pub source-out : (g : Records) (l : LinkId) (t : Side) → is_outward l t ≡ true → source g l (opposite t) ≡ side_end g l t
unfolding source' side_end is_outward
source-out g (Central i) A o = refl
source-out g (Central i) B o = refl
source-out g (Peripheral n x) A o = absurd (grind (arith, o))
source-out g (Peripheral n x) B o = refl

pub source-in : (g : Records) (l : LinkId) (t : Side) → is_outward l t ≡ false → source g l (opposite t) ≡ opposite_end (side_end g l t)
unfolding source' side_end is_outward
source-in g (Central i) t o = absurd (grind (arith, o))
source-in g (Peripheral n x) A o = refl
source-in g (Peripheral n x) B o = absurd (grind (arith, o))

-- the message that makes an awaited receiver is under way from the sender's node
made_way : (w : World) (b : Books) (g : Records) (k : Key) (r : Router) (e : LinkEnd) → OpenInv w b g → IsRecorded w g k r e →
    is_gone (view w g e.link (opposite e.side)) ≡ false → side_router g e.link (opposite e.side) ≡ None →
    is_made_by e.link (opposite e.side) (flow w k.node e.other) ≡ true
made_way w b g k r e law rec there none =
    let from : side_node g e.link (opposite (opposite e.side)) ≡ k.node =
    ap (side_node g e.link) (opposite-twice e.side) ∙ node_of_router g e.link e.side k rec.router in
    subst (λ x. is_made_by e.link (opposite e.side) (flow w x e.other) ≡ true) from
    (subst (λ x. is_made_by e.link (opposite e.side) (flow w (side_node g e.link (opposite (opposite e.side))) x) ≡ true)
    (sym rec.other)
    (awaited_made w g e.link (opposite e.side) law.stands law.bypasses law.controls law.moves rec.recorded none))

-- what a send out rests on
pub is_send_out : (w : World) (b : Books) (g : Records) (k : Key) (r : Router) (e : LinkEnd) (item : Item) → OpenInv w b g →
    router_at w k ≡ Some r → way_out r ≡ Some e → current_item r.out_queue ≡ Some item →
    IsSend w g k r (pop_out r) e.link (opposite e.side) e.other r.out_queue.current item
is_send_out w b g k r e item law here chosen at = record {
  sent = record {
    here = here;
    alike = record {
      end = refl;
      outward = refl;
      inward = refl;
      spare = refl;
      marked = refl;
      holds = refl;
      done = λ h. absurd (undone h);
      dropped = λ h f. f h;
      sent = λ h f. f h;
    };
    closed = refl;
    mark_seen = refl;
    current = λ t. refl;
    router = ap (side_router g e.link) (opposite-twice e.side) ∙ rec.router;
    attached = subst (λ t. is_attached e.link t r ≡ true) (sym (opposite-twice e.side)) (attached-out r e out has);
    sends = ap (λ t. (sending_queue e.link t r).current) (opposite-twice e.side) ∙
        ap (λ q. q.current) (sending_queue-out e.link e.side r out);
    rises = ap (λ t. (sending_queue e.link t (pop_out r)).current) (opposite-twice e.side) ∙ ap (λ q. q.current)
        (sending_queue-out e.link e.side (pop_out r) out);
    recorded = rec.recorded;
    receiver = rec.other;
    below = λ len h. below_out w g k r e item len (positions-open law) law.fresh_numbers law.proxy_numbers here out chosen at
        (ap (side_length g e.link) (sym (opposite-twice e.side)) ∙ h);
    there = there;
    low = λ c o l none born. low_out w g k r c o (opposite e.side) (positions-open law) law.fresh_numbers law.stands law.bypasses law.stages here
        (grind (arith, record_rules, rec.recorded, l)) (ap (λ z. side_router g z (opposite (opposite e.side))) (sym l) ∙ ap
        (side_router g e.link) (opposite-twice e.side) ∙ rec.router) none born;
    made = λ h. made_way w b g k r e law rec there (awaited_none w g e.link (opposite e.side) h);
    ends = λ d h. (law.end_places.each k r here).out r.out_queue.current item d at h;
    fresh = λ c l. refl;
  };
  out = drained_pop r.out_queue item at;
  inn = drained_same r.in_queue;
  next = reach-pop r.out_queue item at;
  weight = λ f. omega (
    arith,
    in_router-is f r,
    in_router-is f (pop_out r),
    in_popped (f r.end) r.out_queue item at,
    ap (λ d. f d r.out_queue.current item) (source-out g e.link e.side out ∙ sym rec.end),
  );
  right = λ c inv. let o = right-of inv.gones k r here in let n = out_numbers w c g k r r.out_queue.current item inv.conserved
      (inv.counts.on_node k r here) here at in record {
        sent = o.sent;
        sent_back = o.sent_back;
        left_primary = o.left_primary;
        left_inner = o.left_inner;
        out_put = omega (arith, n.1);
        in_put = o.in_put;
        still = o.still;
        dropped = o.dropped;
        dropped_closed = o.dropped_closed;
        dropped_back = o.dropped_back;
      };
}
  where
    undone : is_done r ≡ true → ⊥
    undone h = let d : is_drained r.out_queue ≡ true = grind (arith, h) in
        none-some item (sym (drained_item r.out_queue r.out_queue.current d) ∙ at)

    rec : IsRecorded w g k r e
    rec = elim (choose-tells r.outward r.out_queue.current e chosen)
        [ inl on ↦ ((links-open law) k r here).primary e on | inr off ↦ ((links-open law) k r here).decaying e off.0 ]

    out : is_outward e.link e.side ≡ true
    out = elim (choose-tells r.outward r.out_queue.current e chosen)
        [ inl on ↦ ((links-open law) k r here).primary_outward e on | inr off ↦ ((links-open law) k r here).decaying_outward e off.0 ]

    has : (has_link r.outward.primary e.link e.side || has_link r.outward.decaying e.link e.side) ≡ true
    has = elim (choose-tells r.outward r.out_queue.current e chosen) [
      | inl on ↦ or_left (has_link r.outward.primary e.link e.side) (has_link r.outward.decaying e.link e.side)
          (has_link-end r.outward.primary e on)
      | inr off ↦ or_right (has_link r.outward.primary e.link e.side) (has_link r.outward.decaying e.link e.side)
          (has_link-end r.outward.decaying e off.0)
    ]

    -- nobody has left across, since that one's end has read all that was put here
    unleft : r.outward.primary ≡ Some e → is_left g e.link (opposite e.side) ≡ false
    unleft on = go (is_left g e.link (opposite e.side)) refl
      where
        go : (c : Bool) → is_left g e.link (opposite e.side) ≡ c → c ≡ false
        go false l = refl
        go true l = let n = out_numbers w b g k r r.out_queue.current item law.conserved (law.counts.on_node k r here) here at in
            let all : read b (opposite_end r.end) ≡ length (b.put (opposite_end (opposite_end r.end))) =
            law.retired_ends.all_read (opposite_end r.end) (law.gones.left_primary k r e here on l) in
            absurd (omega (arith, n.0, n.1, all, ap (λ d. length (b.put d)) (opposite_end-twice r.end)))

    there : is_gone (view w g e.link (opposite e.side)) ≡ false
    there = there_out w g k r e item (positions-open law) law.fresh_numbers law.proxy_numbers law.stands law.bypasses law.stages here out chosen at
        rec.recorded unleft

-- what a proxy sends inward lies below the link's length
below_in : (w : World) (b : Books) (g : Records) (k : Key) (r : Router) (e : LinkEnd) (item : Item) (len : ℕ) → OpenInv w b g →
    router_at w k ≡ Some r → is_outward e.link e.side ≡ false → way_in r ≡ Some e →
    item_at r.in_queue r.in_queue.current ≡ Some item → side_length g e.link e.side ≡ Some len → r.in_queue.current < len
below_in w b g k r e item len law here out chosen at h = elim (choose-tells (inward_edge r) r.in_queue.current e chosen) [
  | inl on ↦ absurd (some_none (((positions-open law).each k r here).inward_primary e on))
  | inr off ↦ decaying off.0 (inward_link e.link e.side out)
]
  where
    some_none : bypass_of g e.link ≡ None → ⊥
    some_none q = let known = length-known g e.link e.side len h in grind (arith, q, known.1)

    decaying : (inward_edge r).decaying ≡ Some e → (p : Key) × (e.link ≡ inner_link p) × (e.side ≡ A) → r.in_queue.current < len
    decaying off p =
        let f = length-inner_in g p.0 len (subst (λ t. side_length g (inner_link p.0) t ≡ Some len) p.2
        (subst (λ l. side_length g l e.side ≡ Some len) p.1 h)) in
        let begun : g.begun k ≡ Some f.0 = sym (((positions-open law).each k r here).inward_decaying e off) ∙ ap (bypass_of g) p.1 ∙ bypass_of-inner g p.0
        ∙ f.1 in
        let proxy = law.begun.begun_proxy k f.0 begun in
        let low : r.in_queue.current < (g.bypass f.0).accepted_at =
        law.proxy_numbers.in_items f.0 r r.in_queue.current item (ap (router_at w) proxy ∙ here) f.2 at in
        omega (arith, low, f.3)

-- a peripheral link's awaited side isn't gone
awaited_view-inner : (w : World) (g : Records) (p : Key) → side_router g (inner_link p) B ≡ None →
    is_gone (view w g (inner_link p) B) ≡ false
unfolding view_by awaited_view is_gone
awaited_view-inner w g p h = ap (λ o. is_gone (view_by w g (inner_link p) B o)) h ∙ go
    (terminal_descriptor (g.terminal (side_end g (inner_link p) B)))
  where
    go : (d : Option Descriptor) → is_gone (awaited_view (inner_link p) d) ≡ false
    go None = refl
    go (Some d) = refl

stage_cases : (n : ℕ) → 1 ≤ n → n ≤ 5 → (n ≡ 1) ⊎ (((2 ≤ n) × (n ≤ 4)) ⊎ (n ≡ 5))
stage_cases n a b = go (nat_le n 1) (nat_le n 4) refl refl
  where
    go : (x y : Bool) → nat_le n 1 ≡ x → nat_le n 4 ≡ y → (n ≡ 1) ⊎ (((2 ≤ n) × (n ≤ 4)) ⊎ (n ≡ 5))
    go true y e f = inl (grind (arith, e, a, nat_tests))
    go false true e f = inr (inl (grind (arith, e, nat_tests), grind (arith, f, nat_tests)))
    go false false e f = inr (inr (grind (arith, e, f, b, nat_tests)))

bare_proxy : (r : Router) (e : LinkEnd) → (inward_edge r).decaying ≡ Some e → is_terminal r ≡ false
bare_proxy r e h = go r.inward refl
  where
    go : (o : Option Edge) → r.inward ≡ o → is_terminal r ≡ false
    go None q = absurd (grind (arith, q, h))
    go (Some x) q = grind (arith, q)

begun_bare : (r : Router) (e : LinkEnd) → (inward_edge r).primary ≡ None → (inward_edge r).decaying ≡ Some e → is_begun_router r ≡ true
begun_bare r e p h = grind (arith, p, bare_proxy r e h)

-- the router inward isn't gone
there_in : (w : World) (b : Books) (g : Records) (k : Key) (r : Router) (e : LinkEnd) (item : Item) (p : Key) → OpenInv w b g →
    router_at w k ≡ Some r → way_in r ≡ Some e → item_at r.in_queue r.in_queue.current ≡ Some item → is_recorded w g e.link ≡ true →
    e.link ≡ inner_link p → is_gone (view w g (inner_link p) B) ≡ false
there_in w b g k r e item p law here chosen at rec l = elim (choose-tells (inward_edge r) r.in_queue.current e chosen) [
  | inl on ↦ live (unleft on) (sym (bypass_of-inner g p) ∙ ap (bypass_of g) (sym l) ∙ ((positions-open law).each k r here).inward_primary e on)
      (side_router g (inner_link p) B) refl
  | inr off ↦ begun (g.begun k) refl (sym (bypass_of-inner g p) ∙ ap (bypass_of g) (sym l) ∙ ((positions-open law).each k r here).inward_decaying e off.0)
      off.0
]
  where
    recorded : is_recorded w g (inner_link p) ≡ true
    recorded = ap (is_recorded w g) (sym l) ∙ rec

    -- the side inward hasn't been left, since the proxy has still something of the peer
    unleft : (inward_edge r).primary ≡ Some e → is_left g (inner_link p) B ≡ false
    unleft on = go (is_left g (inner_link p) B) refl
      where
        go : (c : Bool) → is_left g (inner_link p) B ≡ c → c ≡ false
        go false q = refl
        go true q = let side = (inward_link e.link e.side (((links-open law) k r here).inward_primary_inward e on)).2 in
            let past : length (b.put (opposite_end r.end)) ≤ r.in_queue.current = law.gones.left_inner k r e here on
            (ap (λ x. is_left g x (opposite e.side)) l ∙ ap (λ t. is_left g (inner_link p) (opposite t)) side ∙ q) in
            let low = slice_get-below r.in_queue.current (b.put (opposite_end r.end)) item
            (in_numbers w b g k r r.in_queue.current item law.conserved (law.counts.on_node k r here) here at) in
            absurd (omega (arith, past, low))

    live : is_left g (inner_link p) B ≡ false → (g.peripheral p).by ≡ None → (o : Option Key) → side_router g (inner_link p) B ≡ o → is_gone (view w g (inner_link p) B) ≡ false
    live nl by None s = awaited_view-inner w g p s
    live nl by (Some q) s = not_gone w g (inner_link p) B q (has_primary (inner_link p) B) s (law.stands.inner p q recorded by nl s)
        (attached-inner_primary p)

    -- an inward link decays at a proxy that has begun alone
    none_begun : g.begun k ≡ None → (inward_edge r).decaying ≡ Some e → ⊥
    none_begun s off = go (inward_edge r).primary refl
      where
        go : (o : Option LinkEnd) → (inward_edge r).primary ≡ o → ⊥
        go None q = grind (arith, ((positions-open law).each k r here).begun (begun_bare r e q off), s)
        go (Some d) q = grind (arith, (law.shape k r here).role, q, off, bare_proxy r e off)

    begun : (o : Option ℕ) → g.begun k ≡ o → (g.peripheral p).by ≡ g.begun k → (inward_edge r).decaying ≡ Some e →
        is_gone (view w g (inner_link p) B) ≡ false
    begun None s by off = absurd (none_begun s off)
    begun (Some o) s by off = staged (side_router g (inner_link p) B) refl
      where
        is : (g.bypass o).inner ≡ p
        is = law.stands.by_inner p o (by ∙ s)

        has_begun : is_begun (g.bypass o) ≡ true
        has_begun = law.begun.begun_stage k o s

        proxy : router_at w (g.bypass o).proxy ≡ Some r
        proxy = ap (router_at w) (law.begun.begun_proxy k o s) ∙ here

        last : (x : Bool) → is_gone (view w g (inner_link p) B) ≡ x → (g.bypass o).stage ≡ 5 → is_gone (view w g (inner_link p) B) ≡ false
        last false f five = f
        last true f five =
            let past : (g.bypass o).accepted_at ≤ r.in_queue.current =
            law.proxy_numbers.inner_gone o r proxy five (ap (λ z. is_gone (view w g (inner_link z) B)) is ∙ f) in
            let low : r.in_queue.current < (g.bypass o).accepted_at =
            law.proxy_numbers.in_items o r r.in_queue.current item proxy (omega (arith, five)) at in
            absurd (omega (arith, past, low))

        staged : (x : Option Key) → side_router g (inner_link p) B ≡ x → is_gone (view w g (inner_link p) B) ≡ false
        staged None f = awaited_view-inner w g p f
        staged (Some q) f = elim (stage_cases (g.bypass o).stage (grind (arith, has_begun, nat_tests)) ((law.bypasses o).stage)) [
          | inl one ↦ not_gone w g (inner_link p) B q (has_primary (inner_link p) B) f
              (ap (λ z. key_passes w (Some q) (has_primary (inner_link z) B)) (sym is) ∙ (law.stages o).inner_primary q one
              (ap (λ z. side_router g (inner_link z) B) is ∙ f)) (attached-inner_primary p)
          | inr (inl mid) ↦ not_gone w g (inner_link p) B q (has_decaying (inner_link p) B) f
              (ap (λ z. key_passes w z (has_decaying (inner_link p) B)) (sym f) ∙ ap
              (λ z. key_passes w (side_router g (inner_link z) B) (has_decaying (inner_link z) B)) (sym is) ∙ (law.stages o).inner_decaying
              mid.0 mid.1) (attached-inner_decaying p)
          | inr (inr five) ↦ last (is_gone (view w g (inner_link p) B)) refl five
        ]

-- Gone goes inward only if the proxy hasn't begun: else it would be past the length of what the proxy gets
gone_tells : (w : World) (b : Books) (g : Records) (k : Key) (r : Router) (item : Item) → OpenInv w b g → router_at w k ≡ Some r →
    item_at r.in_queue r.in_queue.current ≡ Some item → has_gone_next r ≡ true →
    (is_retired b (opposite_end r.end) ≡ true) × (suc r.in_queue.current ≡ length (b.put (opposite_end r.end)))
unfolding item_passes
gone_tells w b g k r item law here at gone = (
  gone_found (b.put (opposite_end r.end)) r.in_queue.current put,
  law.books_kept.gone_last (opposite_end r.end) r.in_queue.current put,
)
  where
    is : item ≡ Gone
    is = go item refl
      where
        go : (x : Item) → item ≡ x → x ≡ Gone
        go (Parcel p) e = absurd (grind (arith, gone, at, e))
        go Mark e = absurd (grind (arith, gone, at, e))
        go Gone e = refl

    put : slice_get (b.put (opposite_end r.end)) r.in_queue.current ≡ Some Gone
    put = in_numbers w b g k r r.in_queue.current Gone law.conserved (law.counts.on_node k r here) here (at ∙ ap Some is)

gone_inner : (w : World) (b : Books) (g : Records) (k : Key) (r : Router) (item : Item) → OpenInv w b g → router_at w k ≡ Some r →
    is_terminal r ≡ false → item_at r.in_queue r.in_queue.current ≡ Some item → has_gone_next r ≡ true →
    is_some (inward_edge r).primary ≡ true
unfolding side_end
gone_inner w b g k r item law here proxy at gone = go (inward_edge r).primary refl
  where
    tells : (is_retired b (opposite_end r.end) ≡ true) × (suc r.in_queue.current ≡ length (b.put (opposite_end r.end)))
    tells = gone_tells w b g k r item law here at gone

    staged : (o : ℕ) → g.begun k ≡ Some o → is_some (inward_edge r).primary ≡ true
    staged o s = elim (stage_cases (g.bypass o).stage (grind (arith, begun, nat_tests)) ((law.bypasses o).stage)) [
      | inl one ↦ early (omega (arith, one)) (omega (arith, one))
      | inr (inl mid) ↦ early (omega (arith, mid.0)) mid.1
      | inr (inr five) ↦ late five
    ]
      where
        begun : is_begun (g.bypass o) ≡ true
        begun = law.begun.begun_stage k o s

        stands : router_at w (g.bypass o).proxy ≡ Some r
        stands = ap (router_at w) (law.begun.begun_proxy k o s) ∙ here

        end : r.end ≡ (g.peripheral (g.bypass o).inner).end
        end = (law.stages o).proxy_end r begun stands

        across : end_at (g.central o).pair (across_side g o) ≡ opposite_end r.end
        across = ap (λ n. end_at n (across_side g o)) (sym ((law.bypasses o).pair begun)) ∙ ap opposite_end (sym end)

        early : 1 ≤ (g.bypass o).stage → (g.bypass o).stage ≤ 4 → is_some (inward_edge r).primary ≡ true
        early l m = absurd (true≢false (sym tells.0 ∙ ap (is_retired b) (sym across) ∙ law.retired_ends.no_bypass o (across_side g o) l m))

        late : (g.bypass o).stage ≡ 5 → is_some (inward_edge r).primary ≡ true
        late five = let low : r.in_queue.current < (g.bypass o).accepted_at =
            law.proxy_numbers.in_items o r r.in_queue.current item stands (omega (arith, five)) at in
            let most : (g.bypass o).accepted_at + cond (is_retired b (opposite_end r.end)) 1 0 ≤ length (b.put (opposite_end r.end)) =
            subst (λ d. (g.bypass o).accepted_at + cond (is_retired b d) 1 0 ≤ length (b.put d)) across
            (law.retired_ends.accepted o (omega (arith, five))) in
            absurd (omega (arith, low, most, tells.1, ap flag tells.0))

    go : (o : Option LinkEnd) → (inward_edge r).primary ≡ o → is_some (inward_edge r).primary ≡ true
    go (Some e) q = ap is_some q
    go None q = begins (g.begun k) refl
      where
        begun : is_begun_router r ≡ true
        begun = grind (arith, proxy, q)

        begins : (o : Option ℕ) → g.begun k ≡ o → is_some (inward_edge r).primary ≡ true
        begins None s = absurd (grind (arith, ((positions-open law).each k r here).begun begun, s))
        begins (Some o) s = staged o s

right_in : (w : World) (b : Books) (g : Records) (k : Key) (r : Router) (item : Item) → OpenInv w b g → router_at w k ≡ Some r →
    is_terminal r ≡ false → item_at r.in_queue r.in_queue.current ≡ Some item → IsGoneRight b g (send_on r)
right_in w b g k r item law here proxy at = record {
  sent = λ h. elim (either r.gone_sent (has_gone_next r) h) [
    | inl a ↦ let t = o.sent a in absurd (omega (arith, t.1, low))
    | inr a ↦ let t = gone_tells w b g k r item law here at a in (t.0, omega (arith, t.1))
  ];
  sent_back = λ n i s c. or_right r.gone_sent (has_gone_next r) (last s (omega (arith, c)));
  left_primary = o.left_primary;
  left_inner = λ e p l. let t = o.left_inner e p l in omega (arith, t);
  out_put = o.out_put;
  in_put = omega (arith, low);
  still = o.still;
  dropped = λ n t i m. absurd (true≢false (sym t ∙ proxy));
  dropped_closed = o.dropped_closed;
  dropped_back = λ n t i l d. absurd (true≢false (sym t ∙ proxy));
}
  where
    o : IsGoneRight b g r
    o = right-of law.gones k r here

    put : slice_get (b.put (opposite_end r.end)) r.in_queue.current ≡ Some item
    put = in_numbers w b g k r r.in_queue.current item law.conserved (law.counts.on_node k r here) here at

    low : r.in_queue.current < length (b.put (opposite_end r.end))
    low = slice_get-below r.in_queue.current (b.put (opposite_end r.end)) item put

    -- the last item of a retired end is Gone
    last : is_retired b (opposite_end r.end) ≡ true → suc r.in_queue.current ≡ length (b.put (opposite_end r.end)) → has_gone_next r ≡ true
    last s c = let f = gone_stands (b.put (opposite_end r.end)) s in
        let n : f.0 ≡ r.in_queue.current = omega (arith, law.books_kept.gone_last (opposite_end r.end) f.0 f.1, c) in
        next_gone r (at ∙ sym put ∙ ap (slice_get (b.put (opposite_end r.end))) (sym n) ∙ f.1)

-- what a send in rests on
pub is_send_in : (w : World) (b : Books) (g : Records) (k : Key) (r : Router) (e : LinkEnd) (item : Item) → OpenInv w b g →
    router_at w k ≡ Some r → way_in r ≡ Some e → current_item r.in_queue ≡ Some item →
    IsSend w g k r (send_on r) e.link (opposite e.side) e.other r.in_queue.current item
is_send_in w b g k r e item law here chosen at = record {
  sent = record {
    here = here;
    alike = record {
      end = refl;
      outward = refl;
      inward = refl;
      spare = refl;
      marked = refl;
      holds = refl;
      done = λ h. absurd (no_edge (grind (arith, h)));
      dropped = λ h f. f h;
      sent = λ h f. elim (either r.gone_sent (has_gone_next r) h) [ inl a ↦ f a | inr a ↦ gone_inner w b g k r item law here proxy at a ];
    };
    closed = refl;
    mark_seen = refl;
    current = λ t. absurd (no_edge t);
    router = ap (side_router g e.link) (opposite-twice e.side) ∙ rec.router;
    attached = subst (λ t. is_attached e.link t r ≡ true) (sym (opposite-twice e.side)) (attached-in r e out has);
    sends = ap (λ t. (sending_queue e.link t r).current) (opposite-twice e.side) ∙ ap (λ q. q.current) (sending_queue-in e.link e.side r out);
    rises = ap (λ t. (sending_queue e.link t (send_on r)).current) (opposite-twice e.side) ∙ ap (λ q. q.current)
        (sending_queue-in e.link e.side (send_on r) out);
    recorded = rec.recorded;
    receiver = rec.other;
    below = λ len h. below_in w b g k r e item len law here out chosen at (ap (side_length g e.link) (sym (opposite-twice e.side)) ∙ h);
    there = there;
    low = λ c o l none born. absurd (grind (arith, l, p.1));
    made = λ h. made_way w b g k r e law rec there (awaited_none w g e.link (opposite e.side) h);
    ends = λ d h. (law.end_places.each k r here).inn r.in_queue.current item d at h;
    fresh = λ c l. absurd (grind (arith, l, p.1));
  };
  out = drained_same r.out_queue;
  inn = drained_pop r.in_queue item at;
  next = refl;
  weight = λ f. omega (
    arith,
    in_router-is f r,
    in_router-is f (send_on r),
    in_popped (f (opposite_end r.end)) r.in_queue item at,
    ap (λ d. f d r.in_queue.current item) (source-in g e.link e.side out ∙ ap opposite_end (sym rec.end)),
  );
  right = λ c inv. right_in w c g k r item inv here proxy at;
}
  where
    rec : IsRecorded w g k r e
    rec = elim (choose-tells (inward_edge r) r.in_queue.current e chosen)
        [ inl on ↦ ((links-open law) k r here).inward_primary e on | inr off ↦ ((links-open law) k r here).inward_decaying e off.0 ]

    out : is_outward e.link e.side ≡ false
    out = elim (choose-tells (inward_edge r) r.in_queue.current e chosen)
        [ inl on ↦ ((links-open law) k r here).inward_primary_inward e on | inr off ↦ ((links-open law) k r here).inward_decaying_inward e off.0 ]

    has : (has_link (inward_edge r).primary e.link e.side || has_link (inward_edge r).decaying e.link e.side) ≡ true
    has = elim (choose-tells (inward_edge r) r.in_queue.current e chosen) [
      | inl on ↦ or_left (has_link (inward_edge r).primary e.link e.side) (has_link (inward_edge r).decaying e.link e.side)
          (has_link-end (inward_edge r).primary e on)
      | inr off ↦ or_right (has_link (inward_edge r).primary e.link e.side) (has_link (inward_edge r).decaying e.link e.side)
          (has_link-end (inward_edge r).decaying e off.0)
    ]

    no_edge : is_terminal r ≡ true → ⊥
    no_edge t = elim (choose-tells (inward_edge r) r.in_queue.current e chosen)
        [ inl on ↦ lone r.inward refl t on | inr off ↦ bare r.inward refl t off.0 ]
      where
        lone : (o : Option Edge) → r.inward ≡ o → is_terminal r ≡ true → (inward_edge r).primary ≡ Some e → ⊥
        lone None q t h = grind (arith, q, h)
        lone (Some x) q t h = grind (arith, q, t)

        bare : (o : Option Edge) → r.inward ≡ o → is_terminal r ≡ true → (inward_edge r).decaying ≡ Some e → ⊥
        bare None q t h = grind (arith, q, h)
        bare (Some x) q t h = grind (arith, q, t)

    proxy : is_terminal r ≡ false
    proxy = go (is_terminal r) refl
      where
        go : (c : Bool) → is_terminal r ≡ c → c ≡ false
        go false t = refl
        go true t = absurd (no_edge t)

    p : (p : Key) × (e.link ≡ inner_link p) × (e.side ≡ A)
    p = inward_link e.link e.side out

    there : is_gone (view w g e.link (opposite e.side)) ≡ false
    there = ap (λ l. is_gone (view w g l (opposite e.side))) p.1 ∙ ap (λ t. is_gone (view w g (inner_link p.0) (opposite t))) p.2 ∙ there_in
        w b g k r e item p.0 law here chosen at rec.recorded p.1

pub inv-send_out : (w : World) (b : Books) (g : Records) (k : Key) (r : Router) (e : LinkEnd) (item : Item) → Inv w b g →
    router_at w k ≡ Some r → way_out r ≡ Some e → current_item r.out_queue ≡ Some item → (k.node ≡ e.other) ⊎ (ends_in item ≡ []) →
    Inv (send_act w k (pop_out r) e.link (opposite e.side) e.other r.out_queue.current item) b g
inv-send_out w b g k r e item law here chosen at plain =
    closed-sent w b g k r (pop_out r) e.link (opposite e.side) e.other r.out_queue.current item law
    (is_send_out w b g k r e item (opened w b g law) here chosen at) plain

pub inv-send_in : (w : World) (b : Books) (g : Records) (k : Key) (r : Router) (e : LinkEnd) (item : Item) → Inv w b g →
    router_at w k ≡ Some r → way_in r ≡ Some e → current_item r.in_queue ≡ Some item → (k.node ≡ e.other) ⊎ (ends_in item ≡ []) →
    Inv (send_act w k (send_on r) e.link (opposite e.side) e.other r.in_queue.current item) b g
inv-send_in w b g k r e item law here chosen at plain =
    closed-sent w b g k r (send_on r) e.link (opposite e.side) e.other r.in_queue.current item law
    (is_send_in w b g k r e item (opened w b g law) here chosen at) plain

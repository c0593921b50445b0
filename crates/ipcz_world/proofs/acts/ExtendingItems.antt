-- A terminal becomes a proxy, and the item under way carries its descriptor: what is said of items, ends and numbers is kept.
use Rattle.ipcz_world.proofs.acts.ExtendingAround.{left_same}
use Rattle.std.specs.Prelude.{◌≡◌, ◌⊎◌, ◌≤◌, ◌<◌, ◌+◌, ℕ, Bool, true, false, cond, nat_eq, nat_lt, Option, Some, None, refl, List}
use Rattle.std.specs.Prelude.{[], ◌∷◌, ◌++◌, length, drop}
use Rattle.std.specs.Ordering.{nat_cmp}
use Rattle.std.specs.Cmp.{nat_cmp_total}
use Rattle.std.specs.FinMap.{remove, nat_cmp-IsAntisymmetric, get-empty}
use Rattle.std.proofs.Common.{arith, ap, subst, ◌∙◌, sym, inl, inr, length-drop}
use Rattle.std.proofs.lemmas.Bool.Decides.{nat_tests}
use Rattle.ipcz_world.proofs.Vocabulary.{Side, A, B, LinkId, Central, Peripheral, Descriptor, Item, Message, opposite, same_side, same_link, has_link}
use Rattle.ipcz_world.proofs.Vocabulary.{same_end, opposite_end, Queue, item_at, Router, inward_edge, World, Key, same_key, router_at, Books, read}
use Rattle.ipcz_world.proofs.Vocabulary.{Records, At, is_recorded, is_begun, bypass_of, known_from, inner_link, side_router, side_end, side_length}
use Rattle.ipcz_world.proofs.Vocabulary.{across_side, terminal_descriptor, Standing, view, view_by, router_view, next_sent, taking_queue, is_gone}
use Rattle.ipcz_world.proofs.Vocabulary.{is_awaited, is_attached, sending_queue, fed_queue, makes, is_made_before, Weight, at_end, of_bypass}
use Rattle.ipcz_world.proofs.Vocabulary.{control_weight, inner_of, moving_link, Conserved, Order, ProxyNumbers, has_passed, descriptor_of, Moving}
use Rattle.ipcz_world.proofs.Vocabulary.{length_by, bypass_length, awaited_view, may_have_sent, from_number}
use Rattle.ipcz_base.specs.declared.message.Message.TheVariants as messages
use Rattle.ipcz_seq.specs.Queue.{queue_from}
use Rattle.ipcz_node.specs.Hands.{has_moved}
use Rattle.ipcz_world.proofs.frames.Frames.{same_key_tells, same_key-itself}
use Rattle.ipcz_world.proofs.frames.RecordRules.{is_recorded-central, record_rules, bypass_of-inner, side_router-proxy, side_router-inner}
use Rattle.ipcz_world.specs.Standing.{View, Waiting}
use Rattle.ipcz_world.proofs.frames.Seen.{view_by-known, view_by-unknown, view-apart}
use Rattle.ipcz_world.proofs.frames.Draining.{next_sent-standing, taking_queue-standing, view_rules}
use Rattle.ipcz_world.proofs.frames.Fitting.{ItemFits}
use Rattle.ipcz_world.proofs.frames.Opened.{OpenInv}
use Rattle.ipcz_world.proofs.frames.Weighing.{in_router-is, of_number, in_places-set_router}
use Rattle.ipcz_base.proofs.Totals.{total-remove}
use Rattle.ipcz_world.proofs.acts.SendingOut.{has_link-end}
use Rattle.ipcz_world.proofs.frames.Awaited.{no_router}
use Rattle.ipcz_world.proofs.facts.Reaching.{is_reach}
use Rattle.ipcz_world.proofs.acts.ExtendingAround.{next_key, extended, extended_records, IsGrown, IsExtend, other_link, recorded_more}
use Rattle.ipcz_world.proofs.acts.ExtendingAround.{recorded_back, router_same, node_same, end_same, bypass_same, side_same, stood}
use Rattle.ipcz_world.proofs.acts.ExtendingAround.{no_inward, no_by, inner_end_is, stage_begun}
use Rattle.ipcz_world.proofs.acts.ExtendingStages.{not_begun}
use Rattle.ipcz_world.proofs.acts.MaterializingAround.{at_waits}
use Rattle.ipcz_world.proofs.frames.BegunLengths.{bypass_of-central_is}
use Rattle.ipcz_world.proofs.facts.Lengths.{view-standing}
use Rattle.ipcz_world.proofs.facts.Tests.{same_some}
use Rattle.ipcz_world.proofs.facts.LinkTests.{same_end-itself, same_end-tells}

pub same_link-turned : (l m : LinkId) → same_link m l ≡ same_link l m
same_link-turned (Central i) (Central j) = grind (arith, nat_tests)
same_link-turned (Central i) (Peripheral n s) = refl
same_link-turned (Peripheral n s) (Central j) = refl
same_link-turned (Peripheral n s) (Peripheral m t) = grind (arith, nat_tests)

-- the same attachments but for the new link
attached_extended : (w : World) (q : Key) (r : Router) (a : ℕ) (link : LinkId) (s : Side) → r.inward ≡ None →
    same_link link (inner_link (next_key w q.node)) ≡ false → is_attached link s (extended w q r a) ≡ is_attached link s r
unfolding is_attached has_link
attached_extended w q r a (Central i) s n e = refl
attached_extended w q r a (Peripheral m x) B n e = refl
attached_extended w q r a (Peripheral m x) A n e = grind (arith, n, e, same_link-turned (Peripheral m x) (inner_link (next_key w q.node)))

-- the side is seen as before, or the terminal stood there and the proxy stands there now
pub record IsSwappedFor (w v : World) (g h : Records) (r y : Router) (link : LinkId) (s : Side) : Type 0 where
  pub old : view w g link s ≡ Standing r
  pub new : view v h link s ≡ Standing y

pub awaited-central : (i : ℕ) (c e : Option Descriptor) → awaited_view (Central i) c ≡ awaited_view (Central i) e
unfolding awaited_view
awaited-central i c e = refl

pub awaited-inner : (k : Key) (d : Descriptor) → awaited_view (inner_link k) (terminal_descriptor (Moving d)) ≡ Waiting d
unfolding awaited_view terminal_descriptor
awaited-inner k d = refl

sending_extended : (w : World) (q : Key) (r : Router) (a : ℕ) (link : LinkId) (s : Side) →
    (sending_queue link s (extended w q r a)).current ≡ (sending_queue link s r).current
unfolding sending_queue
sending_extended w q r a (Central i) s = refl
sending_extended w q r a (Peripheral n x) A = refl
sending_extended w q r a (Peripheral n x) B = refl

fed_extended : (w : World) (q : Key) (r : Router) (a : ℕ) (link : LinkId) (s : Side) →
    fed_queue link s (extended w q r a) ≡ fed_queue link s r
unfolding fed_queue
fed_extended w q r a (Central i) s = refl
fed_extended w q r a (Peripheral n x) A = refl
fed_extended w q r a (Peripheral n x) B = refl

attached_new : (w : World) (q : Key) (r : Router) (a : ℕ) → is_attached (inner_link (next_key w q.node)) A (extended w q r a) ≡ true
unfolding is_attached
attached_new w q r a = grind (
  arith,
  has_link-end (inward_edge (extended w q r a)).primary
      (record { link = inner_link (next_key w q.node); side = A; other = a }) refl,
)

length_by-same : (w v : World) (b : Books) (g : Records) (q : Key) (r : Router) (a : ℕ) (law : OpenInv w b g) (is : IsExtend w q r a)
    (t : IsGrown w v q (extended w q r a)) (link : LinkId) (s : Side) (o : Option ℕ) → bypass_of g link ≡ o →
    length_by (extended_records w g q r a) link s o ≡ length_by g link s o
unfolding length_by bypass_length
length_by-same w v b g q r a law is t link s None e = refl
length_by-same w v b g q r a law is t (Central i) s (Some o) e = let f = bypass_of-central_is g i o e in
    ap (λ z. cond (same_side s z) (known_from 3 (g.bypass o).stage (g.bypass o).taken_at)
    (known_from 3 (g.bypass o).stage (g.bypass o).accepted_at))
    (side_same law is t o (ap (λ z. is_begun (g.bypass z)) f.0 ∙ f.1))
length_by-same w v b g q r a law is t (Peripheral n x) A (Some o) e = refl
length_by-same w v b g q r a law is t (Peripheral n x) B (Some o) e = refl

unbypassed : (w v : World) (b : Books) (g : Records) (q : Key) (r : Router) (a : ℕ) (law : OpenInv w b g) (is : IsExtend w q r a)
    (t : IsGrown w v q (extended w q r a)) (s : Side) → side_length g (inner_link (next_key w q.node)) s ≡ None
unfolding length_by
unbypassed w v b g q r a law is t s = ap (length_by g (inner_link (next_key w q.node)) s)
    (bypass_of-inner g (next_key w q.node) ∙ no_by law is t)

pub next_sent-waiting : (l : LinkId) (s : Side) (d : Descriptor) → next_sent l s (Waiting d) ≡ Some d.next_out
unfolding next_sent
next_sent-waiting l s d = refl

pub taking_queue-waiting : (l : LinkId) (s : Side) (d : Descriptor) → taking_queue l s (Waiting d) ≡ Some (queue_from d.next_in)
unfolding taking_queue
taking_queue-waiting l s d = refl

fed-A : (k : Key) (x : Router) → fed_queue (inner_link k) A x ≡ x.out_queue
unfolding fed_queue
fed-A k x = refl

sending-A : (k : Key) (x : Router) → sending_queue (inner_link k) A x ≡ x.in_queue
unfolding sending_queue
sending-A k x = refl

pub blank_at : (f m : ℕ) → item_at {T = Item} (queue_from f) m ≡ None
blank_at f m = get-empty nat_cmp m

from_number-above : (n i : ℕ) (xs : List Item) → i + length xs ≤ n → from_number (of_number n) i xs ≡ 0
from_number-above n i [] l = refl
from_number-above n i (x ∷ xs) l = grind (arith, nat_tests, l, from_number-above n (i + 1) xs (omega (arith, l)))

-- a queue that sends for an end has only numbers that the end has put
pub out_below : (w : World) (b : Books) (g : Records) (q : Key) (r : Router) (m : ℕ) (x : Item) → Conserved w b g → q.node < w.count →
    router_at w q ≡ Some r → item_at r.out_queue m ≡ Some x → m < length (b.put r.end)
out_below w b g q r m x law lt here at = go (nat_lt m (length (b.put r.end))) refl
  where
    y : Router
    y = record r { out_queue = record r.out_queue { items = remove r.out_queue.items m } }

    f : Weight
    f = at_end r.end (of_number m)

    one : at_end r.end (of_number m) r.end m x ≡ 1
    one = grind (arith, same_end-itself r.end, nat_tests)

    go : (c : Bool) → nat_lt m (length (b.put r.end)) ≡ c → m < length (b.put r.end)
    go true e = grind (arith, e, nat_tests)
    go false e =
        let high : read b (opposite_end r.end) + length (drop (read b (opposite_end r.end)) (b.put r.end)) ≤ m =
        above (read b (opposite_end r.end)) (b.put r.end) m (law.read_put r.end) (grind (arith, e, nat_tests)) in
        absurd (omega (
          arith,
          one,
          law.exact r.end (of_number m),
          from_number-above m (read b (opposite_end r.end)) (drop (read b (opposite_end r.end)) (b.put r.end)) high,
          in_places-set_router (at_end r.end (of_number m)) g w q r
              (record r { out_queue = record r.out_queue { items = remove r.out_queue.items m } }) lt here,
          in_router-is (at_end r.end (of_number m)) r,
          in_router-is (at_end r.end (of_number m)) (record r { out_queue = record r.out_queue { items = remove r.out_queue.items m } }),
          total-remove nat_cmp nat_cmp_total nat_cmp-IsAntisymmetric (at_end r.end (of_number m) r.end) r.out_queue.items m x at,
        ))
      where
        above : (c : ℕ) (xs : List Item) (m : ℕ) → c ≤ length xs → length xs ≤ m → c + length (drop c xs) ≤ m
        above c xs m l e = simp length-drop (omega (arith, l, e))

has_moved-more : (link : LinkId) (ds : List Descriptor) (d : Descriptor) → has_moved link ds ≡ true → has_moved link (ds ++ d ∷ []) ≡ true
has_moved-more link [] d e = cc
has_moved-more link (x ∷ ds) d e = grind (arith, e, has_moved-more link ds d)

pub makes-more : (link l : LinkId) (u s : Side) (n : ℕ) (item : Item) (ds : List Descriptor) (d : Descriptor) →
    makes link u (messages.Item l s n item ds) ≡ true → makes link u (messages.Item l s n item (ds ++ d ∷ [])) ≡ true
unfolding makes
makes-more link l A s n item ds d e = e
makes-more link l B s n item ds d e = has_moved-more link ds d e

pub same_item : (x l : LinkId) (u s : Side) (m n : ℕ) (z item : Item) (ds es moves : List Descriptor) →
    messages.Item x u m z ds ≡ messages.Item l s n item es → messages.Item l s n item moves ≡ messages.Item x u m z moves
same_item x l u s m n z item ds es moves e =
    let a : l ≡ x = grind (arith, e) in let b : s ≡ u = grind (arith, e) in let c : n ≡ m = grind (arith, e) in let d : item ≡ z =
    grind (arith, e) in λ i. messages.Item (a i) (b i) (c i) (d i) moves

-- counts the messages that begin a bypass of a link
pub of_peer : LinkId → Message → ℕ
of_peer link (messages.BypassPeer l s old t f) = cond (same_link l link) 1 0
of_peer link other = 0

pub about-peer : (g : Records) (old : ℕ) (link x : LinkId) (u : Side) (target fresh : ℕ) → same_link x link ≡ true →
    of_bypass g old (of_peer link) (messages.BypassPeer x u old target fresh) ≡ 1
unfolding of_bypass of_peer
about-peer g old link x u target fresh e = grind (arith, e, nat_tests)

pub expected-peer : (g : Records) (link : LinkId) (o : ℕ) → ((g.bypass o).stage ≡ 1 → same_link (inner_of g o) link ≡ false) →
    control_weight g (λ from to. of_peer link) o ≡ 0
unfolding control_weight of_peer
expected-peer g link o f = go (nat_eq (g.bypass o).stage 1) refl
  where
    go : (c : Bool) → nat_eq (g.bypass o).stage 1 ≡ c → control_weight g (λ from to. of_peer link) o ≡ 0
    go true e = grind (arith, e, f (grind (arith, e, nat_tests)))
    go false e = grind (arith, e, nat_tests)

module _ (w v : World) (b : Books) (g : Records) (q : Key) (r : Router) (a : ℕ) (law : OpenInv w b g) (is : IsExtend w q r a)
    (t : IsGrown w v q (extended w q r a)) where
  abbrev pub p : Key
  p = next_key w q.node

  abbrev pub h : Records
  h = extended_records w g q r a

  abbrev pub y : Router
  y = extended w q r a

  abbrev pub d : Descriptor
  d = descriptor_of r (inner_link p)

  pub lone : r.inward ≡ None
  lone = no_inward law is t

  pub at_end_is : g.terminal r.end ≡ At q
  at_end_is = (law.terminals.each q r is.here).terminal is.lone

  -- an awaited link waits for another end
  pub other_terminal : (k : Key) → is_recorded w g (inner_link k) ≡ true → side_router g (inner_link k) B ≡ None →
      h.terminal (side_end g (inner_link k) B) ≡ g.terminal (side_end g (inner_link k) B)
  other_terminal k rec none = go (same_end (side_end g (inner_link k) B) r.end) refl
    where
      end : side_end g (inner_link k) B ≡ (g.peripheral k).end
      end = inner_end_is g k B

      waits : moving_link (g.terminal (side_end g (inner_link k) B)) ≡ Some (inner_link k)
      waits = ap (λ e. moving_link (g.terminal e)) end ∙ law.moves.moving k rec
          (no_router (g.peripheral k).node (g.peripheral k).router (grind (arith, record_rules, none)))

      go : (c : Bool) → same_end (side_end g (inner_link k) B) r.end ≡ c →
          h.terminal (side_end g (inner_link k) B) ≡ g.terminal (side_end g (inner_link k) B)
      go true c = let s : side_end g (inner_link k) B ≡ r.end = same_end-tells (side_end g (inner_link k) B) r.end c in
          absurd (at_waits q (inner_link k) (ap moving_link (sym (ap g.terminal s ∙ at_end_is)) ∙ waits))
      go false c = grind (arith, c)

  awaited_same : (link : LinkId) (s : Side) → is_recorded w g link ≡ true → side_router g link s ≡ None →
      awaited_view link (terminal_descriptor (h.terminal (side_end h link s))) ≡ awaited_view link
      (terminal_descriptor (g.terminal (side_end g link s)))
  awaited_same (Central i) s rec none = awaited-central i (terminal_descriptor (h.terminal (side_end h (Central i) s)))
      (terminal_descriptor (g.terminal (side_end g (Central i) s)))
  awaited_same (Peripheral n x) A rec none = absurd (grind (arith, none, side_router-proxy g (record { node = n; serial = x })))
  awaited_same (Peripheral n x) B rec none = let k : Key = record { node = n; serial = x } in
      ap (λ z. awaited_view (inner_link k) (terminal_descriptor z))
      (ap h.terminal (end_same law is t (inner_link k) B (other_link law is t (inner_link k) rec)) ∙
      other_terminal k rec none)

  pub seen_extended : (link : LinkId) (s : Side) → is_recorded w g link ≡ true →
      (view v h link s ≡ view w g link s) ⊎ IsSwappedFor w v g h r y link s
  seen_extended link s rec = go (side_router g link s) refl
    where
      apart : same_link link (inner_link p) ≡ false
      apart = other_link law is t link rec

      known : side_router h link s ≡ side_router g link s
      known = router_same law is t link s apart

      same_att : is_attached link s y ≡ is_attached link s r
      same_att = attached_extended w q r a link s lone apart

      standing_at : (x : Key) → side_router g link s ≡ Some x → (c : Bool) → same_key x q ≡ c → (e : Bool) → is_attached link s r ≡ e →
          (view v h link s ≡ view w g link s) ⊎ IsSwappedFor w v g h r y link s
      standing_at x f true c true e = let k : x ≡ q = grind (arith, c, same_key_tells x q) in
          inr (record {
            old = view-standing w g link s q r (f ∙ ap Some k) is.here e;
            new =
                view-standing v h link s q y (known ∙ f ∙ ap Some k) (t.router q ∙ grind (arith, same_key-itself q)) (same_att ∙ e);
          })
      standing_at x f true c false e = let k : x ≡ q = grind (arith, c, same_key_tells x q) in
          inl (ap (view_by v h link s) (known ∙ f) ∙ view_by-known v h link s x ∙ ap (router_view link s) (t.router x ∙ grind (arith, c)) ∙
          view-apart link s y (same_att ∙ e) ∙
          sym (ap (view_by w g link s) f ∙ view_by-known w g link s x ∙ ap (router_view link s) (ap (router_at w) k ∙ is.here) ∙ view-apart
          link s r e))
      standing_at x f false c e o = inl (ap (view_by v h link s) (known ∙ f) ∙ view_by-known v h link s x ∙ ap (router_view link s)
          (t.router x ∙ grind (arith, c)) ∙ sym (ap (view_by w g link s) f ∙ view_by-known w g link s x))

      go : (o : Option Key) → side_router g link s ≡ o → (view v h link s ≡ view w g link s) ⊎ IsSwappedFor w v g h r y link s
      go None f = inl (ap (view_by v h link s) (known ∙ f) ∙ view_by-unknown v h link s ∙ awaited_same link s rec f ∙ sym
          (ap (view_by w g link s) f ∙ view_by-unknown w g link s))
      go (Some x) f = standing_at x f (same_key x q) refl (is_attached link s r) refl

  -- what is read of a view is as before
  read_same : {X : Type 0} (f : View → X) (link : LinkId) (s : Side) → is_recorded w g link ≡ true → f (Standing y) ≡ f (Standing r) →
      f (view v h link s) ≡ f (view w g link s)
  read_same f link s rec e = elim (seen_extended link s rec) [ inl o ↦ ap f o | inr n ↦ ap f n.new ∙ e ∙ sym (ap f n.old) ]

  sent_same : (link : LinkId) (s : Side) → is_recorded w g link ≡ true →
      next_sent link s (view v h link s) ≡ next_sent link s (view w g link s)
  sent_same link s rec = read_same (next_sent link s) link s rec (next_sent-standing link s y ∙ ap Some (sending_extended w q r a link s) ∙
      sym (next_sent-standing link s r))

  taken_same : (link : LinkId) (s : Side) → is_recorded w g link ≡ true →
      taking_queue link s (view v h link s) ≡ taking_queue link s (view w g link s)
  taken_same link s rec = read_same (taking_queue link s) link s rec
      (taking_queue-standing link s y ∙ ap Some (fed_extended w q r a link s) ∙ sym (taking_queue-standing link s r))

  gone_same : (link : LinkId) (s : Side) → is_recorded w g link ≡ true → is_gone (view v h link s) ≡ is_gone (view w g link s)
  gone_same link s rec = read_same is_gone link s rec (grind (arith, view_rules))

  pub length_same : (link : LinkId) (s : Side) → side_length h link s ≡ side_length g link s
  length_same link s = ap (length_by h link s) (bypass_same law is t link) ∙ by_option (bypass_of g link) refl
    where
      by_option : (o : Option ℕ) → bypass_of g link ≡ o → length_by h link s o ≡ length_by g link s o
      by_option o e = length_by-same w v b g q r a law is t link s o e

  pub fits-extended : (from to i : ℕ) (link : LinkId) (s : Side) (n : ℕ) → ItemFits w g from to i link s n →
      (is_made_before w from to i link s ≡ true → is_made_before v from to i link s ≡ true) → ItemFits v h from to i link s n
  fits-extended from to i link s n fit made = record {
    recorded = recorded_more law is t link fit.recorded;
    sender = fit.sender ∙ sym (node_same law is t link (opposite s) (other_link law is t link fit.recorded));
    receiver = fit.receiver ∙ sym (node_same law is t link s (other_link law is t link fit.recorded));
    below_length = λ len e. fit.below_length len (sym (length_same link (opposite s)) ∙ e);
    was_sent = λ u e. fit.was_sent u (sym (sent_same link (opposite s) fit.recorded) ∙ e);
    by_sender = read_same may_have_sent link (opposite s) fit.recorded (grind (arith, view_rules)) ∙ fit.by_sender;
    sender_gone = λ e. rw (length_same link (opposite s), left_same law is t link (opposite s)) (fit.sender_gone (sym (gone_same link (opposite s) fit.recorded) ∙ e));
    not_passed = λ z e. fit.not_passed z (sym (taken_same link s fit.recorded) ∙ e);
    behind = λ e. made (fit.behind (sym (read_same is_awaited link s fit.recorded (grind (arith, view_rules))) ∙ e));
    not_awaited_low = fit.not_awaited_low;
    receiver_there = gone_same link s fit.recorded ∙ fit.receiver_there;
  }

  -- the new link's sides
  new_proxy : view v h (inner_link p) A ≡ Standing y
  new_proxy = view-standing v h (inner_link p) A q y (side_router-proxy h p ∙ grind (arith, same_key-itself p))
      (t.router q ∙ grind (arith, same_key-itself q)) (attached_new w q r a)

  new_inner : view v h (inner_link p) B ≡ Waiting d
  new_inner = ap (view_by v h (inner_link p) B) (side_router-inner h p ∙ grind (arith, same_key-itself p)) ∙ view_by-unknown v h
      (inner_link p) B ∙ ap (λ e. awaited_view (inner_link p) (terminal_descriptor (h.terminal e)))
      (inner_end_is h p B ∙ grind (arith, same_key-itself p)) ∙
      ap (λ z. awaited_view (inner_link p) (terminal_descriptor z)) moved ∙ awaited-inner p d
    where
      moved : h.terminal r.end ≡ Moving d
      moved = grind (arith, same_end-itself r.end)

  pub order-extended : Order v h
  order-extended = record {
    current = λ link s u z rec sent taken short. elim (recorded_back law is t link rec) [
      | inl o ↦ law.order.current link s u z o (sym (sent_same link (opposite s) o) ∙ sent) (sym (taken_same link s o) ∙ taken)
          (ap (λ x. has_passed x u) (sym (length_same link (opposite s))) ∙ short)
      | inr n ↦ new_current s u z (subst (λ l. next_sent l (opposite s) (view v h l (opposite s)) ≡ Some u) n sent)
          (subst (λ l. taking_queue l s (view v h l s) ≡ Some z) n taken)
    ];
    stored = λ link s u z m x rec sent taken at short. elim (recorded_back law is t link rec) [
      | inl o ↦ law.order.stored link s u z m x o (sym (sent_same link (opposite s) o) ∙ sent) (sym (taken_same link s o) ∙ taken) at
          (ap (λ x. has_passed x m) (sym (length_same link (opposite s))) ∙ short)
      | inr n ↦ new_stored s u z m x (subst (λ l. next_sent l (opposite s) (view v h l (opposite s)) ≡ Some u) n sent)
          (subst (λ l. taking_queue l s (view v h l s) ≡ Some z) n taken) at
    ];
  }
    where
      new_current : (s : Side) (u : ℕ) (z : Queue Item) → next_sent (inner_link p) (opposite s) (view v h (inner_link p) (opposite s)) ≡
          Some u → taking_queue (inner_link p) s (view v h (inner_link p) s) ≡ Some z → z.current ≤ u
      new_current A u z sent taken =
          let e : Some d.next_out ≡ Some u = sym (ap (next_sent (inner_link p) B) new_inner ∙ next_sent-waiting (inner_link p) B d) ∙ sent
          in
          let f : Some r.out_queue ≡ Some z = sym (ap (taking_queue (inner_link p) A) new_proxy ∙ taking_queue-standing (inner_link p) A y ∙
          ap Some (fed-A p y)) ∙ taken in
          let o = (is_reach r.out_queue).from in omega (arith, o, ap (λ q. q.current) (same_some f), same_some e)
      new_current B u z sent taken =
          let e : Some y.in_queue.current ≡ Some u = sym (ap (next_sent (inner_link p) A) new_proxy ∙ next_sent-standing (inner_link p) A y
          ∙ ap (λ q. Some q.current) (sending-A p y)) ∙ sent in
          let f : Some (queue_from d.next_in) ≡ Some z = sym (ap (taking_queue (inner_link p) B) new_inner ∙ taking_queue-waiting
          (inner_link p) B d) ∙ taken in
          omega (arith, ap (λ q. q.current) (same_some f), same_some e)

      new_stored : (s : Side) (u : ℕ) (z : Queue Item) (m : ℕ) (x : Item) →
          next_sent (inner_link p) (opposite s) (view v h (inner_link p) (opposite s)) ≡ Some u →
          taking_queue (inner_link p) s (view v h (inner_link p) s) ≡ Some z → item_at z m ≡ Some x → m < u
      new_stored A u z m x sent taken at =
          let e : Some d.next_out ≡ Some u = sym (ap (next_sent (inner_link p) B) new_inner ∙ next_sent-waiting (inner_link p) B d) ∙ sent
          in
          let f : Some r.out_queue ≡ Some z = sym (ap (taking_queue (inner_link p) A) new_proxy ∙ taking_queue-standing (inner_link p) A y ∙
          ap Some (fed-A p y)) ∙ taken in
          let low = out_below w b g q r m x law.conserved (law.counts.on_node q r is.here) is.here
          (ap (λ q. item_at q m) (same_some f) ∙ at) in
          omega (arith, low, law.conserved.reach q r is.here is.lone, same_some e)
      new_stored B u z m x sent taken at =
          let f : Some (queue_from d.next_in) ≡ Some z = sym (ap (taking_queue (inner_link p) B) new_inner ∙ taking_queue-waiting
          (inner_link p) B d) ∙ taken in
          absurd (grind (arith, at, ap (λ q. item_at q m) (same_some f), blank_at d.next_in m))

  begun_router : (o : ℕ) → 1 ≤ (g.bypass o).stage → (g.bypass o).proxy ≡ q → ⊥
  begun_router o le e = not_begun law is t ((law.stages o).proxy_begun r (stage_begun (g.bypass o).stage 1 (omega arith) le)
      (ap (router_at w) e ∙ is.here))

  bypassed : (o n : ℕ) (z : Router) → 1 ≤ n → n ≤ (g.bypass o).stage → router_at v (g.bypass o).proxy ≡ Some z →
      router_at w (g.bypass o).proxy ≡ Some z
  bypassed o n z one le at = elim (stood law is t (g.bypass o).proxy z at)
      [ inl f ↦ f.0 | inr f ↦ absurd (begun_router o (omega (arith, one, le)) f.1) ]

  pub proxy_numbers-extended : ProxyNumbers v h
  proxy_numbers-extended = record {
    out_current = λ o z at s. law.proxy_numbers.out_current o z (bypassed o 2 z (omega arith) s at) s;
    out_items = λ o z m x at s e. law.proxy_numbers.out_items o z m x (bypassed o 2 z (omega arith) s at) s e;
    in_current = λ o z at s. law.proxy_numbers.in_current o z (bypassed o 3 z (omega arith) s at) s;
    in_items = λ o z m x at s e. law.proxy_numbers.in_items o z m x (bypassed o 3 z (omega arith) s at) s e;
    across_gone = λ o z at s e. law.proxy_numbers.across_gone o z (bypassed o 3 z (omega arith) s at) s
        (sym (gone_same (Central o) (across_side g o) (old_recorded o 3 (omega arith) s)) ∙
        ap (λ k. is_gone (view v h (Central o) (opposite k))) (sym
        (side_same law is t o (stage_begun (g.bypass o).stage 3 (omega arith) s))) ∙ e);
    inner_gone = λ o z at s e. law.proxy_numbers.inner_gone o z (bypassed o 5 z (omega arith) (omega (arith, s)) at) s
        (sym (gone_same (inner_of g o) B ((law.bypasses o).inner (stage_begun (g.bypass o).stage 5 (omega arith) (omega (arith, s))))) ∙ e);
    out_finished = λ o z at s e. law.proxy_numbers.out_finished o z (bypassed o 4 z (omega arith) s at) s e;
    in_finished = λ o z at s e. law.proxy_numbers.in_finished o z (bypassed o 4 z (omega arith) s at) s e;
  }
    where
      old_recorded : (o n : ℕ) → 1 ≤ n → n ≤ (g.bypass o).stage → is_recorded w g (Central o) ≡ true
      old_recorded o n one le = is_recorded-central w g o ∙ (law.bypasses o).old (stage_begun (g.bypass o).stage n one le)

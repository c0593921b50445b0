-- Who stands around a bypass when the router across has the message that asks it to accept.
use Rattle.ipcz_world.proofs.frames.LeftSides.{not_left}
use Rattle.std.specs.Prelude.{◌≡◌, ◌<◌, ◌≤◌, ℕ, Bool, true, false, cond, ◌&&◌, nat_eq, is_some, Option, Some, None, refl}
use Rattle.std.proofs.Common.{arith, ap, ◌∙◌, sym}
use Rattle.std.proofs.lemmas.Bool.Decides.{nat_tests}
use Rattle.std.proofs.lemmas.Option.{none-some, same_Some}
use Rattle.ipcz_world.proofs.Vocabulary.{Side, A, B, LinkId, Central, Peripheral, LinkEnd, Item, Message, opposite, same_side, has_link, item_at}
use Rattle.ipcz_world.proofs.Vocabulary.{Router, router_has, inward_edge, World, Key, node_at, mail_at, way, router_at, flow, Books, Records, Linked}
use Rattle.ipcz_world.proofs.Vocabulary.{is_begun, is_linked, is_recorded, side_node, side_router, proxy_side, across_side, side_length, Standing}
use Rattle.ipcz_world.proofs.Vocabulary.{view, next_sent, taking_queue, sending_queue, fed_queue, has_primary, has_decaying, has_inward_decaying}
use Rattle.ipcz_world.proofs.Vocabulary.{key_passes, under_way, total_below, total_list, Controls, of_bypass, control_weight, inner_of, has_passed}
use Rattle.ipcz_world.proofs.Vocabulary.{key_at, Awaited, accept_bypass}
use Rattle.ipcz_base.specs.declared.message.Message.TheVariants as messages
use Rattle.ipcz_world.specs.declared.mail.Mail.TheVariants as mails
use Rattle.ipcz_world.proofs.frames.RecordRules.{is_recorded-central}
use Rattle.ipcz_world.specs.Bypasses.{accept_of}
use Rattle.ipcz_world.proofs.facts.Updates.{CanHand}
use Rattle.ipcz_world.proofs.facts.RecordsAfter.{accepted_records}
use Rattle.ipcz_world.proofs.frames.Handing.{flow-hand}
use Rattle.ipcz_world.proofs.frames.Viewing.{Stood, stood}
use Rattle.ipcz_world.proofs.facts.Lengths.{opposite-twice, side_is, same_side-itself, same_side-tells, has_link-tells, HasEnd, passed}
use Rattle.ipcz_world.proofs.facts.Lengths.{is_attached-central, is_attached-proxy, is_attached-inner, view-standing, view-awaited}
use Rattle.ipcz_world.proofs.facts.Lengths.{length-old, length-proxy, known_from-no, has_passed-none}
use Rattle.ipcz_world.proofs.frames.Sealing.{Sealed, Closed, opened, stands_of, counts_of, shape_of, links_of, positions_of, stages_of}
use Rattle.ipcz_world.proofs.frames.Sealing.{controls_of, bypasses_of, order_of, proxy_numbers_of, fresh_numbers_of}
use Rattle.ipcz_world.proofs.frames.Telling.{never}
use Rattle.ipcz_world.proofs.facts.Tests.{nat_eq-itself}
use Rattle.ipcz_world.proofs.frames.Flowing.{total_below-has}
use Rattle.ipcz_world.proofs.frames.Having.{has_at}

-- a message in hand is among those under way
pub in_hand-under_way : (h : ℕ → ℕ → Message → ℕ) (w : World) (from to : ℕ) (m : Message) → from < w.count → to < w.count →
    mail_at w (way w from to) ≡ mails.Hand m → h from to m ≤ under_way h w
unfolding under_way
in_hand-under_way h w from to m hf ht e = omega (
  arith,
  total_below-has w.count from (λ i. total_below w.count (λ j. total_list (h i j) (flow w i j))) hf,
  total_below-has w.count to (λ j. total_list (h from j) (flow w from j)) ht,
  head,
)
  where
    head : h from to m ≤ total_list (h from to) (flow w from to)
    head = rw (flow-hand w from to from to m e) (rw (nat_eq-itself from, nat_eq-itself to) (omega arith))

-- whether a message is this one
unfoldable pub is_accept : ℕ → Side → ℕ → ℕ → Message → Bool
is_accept o side fresh length (messages.AcceptBypass old s new n) =
    (nat_eq old o && same_side s side) && (nat_eq new fresh && nat_eq n length)
is_accept o side fresh length other = false

-- of four stages it is the second
second : (s a b c d : ℕ) → 1 ≤ cond (nat_eq s 1) a (cond (nat_eq s 2) b (cond (nat_eq s 3) c (cond (nat_eq s 4) d 0))) → a ≡ 0 → c ≡ 0 →
    d ≡ 0 → (s ≡ 2) × (1 ≤ b)
second s a b c d h e f i = grind (arith, h, nat_tests)

-- five tests that all hold
record FiveHold (a b c d e : Bool) : Type 0 where
  first : a ≡ true
  next : b ≡ true
  third : c ≡ true
  fourth : d ≡ true
  last : e ≡ true

five : (a b t c d e : Bool) → 1 ≤ cond ((a && b) && ((t && c) && (d && e))) 1 0 → FiveHold a b c d e
five true true true true true true h = record { first = refl; next = refl; third = refl; fourth = refl; last = refl }
five true true true true true false h = absurd (omega (arith, h))
five true true true true false e h = absurd (omega (arith, h))
five true true true false d e h = absurd (omega (arith, h))
five true true false c d e h = absurd (omega (arith, h))
five true false t c d e h = absurd (omega (arith, h))
five false b t c d e h = absurd (omega (arith, h))

-- what the message tells of the bypass's record
pub record IsAsked (g : Records) (from : ℕ) (k : Key) (o : ℕ) (side : Side) (fresh length : ℕ) : Type 0 where
  pub stage : (g.bypass o).stage ≡ 2
  pub sender : from ≡ side_node g (inner_of g o) B
  pub receiver : k.node ≡ side_node g (Central o) (across_side g o)
  pub at_side : side ≡ across_side g o
  pub on_word : fresh ≡ (g.bypass o).fresh
  pub taken : length ≡ (g.bypass o).taken_at

pub asked : (w : World) (g : Records) (from : ℕ) (k : Key) (o : ℕ) (side : Side) (fresh length : ℕ) → Controls w g → from < w.count →
    k.node < w.count →
    mail_at w (way w from k.node) ≡ mails.Hand (messages.AcceptBypass o side fresh length) → IsAsked g from k o side fresh length
unfolding control_weight of_bypass is_accept
asked w g from k o side fresh length law hf hk e = record {
  stage = told.0;
  sender = grind (arith, all.first, nat_tests);
  receiver = grind (arith, all.next, nat_tests);
  at_side = sym (same_side-tells (across_side g o) side all.third);
  on_word = grind (arith, all.fourth, nat_tests);
  taken = grind (arith, all.last, nat_tests);
}
  where
    h : ℕ → ℕ → Message → ℕ
    h a b m = cond ((nat_eq a from && nat_eq b k.node) && is_accept o side fresh length m) 1 0

    one : of_bypass g o (h from k.node) (messages.AcceptBypass o side fresh length) ≡ 1
    one = rw (nat_eq-itself o, nat_eq-itself from, nat_eq-itself k.node, nat_eq-itself fresh, nat_eq-itself length, same_side-itself side)
        refl

    found : 1 ≤ control_weight g h o
    found = omega (
      arith,
      one,
      in_hand-under_way (λ a b. of_bypass g o (h a b)) w from k.node (messages.AcceptBypass o side fresh length) hf
          hk e,
      law.control o h,
    )

    told : ((g.bypass o).stage ≡ 2) × (1 ≤ h (side_node g (inner_of g o) B) (side_node g (Central o) (across_side g o)) (accept_of g o))
    told = second (g.bypass o).stage _ _ _ _ found (never _) (never _) (never _)

    all : FiveHold (nat_eq (side_node g (inner_of g o) B) from) (nat_eq (side_node g (Central o) (across_side g o)) k.node)
        (same_side (across_side g o) side) (nat_eq (g.bypass o).fresh fresh) (nat_eq (g.bypass o).taken_at length)
    all = five _ _ (nat_eq o o) _ _ _ told.1

pub from_some : {X : Type 0} (t : Option X) → is_some t ≡ true → X
from_some None e = absurd (none_is e)
  where
    none_is : false ≡ true → ⊥
    none_is p = grind (arith, p)
from_some (Some x) e = x

from_some-is : {X : Type 0} (t : Option X) (e : is_some t ≡ true) → t ≡ Some (from_some t e)
unfolding from_some
from_some-is None e = absurd (grind (arith, e))
from_some-is (Some x) e = refl

linked_is : is_linked Linked ≡ true
unfolding is_linked
linked_is = refl

key_at-node : (n : ℕ) (t : Option ℕ) (q : Key) → key_at n t ≡ Some q → q.node ≡ n
key_at-node n None q e = absurd (none-some q e)
key_at-node n (Some p) q e = ap (λ u. u.node) (sym (same_Some _ _ e))

-- the node of a router at a link's side is the side's
pub side_router-node : (g : Records) (link : LinkId) (s : Side) (q : Key) → side_router g link s ≡ Some q → q.node ≡ side_node g link s
unfolding side_router side_node
side_router-node g (Central i) s q e = key_at-node _ _ q e
side_router-node g (Peripheral n p) A q e = ap (λ t. t.node) (sym (same_Some _ _ e))
side_router-node g (Peripheral n p) B q e = key_at-node _ _ q e

pub same_sides : (s t : Side) → same_side s t ≡ same_side t s
same_sides A A = refl
same_sides A B = refl
same_sides B A = refl
same_sides B B = refl

-- what the hand of the message needs: the router that has the old link is asked
pub record CanAccept (w : World) (from : ℕ) (k : Key) (r : Router) (e : LinkEnd) (o : ℕ) (side : Side) (fresh length : ℕ) : Type 0 where
  pub hand : CanHand w from k r (messages.AcceptBypass o side fresh length)
  pub has : router_has r (Central o) side ≡ true
  pub on : r.outward.primary ≡ Some e

module _ {w : World} {b : Books} {g : Records} {from : ℕ} {k : Key} {r : Router} {e : LinkEnd} {o : ℕ} {side : Side} {fresh length : ℕ}
    (law : Sealed w b g) (can : Closed (CanAccept w from k r e o side fresh length)) where
  -- what the hand makes of the router, the world and the records
  abbrev x : Router
  x = accept_bypass r from side fresh length

  abbrev h : Records
  h = accepted_records g k r o side fresh

  pub here : router_at w k ≡ Some r
  here = (opened can).hand.here

  pub in_hand : mail_at w (way w from k.node) ≡ mails.Hand (messages.AcceptBypass o side fresh length)
  in_hand = (opened can).hand.in_hand

  pub in_its_hand : (node_at w k.node).hand ≡ Some from
  in_its_hand = (opened can).hand.hand

  pub on : r.outward.primary ≡ Some e
  on = (opened can).on

  pub on_node : k.node < w.count
  on_node = (counts_of law).on_node k r here

  pub from_node : from < w.count
  from_node = (counts_of law).hand_from k.node from on_node (opened can).hand.hand

  pub is : IsAsked g from k o side fresh length
  is = asked w g from k o side fresh length (controls_of law) from_node on_node in_hand

  pub begun : is_begun (g.bypass o) ≡ true
  begun = grind (arith, is.stage, nat_tests)

  pub two : 2 ≤ (g.bypass o).stage
  two = omega (arith, is.stage)

  pub proxy_is : proxy_side g o ≡ opposite side
  proxy_is = sym (ap opposite is.at_side ∙ opposite-twice (proxy_side g o))

  -- the router is the one across
  pub known : side_router g (Central o) side ≡ Some k
  known = (has_at w g k r (Central o) side (links_of law) here (opened can).has).router

  pub known_across : side_router g (Central o) (across_side g o) ≡ Some k
  known_across = rw is.at_side at known

  at_stage : (test : Router → Bool) → key_passes w (side_router g (Central o) (across_side g o)) test ≡ true → test r ≡ true
  at_stage test h = sym (passed w k r test here) ∙ rw known_across at h

  pub x_primary : has_link (Some e) (Central o) side ≡ true
  x_primary = rw (on, ← is.at_side) at (at_stage (has_primary (Central o) (across_side g o))
      ((stages_of law o).across_old begun (omega (arith, is.stage))))

  x_end : HasEnd (Some e) (Central o) side
  x_end = has_link-tells (Some e) (Central o) side x_primary

  pub on_old : e.link ≡ Central o
  on_old = ap (λ d. d.link) (same_Some _ _ x_end.there) ∙ x_end.on_link

  pub at_side : e.side ≡ side
  at_side = ap (λ d. d.side) (same_Some _ _ x_end.there) ∙ x_end.at_side

  marked : r.marked ≡ true
  marked = at_stage (λ x. x.marked) ((stages_of law o).across_marked begun (omega (arith, is.stage)))

  pub still : r.outward.decaying ≡ None
  still = grind (arith, ((shape_of law) k r here).marked_still marked)

  -- the proxy
  pub y_stood : Stood w (g.bypass o).proxy (has_decaying (Central o) (opposite side))
  y_stood = stood w (g.bypass o).proxy (has_decaying (Central o) (opposite side))
      (rw proxy_is at ((stages_of law o).proxy_old begun (omega (arith, is.stage))))

  abbrev y : Router
  y = y_stood.router

  pub y_here : router_at w (g.bypass o).proxy ≡ Some y
  y_here = y_stood.here

  pub y_old : has_link y.outward.decaying (Central o) (opposite side) ≡ true
  y_old = y_stood.passed

  y_inner : has_link (inward_edge y).decaying (inner_of g o) A ≡ true
  y_inner = sym (passed w (g.bypass o).proxy y (has_inward_decaying (inner_of g o) A) y_here) ∙ (stages_of law o).proxy_inner begun
      (omega (arith, is.stage))

  pub y_known : side_router g (Central o) (opposite side) ≡ Some (g.bypass o).proxy
  y_known = rw proxy_is at ((bypasses_of law o).proxy_old begun)

  y_known_inner : side_router g (inner_of g o) A ≡ Some (g.bypass o).proxy
  y_known_inner = (bypasses_of law o).proxy_inner begun

  -- the router inward
  pub z_known_some : is_some (side_router g (inner_of g o) B) ≡ true
  z_known_some = (bypasses_of law o).inner_known two

  abbrev pub zk : Key
  zk = from_some (side_router g (inner_of g o) B) z_known_some

  pub z_known : side_router g (inner_of g o) B ≡ Some zk
  z_known = from_some-is (side_router g (inner_of g o) B) z_known_some

  pub z_stood : Stood w zk (has_decaying (inner_of g o) B)
  z_stood = stood w zk (has_decaying (inner_of g o) B) (rw z_known at ((stages_of law o).inner_decaying two (omega (arith, is.stage))))

  abbrev pub z : Router
  z = z_stood.router

  pub z_here : router_at w zk ≡ Some z
  z_here = z_stood.here

  z_inner : has_link z.outward.decaying (inner_of g o) B ≡ true
  z_inner = z_stood.passed

  pub by_o : (g.peripheral (g.bypass o).inner).by ≡ Some o
  by_o = (bypasses_of law o).inner_by begun

  pub z_end : HasEnd z.outward.decaying (inner_of g o) B
  z_end = has_link-tells z.outward.decaying (inner_of g o) B z_inner

  z_to : z.outward.length_to ≡ Some length
  z_to = rw (← is.taken) at (((positions_of law).each zk z z_here).inner_to z_end.end (g.bypass o).inner o z_end.there z_end.on_link by_o)

  pub fresh_linked : is_linked (g.owner fresh) ≡ true
  fresh_linked = ap is_linked (ap g.owner is.on_word ∙ (bypasses_of law o).fresh_linked two) ∙ linked_is

  pub fresh_born : (g.central fresh).born ≡ Some o
  fresh_born = rw (← is.on_word) at ((bypasses_of law o).fresh_born two)

  pub fresh_awaited : side_router g (Central fresh) side ≡ None
  fresh_awaited = rw (← is.on_word, ← is.at_side) at ((bypasses_of law o).fresh_awaited is.stage)

  pub fresh_known : side_router g (Central fresh) (opposite side) ≡ Some zk
  fresh_known = rw (← is.on_word, proxy_is, z_known) at ((bypasses_of law o).fresh_inner two)

  pub fresh_live : is_begun (g.bypass fresh) ≡ false
  fresh_live = go (is_begun (g.bypass fresh)) refl
    where
      go : (t : Bool) → is_begun (g.bypass fresh) ≡ t → is_begun (g.bypass fresh) ≡ false
      go false q = q
      go true q = absurd (grind (
        arith,
        fresh_awaited,
        (bypasses_of law fresh).across q,
        (bypasses_of law fresh).proxy_old q,
        side_is side (proxy_side g fresh),
      ))

  -- what stands at the sides of the three links
  pub view_x : view w g (Central o) side ≡ Standing r
  view_x = view-standing w g (Central o) side k r known here (grind (arith, is_attached-central o side r, x_primary, on))

  pub view_y : view w g (Central o) (opposite side) ≡ Standing y
  view_y = view-standing w g (Central o) (opposite side) (g.bypass o).proxy y y_known y_here
      (grind (arith, is_attached-central o (opposite side) y, y_old))

  pub view_y_inner : view w g (inner_of g o) A ≡ Standing y
  view_y_inner = view-standing w g (inner_of g o) A (g.bypass o).proxy y y_known_inner y_here
      (grind (arith, is_attached-proxy (g.bypass o).inner y, y_inner))

  view_z_inner : view w g (inner_of g o) B ≡ Standing z
  view_z_inner = view-standing w g (inner_of g o) B zk z z_known z_here (grind (arith, is_attached-inner (g.bypass o).inner z, z_inner))

  z_on : has_link z.outward.primary (Central fresh) (opposite side) ≡ true
  z_on = sym (passed w zk z (has_primary (Central fresh) (opposite side)) z_here) ∙ (stands_of law).central fresh (opposite side) zk
      fresh_linked fresh_live (not_left w g (Central fresh) (opposite side) zk z (stands_of law) fresh_known z_here) fresh_known

  pub view_z : view w g (Central fresh) (opposite side) ≡ Standing z
  view_z = view-standing w g (Central fresh) (opposite side) zk z fresh_known z_here
      (grind (arith, is_attached-central fresh (opposite side) z, z_on))

  pub view_fresh : view w g (Central fresh) side ≡ Awaited
  view_fresh = view-awaited w g fresh side fresh_awaited

  -- no length is known yet but the one toward the proxy on its inner link
  pub none_old : (s : Side) → side_length g (Central o) s ≡ None
  none_old s = grind (
    arith,
    length-old g o s begun,
    known_from-no 3 (g.bypass o).stage (g.bypass o).taken_at,
    known_from-no 3 (g.bypass o).stage (g.bypass o).accepted_at,
    is.stage,
  )

  pub none_inner : side_length g (inner_of g o) A ≡ None
  none_inner = grind (
    arith,
    length-proxy g (g.bypass o).inner o by_o,
    known_from-no 3 (g.bypass o).stage (g.bypass o).accepted_at,
    is.stage,
  )

  old_recorded : is_recorded w g (Central o) ≡ true
  old_recorded = is_recorded-central w g o ∙ (bypasses_of law o).old begun

  inner_recorded : is_recorded w g (inner_of g o) ≡ true
  inner_recorded = (bypasses_of law o).inner begun

  -- what the numbers of the four queues have to do with each other
  pub sends : (link : LinkId) (s : Side) (q : Router) → view w g link s ≡ Standing q →
      next_sent link s (view w g link s) ≡ Some (sending_queue link s q).current
  unfolding next_sent
  sends link s q e = rw e refl

  takes : (link : LinkId) (s : Side) (q : Router) → view w g link s ≡ Standing q →
      taking_queue link s (view w g link s) ≡ Some (fed_queue link s q)
  unfolding taking_queue
  takes link s q e = rw e refl

  pub ordered : (link : LinkId) (s : Side) (u q : Router) → is_recorded w g link ≡ true → view w g link (opposite s) ≡ Standing u →
      view w g link s ≡ Standing q → side_length g link (opposite s) ≡ None →
      (fed_queue link s q).current ≤ (sending_queue link (opposite s) u).current
  ordered link s u q rec from' to' none = (order_of law).current link s (sending_queue link (opposite s) u).current (fed_queue link s q) rec
      (sends link (opposite s) u from') (takes link s q to')
      (ap (λ t. has_passed t (sending_queue link (opposite s) u).current) none ∙ has_passed-none
      (sending_queue link (opposite s) u).current)

  pub stored : (link : LinkId) (s : Side) (u q : Router) → is_recorded w g link ≡ true → view w g link (opposite s) ≡ Standing u →
      view w g link s ≡ Standing q → side_length g link (opposite s) ≡ None →
      (n : ℕ) (item : Item) → item_at (fed_queue link s q) n ≡ Some item → n < (sending_queue link (opposite s) u).current
  stored link s u q rec from' to' none n item at = (order_of law).stored link s (sending_queue link (opposite s) u).current
      (fed_queue link s q) n item rec (sends link (opposite s) u from') (takes link s q to') at
      (ap (λ t. has_passed t n) none ∙ has_passed-none n)

  pub y_out : y.out_queue.current ≤ (g.bypass o).taken_at
  y_out = (proxy_numbers_of law).out_current o y y_here two

  view_r : view w g (Central o) (opposite (opposite side)) ≡ Standing r
  view_r = rw opposite-twice view_x

  pub x_in : r.in_queue.current ≤ y.out_queue.current
  unfolding fed_queue sending_queue
  x_in = ordered (Central o) side y r old_recorded view_y view_x (none_old (opposite side))

  pub x_items : (n : ℕ) (item : Item) → item_at r.in_queue n ≡ Some item → n < y.out_queue.current
  unfolding fed_queue sending_queue
  x_items = stored (Central o) side y r old_recorded view_y view_x (none_old (opposite side))

  pub y_in : y.in_queue.current ≤ r.out_queue.current
  unfolding fed_queue sending_queue
  y_in = ordered (Central o) (opposite side) r y old_recorded view_r view_y (none_old (opposite (opposite side)))

  pub y_items : (n : ℕ) (item : Item) → item_at y.in_queue n ≡ Some item → n < r.out_queue.current
  unfolding fed_queue sending_queue
  y_items = stored (Central o) (opposite side) r y old_recorded view_r view_y (none_old (opposite (opposite side)))

  pub z_in : z.in_queue.current ≤ y.in_queue.current
  unfolding fed_queue sending_queue
  z_in = ordered (inner_of g o) B y z inner_recorded view_y_inner view_z_inner none_inner

  pub z_items : (n : ℕ) (item : Item) → item_at z.in_queue n ≡ Some item → n < y.in_queue.current
  unfolding fed_queue sending_queue
  z_items = stored (inner_of g o) B y z inner_recorded view_y_inner view_z_inner none_inner

  pub z_fresh : HasEnd z.outward.primary (Central fresh) (opposite side)
  z_fresh = has_link-tells z.outward.primary (Central fresh) (opposite side) z_on

  pub z_out : (g.bypass o).taken_at ≤ z.out_queue.current
  z_out = rw (← is.taken) ((fresh_numbers_of law zk z z_here).own z_fresh.end z_end.end length z_fresh.there z_end.there z_to)

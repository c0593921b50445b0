-- What a node sends and takes of an item that brings no end and no moves.
use Rattle.std.proofs.Common.{◌≡◌, ◌≤◌, ◌||◌, ◌&&◌, ℕ, Bool, true, false, not, nat_lt, nat_le, ◌<◌, is_none, true≢false, ap₂, List, [], length, Option, Some, None, if◌then◌else◌, nat_eq, ap, sym, is_some}
use Rattle.std.proofs.Common.{refl, ◌∙◌, ◌∷◌, arith, Ok, Err}
use Rattle.std.proofs.lemmas.Bool.Decides.{nat_tests}
use Rattle.ipcz_base.specs.declared.end.End.{End}
use Rattle.ipcz_base.specs.declared.message.Message.{Message}
use Rattle.ipcz_base.specs.declared.message.Message.TheVariants as messages
use Rattle.ipcz_base.specs.declared.descriptor.Descriptor.{Descriptor}
use Rattle.ipcz_base.specs.declared.item.Item.{Item}
use Rattle.ipcz_base.specs.declared.link_id.LinkId.{LinkId}
use Rattle.ipcz_base.specs.declared.link_end.LinkEnd.{LinkEnd}
use Rattle.ipcz_base.specs.declared.side.Side.{Side}
use Rattle.ipcz_base.specs.Items.{ends_in}
use Rattle.ipcz_base.specs.Limits.{no_number, has_serials}
use Rattle.ipcz_router.specs.Router.{Router, outward_has, inward_has, router_has}
use Rattle.ipcz_router.specs.Calls.{accept, accept_refusal, has_place_for}
use Rattle.ipcz_router.specs.ActTable.{is_possible, is_rest, may_take}
use Rattle.ipcz_router.specs.ActEffects.{apply, leaves_by, output_of}
use Rattle.ipcz_router.specs.Carrying.{carried_by}
use Rattle.ipcz_router.specs.Outlooks.{outlook_of}
use Rattle.ipcz_router.specs.declared.act.RouterAct.TheVariants as acts
use Rattle.ipcz_router.specs.declared.act.Answer.TheVariants.{Plain}
use Rattle.ipcz_router.specs.declared.act.Applied.{Applied}
use Rattle.ipcz_router.specs.declared.act.Applied.TheVariants as outputs
use Rattle.ipcz_router.specs.declared.outlook.Outlook.TheVariants as outlooks
use Rattle.ipcz_node.specs.declared.act.Act.TheVariants.{Router as OfRouter}
use Rattle.ipcz_node.specs.Node.{Node, Found, router_in, with_router, on_router, on_found, push_out, add_stray, found, link_router, is_named}
use Rattle.ipcz_node.specs.Hands.{deliver, fit_moves, fits, fits_from, fits_item, free_hand, handle, message_lacks_serials, serials_in, take_in}
use Rattle.ipcz_node.specs.Hands.{is_unfit, link_asked, side_asked}
use Rattle.ipcz_node.specs.Events.{event_at, event_of, router_event, send_event}
use Rattle.ipcz_node.specs.declared.happened.Happened.TheVariants as events
use Rattle.ipcz_node.specs.Hands.{grows_where_it_fits, message_grows}
use Rattle.ipcz_node.specs.Acts.{act_lacks_serials, commit, commit_router, keep_or_drop, serials_at}
use Rattle.ipcz_node.specs.Preparing.{outlook_at, serials_as}
use Rattle.ipcz_node.specs.Sends.{send, serials_for, send_item, post_item, item_message, move_ends}
use Rattle.ipcz_base.specs.declared.refusal.Refusal.{Refusal}
use Rattle.ipcz_base.specs.declared.refusal.Refusal.TheVariants as refusals
use Rattle.ipcz_seq.specs.Queue.{Queue, has_place, item_at, push_refusal}
use Rattle.ipcz_node.specs.Deliveries.{IsTakenAtOnce}
use Rattle.ipcz_node.specs.RoomyNodes.{RoomyNode}
use Rattle.ipcz_node.specs.Telling.{HasRoomFor, is_lone}
use Rattle.ipcz_node.proofs.Preparing.{serials_there}

-- a send is taken if it is possible
pub may_send : (r : Router) → may_take r acts.SendOut ≡ true → is_possible r acts.SendOut ≡ true
unfolding is_rest
may_send r h = go (is_possible r acts.SendOut) h
  where
    go : (c : Bool) → (c || false) ≡ true → c ≡ true
    go true e = refl
    go false e = e

no_ends : (es : List End) → length es ≡ 0 → es ≡ []
no_ends [] h = refl
no_ends (e ∷ es) h = absurd (omega (arith, h))

none_move : (b : Bool) (es : List End) → es ≡ [] → (if b then [] else es) ≡ []
none_move true es h = refl
none_move false es h = h

-- such an item goes into the outbox, and nothing else changes
sent_lone : (n : Node) (a : Applied) (to : ℕ) (m : Message) → outlook_of a ≡ outlooks.Item to 0 → Some m ≡ carried_by a →
    send n a ≡ push_out n to m
unfolding send send_item carried_by
sent_lone n (outputs.Sent link number item) to m out is =
    let none : length (ends_in item) ≡ 0 = cc in
    let other : link.other ≡ to = cc in
    let same : m ≡ item_message link number item [] = cc in
    ap (λ es. post_item (move_ends (record { node = n; moves = [] }) link.other es) link number item)
    (none_move (nat_eq link.other n.number) (ends_in item) (no_ends (ends_in item) none))
    ∙ ap (λ i. push_out n i (item_message link number item [])) other ∙ ap (push_out n to) (sym same)
sent_lone n any to m out is = cc

-- that is what the act does with the node
pub committed_lone : (n : Node) (serial : ℕ) (r : Router) (to : ℕ) (m : Message) → router_in n serial ≡ Some r →
    outlook_at (router_in n serial) acts.SendOut ≡ outlooks.Item to 0 → Some m ≡ carried_by (output_of r acts.SendOut) →
    push_out (with_router n serial (apply r acts.SendOut Plain)) to m ≡ commit n (OfRouter serial acts.SendOut) Plain
unfolding commit commit_router keep_or_drop leaves_by on_router
committed_lone n serial r to m here out is =
    sym (ap (λ o. on_router n o (commit_router n serial acts.SendOut Plain)) here
    ∙ sent_lone (with_router n serial (apply r acts.SendOut Plain)) (output_of r acts.SendOut) to m
    (sym (ap (λ o. outlook_at o acts.SendOut) here) ∙ out) is)

-- what was sent is told by the number and the link of the message that carries it
told_lone : (n : Node) (serial : ℕ) (a : Applied) (to : ℕ) (m : Message) (s : ℕ × LinkId) → outlook_of a ≡ outlooks.Item to 0 →
    Some m ≡ carried_by a →
    ((link : LinkEnd) (number : ℕ) (item : Item) → Some m ≡ carried_by (outputs.Sent link number item) → s ≡ (number, link.link)) →
    events.SendOut serial s.0 s.1 [] ≡ send_event n (λ number link ends. events.SendOut serial number link ends) a
unfolding send_event carried_by
told_lone n serial (outputs.Sent link number item) to m s out is told =
    let none : length (ends_in item) ≡ 0 = cc in
    ap (λ (t : ℕ × LinkId). events.SendOut serial t.0 t.1 []) (told link number item is)
    ∙ ap (events.SendOut serial number link.link) (sym (none_move (nat_eq link.other n.number) (ends_in item) (no_ends (ends_in item) none)))
told_lone n serial any to m s out is told = cc

-- that is the event of the act
pub event_lone : (n : Node) (serial : ℕ) (r : Router) (to : ℕ) (m : Message) (s : ℕ × LinkId) → router_in n serial ≡ Some r →
    outlook_at (router_in n serial) acts.SendOut ≡ outlooks.Item to 0 → Some m ≡ carried_by (output_of r acts.SendOut) →
    ((link : LinkEnd) (number : ℕ) (item : Item) → Some m ≡ carried_by (outputs.Sent link number item) → s ≡ (number, link.link)) →
    events.SendOut serial s.0 s.1 [] ≡ event_of n (OfRouter serial acts.SendOut) Plain
unfolding event_of event_at router_event
event_lone n serial r to m s here out is told =
    told_lone n serial (output_of r acts.SendOut) to m s (sym (ap (λ o. outlook_at o acts.SendOut) here) ∙ out) is told
    ∙ sym (ap (λ o. event_at n serial o acts.SendOut Plain) here)

zero_of : (b : Bool) → ◌≡◌ {A = ℕ} (if b then 0 else 0) 0
zero_of true = refl
zero_of false = refl

-- serials are left for nothing
pub enough : (k : ℕ) → k ≤ no_number → has_serials k 0 ≡ true
enough k h = grind (arith, nat_tests)

-- and it takes no serials
pub lacks_none : (n : Node) (serial to : ℕ) → n.next_peripheral ≤ no_number →
    outlook_at (router_in n serial) acts.SendOut ≡ outlooks.Item to 0 → act_lacks_serials n (OfRouter serial acts.SendOut) ≡ false
unfolding act_lacks_serials
lacks_none n serial to h out =
    ap (λ k. not (has_serials n.next_peripheral k))
    (sym (serials_there n (router_in n serial) acts.SendOut) ∙ ap (serials_as n) out ∙ zero_of (nat_eq to n.number))
    ∙ ap not (enough n.next_peripheral h)

-- a rest is told by its serial alone
pub event_rest : (n : Node) (serial : ℕ) (r : Router) → router_in n serial ≡ Some r →
    events.Rest serial ≡ event_of n (OfRouter serial acts.Rest) Plain
unfolding event_of event_at router_event
event_rest n serial r here = sym (ap (λ o. event_at n serial o acts.Rest Plain) here)

nothing_for : (n : Node) (o : Option Router) → serials_at n o acts.Rest ≡ 0
unfolding serials_at serials_for output_of
nothing_for n None = refl
nothing_for n (Some r) = refl

-- nor does a rest
pub rests_without : (n : Node) (serial : ℕ) → n.next_peripheral ≤ no_number → act_lacks_serials n (OfRouter serial acts.Rest) ≡ false
unfolding act_lacks_serials
rests_without n serial h = ap (λ k. not (has_serials n.next_peripheral k)) (nothing_for n (router_in n serial))
    ∙ ap not (enough n.next_peripheral h)

and_false : (b : Bool) → (b && false) ≡ false
and_false true = refl
and_false false = refl

-- an item that comes without ends and moves fits if it has its place
fits_lone : (n : Node) (sender : ℕ) (item : Item) (moves : List Descriptor) → ends_in item ≡ [] → moves ≡ [] →
    fits_from n sender item moves ≡ true
fits_lone n sender item moves ends none = go (nat_eq sender n.number)
  where
    go : (b : Bool) → (if b then nat_eq (length moves) 0 else fit_moves n (ends_in item) moves) ≡ true
    go true = ap (λ ds. nat_eq (length ds) 0) none
    go false = ap (λ es. fit_moves n es moves) ends ∙ ap (fit_moves n []) none

placed_lone : (n : Node) (sender : ℕ) (link : LinkId) (side : Side) (number : ℕ) (item : Item) (moves : List Descriptor)
    (source : Option ℕ) (s : ℕ) (r : Router) → link_router n link side ≡ Some (found s r) →
    has_place_for r (outward_has r link side) number ≡ true → ends_in item ≡ [] → moves ≡ [] →
    fits n sender (messages.Item link side number item moves) source ≡ true
unfolding fits fits_item
placed_lone n sender link side number item moves source s r here place ends none =
    ap (fits_item n sender link side number item moves) here ∙ ap (λ b. b && fits_from n sender item moves) place
    ∙ fits_lone n sender item moves ends none

-- and its router is there
fit_lone : (n : Node) (sender : ℕ) (link : LinkId) (side : Side) (number : ℕ) (item : Item) (moves : List Descriptor)
    (source : Option ℕ) (s : ℕ) (r : Router) → link_router n link side ≡ Some (found s r) →
    has_place_for r (outward_has r link side) number ≡ true → ends_in item ≡ [] → moves ≡ [] →
    is_unfit n sender (messages.Item link side number item moves) source ≡ false
unfolding link_asked side_asked
fit_lone n sender link side number item moves source s r here place ends none =
    ap (λ b. not (b && is_named n link side)) (placed_lone n sender link side number item moves source s r here place ends none)
    ∙ ap (λ (o : Option Found). not (is_some o)) here

-- its router takes it
pub taken_lone : (n : Node) (sender : ℕ) (link : LinkId) (side : Side) (number : ℕ) (item : Item) (moves : List Descriptor)
    (source : Option ℕ) (s : ℕ) (r : Router) → link_router n link side ≡ Some (found s r) →
    has_place_for r (outward_has r link side) number ≡ true → ends_in item ≡ [] → moves ≡ [] →
    free_hand (with_router n s (accept r (outward_has r link side) number item)) sender
    ≡ deliver n sender (messages.Item link side number item moves) source
unfolding deliver handle on_found
taken_lone n sender link side number item moves source s r here place ends none =
    let m : Message = messages.Item link side number item moves in
    sym (ap (λ b. free_hand (if b then handle n sender m else add_stray n m) sender)
    (placed_lone n sender link side number item moves source s r here place ends none)
    ∙ ap (λ o. free_hand (on_found n o (take_in n sender link side number item moves)) sender) here
    ∙ ap (λ ds. free_hand (take_in n sender link side number item ds s r) sender) none)

or_true : (b : Bool) → (b || true) ≡ true
or_true true = refl
or_true false = refl

-- something grows with it
item_grows : (n : Node) (sender : ℕ) (link : LinkId) (side : Side) (number : ℕ) (item : Item) (moves : List Descriptor)
    (source : Option ℕ) → message_grows n sender (messages.Item link side number item moves) source ≡ true
unfolding grows_where_it_fits
item_grows n sender link side number item moves source = or_true (not (fits n sender (messages.Item link side number item moves) source))

-- and takes no serials for it
pub takes_none : (n : Node) (sender : ℕ) (link : LinkId) (side : Side) (number : ℕ) (item : Item) (moves : List Descriptor)
    (source : Option ℕ) → n.next_router ≤ no_number → moves ≡ [] →
    message_lacks_serials n sender (messages.Item link side number item moves) source ≡ false
unfolding serials_in
takes_none n sender link side number item moves source h none =
    ap (λ ds. fits n sender (messages.Item link side number item moves) source && not (has_serials n.next_router (length ds))) none
    ∙ ap (λ b. fits n sender (messages.Item link side number item moves) source && b) (ap not (enough n.next_router h))
    ∙ and_false (fits n sender (messages.Item link side number item moves) source)

-- a queue is out of memory exactly if a push has its place
not_before : (n m : ℕ) → nat_le m n ≡ not (nat_lt n m)
not_before n m = grind (arith, nat_tests)

none_not : {X : Type 0} (o : Option X) → is_none o ≡ not (is_some o)
none_not None = refl
none_not (Some x) = refl

abbrev refused : (passed taken : Bool) → Refusal
refused passed taken = if passed then refusals.Passed else if taken then refusals.Occupied else refusals.OutOfMemory

memory_is_free : (passed taken : Bool) → refused passed taken ≡ refusals.OutOfMemory → (not passed && not taken) ≡ true
memory_is_free true taken h = cc
memory_is_free false true h = cc
memory_is_free false false h = refl

other_is_not : (passed taken : Bool) → (refused passed taken ≡ refusals.OutOfMemory → ⊥) → (not passed && not taken) ≡ false
other_is_not true taken h = refl
other_is_not false true h = refl
other_is_not false false h = absurd (h refl)

place_is : {X : Type 0} (q : Queue X) (n : ℕ) → has_place q n ≡ (not (nat_lt n q.current) && not (is_some (item_at q n)))
place_is q n = ap₂ (λ a b. a && b) (not_before n q.current) (none_not (item_at q n))

wanted_place : {X : Type 0} (q : Queue X) (n : ℕ) → push_refusal q n ≡ refusals.OutOfMemory → has_place q n ≡ true
wanted_place q n h = place_is q n ∙ memory_is_free (nat_lt n q.current) (is_some (item_at q n)) h

no_place : {X : Type 0} (q : Queue X) (n : ℕ) → (push_refusal q n ≡ refusals.OutOfMemory → ⊥) → has_place q n ≡ false
no_place q n h = place_is q n ∙ other_is_not (nat_lt n q.current) (is_some (item_at q n)) h

below_last : (n : ℕ) → n < no_number → nat_lt n no_number ≡ true
below_last n h = grind (arith, nat_tests)

-- a router is out of memory for an item exactly if that has its place
pub place_wanted : (r : Router) (link : LinkId) (side : Side) (n : ℕ) → n < no_number →
    accept_refusal r link side n ≡ refusals.OutOfMemory → has_place_for r (outward_has r link side) n ≡ true
place_wanted r link side n low h =
    ap (λ b. b && (if outward_has r link side then has_place r.in_queue n else has_place r.out_queue n)) (below_last n low)
    ∙ go (outward_has r link side) (inward_has r link side) h
  where
    go : (out in_ : Bool) → (if out then push_refusal r.in_queue n else if in_ then push_refusal r.out_queue n else refusals.Stranger) ≡
        refusals.OutOfMemory → (if out then has_place r.in_queue n else has_place r.out_queue n) ≡ true
    go true in_ is = wanted_place r.in_queue n is
    go false true is = wanted_place r.out_queue n is
    go false false is = cc

pub place_refused : (r : Router) (link : LinkId) (side : Side) (n : ℕ) → router_has r link side ≡ true →
    (accept_refusal r link side n ≡ refusals.OutOfMemory → ⊥) → has_place_for r (outward_has r link side) n ≡ false
place_refused r link side n has h = go (nat_lt n no_number) (outward_has r link side) (inward_has r link side) has h
  where
    go : (low out in_ : Bool) → (out || in_) ≡ true →
        ((if out then push_refusal r.in_queue n else if in_ then push_refusal r.out_queue n else refusals.Stranger) ≡ refusals.OutOfMemory → ⊥) →
        (low && (if out then has_place r.in_queue n else has_place r.out_queue n)) ≡ false
    go false out in_ some is = refl
    go true true in_ some is = no_place r.in_queue n is
    go true false true some is = no_place r.out_queue n is
    go true false false some is = absurd (true≢false (sym some))

-- an item that comes without ends and moves is taken exactly if it has its place
lone : (moves : List Descriptor) (item : Item) → moves ≡ [] → ends_in item ≡ [] →
    (nat_eq (length moves) 0 && nat_eq (length (ends_in item)) 0) ≡ true
lone moves item none ends = ap (λ ds. nat_eq (length ds) 0 && nat_eq (length (ends_in item)) 0) none ∙ ap (λ es. nat_eq (length es) 0) ends

lone_fits : (n : Node) (sender : ℕ) (link : LinkId) (side : Side) (number : ℕ) (item : Item) (moves : List Descriptor)
    (source : Option ℕ) (s : ℕ) (r : Router) → link_router n link side ≡ Some (found s r) →
    has_place_for r (outward_has r link side) number ≡ true → ends_in item ≡ [] → moves ≡ [] →
    (is_lone (messages.Item link side number item moves) && fits n sender (messages.Item link side number item moves) source) ≡ true
unfolding is_lone
lone_fits n sender link side number item moves source s r here place ends none =
    ap (λ b. b && fits n sender (messages.Item link side number item moves) source) (lone moves item none ends)
    ∙ placed_lone n sender link side number item moves source s r here place ends none

-- not if it isn't one, or its number is none
pub not_lone : (n : Node) (sender : ℕ) (link : LinkId) (side : Side) (number : ℕ) (item : Item) (moves : List Descriptor)
    (source : Option ℕ) → (nat_lt number no_number && (nat_eq (length moves) 0 && nat_eq (length (ends_in item)) 0)) ≡ false →
    false ≡ (is_lone (messages.Item link side number item moves) && fits n sender (messages.Item link side number item moves) source)
unfolding is_lone fits fits_item
not_lone n sender link side number item moves source not_one = go (link_router n link side)
  where
    both : (below it place from : Bool) → (below && it) ≡ false → false ≡ (it && ((below && place) && from))
    both true true place from h = absurd (true≢false h)
    both true false place from h = refl
    both false true place from h = refl
    both false false place from h = refl

    go : (o : Option Found) → false ≡ ((nat_eq (length moves) 0 && nat_eq (length (ends_in item)) 0) &&
        fits_item n sender link side number item moves o)
    go None = sym (and_false (nat_eq (length moves) 0 && nat_eq (length (ends_in item)) 0))
    go (Some f) = both (nat_lt number no_number) (nat_eq (length moves) 0 && nat_eq (length (ends_in item)) 0)
        (if outward_has f.router link side then has_place f.router.in_queue number else has_place f.router.out_queue number)
        (fits_from n sender item moves) not_one

-- nor if no router is there, or it has no place
pub lone_without_router : (n : Node) (sender : ℕ) (link : LinkId) (side : Side) (number : ℕ) (item : Item) (moves : List Descriptor)
    (source : Option ℕ) → link_router n link side ≡ None →
    false ≡ (is_lone (messages.Item link side number item moves) && fits n sender (messages.Item link side number item moves) source)
unfolding fits fits_item
lone_without_router n sender link side number item moves source none =
    sym (ap (λ o. is_lone (messages.Item link side number item moves) && fits_item n sender link side number item moves o) none
    ∙ and_false (is_lone (messages.Item link side number item moves)))

pub lone_without_place : (n : Node) (sender : ℕ) (link : LinkId) (side : Side) (number : ℕ) (item : Item) (moves : List Descriptor)
    (source : Option ℕ) (s : ℕ) (r : Router) → link_router n link side ≡ Some (found s r) →
    has_place_for r (outward_has r link side) number ≡ false →
    false ≡ (is_lone (messages.Item link side number item moves) && fits n sender (messages.Item link side number item moves) source)
unfolding fits fits_item
lone_without_place n sender link side number item moves source s r here place =
    sym (ap (λ o. is_lone (messages.Item link side number item moves) && fits_item n sender link side number item moves o) here
    ∙ ap (λ b. is_lone (messages.Item link side number item moves) && (b && fits_from n sender item moves)) place
    ∙ and_false (is_lone (messages.Item link side number item moves)))

-- a node that is asked to take a message at once doesn't, if that isn't an item without ends and moves, or has no place here
pub stays_at_once : (k v : RoomyNode) (sender : ℕ) (m : Message) (source : Option ℕ) → false ≡ (is_lone m && fits k.node sender m source) →
    IsTakenAtOnce k sender m source (Ok false) v
stays_at_once k v sender m source not_one = record {
  when = not_one;
  taken = λ is. absurd (true≢false (sym is));
  allowed = λ is. absurd (true≢false (sym is));
  fit = λ is. absurd (true≢false (sym is));
  why = tt;
  wanted = tt;
  full = λ room. refl;
}

-- it takes an item that has its place at a router
pub takes_at_once : (k v : RoomyNode) (sender : ℕ) (link : LinkId) (side : Side) (number : ℕ) (item : Item) (moves : List Descriptor)
    (source : Option ℕ) (s : ℕ) (r : Router) → link_router k.node link side ≡ Some (found s r) →
    has_place_for r (outward_has r link side) number ≡ true → (moves ≡ []) × (ends_in item ≡ []) → k.node.next_router ≤ no_number →
    v.node ≡ free_hand (with_router k.node s (accept r (outward_has r link side) number item)) sender →
    IsTakenAtOnce k sender (messages.Item link side number item moves) source (Ok true) v
takes_at_once k v sender link side number item moves source s r here place alone low is = record {
  when = sym (lone_fits k.node sender link side number item moves source s r here place alone.1 alone.0);
  taken = λ e. is ∙ taken_lone k.node sender link side number item moves source s r here place alone.1 alone.0;
  allowed = λ e. takes_none k.node sender link side number item moves source low alone.0;
  fit = λ e. fit_lone k.node sender link side number item moves source s r here place alone.1 alone.0;
  why = tt;
  wanted = tt;
  full = λ room. refl;
}

-- it wants memory for it, if there is no room
pub wants_at_once : (k v : RoomyNode) (sender : ℕ) (link : LinkId) (side : Side) (number : ℕ) (item : Item) (moves : List Descriptor)
    (source : Option ℕ) (s : ℕ) (r : Router) (why : Refusal) → why ≡ refusals.OutOfMemory → link_router k.node link side ≡ Some (found s r) →
    has_place_for r (outward_has r link side) number ≡ true → (moves ≡ []) × (ends_in item ≡ []) → k.node.next_router ≤ no_number →
    (HasRoomFor k (messages.Item link side number item moves) → ⊥) →
    IsTakenAtOnce k sender (messages.Item link side number item moves) source (Err why) v
wants_at_once k v sender link side number item moves source s r why is here place alone low full = record {
  when = tt;
  taken = tt;
  allowed = tt;
  fit = tt;
  why = (
    is,
    takes_none k.node sender link side number item moves source low alone.0,
    item_grows k.node sender link side number item moves source,
  );
  wanted = lone_fits k.node sender link side number item moves source s r here place alone.1 alone.0;
  full = λ room. absurd (full room);
}

-- What a node does is the same behind messages that are under way: all but a post, which takes the first.
use Rattle.std.specs.Prelude.{◌≡◌, ℕ, zero, suc, Bool, true, false, not, if◌then◌else◌, ◌&&◌, nat_eq, Option, Some, None, List, [], ◌∷◌, ◌++◌, length, refl}
use Rattle.std.proofs.Common.{arith, ap, ◌∙◌, sym}
use Rattle.std.proofs.lemmas.Bool.Decides.{nat_tests}
use Rattle.ipcz_base.specs.Indexed.{place_at, put_place}
use Rattle.ipcz_base.specs.declared.end.End.{End}
use Rattle.ipcz_base.specs.declared.link_id.LinkId.TheVariants.{Central}
use Rattle.ipcz_base.specs.declared.descriptor.Descriptor.{Descriptor}
use Rattle.ipcz_base.specs.declared.message.Message.{Message}
use Rattle.ipcz_base.specs.declared.message.Message.TheVariants as messages
use Rattle.ipcz_base.specs.declared.parcel.Parcel as parcels
use Rattle.ipcz_router.specs.Router.{Router, inward_edge, from_descriptor}
use Rattle.ipcz_router.specs.Bypass.{bypass_peer, accept_message, accept_bypass, stop_message, stop_proxying, will_stop_message}
use Rattle.ipcz_router.specs.ActEffects.{apply, leaves_by, output_of}
use Rattle.ipcz_router.specs.declared.act.RouterAct.{RouterAct}
use Rattle.ipcz_router.specs.declared.act.Answer.{Answer}
use Rattle.ipcz_router.specs.declared.act.Applied.{Applied}
use Rattle.ipcz_router.specs.declared.act.Applied.TheVariants as outputs
use Rattle.ipcz_router.specs.declared.sending.Sending.{Sending}
use Rattle.ipcz_node.specs.declared.act.Act.{Act}
use Rattle.ipcz_node.specs.declared.act.Act.TheVariants as acts
use Rattle.ipcz_node.specs.Node.{Node, Found, on_found, on_router, router_in, terminal_of, link_router, with_router, add_router, add_stray, push_out, holds_end, outbox, with_outbox}
use Rattle.ipcz_node.specs.Acts.{commit, commit_router, keep_or_drop, has_mail_for, first_of, rest_of, post_of, serials_at, act_lacks_serials}
use Rattle.ipcz_node.specs.Sends.{Transfer, move_found, move_end, move_ends, send, send_item, moved_ends, serials_for}
use Rattle.ipcz_node.specs.Hands.{deliver, handle, fits, fits_item, fit_moves, tell, make_terminals, take_in, free_hand}
use Rattle.ipcz_node.specs.Calls.{put_node, put_at_router, get_node, get_at_router, close_node, close_end, close_at_router, open_node, are_held_once, put_refusal, get_refusal, close_refusal}
use Rattle.ipcz_node.specs.Finding.{rewet_node}
use Rattle.ipcz_node.specs.Fronts.{fronted, behind}
use Rattle.ipcz_node.specs.RoomyNodes.{IsPossibleAct}
use Rattle.ipcz_base.specs.declared.profile.Profile.{Profile}
use Rattle.ipcz_base.specs.Ends.{has_end}
use Rattle.ipcz_base.specs.Limits.{has_serials}

nothing_behind : {X : Type 0} (xs : List X) → xs ≡ xs ++ []
nothing_behind [] = refl
nothing_behind (x ∷ xs) = ap (λ ys. x ∷ ys) (nothing_behind xs)

grouped : {X : Type 0} (xs ys zs : List X) → xs ++ (ys ++ zs) ≡ (xs ++ ys) ++ zs
grouped [] ys zs = refl
grouped (x ∷ xs) ys zs = ap (λ us. x ∷ us) (grouped xs ys zs)

alone : (fs : List (List Message)) → fronted fs [] ≡ fs
alone [] = refl
alone (f ∷ fs) = refl

pub place_front : (fs boxes : List (List Message)) (i : ℕ) → place_at [] (fronted fs boxes) i ≡ place_at [] fs i ++ place_at [] boxes i
unfolding place_at
place_front [] boxes i = refl
place_front (f ∷ fs) [] i = nothing_behind (place_at [] (f ∷ fs) i)
place_front (f ∷ fs) (b ∷ boxes) zero = refl
place_front (f ∷ fs) (b ∷ boxes) (suc i) = place_front fs boxes i

pub put_front : (fs boxes : List (List Message)) (i : ℕ) (y : List Message) →
    fronted fs (put_place [] boxes i y) ≡ put_place [] (fronted fs boxes) i (place_at [] fs i ++ y)
unfolding place_at put_place
put_front [] boxes i y = refl
put_front (f ∷ fs) [] zero y = ap (λ zs. (f ++ y) ∷ zs) (alone fs)
put_front (f ∷ fs) [] (suc i) y =
    ap (λ z. z ∷ fronted fs (put_place [] [] i y)) (sym (nothing_behind f)) ∙
    ap (λ zs. f ∷ zs) (put_front fs [] i y ∙ ap (λ zs. put_place [] zs i (place_at [] fs i ++ y)) (alone fs))
put_front (f ∷ fs) (b ∷ boxes) zero y = refl
put_front (f ∷ fs) (b ∷ boxes) (suc i) y = ap (λ zs. (f ++ b) ∷ zs) (put_front fs boxes i y)

-- a message more goes behind all
pub push_behind : (fs : List (List Message)) (n : Node) (to : ℕ) (m : Message) → behind fs (push_out n to m) ≡ push_out (behind fs n) to m
push_behind fs n to m = ap (λ boxes. record n { outboxes = boxes })
    (put_front fs n.outboxes to (place_at [] n.outboxes to ++ m ∷ []) ∙
    ap (put_place [] (fronted fs n.outboxes) to)
    (grouped (place_at [] fs to) (place_at [] n.outboxes to) (m ∷ []) ∙ ap (λ box. box ++ m ∷ []) (sym (place_front fs n.outboxes to))))

found_behind : (fs : List (List Message)) (n : Node) (f : Option Found) (change other : ℕ → Router → Node) →
    ((s : ℕ) (r : Router) → behind fs (change s r) ≡ other s r) → behind fs (on_found n f change) ≡ on_found (behind fs n) f other
unfolding on_found
found_behind fs n None change other h = refl
found_behind fs n (Some f) change other h = h f.serial f.router

router_behind : (fs : List (List Message)) (n : Node) (o : Option Router) (change other : Router → Node) →
    ((r : Router) → behind fs (change r) ≡ other r) → behind fs (on_router n o change) ≡ on_router (behind fs n) o other
unfolding on_router
router_behind fs n None change other h = refl
router_behind fs n (Some r) change other h = h r

kept_behind : (fs : List (List Message)) (n : Node) (serial : ℕ) (r : Router) (leaves : Bool) →
    behind fs (keep_or_drop n serial r leaves) ≡ keep_or_drop (behind fs n) serial r leaves
unfolding keep_or_drop
kept_behind fs n serial r true = refl
kept_behind fs n serial r false = refl

-- a transfer with the node behind these messages
abbrev over : List (List Message) → Transfer → Transfer
over fs m = record { node = behind fs m.node; moves = m.moves }

found_over : (fs : List (List Message)) (m : Transfer) (to : ℕ) (f : Option Found) → over fs (move_found m to f) ≡ move_found (over fs m) to f
unfolding move_found
found_over fs m to None = refl
found_over fs m to (Some f) = refl

moved_over : (fs : List (List Message)) (m : Transfer) (to : ℕ) (es : List End) → over fs (move_ends m to es) ≡ move_ends (over fs m) to es
moved_over fs m to [] = refl
moved_over fs m to (e ∷ es) = moved_over fs (move_end m to e) to es ∙ ap (λ t. move_ends t to es) (found_over fs m to (terminal_of m.node e))

pub send_behind : (fs : List (List Message)) (n : Node) (given : Applied) → behind fs (send n given) ≡ send (behind fs n) given
unfolding send send_item
send_behind fs n outputs.Nothing = refl
send_behind fs n (outputs.Sent link number item) =
    let t = move_ends (record { node = n; moves = [] }) link.other (moved_ends n link item) in
    let message : List Descriptor → Message = Rattle.ipcz_node.specs.Sends.item_message link number item in
    push_behind fs t.node link.other (message t.moves) ∙
    ap (λ (u : Transfer). push_out u.node link.other (message u.moves)) (moved_over fs (record { node = n; moves = [] }) link.other (moved_ends n link item))
send_behind fs n (outputs.Message to message) = push_behind fs n to message
send_behind fs n (outputs.Discarded number item) = refl

close_behind : (fs : List (List Message)) (n : Node) (end : End) → behind fs (close_end n end) ≡ close_end (behind fs n) end
close_behind fs n end = found_behind fs n (terminal_of n end) (close_at_router n) (close_at_router (behind fs n)) (λ s r. refl)

-- an act of a router
pub act_behind : (fs : List (List Message)) (n : Node) (serial : ℕ) (act : RouterAct) (answer : Answer) →
    behind fs (commit n (acts.Router serial act) answer) ≡ commit (behind fs n) (acts.Router serial act) answer
unfolding commit commit_router
act_behind fs n serial act answer = router_behind fs n (router_in n serial) (commit_router n serial act answer) (commit_router (behind fs n) serial act answer)
    (λ r. send_behind fs (keep_or_drop n serial (apply r act answer) (leaves_by r act)) (output_of r act) ∙
    ap (λ x. send x (output_of r act)) (kept_behind fs n serial (apply r act answer) (leaves_by r act)))

-- a look, and a pending close
pub look_behind : (fs : List (List Message)) (n : Node) (from : ℕ) (answer : Answer) →
    behind fs (commit n (acts.Look from) answer) ≡ commit (behind fs n) (acts.Look from) answer
unfolding commit
look_behind fs n from answer = refl

pub pending_behind : (fs : List (List Message)) (n : Node) (end : End) (answer : Answer) →
    behind fs (commit n (acts.Close end) answer) ≡ commit (behind fs n) (acts.Close end) answer
unfolding commit
pending_behind fs n end answer = close_behind fs (record n { pending = Rattle.ipcz_node.specs.Acts.rest_of n.pending }) end

-- calls
pub put_behind : (fs : List (List Message)) (n : Node) (at : End) (p : parcels.Parcel) → behind fs (put_node n at p) ≡ put_node (behind fs n) at p
put_behind fs n at p = found_behind fs n (terminal_of n at) (put_at_router n p) (put_at_router (behind fs n) p) (λ s r. refl)

pub get_behind : (fs : List (List Message)) (n : Node) (at : End) → behind fs (get_node n at) ≡ get_node (behind fs n) at
get_behind fs n at = found_behind fs n (terminal_of n at) (get_at_router n) (get_at_router (behind fs n)) (λ s r. refl)

pub close_call_behind : (fs : List (List Message)) (n : Node) (at : End) → behind fs (close_node n at) ≡ close_node (behind fs n) at
close_call_behind fs n at = close_behind fs (Rattle.ipcz_node.specs.Node.release_ends n (at ∷ [])) at

pub open_behind : (fs : List (List Message)) (n : Node) (word : ℕ) → behind fs (open_node n word) ≡ open_node (behind fs n) word
open_behind fs n word = refl

-- a message that comes
fit_moves_behind : (fs : List (List Message)) (n : Node) (es : List End) (ds : List Descriptor) → fit_moves n es ds ≡ fit_moves (behind fs n) es ds
fit_moves_behind fs n [] [] = refl
fit_moves_behind fs n [] (d ∷ ds) = refl
fit_moves_behind fs n (e ∷ es) [] = refl
fit_moves_behind fs n (e ∷ es) (d ∷ ds) = rw (fit_moves_behind fs n es ds) refl

terminals_behind : (fs : List (List Message)) (n : Node) (sender : ℕ) (ds : List Descriptor) →
    behind fs (make_terminals n sender ds) ≡ make_terminals (behind fs n) sender ds
terminals_behind fs n sender [] = refl
terminals_behind fs n sender (d ∷ ds) = terminals_behind fs (add_router n (from_descriptor d sender)) sender ds

tell_behind : (fs : List (List Message)) (n : Node) (s : Option Sending) → behind fs (tell n s) ≡ tell (behind fs n) s
unfolding tell
tell_behind fs n None = refl
tell_behind fs n (Some s) = push_behind fs n s.to s.message

pub handle_behind : (fs : List (List Message)) (n : Node) (sender : ℕ) (m : Message) → behind fs (handle n sender m) ≡ handle (behind fs n) sender m
unfolding handle
handle_behind fs n sender (messages.Item link side number item moves) =
    found_behind fs n (link_router n link side) (take_in n sender link side number item moves) (take_in (behind fs n) sender link side number item moves)
    (λ s r. terminals_behind fs (with_router n s _) sender moves)
handle_behind fs n sender (messages.BypassPeer link side old target fresh) =
    found_behind fs n (link_router n link side) _ _ (λ s r. tell_behind fs (with_router n s (bypass_peer r target fresh)) (Some (accept_message r old target fresh)))
handle_behind fs n sender (messages.AcceptBypass old side fresh many) =
    found_behind fs n (link_router n (Central old) side) _ _ (λ s r. tell_behind fs (with_router n s (accept_bypass r sender side fresh many)) (stop_message r r.outward.primary old side many))
handle_behind fs n sender (messages.StopProxying side old in_length out_length) =
    found_behind fs n (link_router n (Central old) side) _ _ (λ s r. tell_behind fs (with_router n s (stop_proxying r in_length out_length)) (will_stop_message (inward_edge r).decaying in_length))
handle_behind fs n sender (messages.ProxyWillStop link side in_length) = found_behind fs n (link_router n link side) _ _ (λ s r. refl)
handle_behind fs n sender (messages.Flush link side) = found_behind fs n (link_router n link side) _ _ (λ s r. refl)

item_fits_behind : (fs : List (List Message)) (n : Node) (sender : ℕ) (link : Rattle.ipcz_base.specs.declared.link_id.LinkId.LinkId) (side : Rattle.ipcz_base.specs.declared.side.Side.Side) (number : ℕ) (item : Rattle.ipcz_base.specs.declared.item.Item.Item) (moves : List Descriptor) (f : Option Found) →
    fits_item n sender link side number item moves f ≡ fits_item (behind fs n) sender link side number item moves f
unfolding fits_item
item_fits_behind fs n sender link side number item moves None = refl
item_fits_behind fs n sender link side number item moves (Some f) = rw (fit_moves_behind fs n (Rattle.ipcz_base.specs.Items.ends_in item) moves) refl

pub fits_behind : (fs : List (List Message)) (n : Node) (sender : ℕ) (m : Message) (source : Option ℕ) → fits n sender m source ≡ fits (behind fs n) sender m source
unfolding fits
fits_behind fs n sender (messages.Item link side number item moves) source = item_fits_behind fs n sender link side number item moves (link_router n link side)
fits_behind fs n sender (messages.BypassPeer link side old target fresh) source = refl
fits_behind fs n sender (messages.AcceptBypass old side fresh many) source = refl
fits_behind fs n sender (messages.StopProxying side old in_length out_length) source = refl
fits_behind fs n sender (messages.ProxyWillStop link side in_length) source = refl
fits_behind fs n sender (messages.Flush link side) source = refl

either_behind : (fs : List (List Message)) (b : Bool) (x y : Node) → behind fs (if b then x else y) ≡ (if b then behind fs x else behind fs y)
either_behind fs true x y = refl
either_behind fs false x y = refl

pub deliver_behind : (fs : List (List Message)) (n : Node) (sender : ℕ) (m : Message) (source : Option ℕ) → behind fs (deliver n sender m source) ≡ deliver (behind fs n) sender m source
unfolding deliver
deliver_behind fs n sender m source = ap (λ x. free_hand x sender)
    (either_behind fs (fits n sender m source) (handle n sender m) (add_stray n m) ∙
    ap (λ b. if b then behind fs (handle n sender m) else add_stray (behind fs n) m) (fits_behind fs n sender m source) ∙
    ap (λ x. if fits (behind fs n) sender m source then x else add_stray (behind fs n) m) (handle_behind fs n sender m))

-- a router that is told that it may ask for a word again
pub rewet_behind : (fs : List (List Message)) (n : Node) (serial : ℕ) → behind fs (rewet_node n serial) ≡ rewet_node (behind fs n) serial
rewet_behind fs n serial = router_behind fs n (router_in n serial) _ _ (λ r. refl)

-- whether an act is a post
abbrev pub is_post : Act → Bool
is_post (acts.Post to) = true
is_post other = false

-- each act but a post does the same
pub commit_behind : (fs : List (List Message)) (n : Node) (act : Act) (answer : Answer) → is_post act ≡ false → behind fs (commit n act answer) ≡ commit (behind fs n) act answer
unfolding commit
commit_behind fs n (acts.Hand sender) answer other = refl
commit_behind fs n (acts.Look sender) answer other = refl
commit_behind fs n (acts.Post to) answer other = absurd (cc)
commit_behind fs n (acts.Close end) answer other = pending_behind fs n end answer
commit_behind fs n (acts.Router serial act) answer other = act_behind fs n serial act answer
commit_behind fs n acts.Idle answer other = refl

-- and is possible there
pub possible_behind : (fs : List (List Message)) (n : Node) (act : Act) → is_post act ≡ false → IsPossibleAct n act → IsPossibleAct (behind fs n) act
possible_behind fs n (acts.Hand sender) other may = may
possible_behind fs n (acts.Look sender) other may = may
possible_behind fs n (acts.Post to) other may = absurd (cc)
possible_behind fs n (acts.Close end) other may = may
possible_behind fs n (acts.Router serial act) other may = may
possible_behind fs n acts.Idle other may = may

serials_behind : (fs : List (List Message)) (n : Node) (given : Applied) → serials_for n given ≡ serials_for (behind fs n) given
unfolding serials_for
serials_behind fs n outputs.Nothing = refl
serials_behind fs n (outputs.Sent link number item) = refl
serials_behind fs n (outputs.Message to message) = refl
serials_behind fs n (outputs.Discarded number item) = refl

serials_at_behind : (fs : List (List Message)) (n : Node) (o : Option Router) (act : RouterAct) → serials_at n o act ≡ serials_at (behind fs n) o act
unfolding serials_at
serials_at_behind fs n None act = refl
serials_at_behind fs n (Some r) act = serials_behind fs n (output_of r act)

-- for want of serials an act is refused there as here
pub act_lacks_behind : (fs : List (List Message)) (n : Node) (act : Act) → act_lacks_serials n act ≡ act_lacks_serials (behind fs n) act
unfolding act_lacks_serials
act_lacks_behind fs n (acts.Hand sender) = refl
act_lacks_behind fs n (acts.Look sender) = refl
act_lacks_behind fs n (acts.Post to) = refl
act_lacks_behind fs n (acts.Close end) = refl
act_lacks_behind fs n (acts.Router serial act) = ap (λ k. not (has_serials n.next_peripheral k)) (serials_at_behind fs n (router_in n serial) act)
act_lacks_behind fs n acts.Idle = refl

-- calls are refused there as here
held_behind : (fs : List (List Message)) (n : Node) (ends : List End) → are_held_once n ends ≡ are_held_once (behind fs n) ends
held_behind fs n [] = refl
held_behind fs n (e ∷ es) = ap (λ b. holds_end n e && (not (has_end e es) && b)) (held_behind fs n es)

pub put_refusal_behind : (fs : List (List Message)) (profile : Profile) (n : Node) (at : End) (bytes : List ℕ) (ends : List End) →
    put_refusal profile n at bytes ends ≡ put_refusal profile (behind fs n) at bytes ends
unfolding put_refusal
put_refusal_behind fs profile n at bytes ends = rw (held_behind fs n ends) refl

pub get_refusal_behind : (fs : List (List Message)) (n : Node) (at : End) → get_refusal n at ≡ get_refusal (behind fs n) at
unfolding get_refusal
get_refusal_behind fs n at = refl

pub close_refusal_behind : (fs : List (List Message)) (n : Node) (at : End) → close_refusal n at ≡ close_refusal (behind fs n) at
unfolding close_refusal
close_refusal_behind fs n at = refl

some_wait : (l : List Message) (x : Message) (xs : List Message) → l ≡ x ∷ xs → not (nat_eq (length l) 0) ≡ true
some_wait l x xs e =
    let n : length l ≡ suc (length xs) = ap length e in
    let none : nat_eq (length l) 0 ≡ false = grind (arith, nat_tests, n) in
    ap not none

-- what is first there is what is first of all that stands in front and waits
pub first_behind : (fs : List (List Message)) (n : Node) (to : ℕ) (x : Message) (xs : List Message) → place_at [] fs to ++ outbox n to ≡ x ∷ xs →
    (post_of (behind fs n) (acts.Post to) ≡ Some x) × (has_mail_for (behind fs n) to ≡ true)
unfolding post_of first_of
first_behind fs n to x xs e =
    let box : outbox (behind fs n) to ≡ x ∷ xs = place_front fs n.outboxes to ∙ e in
    (ap first_of box, some_wait (outbox (behind fs n) to) x xs box)

both : (fs boxes : List (List Message)) (i : ℕ) (x y : List Message) →
    put_place [] (fronted fs boxes) i (x ++ y) ≡ fronted (put_place [] fs i x) (put_place [] boxes i y)
unfolding put_place
both [] [] zero x y = refl
both [] [] (suc i) x y = ap (λ zs. [] ∷ zs) (both [] [] i x y)
both [] (b ∷ boxes) zero x y = refl
both [] (b ∷ boxes) (suc i) x y = ap (λ zs. b ∷ zs) (both [] boxes i x y)
both (f ∷ fs) [] zero x y = ap (λ zs. (x ++ y) ∷ zs) (sym (alone fs))
both (f ∷ fs) [] (suc i) x y =
    ap (λ z. z ∷ put_place [] fs i (x ++ y)) (nothing_behind f) ∙
    ap (λ zs. (f ++ []) ∷ zs) (ap (λ zs. put_place [] zs i (x ++ y)) (sym (alone fs)) ∙ both fs [] i x y)
both (f ∷ fs) (b ∷ boxes) zero x y = refl
both (f ∷ fs) (b ∷ boxes) (suc i) x y = ap (λ zs. (f ++ b) ∷ zs) (both fs boxes i x y)

-- a post of the first message, if nothing stood in front: what of the outbox goes with it stands in front then
pub batch_post : (fs : List (List Message)) (n : Node) (to : ℕ) (x : Message) (xs ys : List Message) (answer : Answer) → place_at [] fs to ≡ [] →
    outbox n to ≡ x ∷ xs ++ ys → commit (behind fs n) (acts.Post to) answer ≡ behind (put_place [] fs to xs) (with_outbox n to ys)
unfolding commit rest_of
batch_post fs n to x xs ys answer none box =
    ap (λ (l : List Message). record n { outboxes = put_place [] (fronted fs n.outboxes) to (rest_of l) })
    (place_front fs n.outboxes to ∙ (ap (λ l. l ++ outbox n to) none ∙ box)) ∙
    ap (λ boxes. record n { outboxes = boxes }) (both fs n.outboxes to xs ys)

-- a post there, if nothing stands in front
pub post_under : (fs : List (List Message)) (n : Node) (to : ℕ) (answer : Answer) → place_at [] fs to ≡ [] →
    commit (behind fs n) (acts.Post to) answer ≡ behind fs (with_outbox n to (rest_of (outbox n to)))
unfolding commit
post_under fs n to answer none =
    ap (λ (l : List Message). record n { outboxes = put_place [] (fronted fs n.outboxes) to (rest_of l) })
    (place_front fs n.outboxes to ∙ ap (λ l. l ++ outbox n to) none) ∙
    ap (λ boxes. record n { outboxes = boxes })
    (ap (λ l. put_place [] (fronted fs n.outboxes) to (l ++ rest_of (outbox n to))) (sym none) ∙ sym (put_front fs n.outboxes to (rest_of (outbox n to))))

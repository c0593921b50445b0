-- What an act is seen to do, as the transcript prints it.
use Rattle.std.specs.Prelude.{ℕ, if◌then◌else◌, Option, Some, None, List, []}
use Rattle.ipcz_base.specs.declared.end.End.{End}
use Rattle.ipcz_base.specs.declared.link_id.LinkId.{LinkId}
use Rattle.ipcz_base.specs.declared.link_id.LinkId.TheVariants.{Central}
use Rattle.ipcz_base.specs.declared.link_end.LinkEnd.{LinkEnd}
use Rattle.ipcz_base.specs.declared.message.Message.{Message}
use Rattle.ipcz_base.specs.declared.message.Message.TheVariants as messages
use Rattle.ipcz_router.specs.Router.{Router, inward_edge}
use Rattle.ipcz_router.specs.Acts.{has_gone_next}
use Rattle.ipcz_router.specs.Calls.{next_number}
use Rattle.ipcz_base.specs.Items.{is_gone_item}
use Rattle.ipcz_router.specs.ActEffects.{output_of}
use Rattle.ipcz_router.specs.declared.act.RouterAct.{RouterAct}
use Rattle.ipcz_router.specs.declared.act.RouterAct.TheVariants as acts
use Rattle.ipcz_router.specs.declared.act.Answer.{Answer}
use Rattle.ipcz_router.specs.declared.act.Answer.TheVariants as answers
use Rattle.ipcz_router.specs.declared.act.Applied.{Applied}
use Rattle.ipcz_router.specs.declared.act.Applied.TheVariants as outputs
use Rattle.ipcz_node.specs.declared.act.Act.{Act}
use Rattle.ipcz_node.specs.declared.act.Act.TheVariants.{Hand, Look, Post, Close, Router as OfRouter, Idle}
use Rattle.ipcz_node.specs.declared.happened.Handed.{Handed}
use Rattle.ipcz_node.specs.declared.happened.Handed.TheVariants as kinds
use Rattle.ipcz_node.specs.declared.happened.Happened.{Happened}
use Rattle.ipcz_node.specs.declared.happened.Happened.TheVariants as events
use Rattle.ipcz_node.specs.Node.{Node, router_in}
use Rattle.ipcz_node.specs.Sends.{moved_ends}
use Rattle.ipcz_node.specs.Hands.{link_asked, is_unfit}

-- what kind of message it is
unfoldable pub kind_of : Message → Handed
kind_of (messages.Item link side number item moves) = kinds.Item number
kind_of (messages.BypassPeer link side old target fresh) = kinds.BypassPeer
kind_of (messages.AcceptBypass old side fresh length) = kinds.AcceptBypass
kind_of (messages.StopProxying side old in_length out_length) = kinds.StopProxying
kind_of (messages.ProxyWillStop link side in_length) = kinds.ProxyWillStop
kind_of (messages.Flush link side) = kinds.Flush

-- what delivering a message from a node is seen to do
unfoldable pub hand_event : Node → ℕ → Message → Option ℕ → Happened
hand_event n sender m source = events.Hand (kind_of m) (link_asked m) (is_unfit n sender m source)

-- the link of a link end, or, if there is none, the link of word 0, which is then never asked for
unfoldable pub link_of : Option LinkEnd → LinkId
link_of None = Central 0
link_of (Some e) = e.link

-- a send as an event
unfoldable pub send_event : Node → (ℕ → LinkId → List End → Happened) → Applied → Happened
send_event n event (outputs.Sent link number item) = event number link.link (moved_ends n link item)
send_event n event other = events.Idle

-- what an act on a word is seen to do, by its answer
unfoldable pub word_event : ℕ → LinkId → Answer → Happened
word_event serial link answers.Plain = events.Idle
word_event serial link (answers.Claimed i) = events.Claim serial i
word_event serial link answers.NoWord = events.ClaimNoWord serial
word_event serial link (answers.Marked word was_waiting) = events.Mark serial link word
word_event serial link (answers.Word word) = events.Wake serial link word
word_event serial link (answers.Locked word) = events.Lock serial link word
word_event serial link (answers.Waiting word) = events.Wait serial link word
word_event serial link (answers.Refused word) = events.Refused serial link word

-- what an unlock is seen to do, by its answer
unfoldable pub unlock_event : ℕ → LinkId → Answer → Happened
unlock_event serial link (answers.Word word) = events.Unlock serial link word
unlock_event serial link other = events.Idle

-- what an act of this router is seen to do
unfoldable pub router_event : Node → ℕ → Router → RouterAct → Answer → Happened
router_event n s r acts.SendOut a = send_event n (λ number link ends. events.SendOut s number link ends) (output_of r acts.SendOut)
router_event n s r acts.SendIn a = send_event n (λ number link ends. events.SendIn s number link ends) (output_of r acts.SendIn)
router_event n s r acts.Discard a =
    if has_gone_next r then events.DiscardLeave s r.in_queue.current else events.Discard s r.in_queue.current
router_event n s r acts.FinishOut a = events.FinishOut s (link_of r.outward.decaying)
router_event n s r acts.FinishIn a = events.FinishIn s (link_of (inward_edge r).decaying)
router_event n s r acts.Leave a = events.Leave s
router_event n s r acts.Mark a = word_event s (link_of r.outward.primary) a
router_event n s r acts.Wake a = word_event s (link_of r.outward.primary) a
router_event n s r acts.Claim a = word_event s (link_of r.outward.primary) a
router_event n s r acts.Lock a = word_event s (link_of r.outward.primary) a
router_event n s r acts.Begin a = events.Begin s (link_of r.outward.primary)
router_event n s r acts.Retire a = events.Retire s (next_number r) (link_of r.outward.primary)
router_event n s r acts.Unlock a = unlock_event s (link_of r.outward.primary) a
router_event n s r acts.Rest a = events.Rest s

-- what an act of the router that stands there is seen to do
unfoldable pub event_at : Node → ℕ → Option Router → RouterAct → Answer → Happened
event_at n serial None act answer = events.Idle
event_at n serial (Some r) act answer = router_event n serial r act answer

-- what an act is seen to do; a hand is seen by its message
unfoldable pub event_of : Node → Act → Answer → Happened
event_of n (Hand sender) answer = events.Idle
event_of n (Look sender) answer = events.Look sender
event_of n (Post to) answer = events.Post to
event_of n (Close end) answer = events.Close end
event_of n (OfRouter serial act) answer = event_at n serial (router_in n serial) act answer
event_of n Idle answer = events.Idle

-- the link that an act of a router is about, if it is about one
unfoldable pub link_acted : Router → RouterAct → LinkId
link_acted r acts.FinishOut = link_of r.outward.decaying
link_acted r acts.FinishIn = link_of (inward_edge r).decaying
link_acted r other = link_of r.outward.primary

-- the ends that are moved by what an act gives
unfoldable pub moved_by : Node → Applied → List End
moved_by n (outputs.Sent link number item) = moved_ends n link item
moved_by n other = []

-- a send as an event, with the ends that it moved
unfoldable pub sent_event : (ℕ → LinkId → List End → Happened) → Applied → List End → Happened
sent_event event (outputs.Sent link number item) moved = event number link.link moved
sent_event event other moved = events.Idle

-- an item that was dropped as an event
unfoldable pub dropped_event : ℕ → Applied → Happened
dropped_event serial (outputs.Discarded number item) =
    if is_gone_item item then events.DiscardLeave serial number else events.Discard serial number
dropped_event serial other = events.Idle

-- Gone as an event
unfoldable pub retired_event : ℕ → Applied → Happened
retired_event serial (outputs.Sent link number item) = events.Retire serial number link.link
retired_event serial other = events.Idle

-- what an act is seen to do, by the link that it is about, by what it gave and by the ends that this moved
unfoldable pub act_event : ℕ → LinkId → RouterAct → Answer → Applied → List End → Happened
act_event s link acts.SendOut a output moved = sent_event (λ number link ends. events.SendOut s number link ends) output moved
act_event s link acts.SendIn a output moved = sent_event (λ number link ends. events.SendIn s number link ends) output moved
act_event s link acts.Discard a output moved = dropped_event s output
act_event s link acts.FinishOut a output moved = events.FinishOut s link
act_event s link acts.FinishIn a output moved = events.FinishIn s link
act_event s link acts.Leave a output moved = events.Leave s
act_event s link acts.Mark a output moved = word_event s link a
act_event s link acts.Wake a output moved = word_event s link a
act_event s link acts.Claim a output moved = word_event s link a
act_event s link acts.Lock a output moved = word_event s link a
act_event s link acts.Begin a output moved = events.Begin s link
act_event s link acts.Retire a output moved = retired_event s output
act_event s link acts.Unlock a output moved = unlock_event s link a
act_event s link acts.Rest a output moved = events.Rest s

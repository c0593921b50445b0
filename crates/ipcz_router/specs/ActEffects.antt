-- What an act does to its router, by the answer of whoever keeps the link words, and what it gives to the node.
-- (ipcz: Router::Flush again. That an act and its answer are apart is this project's own: ipcz's routers change the link state themselves.)
use Rattle.std.specs.Prelude.{◌≡◌, ℕ, ◌<◌, Bool, true, false, Option, Some, None, option_map}
use Rattle.ipcz_base.specs.declared.link_end.LinkEnd.{LinkEnd}
use Rattle.ipcz_base.specs.declared.item.Item.{Item}
use Rattle.ipcz_base.specs.declared.item.Item.TheVariants.{Gone}
use Rattle.ipcz_base.specs.declared.message.Message.TheVariants.{BypassPeer, Flush}
use Rattle.ipcz_base.specs.Limits.{no_number}
use Rattle.ipcz_base.specs.Links.{word_of}
use Rattle.ipcz_base.specs.Sides.{opposite}
use Rattle.ipcz_edge.specs.Edge.{begin_decay, finish}
use Rattle.ipcz_seq.specs.Queue.{current_item}
use Rattle.ipcz_router.specs.declared.act.RouterAct.{RouterAct}
use Rattle.ipcz_router.specs.declared.act.RouterAct.TheVariants.{SendOut, SendIn, Discard, FinishOut, FinishIn, Leave, Mark, Wake, Claim}
use Rattle.ipcz_router.specs.declared.act.RouterAct.TheVariants.{Lock, Begin, Retire, Unlock, Rest}
use Rattle.ipcz_router.specs.declared.act.Answer.{Answer}
use Rattle.ipcz_router.specs.declared.act.Answer.TheVariants.{Plain, Claimed, NoWord, Marked, Word, Locked, Waiting, Refused}
use Rattle.ipcz_router.specs.declared.act.Applied.{Applied}
use Rattle.ipcz_router.specs.declared.act.Applied.TheVariants.{Nothing, Sent, Message, Discarded}
use Rattle.ipcz_router.specs.Router.{Router, inward_edge}
use Rattle.ipcz_router.specs.ActTable.{may_take}
use Rattle.ipcz_router.specs.declared.sending.Sending.{Sending}
use Rattle.ipcz_router.specs.Bypass.{relink}
use Rattle.ipcz_router.specs.Acts.{way_out, way_in, pop_out, send_on, drop_item, has_gone_next, rest}
use Rattle.ipcz_router.specs.Calls.{next_number}

-- an answer is of an act's kind: what a claim, a mark, a wake, a try for the lock or an unlock may be told; to each other act, that it
-- touches no word
abbrev pub IsAnswerOf : RouterAct → Answer → Type 0
IsAnswerOf Claim (Claimed i) = Unit {0}
IsAnswerOf Claim NoWord = Unit {0}
IsAnswerOf Claim other = ⊥
IsAnswerOf Mark (Marked word was_waiting) = Unit {0}
IsAnswerOf Mark other = ⊥
IsAnswerOf Wake (Word word) = Unit {0}
IsAnswerOf Wake other = ⊥
IsAnswerOf Lock (Locked word) = Unit {0}
IsAnswerOf Lock (Waiting word) = Unit {0}
IsAnswerOf Lock (Refused word) = Unit {0}
IsAnswerOf Lock other = ⊥
IsAnswerOf Unlock (Word word) = Unit {0}
IsAnswerOf Unlock other = ⊥
IsAnswerOf act Plain = Unit {0}
IsAnswerOf act other = ⊥

-- what an act asks for: that it is possible, and an answer of its kind
abbrev pub IsAsked : Router → RouterAct → Answer → Type 0
IsAsked r act answer = (may_take r act ≡ true) × IsAnswerOf act answer

-- the outward edge gives up its decaying link
abbrev pub finish_out : Router → Router
finish_out r = record r { outward = finish r.outward }

-- the inward edge gives up its decaying link
abbrev pub finish_in : Router → Router
finish_in r = record r { inward = option_map finish r.inward }

-- its side is marked, and the wake is owed if the other side was waiting
abbrev pub mark_side : Router → Bool → Router
mark_side r was_waiting = record r { marked = true; wake_owed = was_waiting }

-- the other side is woken
abbrev pub wake_other : Router → Router
wake_other r = record r { wake_owed = false }

-- a word is claimed
abbrev pub claim_word : Router → ℕ → Router
claim_word r i = record r { spare = Some i }

-- no word was left
abbrev pub run_dry : Router → Router
run_dry r = record r { dry = true }

-- the router may claim again
abbrev pub rewet : Router → Router
rewet r = record r { dry = false; flagged = true }

-- the lock is got
abbrev pub take_lock : Router → Router
take_lock r = record r { holds = true }

-- the lock is not got
abbrev pub fail_lock : Router → Router
fail_lock r = record r { tried = true }

-- the lock is given back, and the router stays flagged
abbrev pub drop_lock : Router → Router
drop_lock r = record r { holds = false; flagged = true }

-- both edges let their primary link decay
abbrev pub begin_bypass : Router → Router
begin_bypass r = record (relink r (begin_decay r.outward)) { inward = option_map begin_decay r.inward; spare = None }

-- the router after an act with its answer; an answer of another kind does nothing
unfoldable pub apply : Router → RouterAct → Answer → Router
apply r SendOut a = pop_out r
apply r SendIn a = send_on r
apply r Discard a = drop_item r
apply r FinishOut a = finish_out r
apply r FinishIn a = finish_in r
apply r Leave a = r
apply r Mark (Marked word was_waiting) = mark_side r was_waiting
apply r Mark other = r
apply r Wake a = wake_other r
apply r Claim (Claimed i) = claim_word r i
apply r Claim NoWord = run_dry r
apply r Claim other = r
apply r Lock (Locked word) = take_lock r
apply r Lock (Waiting word) = fail_lock r
apply r Lock (Refused word) = fail_lock r
apply r Lock other = r
apply r Begin a = begin_bypass r
apply r Retire a = r
apply r Unlock a = drop_lock r
apply r Rest a = rest r

-- whether a router leaves its node by an act: by a leave, a retire, or the discard of Gone
unfoldable pub leaves_by : Router → RouterAct → Bool
leaves_by r Leave = true
leaves_by r Retire = true
leaves_by r Discard = has_gone_next r
leaves_by r other = false

-- what tells the router inward that the bypass begins
abbrev pub peer_message : LinkEnd → LinkEnd → ℕ → ℕ → Sending
peer_message inner outer old fresh =
    record { to = inner.other; message = BypassPeer inner.link (opposite inner.side) old outer.other fresh }

-- the same, from what the router has
unfoldable pub begin_message : Option LinkEnd → Option LinkEnd → Option ℕ → Option Sending
begin_message None outer fresh = None
begin_message (Some inner) None fresh = None
begin_message (Some inner) (Some outer) None = None
begin_message (Some inner) (Some outer) (Some fresh) = option_map (λ old. peer_message inner outer old fresh) (word_of (Some outer))

-- what tells the other side that it may try again
unfoldable pub flush_message : Option LinkEnd → Option Sending
flush_message None = None
flush_message (Some e) = Some (record { to = e.other; message = Flush e.link (opposite e.side) })

-- an item over a link end, if there are both
unfoldable pub item_output : Option LinkEnd → ℕ → Option Item → Applied
item_output None n item = Nothing
item_output (Some e) n None = Nothing
item_output (Some e) n (Some item) = Sent e n item

-- a message to a node, if there is one
unfoldable pub message_output : Option Sending → Applied
message_output None = Nothing
message_output (Some s) = Message s.to s.message

-- an item that is dropped, if there is one
unfoldable pub discard_output : ℕ → Option Item → Applied
discard_output n None = Nothing
discard_output n (Some item) = Discarded n item

-- Gone with the number after the mark, over the link of a sink that retires, if there is one
unfoldable pub retire_output : Option LinkEnd → ℕ → Applied
retire_output None n = Nothing
retire_output (Some e) n = Sent e n Gone

-- what an act gives to the node
unfoldable pub output_of : Router → RouterAct → Applied
output_of r SendOut = item_output (way_out r) r.out_queue.current (current_item r.out_queue)
output_of r SendIn = item_output (way_in r) r.in_queue.current (current_item r.in_queue)
output_of r Discard = discard_output r.in_queue.current (current_item r.in_queue)
output_of r Wake = message_output (flush_message r.outward.primary)
output_of r Begin = message_output (begin_message (inward_edge r).primary r.outward.primary r.spare)
output_of r Retire = retire_output r.outward.primary (next_number r)
output_of r other = Nothing

-- what a node is given is of an act's kind: an item that is sent, one that is dropped, or a message; a begin whose inward edge has no
-- link has nobody to tell
abbrev pub IsOutputOf : RouterAct → Applied → Type 0
IsOutputOf SendOut (Sent link n item) = Unit {0}
IsOutputOf SendOut other = ⊥
IsOutputOf SendIn (Sent link n item) = Unit {0}
IsOutputOf SendIn other = ⊥
IsOutputOf Discard (Discarded n item) = Unit {0}
IsOutputOf Discard other = ⊥
IsOutputOf Wake (Message to message) = Unit {0}
IsOutputOf Wake other = ⊥
IsOutputOf Begin (Message to message) = Unit {0}
IsOutputOf Retire (Sent link n item) = Unit {0}
IsOutputOf Retire other = ⊥
IsOutputOf act Nothing = Unit {0}
IsOutputOf act other = ⊥

-- what is sent has a number that the router at the other end may be given
abbrev pub IsBelowNoNumber : Applied → Type 0
IsBelowNoNumber (Sent link n item) = n < no_number
IsBelowNoNumber other = Unit {0}

-- The steps of the world: open, put, get, close and turn, each with its reply and the world after it.
use Rattle.std.specs.Prelude.{◌≡◌, ◌⊎◌, ◌<◌, ℕ, ◌+◌, Bool, true, false, nat_lt, if◌then◌else◌, IsTrue, Option, Some, None, Result, Ok, Err, List}
use Rattle.ipcz_base.specs.declared.side.Side.TheVariants.{A, B}
use Rattle.ipcz_base.specs.declared.end.End.{End}
use Rattle.ipcz_base.specs.declared.parcel.Parcel as parcels
use Rattle.ipcz_base.specs.declared.parcel.Sizes.{Sizes}
use Rattle.ipcz_base.specs.declared.profile.Profile.{Profile}
use Rattle.ipcz_base.specs.declared.profile.Profile.TheVariants as profiles
use Rattle.ipcz_base.specs.declared.item.Item.{Item}
use Rattle.ipcz_base.specs.declared.item.Item.TheVariants.{Parcel, Mark, Gone}
use Rattle.ipcz_base.specs.declared.refusal.Refusal.{Refusal}
use Rattle.ipcz_base.specs.declared.refusal.Refusal.TheVariants as refusals
use Rattle.ipcz_base.specs.Ends.{end_at}
use Rattle.ipcz_base.specs.Items.{sizes_of}
use Rattle.ipcz_seq.specs.Queue.{current_item}
use Rattle.ipcz_word.specs.Word.{open_word}
use Rattle.ipcz_node.specs.declared.act.Act.{Act}
use Rattle.ipcz_node.specs.declared.state.calls.PutRefused.{PutRefused}
use Rattle.ipcz_node.specs.Node.{Found, terminal_of}
use Rattle.ipcz_node.specs.Calls.{put_refusal, put_node, put_number, get_refusal, get_node, close_refusal, close_node, serials_refusal}
use Rattle.ipcz_node.specs.Calls.{open_node}
use Rattle.ipcz_node.specs.Acts.{stand_in}
use Rattle.ipcz_world.specs.declared.step.Step.{Step}
use Rattle.ipcz_world.specs.declared.step.Step.TheVariants.{Open, Put, PutWide, Get, Close, Turn}
use Rattle.ipcz_world.specs.declared.step.Reply.{Reply}
use Rattle.ipcz_world.specs.declared.step.Reply.TheVariants as replies
use Rattle.ipcz_world.specs.World.{World, has_unclaimed_word, node_at, set_node, set_word, set_claimed}
use Rattle.ipcz_world.specs.Turns.{next_at, after_act, turn_event, turn_lacks_serials, turn_grows, can_take}

-- a reply with the world after it
pub record Effect : Type 0 where
  pub reply : Reply
  pub world : World

-- a refusal leaves the world
abbrev pub refuse : World → Refusal → Effect
refuse w why = record { reply = replies.Refused why; world = w }

-- an effect, or the refusal if there is one
unfoldable pub unless : World → Option Refusal → Effect → Effect
unless w None done = done
unless w (Some why) done = refuse w why

-- an effect, if the node is one of the world's
abbrev pub at_node : World → ℕ → Effect → Effect
at_node w n done = if nat_lt n w.count then done else refuse w refusals.Stranger

-- the answer to an open: the ends of the pair that it made on a word
abbrev pub opened_reply : ℕ → Reply
opened_reply i = replies.Opened (end_at i A) (end_at i B)

-- a pair is opened on a word, over a world in which that word is claimed
abbrev pub open_with : World → World → ℕ → ℕ → Effect
open_with w counted n i = unless w (serials_refusal (node_at w n)) (record {
  reply = opened_reply i;
  world = set_word (set_node counted n (open_node (node_at w n) i)) i open_word;
})

-- an open: on the word of an open under way, else on the next word, if there is one
unfoldable pub open_on : World → ℕ → Option ℕ → Effect
open_on w n (Some i) = open_with w w n i
open_on w n None = if has_unclaimed_word w then open_with w (set_claimed w (w.claimed + 1)) n w.claimed else refuse w refusals.NoWord

-- an open
abbrev pub open_step : World → ℕ → Effect
open_step w n = at_node w n (open_on w n (node_at w n).opening)

-- the first half of an open: a word is claimed for it
abbrev pub claim_for_open : World → ℕ → World
claim_for_open w n = set_claimed (set_node w n (record (node_at w n) { opening = Some w.claimed })) (w.claimed + 1)

-- what a put answers, as a reply
unfoldable pub put_reply : Result ℕ PutRefused → Reply
put_reply (Ok number) = replies.Put number
put_reply (Err refused) = replies.Refused refused.why

-- the step that puts a parcel of a profile
abbrev pub put_of : Profile → ℕ → End → List ℕ → List End → Step
put_of profiles.Printed n at bytes ends = Put n at bytes ends
put_of profiles.Wide n at bytes ends = PutWide n at bytes ends

-- a put
abbrev pub put_step : Profile → World → ℕ → End → parcels.Parcel → Effect
put_step profile w n at p = at_node w n (unless w (put_refusal profile (node_at w n) at p.bytes p.ends) (record {
  reply = replies.Put (put_number (node_at w n) at);
  world = set_node w n (put_node (node_at w n) at p);
}))

-- the reply of a get that finds this item
unfoldable pub got_reply : ℕ → Option Item → Reply
got_reply number None = replies.Refused refusals.Empty
got_reply number (Some (Parcel p)) = replies.Got number p
got_reply number (Some Mark) = replies.Refused refusals.PeerClosed
got_reply number (Some Gone) = replies.Refused refusals.PeerClosed

-- the reply of a get at the terminal that was found
unfoldable pub get_reply : Option Found → Reply
get_reply None = replies.Refused refusals.Stranger
get_reply (Some f) = got_reply f.router.in_queue.current (current_item f.router.in_queue)

-- a get
abbrev pub get_step : World → ℕ → End → Effect
get_step w n at = at_node w n (unless w (get_refusal (node_at w n) at) (record {
  reply = get_reply (terminal_of (node_at w n) at);
  world = set_node w n (get_node (node_at w n) at);
}))

-- the sizes of the parcel that a reply gives, if it gives one
unfoldable pub sizes_given : Reply → Option Sizes
sizes_given (replies.Got number p) = Some (sizes_of p)
sizes_given other = None

-- the sizes of the parcel that a get would give, if it isn't refused
abbrev pub next_sizes : World → ℕ → End → Option Sizes
next_sizes w n at = sizes_given (get_step w n at).reply

-- a close
abbrev pub close_step : World → ℕ → End → Effect
close_step w n at = at_node w n (unless w (close_refusal (node_at w n) at) (record {
  reply = replies.Closed (put_number (node_at w n) at);
  world = set_node w n (close_node (node_at w n) at);
}))

-- a turn that takes this act
abbrev pub turn_step : World → ℕ → Act → Effect
turn_step w n act = at_node w n (unless w (if turn_lacks_serials w n act then Some refusals.NumbersEnd else None) (record {
  reply = replies.Turned (turn_event w n act);
  world = after_act w n act;
}))

-- a step with ample memory, in which a turn takes the first possible act
unfoldable pub first_step : World → Step → Effect
first_step w (Open n) = open_step w n
first_step w (Put n at bytes ends) = put_step profiles.Printed w n at (record { bytes = bytes; ends = ends })
first_step w (PutWide n at bytes ends) = put_step profiles.Wide w n at (record { bytes = bytes; ends = ends })
first_step w (Get n at) = get_step w n at
first_step w (Close n at) = close_step w n at
first_step w (Turn n) = turn_step w n (next_at w n)

-- what tells which act a node's turn may take
abbrev pub Scheduler : Type 1
Scheduler = World → ℕ → Act → Type 0

-- any possible act, if the node is one of the world's: the turn of another is refused whatever the act
abbrev pub AnyAct : Scheduler
AnyAct w n act = n < w.count → IsTrue (can_take w n act)

-- the first possible act; or what stands in for it, only if it makes something grow
abbrev pub FirstAct : Scheduler
FirstAct w n act = (act ≡ next_at w n) ⊎ ((act ≡ stand_in (next_at w n)) × (turn_grows w n (next_at w n) ≡ true))

-- the effect has this reply and this world
abbrev pub Gives : Effect → Reply → World → Type 0
Gives done reply v = (reply ≡ done.reply) × (v ≡ done.world)

-- no memory was found, and the world is as it was
abbrev pub FindsNoMemory : World → Reply → World → Type 0
FindsNoMemory w reply v = (reply ≡ replies.Refused refusals.OutOfMemory) × (v ≡ w)

-- whether a reply is a refusal
unfoldable pub is_refused : Reply → Bool
is_refused (replies.Refused why) = true
is_refused other = false

-- the effect, or want of memory if nothing else refuses
abbrev pub GivesOrNoMemory : World → Effect → Reply → World → Type 0
GivesOrNoMemory w done reply v = Gives done reply v ⊎ ((is_refused done.reply ≡ false) × FindsNoMemory w reply v)

-- the effect of a put, or want of memory before all else but a number that is no node's
abbrev pub PutGives : World → ℕ → Effect → Reply → World → Type 0
PutGives w n done reply v = Gives done reply v ⊎ ((n < w.count) × FindsNoMemory w reply v)

-- the effect of an act, or want of memory if the act makes something grow and nothing else refuses; a begin or a retire that finds none
-- is an unlock
abbrev pub ActGives : World → ℕ → Act → Effect → Reply → World → Type 0
ActGives w n act done reply v =
    Gives done reply v ⊎ ((turn_grows w n act ≡ true) × (act ≡ stand_in act) × (is_refused done.reply ≡ false) × FindsNoMemory w reply v)

-- which reply and which world may follow a step; a turn takes an act that the scheduler allows
abbrev pub StepBy : Scheduler → World → Step → Reply → World → Type 0
StepBy May w (Open n) reply v = GivesOrNoMemory w (open_step w n) reply v
StepBy May w (Put n at bytes ends) reply v = PutGives w n (put_step profiles.Printed w n at (record { bytes = bytes; ends = ends })) reply v
StepBy May w (PutWide n at bytes ends) reply v = PutGives w n (put_step profiles.Wide w n at (record { bytes = bytes; ends = ends })) reply v
StepBy May w (Get n at) reply v = Gives (get_step w n at) reply v
StepBy May w (Close n at) reply v = GivesOrNoMemory w (close_step w n at) reply v
StepBy May w (Turn n) reply v = (act : Act) × May w n act × ActGives w n act (turn_step w n act) reply v

-- a step in which a turn takes any possible act: what the laws speak of
abbrev pub StepAny : World → Step → Reply → World → Type 0
StepAny = StepBy AnyAct

-- a step in which a turn takes the first possible act: what the code does
abbrev pub StepFirst : World → Step → Reply → World → Type 0
StepFirst = StepBy FirstAct

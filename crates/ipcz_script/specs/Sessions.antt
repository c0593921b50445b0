-- A session: the world with the names that a script has bound to ends, and what each command does to it.
use Rattle.std.specs.Prelude.{◌≡◌, ◌⊎◌, ◌+◌, ℕ, zero, suc, Bool, true, false, MatchBool, Option, Some, None, List, [], ◌∷◌}
use Rattle.std.specs.FinMap.{get, insert, empty}
use Rattle.ipcz_base.specs.declared.side.Side.TheVariants.{A, B}
use Rattle.ipcz_base.specs.declared.end.End.{End}
use Rattle.ipcz_base.specs.declared.refusal.Refusal.TheVariants.{OutOfMemory, NumbersEnd}
use Rattle.ipcz_base.specs.Ends.{end_at}
use Rattle.ipcz_node.specs.FirstPairs.{first_pairs}
use Rattle.ipcz_node.specs.declared.happened.Happened.TheVariants.{Idle}
use Rattle.ipcz_world.specs.declared.step.Step.{Step}
use Rattle.ipcz_world.specs.declared.step.Step.TheVariants as steps
use Rattle.ipcz_world.specs.declared.step.Reply.{Reply}
use Rattle.ipcz_world.specs.declared.step.Reply.TheVariants as replies
use Rattle.ipcz_world.specs.declared.step.Settled.TheVariants as ends
use Rattle.ipcz_world.specs.World.{World, new_world}
use Rattle.ipcz_world.specs.Holding.{holder_of, shown_words}
use Rattle.ipcz_world.specs.Steps.{StepFirst, Effect, first_step}
use Rattle.ipcz_world.specs.Settling.{IsSettle, IsRefusedSettle}
use Rattle.ipcz_script.specs.declared.command.Command.{Command}
use Rattle.ipcz_script.specs.declared.command.Command.TheVariants as commands
use Rattle.ipcz_script.specs.declared.said.Said.{Said}
use Rattle.ipcz_script.specs.declared.said.Said.TheVariants as said
use Rattle.ipcz_script.specs.Bindings.{Bindings, Titles}
use Rattle.ipcz_script.specs.Labels.{pair_name}
use Rattle.ipcz_script.specs.Each.{each_of}

-- the world, the ends that names are bound to, and the names that ends have
pub record Session : Type 0 where
  pub world : World
  pub names : Bindings
  pub titles : Titles

-- the session with another world
abbrev pub with_world : Session → World → Session
with_world s w = record s { world = w }

-- the session with a name bound to an end
abbrev pub bind : Session → List ℕ → End → Session
bind s name end = record s { names = insert s.names name end; titles = insert s.titles end name }

-- the session with the names of a first pair
abbrev pub bind_pair : Session → ℕ → ℕ → ℕ → Session
bind_pair s pair i j = bind (bind s (pair_name i j) (end_at pair A)) (pair_name j i) (end_at pair B)

-- the session with the names of these first pairs, numbered from a number on
abbrev pub bind_pairs : Session → ℕ → List (ℕ × ℕ) → Session
bind_pairs s pair [] = s
bind_pairs s pair (p ∷ ps) = bind_pairs (bind_pair s pair p.0 p.1) (pair + 1) ps

-- a session of this world, in which no name is bound
abbrev pub nameless : World → Session
nameless w = record { world = w; names = empty; titles = empty }

-- the session before the first command
abbrev pub new_session : ℕ → ℕ → Session
new_session nodes words = bind_pairs (nameless (new_world nodes words)) 0 (first_pairs nodes)

-- what a command is answered, with the session after it
pub record Replied : Type 0 where
  pub said : Said
  pub session : Session

-- what a command is answered if a step of the world replies this
unfoldable pub answer_to : Reply → Said
answer_to (replies.Opened a b) = said.Opened
answer_to (replies.Put n) = said.Put n
answer_to (replies.Got n parcel) = said.Got n parcel
answer_to (replies.Closed n) = said.Closed n
answer_to (replies.Turned event) = said.Turned (replies.Turned event ∷ [])
answer_to (replies.Refused why) = said.Refused why

-- the session once an open has answered: one that succeeds binds its two names
unfoldable pub name_pair : Session → List ℕ → List ℕ → Reply → Session
name_pair s first second (replies.Opened a b) = bind (bind s first a) second b
name_pair s first second other = s

-- a step of the world
abbrev pub replied_step : Session → Effect → Replied
replied_step s done = record { said = answer_to done.reply; session = with_world s done.world }

-- an open
abbrev pub replied_open : Session → List ℕ → List ℕ → Effect → Replied
replied_open s first second done =
    record { said = answer_to done.reply; session = name_pair (with_world s done.world) first second done.reply }

-- a call with what names are bound to, if they are bound
unfoldable pub if_known : {X : Type 0} → Session → Option X → (X → Replied) → Replied
if_known s None call = record { said = said.UnknownName; session = s }
if_known s (Some x) call = call x

-- a call at the node whose callers hold the end, if some do
unfoldable pub if_held : Session → Option ℕ → (ℕ → Replied) → Replied
if_held s None call = record { said = said.Away; session = s }
if_held s (Some node) call = call node

-- the ends that these names are bound to, if each is bound
abbrev pub ends_of : Bindings → List (List ℕ) → Option (List End)
ends_of names attached = each_of (get names) attached

-- a step at the node whose callers hold the end
abbrev pub replied_at : Session → End → (ℕ → Step) → Replied
replied_at s end step = if_held s (holder_of s.world end) (λ node. replied_step s (first_step s.world (step node)))

-- a put
abbrev pub replied_put : Session → List ℕ → List ℕ → List (List ℕ) → Replied
replied_put s at text attached =
    if_known s (get s.names at)
    (λ end. if_known s (ends_of s.names attached) (λ ends. replied_at s end (λ node. steps.Put node end text ends)))

-- a get
abbrev pub replied_get : Session → List ℕ → Replied
replied_get s at = if_known s (get s.names at) (λ end. replied_at s end (λ node. steps.Get node end))

-- a close
abbrev pub replied_close : Session → List ℕ → Replied
replied_close s at = if_known s (get s.names at) (λ end. replied_at s end (λ node. steps.Close node end))

-- whether a step is a turn
abbrev pub is_turn : Step → Bool
is_turn (steps.Turn node) = true
is_turn other = false

-- whether a reply says that no memory was found
unfoldable pub is_want : Reply → Bool
is_want (replies.Refused OutOfMemory) = true
is_want other = false

-- whether a reply is that of an idle turn
unfoldable pub is_idle_reply : Reply → Bool
is_idle_reply (replies.Turned Idle) = true
is_idle_reply other = false

-- these are the replies to so many turns of a node, or fewer if one was idle
abbrev pub AreTurns : ℕ → ℕ → World → List Reply → World → Type 0
AreTurns zero node w [] v = v ≡ w
AreTurns zero node w (r ∷ rs) v = ⊥
AreTurns (suc left) node w [] v = ⊥
AreTurns (suc left) node w (r ∷ rs) v =
    (u : World) × StepFirst w (steps.Turn node) r u × (is_want r ≡ false)
    × MatchBool (is_idle_reply r) ((rs ≡ []) × (v ≡ u)) (AreTurns left node u rs v)

-- a turn command is answered by the replies to its turns
abbrev pub TurnsTo : ℕ → ℕ → World → Said → World → Type 0
TurnsTo count node w (said.Turned turns) v = AreTurns count node w turns v
TurnsTo count node w other v = ⊥

-- a settle is answered by what it came to; one that is refused for want of serials is unsettled
abbrev pub SettlesTo : ℕ → World → Said → World → Type 0
SettlesTo limit w said.Settled v = (after : ℕ) × IsSettle limit w v (ends.Settled after)
SettlesTo limit w said.Unsettled v = IsSettle limit w v ends.Unsettled ⊎ IsRefusedSettle limit w v NumbersEnd
SettlesTo limit w other v = ⊥

-- the answer and the session after it are these
abbrev pub Is : Replied → Said → Session → Type 0
Is done answer t = (answer ≡ done.said) × (t ≡ done.session)

-- what a command may be answered, and the session after it
abbrev pub Runs : Session → Command → Said → Session → Type 0
Runs s (commands.Open node first second) answer t = Is (replied_open s first second (first_step s.world (steps.Open node))) answer t
Runs s (commands.Put at text attached) answer t = Is (replied_put s at text attached) answer t
Runs s (commands.Get at) answer t = Is (replied_get s at) answer t
Runs s (commands.Close at) answer t = Is (replied_close s at) answer t
Runs s (commands.Turn node count) answer t = TurnsTo count node s.world answer t.world × (t ≡ with_world s t.world)
Runs s (commands.Settle limit) answer t = SettlesTo limit s.world answer t.world × (t ≡ with_world s t.world)
Runs s commands.Show answer t = Is (record { said = said.Words (shown_words s.world); session = s }) answer t

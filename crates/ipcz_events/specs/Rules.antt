-- THE RULES of a log with events: which calls and which acts of nodes, one after the other, the worlds of `ipcz_world` allow.
--
-- A line is a call of a caller with the line that its answer prints, or a node with the text that some act of it prints. Nodes take their possible
-- acts in any order, where a run of a script takes the first one; nothing else happens between two lines.
use Rattle.std.specs.Prelude.{◌≡◌, ◌<◌, ◌^◌, ℕ, suc, Bool, true, false, List, [], ◌∷◌, ◌++◌, length, take, Option, Some, None}
use Rattle.ipcz_node.specs.declared.act.Act.{Act}
use Rattle.ipcz_node.specs.declared.act.Act.TheVariants as acts
use Rattle.ipcz_node.specs.declared.happened.Happened.{Happened}
use Rattle.ipcz_world.specs.Asking.{IsActed}
use Rattle.ipcz_world.specs.Books.{Books}
use Rattle.ipcz_world.specs.Lawful.{IsReached}
use Rattle.ipcz_world.specs.Routes.{Routes}
use Rattle.ipcz_world.specs.Theorem.{Theorem}
use Rattle.ipcz_world.specs.World.{World}
use Rattle.ipcz_script.specs.declared.command.Command.{Command}
use Rattle.ipcz_script.specs.declared.command.Command.TheVariants as commands
use Rattle.ipcz_script.specs.declared.said.Said.{Said}
use Rattle.ipcz_script.specs.EventTexts.{event_text}
use Rattle.ipcz_script.specs.Lines.{lines_of}
use Rattle.ipcz_script.specs.ScriptLimits.{HasScriptLimits}
use Rattle.ipcz_script.specs.Sessions.{Runs, Session, new_session, with_world}
use Rattle.ipcz_events.specs.declared.entry.Entry.{Entry}
use Rattle.ipcz_events.specs.declared.entry.Entry.TheVariants as entries

-- whether a command is a call, or shows the words; in place of turns and settles a log has the acts themselves
abbrev pub is_call : Command → Bool
is_call (commands.Turn node count) = false
is_call (commands.Settle limit) = false
is_call other = true

-- the numbers of an act are those of its type: a node's has 8 bits, a pair's and a serial's 64
abbrev pub ActHasBits : Act → Type 0
ActHasBits (acts.Hand sender) = sender < 2 ^ 8
ActHasBits (acts.Look sender) = sender < 2 ^ 8
ActHasBits (acts.Post to) = to < 2 ^ 8
ActHasBits (acts.Close end) = end.pair < 2 ^ 64
ActHasBits (acts.Router serial act) = serial < 2 ^ 64
ActHasBits acts.Idle = Unit {0}

-- THE RULE OF A LINE: this is what the call may be answered, or some act is possible at the node whose event prints so
abbrev pub MayEntry : Session → Entry → Session → Type 0
MayEntry s (entries.Call command line) t =
    (said : Said) × (is_call command ≡ true) × Runs s command said t × (lines_of t.titles command said ≡ line ++ 10 ∷ [])
MayEntry s (entries.Acted node text) t =
    (act : Act) × (event : Happened) × ActHasBits act × IsActed s.world node act event t.world × (event_text event ≡ text)
    × (t ≡ with_world s t.world)

-- law: what a node was seen to do tells the act: of its acts that are possible in a world, two whose events print alike are one
abbrev pub EventsTellActs : Type 0
EventsTellActs =
    (w u v : World) (n : ℕ) (a b : Act) (e f : Happened) → ActHasBits a → ActHasBits b → IsActed w n a e u → IsActed w n b f v →
    event_text e ≡ event_text f → a ≡ b

-- THE RULE OF A LOG: each of its lines in its turn
abbrev pub MayLog : Session → List Entry → Session → Type 0
MayLog s [] t = t ≡ s
MayLog s (entry ∷ log) t = (u : Session) × MayEntry s entry u × MayLog u log t

-- a log of an implementation with so many nodes and link words is allowed
abbrev pub IsAllowed : ℕ → ℕ → List Entry → Type 0
IsAllowed nodes words log = (t : Session) × MayLog (new_session nodes words) log t

-- what is said of a log: it is allowed; or this is the first line of it, counted from 0, that isn't: the lines before it are allowed, and there is no
-- way that they are with it
abbrev pub IsVerdictOf : ℕ → ℕ → List Entry → Option ℕ → Type 0
IsVerdictOf nodes words log None = IsAllowed nodes words log
IsVerdictOf nodes words log (Some at) =
    (at < length log) × IsAllowed nodes words (take at log) × (IsAllowed nodes words (take (suc at) log) → ⊥)

-- what allowed means: a run of the relation of steps, from the new world and with any possible act in each turn, has these lines and leads to the
-- world of their session; so all that holds after such runs holds of it
pub record IsRunOf (nodes words : ℕ) (log : List Entry) : Type 0 where
  pub session : Session
  pub may : MayLog (new_session nodes words) log session
  pub books : Books
  pub routes : Routes
  pub reached : IsReached nodes words session.world books routes
  pub theorem_ : Theorem reached.steps reached.replies session.world books routes

-- law: each log that is allowed is a run, of which the theorem holds
abbrev pub AllowedAreRuns : Type 0
AllowedAreRuns = (nodes words : ℕ) (log : List Entry) → HasScriptLimits nodes words → IsAllowed nodes words log → IsRunOf nodes words log

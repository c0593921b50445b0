-- A run of a script in which the order of acts is drawn.
use Rattle.std.specs.Prelude.{◌≡◌, ◌⊎◌, ◌+◌, ℕ, zero, suc, Bool, true, false, MatchBool, List, [], ◌∷◌, ◌++◌, length, slice_get, Option, Some, None}
use Rattle.ipcz_node.specs.declared.act.Act.{Act}
use Rattle.ipcz_node.specs.declared.happened.Happened.{Happened}
use Rattle.ipcz_node.specs.declared.happened.Happened.TheVariants as events
use Rattle.ipcz_world.specs.Asking.{IsActed}
use Rattle.ipcz_world.specs.Listing.{ArePossible}
use Rattle.ipcz_world.specs.World.{World}
use Rattle.ipcz_script.specs.declared.command.Command.{Command}
use Rattle.ipcz_script.specs.declared.command.Command.TheVariants as commands
use Rattle.ipcz_script.specs.declared.said.Said.{Said}
use Rattle.ipcz_script.specs.EventTexts.{event_text}
use Rattle.ipcz_script.specs.Lines.{lines_of}
use Rattle.ipcz_script.specs.Sessions.{Runs, new_session, with_world}
use Rattle.ipcz_events.specs.declared.ending.Ending.{Ending}
use Rattle.ipcz_events.specs.declared.ending.Ending.TheVariants as endings
use Rattle.ipcz_events.specs.declared.entry.Entry.{Entry}
use Rattle.ipcz_events.specs.declared.entry.Entry.TheVariants as entries
use Rattle.ipcz_events.specs.declared.order.Order.{Order}
use Rattle.ipcz_events.specs.declared.order.Order.TheVariants as orders
use Rattle.ipcz_events.specs.declared.run.Run.{Run}
use Rattle.ipcz_events.specs.declared.schedule.Schedule.{Schedule}
use Rattle.ipcz_events.specs.declared.who.Who.{Who}
use Rattle.ipcz_events.specs.declared.who.Who.TheVariants as whose
use Rattle.ipcz_events.specs.Drawing.{busy_nodes, choices, drawn_number, next_state}
use Rattle.ipcz_events.specs.Judging.{BeginsWith, HasNone}
use Rattle.ipcz_events.specs.Rules.{ActHasBits, IsAllowed}
use Rattle.ipcz_events.specs.Written.{Adds}

-- the run behind a draw
abbrev pub after_draw : Run → Run
after_draw p = record p { state = next_state p.state }

-- the run with another world
abbrev pub in_world : Run → World → Run
in_world p w = record p { session = with_world p.session w }

-- of these things one is drawn
abbrev pub IsDrawn : {X : Type 0} → List X → ℕ → X → Type 0
IsDrawn xs state x = slice_get xs (drawn_number (next_state state) (length xs)) ≡ Some x

-- the node that acts next: this one, or one that is drawn among those that have something to do, if there are some
abbrev pub Picks : Who → Run → Option ℕ → Run → Type 0
Picks (whose.Node node) p None q = ⊥
Picks (whose.Node node) p (Some n) q = (n ≡ node) × (q ≡ p)
Picks (whose.AnyOf nodes) p None q = (busy_nodes p.session.world nodes ≡ []) × (q ≡ p)
Picks (whose.AnyOf nodes) p (Some n) q = IsDrawn (busy_nodes p.session.world nodes) p.state n × (q ≡ after_draw p)

-- the act that is drawn of a node
abbrev pub DrawsAct : Run → ℕ → Option Act → Run → Type 0
DrawsAct p n None q = (choices p.session.world n ≡ []) × (q ≡ p)
DrawsAct p n (Some act) q = ActHasBits act × IsDrawn (choices p.session.world n) p.state act × (q ≡ after_draw p)

-- a node takes an act, which was possible, and this is what it was seen to do; or it can't
abbrev pub Takes : Run → ℕ → Act → Option Happened → Run → Type 0
Takes p n act None q = ((event : Happened) (w : World) → IsActed p.session.world n act event w → ⊥) × (q ≡ p)
Takes p n act (Some event) q = IsActed p.session.world n act event q.session.world × (q ≡ in_world p q.session.world)

-- the next act: its node, and what that was seen to do; or there is none: no node acts next, none is drawn of it, or it can't take that
abbrev pub Steps : Who → Run → Option (ℕ × Happened) → Run → Type 0
Steps who p (Some seen) q = (act : Act) × (m : Run) × (o : Run) × Picks who p (Some seen.0) m × DrawsAct m seen.0 (Some act) o × Takes o seen.0 act (Some seen.1) q
Steps who p None q =
    Picks who p None q
    ⊎ ((n : ℕ) × (m : Run) × Picks who p (Some n) m
    × (DrawsAct m n None q ⊎ ((act : Act) × (o : Run) × DrawsAct m n (Some act) o × Takes o n act None q)))

-- ---- commands

-- what a node was seen to do, as a line of a log
abbrev pub acted : ℕ × Happened → Entry
acted seen = entries.Acted seen.0 (event_text seen.1)

-- whether a node was idle
unfoldable pub was_idle : Happened → Bool
was_idle events.Idle = true
was_idle other = false

-- so many acts, one after the other: up to one that is idle, or to where none comes next
abbrev pub Acts : ℕ → Who → Run → List Entry → Run → Type 0
Acts zero who p [] q = q ≡ p
Acts zero who p (e ∷ log) q = ⊥
Acts (suc left) who p [] q = Steps who p None q
Acts (suc left) who p (e ∷ log) q =
    (seen : ℕ × Happened) × (m : Run) × Steps who p (Some seen) m × (e ≡ acted seen) × MatchBool (was_idle seen.1) ((log ≡ []) × (q ≡ m)) (Acts left who m log q)

-- a call is answered, and nothing is drawn
abbrev pub IsCalled : Run → Command → List Entry → Run → Type 0
IsCalled p command log q =
    (said : Said) × (text : List ℕ) × Runs p.session command said q.session × (lines_of q.session.titles command said ≡ text ++ 10 ∷ [])
    × (q.state ≡ p.state) × (log ≡ entries.Call command text ∷ [])

-- what a command adds to the log, and the run behind it
abbrev pub Obeys : ℕ → Run → Order → List Entry → Run → Type 0
Obeys nodes p (orders.Command (commands.Turn node count)) log q = Acts count (whose.Node node) p log q
Obeys nodes p (orders.Command (commands.Settle limit)) log q = Acts limit (whose.AnyOf nodes) p log q
Obeys nodes p (orders.Command command) log q = IsCalled p command log q
Obeys nodes p (orders.Act node words) log q =
    (act : Act) × (event : Happened) × ActHasBits act × BeginsWith words act × Takes p node act (Some event) q × (log ≡ acted (node, event) ∷ [])

-- a command can't be obeyed: its node can take no act that an event with these words begins with, and these are those that it can take
abbrev pub Stops : Run → Order → List Act → Type 0
Stops p (orders.Command command) acts = ⊥
Stops p (orders.Act node words) acts = HasNone p.session (entries.Acted node words) × ArePossible p.session.world node acts

-- commands, one after the other
abbrev pub ObeysAll : ℕ → Run → List Order → List Entry → Run → Type 0
ObeysAll nodes p [] log q = (log ≡ []) × (q ≡ p)
ObeysAll nodes p (o ∷ os) log q =
    (own : List Entry) × (rest : List Entry) × (m : Run) × (log ≡ own ++ rest) × Obeys nodes p o own m × ObeysAll nodes m os rest q

-- ---- whole runs

-- the run before the first command
abbrev pub first_run : Schedule → ℕ → Run
first_run schedule seed = record { session = new_session schedule.nodes schedule.words; state = seed }

-- the run of commands has this log, and ends so: behind the last one, or before the first one that can't be obeyed, which has this number, from 1 on
abbrev pub EndsAs : ℕ → Run → List Order → Ending → List Entry → Type 0
EndsAs nodes p os endings.Whole log = (q : Run) × ObeysAll nodes p os log q
EndsAs nodes p os (endings.Stopped number acts) log =
    (before : List Order) × (order : Order) × (behind : List Order) × (q : Run) × (os ≡ before ++ order ∷ behind)
    × (number ≡ length before + 1) × ObeysAll nodes p before log q × Stops q order acts

-- the same of a script, by a seed
abbrev pub IsRun : Schedule → ℕ → Ending → List Entry → Type 0
IsRun schedule seed ending log = EndsAs schedule.nodes (first_run schedule seed) schedule.orders ending log

-- law: the log of each run is allowed
abbrev pub RunsAreAllowed : Type 0
RunsAreAllowed = (schedule : Schedule) (seed : ℕ) (ending : Ending) (log : List Entry) → IsRun schedule seed ending log → IsAllowed schedule.nodes schedule.words log

-- ---- with the lines that are added to a text

-- the next act is taken, and whether it was the last: the node was idle, or none came
abbrev pub IsTakenOne : Who → Run → Bool → Run → List ℕ → List ℕ → Type 0
IsTakenOne who p false q old new =
    (seen : ℕ × Happened) × Steps who p (Some seen) q × (was_idle seen.1 ≡ false) × Adds (acted seen ∷ []) old new
IsTakenOne who p true q old new =
    (Steps who p None q × (new ≡ old))
    ⊎ ((seen : ℕ × Happened) × Steps who p (Some seen) q × (was_idle seen.1 ≡ true) × Adds (acted seen ∷ []) old new)

-- an act that is asked for is taken; or it can't be
abbrev pub IsTakenAsked : Run → ℕ → List ℕ → Bool → Run → List ℕ → List ℕ → Type 0
IsTakenAsked p n words true q old new = (log : List Entry) × Obeys 0 p (orders.Act n words) log q × Adds log old new
IsTakenAsked p n words false q old new = HasNone p.session (entries.Acted n words) × (q ≡ p) × (new ≡ old)

-- a command is obeyed; or it can't be
abbrev pub IsObeyed : ℕ → Run → Order → Option (List Act) → Run → List ℕ → List ℕ → Type 0
IsObeyed nodes p order None q old new = (log : List Entry) × Obeys nodes p order log q × Adds log old new
IsObeyed nodes p order (Some acts) q old new = Stops p order acts × (new ≡ old)

abbrev pub AreObeyed : ℕ → Run → List Order → Ending → List ℕ → List ℕ → Type 0
AreObeyed nodes p os ending old new = (log : List Entry) × EndsAs nodes p os ending log × Adds log old new

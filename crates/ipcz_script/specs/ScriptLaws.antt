-- What holds of every script, as functions promise it.
use Rattle.std.specs.Prelude.{◌≡◌, ◌<◌, ℕ, true, false, IsSome, List, ◌∷◌, ◌++◌, length, map, take}
use Rattle.ipcz_base.specs.declared.side.Side.{Side}
use Rattle.ipcz_base.specs.declared.end.End.{End}
use Rattle.ipcz_base.specs.declared.item.Item.TheVariants.{Parcel}
use Rattle.ipcz_base.specs.declared.refusal.Refusal.TheVariants.{Empty}
use Rattle.ipcz_base.specs.Ends.{end_at, opposite_end}
use Rattle.ipcz_node.specs.Node.{holds_end, terminal_of}
use Rattle.ipcz_world.specs.declared.step.Step.{Step}
use Rattle.ipcz_world.specs.declared.step.Step.TheVariants.{Get}
use Rattle.ipcz_world.specs.declared.step.Reply.{Reply}
use Rattle.ipcz_world.specs.declared.step.Reply.TheVariants.{Refused}
use Rattle.ipcz_world.specs.World.{World, node_at}
use Rattle.ipcz_world.specs.Steps.{StepAny}
use Rattle.ipcz_world.specs.Settling.{IsQuiet}
use Rattle.ipcz_world.specs.Books.{Books, advance, is_closed}
use Rattle.ipcz_world.specs.Plain.{Plain}
use Rattle.ipcz_world.specs.Routes.{Routes, is_opened}
use Rattle.ipcz_world.specs.Laws.{StrayLaw, EndLaw}
use Rattle.ipcz_world.specs.Owed.{IsDirectPair}
use Rattle.ipcz_world.specs.Lawful.{Headline, IsReached}
use Rattle.ipcz_script.specs.ScriptLimits.{HasScriptLimits}
use Rattle.ipcz_script.specs.declared.command.Command.{Command}
use Rattle.ipcz_script.specs.Sessions.{Session, new_session}
use Rattle.ipcz_script.specs.Transcript.{Answered, AreAnswered}
use Rattle.ipcz_script.specs.ScriptBooks.{AreSaid, IsCount, puts_in, gots_in}

-- whatever the commands of a script are, and whatever they are answered: this holds of the world after them, with books that have just the
-- parcels that the answers say, and some routes
abbrev pub AfterScripts : (ℕ → ℕ → World → Books → Routes → Type 0) → Type 0
AfterScripts Holds =
    (nodes words : ℕ) (cs : List Command) (log : List Answered) (t : Session) → HasScriptLimits nodes words →
    AreAnswered (new_session nodes words) cs log t → (b : Books) × (g : Routes) × AreSaid b log × Holds nodes words t.world b g

-- law: a portal has got a prefix of what its peer was answered to have put, whatever nodes they were on
abbrev pub GetsFollowPuts : Type 0
GetsFollowPuts =
    (nodes words : ℕ) (cs : List Command) (log : List Answered) (t : Session) → HasScriptLimits nodes words →
    AreAnswered (new_session nodes words) cs log t →
    (e : End) → take (length (gots_in log (opposite_end e))) (puts_in log e) ≡ gots_in log (opposite_end e)

-- law: the numbers that are said of a portal's puts count up from 0, and so do those of its gets
abbrev pub NumbersCountUp : Type 0
NumbersCountUp =
    (nodes words : ℕ) (cs : List Command) (earlier : List Answered) (a : Answered) (later : List Answered) (t : Session) →
    HasScriptLimits nodes words → AreAnswered (new_session nodes words) cs (earlier ++ a ∷ later) t →
    IsCount earlier a.before.names a.command a.said

-- law: some list of steps leads to the world after a script
abbrev pub ScriptsAreRuns : Type 0
ScriptsAreRuns = AfterScripts IsReached

-- law: so the sentence holds of that world
abbrev pub ScriptsDeliver : Type 0
ScriptsDeliver = AfterScripts (λ nodes words. Headline)

-- nothing is stuck
pub record NothingIsStuck (nodes words : ℕ) (w : World) (b : Books) (g : Routes) : Type 0 where
  -- no message but a Flush finds its router gone, and no node has a stray
  pub strays : StrayLaw w
  -- each end of an open pair is in one place, and if callers hold it, it has its terminal
  pub ends : EndLaw w b g
  pub held : (n : ℕ) (e : End) → n < w.count → holds_end (node_at w n) e ≡ true → IsSome (terminal_of (node_at w n) e)
  -- if nothing waits, a get on a direct pair is Empty only if all that the peer has put was got; on one node each pair is
  -- direct of which an end isn't closed
  pub all_got : IsQuiet w → (n : ℕ) (e : End) (v : World) → IsDirectPair w e.pair → StepAny w (Get n e) (Refused Empty) v →
      map Parcel (b.got e) ≡ b.put (opposite_end e)
  pub one_node : nodes ≡ 1 → (pair : ℕ) (s : Side) → is_opened g pair ≡ true → is_closed b (end_at pair s) ≡ false → IsDirectPair w pair

-- law: after every script nothing is stuck
abbrev pub ScriptsArrive : Type 0
ScriptsArrive = AfterScripts NothingIsStuck

-- law: after every script each reply is one that the books alone allow
abbrev pub ScriptsAnswerPlainly : Type 0
ScriptsAnswerPlainly =
    AfterScripts (λ nodes words w b g. (step : Step) (reply : Reply) (v : World) → StepAny w step reply v →
    Plain b step reply (advance w b step reply))

use Rattle.std.proofs.Common.{◌≡◌, ℕ, Bool, false, List, subst}
use Rattle.std.proofs.lemmas.Result.{IfOk-weaker}
use Rattle.ipcz_script.specs.declared.command.Command.{Command}
use Rattle.ipcz_script.specs.declared.script.Script.{Script}
use Rattle.ipcz_cell.specs.TableNames.{TableName}
use Rattle.ipcz_threads.specs.Rounds.{Gates}
use Rattle.ipcz_threads.specs.Stages.{Stage}
use Rattle.ipcz_threads.specs.Transcripts.{IsFirst, IsTranscript, Writes}
use Rattle.ipcz_threads.proofs.run.transcript.Goals as goal

-- a run of the script's commands over a table of its size from the start on is its transcript
from-the-start : (gates : Gates) (t : TableName) (script : Script) (s u : Stage) (commands : List Command) (text : List ℕ) (unsettled : Bool) →
    t.count ≡ script.nodes → t.size ≡ script.words → t.reuses ≡ false → IsFirst t s → commands ≡ script.commands → Writes gates t s commands text unsettled u →
    IsTranscript gates script text unsettled
from-the-start gates t script s u commands text unsettled nodes words whole first all writes =
    (t, s, u, nodes, words, whole, first, subst (λ xs. Writes gates t s xs text unsettled u) all writes)

pub returns : goal.returns
returns g c =
    IfOk-weaker c.run_commands.result _ _
    (λ written writes. from-the-start g.G.Gate.answers g.F.FabricName.table c.args.script.now _ _ _ _ _ c.requires.size.0 c.requires.size.1 c.requires.size.2 c.in_ok-session.ensures
    c.as_slice.ensures writes)
    c.run_commands.ensures

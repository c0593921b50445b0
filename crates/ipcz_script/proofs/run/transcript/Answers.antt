use Rattle.std.proofs.Common.{◌≡◌, ℕ, Bool, List, subst}
use Rattle.std.proofs.lemmas.Result.{IfOk-weaker}
use Rattle.ipcz_script.specs.declared.command.Command.{Command}
use Rattle.ipcz_script.specs.declared.script.Script.{Script}
use Rattle.ipcz_script.specs.Sessions.{Session, new_session}
use Rattle.ipcz_script.specs.Transcript.{IsTranscript, Writes}
use Rattle.ipcz_script.proofs.run.transcript.Goals as goal

-- a run of the script's commands from its first session is its transcript
from-the-start : (script : Script) (s t : Session) (commands : List Command) (text : List ℕ) (unsettled : Bool) →
    s ≡ new_session script.nodes script.words →
    commands ≡ script.commands → Writes s commands text unsettled t → IsTranscript script text unsettled
from-the-start script s t commands text unsettled first all writes =
    (t, subst (λ x. Writes x script.commands text unsettled t) first (subst (λ xs. Writes s xs text unsettled t) all writes))

pub returns : goal.returns
returns c =
    IfOk-weaker c.run_commands.result _ _
    (λ written writes. from-the-start c.args.script.now _ _ _ _ _ c.in_ok-session.ensures.session c.as_slice.ensures writes)
    c.run_commands.ensures

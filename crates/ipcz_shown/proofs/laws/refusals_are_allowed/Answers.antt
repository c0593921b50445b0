use Rattle.ipcz_shown.proofs.Runs.{refusals_are_allowed}
use Rattle.ipcz_shown.proofs.laws.refusals_are_allowed.Goals as goal

pub returns : goal.returns
returns c = refusals_are_allowed

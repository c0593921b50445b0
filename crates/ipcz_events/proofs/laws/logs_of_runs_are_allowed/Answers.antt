use Rattle.ipcz_events.proofs.Allowed.{runs_are_allowed}
use Rattle.ipcz_events.proofs.laws.logs_of_runs_are_allowed.Goals as goal

pub returns : goal.returns
returns c = runs_are_allowed

use Rattle.ipcz_events.proofs.Runs.{allowed_are_runs}
use Rattle.ipcz_events.proofs.laws.what_is_allowed_is_a_run.Goals as goal

pub returns : goal.returns
returns c = allowed_are_runs

use Rattle.ipcz_rule.proofs.LastingRuns.{table_steps_are_runs}
use Rattle.ipcz_rule.proofs.laws.steps_of_tables_are_runs_of_what_is_shown.Goals as goal

pub returns : goal.returns
returns c = table_steps_are_runs

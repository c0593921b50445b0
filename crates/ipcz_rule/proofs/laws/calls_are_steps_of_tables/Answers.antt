use Rattle.ipcz_rule.proofs.LastingRuns.{calls_are_steps}
use Rattle.ipcz_rule.proofs.laws.calls_are_steps_of_tables.Goals as goal

pub returns : goal.returns
returns c = calls_are_steps

use Rattle.ipcz_rule.proofs.LastingRuns.{turns_are_steps}
use Rattle.ipcz_rule.proofs.laws.turns_are_steps_of_tables.Goals as goal

pub returns : goal.returns
returns c = turns_are_steps

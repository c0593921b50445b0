use Rattle.ipcz_rule.proofs.LastingRuns.{claims_for_open_are_steps}
use Rattle.ipcz_rule.proofs.laws.claims_for_opens_are_steps_of_tables.Goals as goal

pub returns : goal.returns
returns c = claims_for_open_are_steps

use Rattle.ipcz_rule.proofs.Races.{sights_are_loads}
use Rattle.ipcz_rule.proofs.laws.a_step_that_only_sees_is_a_load.Goals as goal

pub returns : goal.returns
returns c = sights_are_loads

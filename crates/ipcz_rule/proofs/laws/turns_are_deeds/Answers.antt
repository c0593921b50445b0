use Rattle.ipcz_rule.proofs.LastingRuns.{turns_are_deeds}
use Rattle.ipcz_rule.proofs.laws.turns_are_deeds.Goals as goal

pub returns : goal.returns
returns c = turns_are_deeds

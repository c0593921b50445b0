use Rattle.ipcz_rule.proofs.TableRuns.{steps_are_bounded}
use Rattle.ipcz_rule.proofs.laws.steps_of_turns_are_bounded.Goals as goal

pub returns : goal.returns
returns c = steps_are_bounded

use Rattle.ipcz_rule.proofs.TableRuns.{steps_are_turns}
use Rattle.ipcz_rule.proofs.laws.steps_of_turns_are_turns_of_what_is_shown.Goals as goal

pub returns : goal.returns
returns c = steps_are_turns

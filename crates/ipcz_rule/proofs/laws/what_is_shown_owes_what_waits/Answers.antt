use Rattle.ipcz_rule.proofs.RuleLaws.{rule_owes}
use Rattle.ipcz_rule.proofs.laws.what_is_shown_owes_what_waits.Goals as goal

pub returns : goal.returns
returns c = rule_owes

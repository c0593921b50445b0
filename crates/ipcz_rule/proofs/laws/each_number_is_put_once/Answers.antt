use Rattle.ipcz_rule.proofs.RuleLaws.{puts_are_once}
use Rattle.ipcz_rule.proofs.laws.each_number_is_put_once.Goals as goal

pub returns : goal.returns
returns c = puts_are_once

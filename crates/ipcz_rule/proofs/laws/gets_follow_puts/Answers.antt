use Rattle.ipcz_rule.proofs.RuleLaws.{gets_follow_puts}
use Rattle.ipcz_rule.proofs.laws.gets_follow_puts.Goals as goal

pub returns : goal.returns
returns c = gets_follow_puts

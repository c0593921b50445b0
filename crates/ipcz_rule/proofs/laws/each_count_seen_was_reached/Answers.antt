use Rattle.ipcz_rule.proofs.RuleLaws.{counts_were_reached}
use Rattle.ipcz_rule.proofs.laws.each_count_seen_was_reached.Goals as goal

pub returns : goal.returns
returns c = counts_were_reached

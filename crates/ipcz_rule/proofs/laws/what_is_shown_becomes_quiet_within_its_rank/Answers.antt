use Rattle.ipcz_rule.proofs.RuleLaws.{rule_bounds_turns}
use Rattle.ipcz_rule.proofs.laws.what_is_shown_becomes_quiet_within_its_rank.Goals as goal

pub returns : goal.returns
returns c = rule_bounds_turns

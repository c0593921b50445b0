use Rattle.ipcz_rule.proofs.RuleLaws.{rule_gives_headline}
use Rattle.ipcz_rule.proofs.laws.what_is_shown_gives_the_headline.Goals as goal

pub returns : goal.returns
returns c = rule_gives_headline

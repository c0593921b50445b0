use Rattle.ipcz_rule.proofs.RuleLaws.{shown_has_lengths}
use Rattle.ipcz_rule.proofs.laws.what_is_shown_has_its_lengths.Goals as goal

pub returns : goal.returns
returns c = shown_has_lengths

use Rattle.ipcz_rule.proofs.RuleLaws.{links_are_words}
use Rattle.ipcz_rule.proofs.laws.each_link_has_a_link_word.Goals as goal

pub returns : goal.returns
returns c = links_are_words

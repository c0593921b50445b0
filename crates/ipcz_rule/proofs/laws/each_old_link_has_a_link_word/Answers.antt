use Rattle.ipcz_rule.proofs.OldLinks.{old_links_are_words}
use Rattle.ipcz_rule.proofs.laws.each_old_link_has_a_link_word.Goals as goal

pub returns : goal.returns
returns c = old_links_are_words

use Rattle.ipcz_rule.proofs.BatchedLaws.{links_words, old_links_words}
use Rattle.ipcz_rule.proofs.batches.each_link_has_a_word.Goals as goal

pub returns-clause-links : goal.returns-clause-links
returns-clause-links c = links_words

pub returns-clause-old : goal.returns-clause-old
returns-clause-old c = old_links_words

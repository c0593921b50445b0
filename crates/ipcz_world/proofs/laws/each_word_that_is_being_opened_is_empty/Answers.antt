use Rattle.ipcz_world.proofs.Whole.{opening_words_are_empty}
use Rattle.ipcz_world.proofs.laws.each_word_that_is_being_opened_is_empty.Goals as goal

pub returns : goal.returns
returns c = opening_words_are_empty

use Rattle.ipcz_world.proofs.lawful.DeadWords.{dead_words_do_not_matter}
use Rattle.ipcz_world.proofs.laws.dead_words_do_not_matter.Goals as goal

pub returns : goal.returns
returns c = dead_words_do_not_matter

use Rattle.ipcz_world.proofs.Whole.{links_stay}
use Rattle.ipcz_world.proofs.laws.a_links_word_stays_with_its_pair.Goals as goal

pub returns : goal.returns
returns c = links_stay

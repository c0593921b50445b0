use Rattle.ipcz_world.proofs.lawful.LettingGo.{lost_are_not_held}
use Rattle.ipcz_world.proofs.laws.lost_words_are_not_held.Goals as goal

pub returns : goal.returns
returns c = lost_are_not_held

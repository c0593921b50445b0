use Rattle.ipcz_world.proofs.Whole.{first_acts_are_possible}
use Rattle.ipcz_world.proofs.laws.first_acts_are_possible.Goals as goal

pub returns : goal.returns
returns c = first_acts_are_possible

use Rattle.ipcz_world.proofs.Whole.{lists_have_lengths}
use Rattle.ipcz_world.proofs.laws.lists_have_their_lengths.Goals as goal

pub returns : goal.returns
returns c = lists_have_lengths

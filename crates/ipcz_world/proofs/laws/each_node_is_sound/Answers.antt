use Rattle.ipcz_world.proofs.Whole.{nodes_are_sound}
use Rattle.ipcz_world.proofs.laws.each_node_is_sound.Goals as goal

pub returns : goal.returns
returns c = nodes_are_sound

use Rattle.ipcz_world.proofs.Whole.{one_node_is_direct}
use Rattle.ipcz_world.proofs.laws.on_one_node_each_pair_is_direct.Goals as goal

pub returns : goal.returns
returns c = one_node_is_direct

use Rattle.ipcz_world.proofs.Whole.{each_quiet_delivers}
use Rattle.ipcz_world.proofs.laws.a_quiet_direct_pair_has_delivered.Goals as goal

pub returns : goal.returns
returns c = each_quiet_delivers

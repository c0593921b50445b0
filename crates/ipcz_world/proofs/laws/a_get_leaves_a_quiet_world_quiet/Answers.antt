use Rattle.ipcz_world.proofs.Whole.{each_get_stays_quiet}
use Rattle.ipcz_world.proofs.laws.a_get_leaves_a_quiet_world_quiet.Goals as goal

pub returns : goal.returns
returns c = each_get_stays_quiet

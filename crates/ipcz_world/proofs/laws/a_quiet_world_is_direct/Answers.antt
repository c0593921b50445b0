use Rattle.ipcz_world.proofs.Whole.{each_quiet_is_direct}
use Rattle.ipcz_world.proofs.laws.a_quiet_world_is_direct.Goals as goal

pub returns : goal.returns
returns c = each_quiet_is_direct

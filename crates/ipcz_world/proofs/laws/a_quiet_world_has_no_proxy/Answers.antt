use Rattle.ipcz_world.proofs.Whole.{quiet_has_no_proxy}
use Rattle.ipcz_world.proofs.laws.a_quiet_world_has_no_proxy.Goals as goal

pub returns : goal.returns
returns c = quiet_has_no_proxy

use Rattle.ipcz_world.proofs.Whole.{each_quiet_is_direct, closed_pairs_are_gone, quiet_has_no_proxy}
use Rattle.ipcz_world.proofs.lawful.Settling.{settled_is_direct}
use Rattle.ipcz_world.proofs.laws.a_settled_world_is_direct.Goals as goal

pub returns : goal.returns
returns c = settled_is_direct each_quiet_is_direct closed_pairs_are_gone quiet_has_no_proxy

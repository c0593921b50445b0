use Rattle.ipcz_world.proofs.Whole.{closed_pairs_are_gone}
use Rattle.ipcz_world.proofs.laws.a_quiet_world_has_no_closed_pair.Goals as goal

pub returns : goal.returns
returns c = closed_pairs_are_gone

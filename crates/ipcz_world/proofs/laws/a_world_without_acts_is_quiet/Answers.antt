use Rattle.ipcz_world.proofs.lawful.Unused.{unused_is_quiet}
use Rattle.ipcz_world.proofs.laws.a_world_without_acts_is_quiet.Goals as goal

pub returns : goal.returns
returns c = unused_is_quiet

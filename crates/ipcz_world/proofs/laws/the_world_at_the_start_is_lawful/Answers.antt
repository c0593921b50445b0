use Rattle.ipcz_world.proofs.Whole.{world_starts_lawful}
use Rattle.ipcz_world.proofs.laws.the_world_at_the_start_is_lawful.Goals as goal

pub returns : goal.returns
returns c = world_starts_lawful

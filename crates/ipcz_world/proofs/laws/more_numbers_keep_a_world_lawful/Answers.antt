use Rattle.ipcz_world.proofs.runs.PassingOver.{growing_keeps_lawful}
use Rattle.ipcz_world.proofs.laws.more_numbers_keep_a_world_lawful.Goals as goal

pub returns : goal.returns
returns c = growing_keeps_lawful

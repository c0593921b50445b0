use Rattle.ipcz_world.proofs.Whole.{each_step_keeps_lawful}
use Rattle.ipcz_world.proofs.laws.each_step_keeps_a_world_lawful.Goals as goal

pub returns : goal.returns
returns c = each_step_keeps_lawful

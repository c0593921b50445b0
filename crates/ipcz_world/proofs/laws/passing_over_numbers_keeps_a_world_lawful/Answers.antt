use Rattle.ipcz_world.proofs.runs.PassingOver.{passing_keeps_lawful}
use Rattle.ipcz_world.proofs.laws.passing_over_numbers_keeps_a_world_lawful.Goals as goal

pub returns : goal.returns
returns c = passing_keeps_lawful

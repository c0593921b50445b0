use Rattle.ipcz_world.proofs.Whole.{each_step_keeps_lawful, replies_plainly}
use Rattle.ipcz_world.proofs.lawful.Rating.{turns_keep_rates}
use Rattle.ipcz_world.proofs.laws.turns_keep_rates.Goals as goal

pub returns : goal.returns
returns c = turns_keep_rates each_step_keeps_lawful replies_plainly

use Rattle.ipcz_world.proofs.Whole.{each_step_keeps_lawful, first_acts_are_possible, replies_plainly}
use Rattle.ipcz_world.proofs.lawful.Rating.{turns_keep_rates}
use Rattle.ipcz_world.proofs.lawful.Settling.{visits_are_bounded}
use Rattle.ipcz_world.proofs.laws.visits_are_bounded.Goals as goal

pub returns : goal.returns
returns c = visits_are_bounded each_step_keeps_lawful first_acts_are_possible (turns_keep_rates each_step_keeps_lawful replies_plainly)

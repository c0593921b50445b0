use Rattle.ipcz_world.proofs.Whole.{each_step_keeps_lawful, replies_plainly}
use Rattle.ipcz_world.proofs.lawful.Rating.{turns_keep_rates}
use Rattle.ipcz_world.proofs.lawful.Turning.{turns_are_bounded}
use Rattle.ipcz_world.proofs.laws.turns_are_bounded.Goals as goal

pub returns : goal.returns
returns c = turns_are_bounded each_step_keeps_lawful (turns_keep_rates each_step_keeps_lawful replies_plainly)

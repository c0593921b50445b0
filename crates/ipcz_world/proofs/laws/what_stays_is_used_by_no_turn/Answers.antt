use Rattle.ipcz_world.proofs.Whole.{each_step_keeps_lawful, replies_plainly}
use Rattle.ipcz_world.proofs.lawful.Rating.{turns_keep_rates}
use Rattle.ipcz_world.proofs.lawful.Staying.{staying_is_unused}
use Rattle.ipcz_world.proofs.laws.what_stays_is_used_by_no_turn.Goals as goal

pub returns : goal.returns
returns c = staying_is_unused each_step_keeps_lawful (turns_keep_rates each_step_keeps_lawful replies_plainly)

use Rattle.ipcz_world.proofs.Whole.{each_step_keeps_lawful, first_acts_are_possible, replies_plainly}
use Rattle.ipcz_world.proofs.lawful.Rating.{turns_keep_rates}
use Rattle.ipcz_world.proofs.lawful.Settling.{plain_limit_is_enough}
use Rattle.ipcz_world.proofs.lawful.Limits.{settle_limit_is_enough}
use Rattle.ipcz_world.proofs.laws.the_settle_limit_is_enough.Goals as goal

pub returns : goal.returns
returns c = settle_limit_is_enough (plain_limit_is_enough each_step_keeps_lawful first_acts_are_possible
    (turns_keep_rates each_step_keeps_lawful replies_plainly))

use Rattle.ipcz_world.proofs.Whole.{each_step_keeps_lawful, replies_plainly, quiet_has_no_proxy}
use Rattle.ipcz_world.proofs.lawful.Rating.{turns_keep_rates}
use Rattle.ipcz_world.proofs.lawful.Puts.{direct_puts_are_bounded}
use Rattle.ipcz_world.proofs.laws.puts_into_a_direct_world_are_bounded.Goals as goal

pub returns : goal.returns
returns c = direct_puts_are_bounded each_step_keeps_lawful (turns_keep_rates each_step_keeps_lawful replies_plainly) quiet_has_no_proxy

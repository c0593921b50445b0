use Rattle.ipcz_world.proofs.Whole.{each_step_keeps_lawful}
use Rattle.ipcz_world.proofs.lawful.LastingTurns.{turns_held_were_held}
use Rattle.ipcz_world.proofs.laws.ends_held_after_turns_were_held.Goals as goal

pub returns : goal.returns
returns c = turns_held_were_held each_step_keeps_lawful

use Rattle.ipcz_world.proofs.Whole.{each_step_keeps_lawful, messages_in_hand_fit}
use Rattle.ipcz_world.proofs.lawful.LastingTurns.{turns_keep_held}
use Rattle.ipcz_world.proofs.lawful.StayingHeld.{held_until_let_go}
use Rattle.ipcz_world.proofs.laws.turns_hold_ends_until_they_let_them_go.Goals as goal

pub returns : goal.returns
returns c = turns_keep_held each_step_keeps_lawful (held_until_let_go messages_in_hand_fit)

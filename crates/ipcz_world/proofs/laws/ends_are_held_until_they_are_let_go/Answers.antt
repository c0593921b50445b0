use Rattle.ipcz_world.proofs.Whole.{messages_in_hand_fit}
use Rattle.ipcz_world.proofs.lawful.StayingHeld.{held_until_let_go}
use Rattle.ipcz_world.proofs.laws.ends_are_held_until_they_are_let_go.Goals as goal

pub returns : goal.returns
returns c = held_until_let_go messages_in_hand_fit

use Rattle.ipcz_world.proofs.Whole.{messages_in_hand_fit}
use Rattle.ipcz_world.proofs.laws.each_message_in_hand_fits.Goals as goal

pub returns : goal.returns
returns c = messages_in_hand_fit

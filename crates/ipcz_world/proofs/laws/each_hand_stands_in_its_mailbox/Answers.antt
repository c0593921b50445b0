use Rattle.ipcz_world.proofs.Whole.{hands_stand_in_mail}
use Rattle.ipcz_world.proofs.laws.each_hand_stands_in_its_mailbox.Goals as goal

pub returns : goal.returns
returns c = hands_stand_in_mail

use Rattle.ipcz_rule.proofs.BatchMailKinds.{hands_with_more_left_turns}
use Rattle.ipcz_rule.proofs.batch_mail.a_hand_with_more_left_keeps_batches.Goals as goal

pub returns : goal.returns
returns c = hands_with_more_left_turns

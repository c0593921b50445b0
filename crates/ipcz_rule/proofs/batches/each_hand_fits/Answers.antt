use Rattle.ipcz_rule.proofs.BatchedLaws.{hands_fit}
use Rattle.ipcz_rule.proofs.batches.each_hand_fits.Goals as goal

pub returns : goal.returns
returns c = hands_fit

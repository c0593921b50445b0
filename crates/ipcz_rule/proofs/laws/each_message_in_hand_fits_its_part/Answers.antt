use Rattle.ipcz_rule.proofs.RuleLaws.{parts_hands_fit}
use Rattle.ipcz_rule.proofs.laws.each_message_in_hand_fits_its_part.Goals as goal

pub returns : goal.returns
returns c = parts_hands_fit

use Rattle.ipcz_rule.proofs.Claiming.{claims_for_open_deeds}
use Rattle.ipcz_rule.proofs.kinds.a_claim_for_an_open_keeps_the_rule.Goals as goal

pub returns : goal.returns
returns c = claims_for_open_deeds

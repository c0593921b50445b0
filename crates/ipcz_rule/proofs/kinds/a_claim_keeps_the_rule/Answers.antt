use Rattle.ipcz_rule.proofs.Claiming.{claims_turns}
use Rattle.ipcz_rule.proofs.kinds.a_claim_keeps_the_rule.Goals as goal

pub returns : goal.returns
returns c = claims_turns

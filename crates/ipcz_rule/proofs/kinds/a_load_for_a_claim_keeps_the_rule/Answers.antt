use Rattle.ipcz_rule.proofs.Claiming.{loads_for_claim_turns}
use Rattle.ipcz_rule.proofs.kinds.a_load_for_a_claim_keeps_the_rule.Goals as goal

pub returns : goal.returns
returns c = loads_for_claim_turns

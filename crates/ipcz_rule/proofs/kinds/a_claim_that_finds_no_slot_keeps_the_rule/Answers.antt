use Rattle.ipcz_rule.proofs.RunningDry.{dries_deeds}
use Rattle.ipcz_rule.proofs.kinds.a_claim_that_finds_no_slot_keeps_the_rule.Goals as goal

pub returns : goal.returns
returns c = dries_deeds

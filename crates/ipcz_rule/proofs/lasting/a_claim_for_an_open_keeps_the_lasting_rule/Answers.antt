use Rattle.ipcz_rule.proofs.LastsOpenClaims.{claims_for_open_last, claims_for_open_in_order}
use Rattle.ipcz_rule.proofs.lasting.a_claim_for_an_open_keeps_the_lasting_rule.Goals as goal

pub returns-clause-again : goal.returns-clause-again
returns-clause-again c = claims_for_open_last

pub returns-clause-order : goal.returns-clause-order
returns-clause-order c = claims_for_open_in_order

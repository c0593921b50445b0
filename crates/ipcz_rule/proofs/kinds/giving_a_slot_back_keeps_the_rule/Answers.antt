use Rattle.ipcz_rule.proofs.Returning.{gives_back_turns}
use Rattle.ipcz_rule.proofs.kinds.giving_a_slot_back_keeps_the_rule.Goals as goal

pub returns : goal.returns
returns c = gives_back_turns

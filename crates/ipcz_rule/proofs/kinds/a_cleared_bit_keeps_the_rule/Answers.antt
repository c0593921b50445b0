use Rattle.ipcz_rule.proofs.Clearing.{clears_turns}
use Rattle.ipcz_rule.proofs.kinds.a_cleared_bit_keeps_the_rule.Goals as goal

pub returns : goal.returns
returns c = clears_turns

use Rattle.ipcz_rule.proofs.Returning.{unprobes_turns}
use Rattle.ipcz_rule.proofs.kinds.an_unprobe_keeps_the_rule.Goals as goal

pub returns : goal.returns
returns c = unprobes_turns

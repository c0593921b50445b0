use Rattle.ipcz_rule.proofs.Probing.{probes_turns}
use Rattle.ipcz_rule.proofs.kinds.a_probe_keeps_the_rule.Goals as goal

pub returns : goal.returns
returns c = probes_turns

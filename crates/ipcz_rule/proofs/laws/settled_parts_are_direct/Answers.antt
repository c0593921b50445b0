use Rattle.ipcz_rule.proofs.SettledParts.{settled_parts_are_direct}
use Rattle.ipcz_rule.proofs.laws.settled_parts_are_direct.Goals as goal

pub returns : goal.returns
returns c = settled_parts_are_direct

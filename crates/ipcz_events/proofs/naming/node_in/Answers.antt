use Rattle.std.proofs.Common.{arith}
use Rattle.ipcz_lines.proofs.Numbers.{too_large}
use Rattle.ipcz_events.proofs.naming.node_in.Goals as goal

pub returns-in_default : goal.returns-in_default
returns-in_default c = too_large _ c.in-Some.n 256 c.in-Some.ensures (omega arith)

use Rattle.std.proofs.Common.{length}
use Rattle.ipcz_node.proofs.routers.+dry_in.Given as goal

abbrev pub decreases-dry_in : goal.decreases-dry_in
decreases-dry_in l = length l.entries.now

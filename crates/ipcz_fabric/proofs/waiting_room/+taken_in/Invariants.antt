use Rattle.std.proofs.Common.{length}
use Rattle.ipcz_fabric.proofs.waiting_room.+taken_in.Given as goal

abbrev pub decreases-taken_in : goal.decreases-taken_in
decreases-taken_in l = length l.chairs.now

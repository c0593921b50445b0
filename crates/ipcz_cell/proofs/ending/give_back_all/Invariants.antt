use Rattle.ipcz_cell.specs.CellStates.{part_in}
use Rattle.ipcz_cell.specs.Seats.{mine_of}
use Rattle.ipcz_cell.proofs.Resting.{IsBack}
use Rattle.ipcz_cell.proofs.ending.give_back_all.Given as goal

-- so many slots are given back, and the others are still held
abbrev pub invariant-loop-done : goal.invariant-loop-done
invariant-loop-done g l = IsBack g.F.FabricName.table l.count (part_in l.fn.seat.me.0.view) l.seat.table_id (mine_of l.seat.me) l.held l._done

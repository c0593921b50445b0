use Rattle.ipcz_cell.specs.CellStates.{part_in}
use Rattle.ipcz_cell.specs.Cells.{batch_slots}
use Rattle.ipcz_cell.proofs.Resting.{IsLeft}
use Rattle.ipcz_cell.proofs.ending.unprobe_all.Given as goal
use Rattle.ipcz_cell.specs.Seats.{mine_of}

-- so many mailboxes are given back, and the others are still held
abbrev pub invariant-loop-done : goal.invariant-loop-done
invariant-loop-done g l = IsLeft g.F.FabricName.table l.node l.count (mine_of l.fn.seat.me) (batch_slots g.F.FabricName.table.count (part_in l.fn.seat.me.0.view) l.held) l.seat.table_id (mine_of l.seat.me) l.probed l._done

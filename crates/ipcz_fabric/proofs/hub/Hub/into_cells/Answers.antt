use Rattle.std.proofs.Common.{◌≡◌, true, List, arith, subst, sym}
use Rattle.ipcz_cell.specs.CellStates.{CellState}
use Rattle.ipcz_cell.specs.Ending.{is_in_order}
use Rattle.ipcz_fabric.proofs.Standing.{all_in_order}
use Rattle.ipcz_fabric.proofs.hub.Hub.into_cells.Goals as goal

pub returns-clause-all : goal.returns-clause-all
returns-clause-all g c =
    let count = g.F.FabricName.table.count in
    let places = c.unlock_all-places.result in
    let many = c.unlock_all-places.ensures.many in
    let all = c.unlock_all-places.ensures.all in
    subst (λ (cells : List CellState). is_in_order count 0 cells ≡ true) (sym c.cells_at.ensures)
    (all_in_order count 0 places.items (omega (arith, many, places.ok)) (omega (arith, many, all, places.ok)) c.unlock_all-places.ensures.sorted)

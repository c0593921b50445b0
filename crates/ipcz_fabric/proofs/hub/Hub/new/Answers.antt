use Rattle.std.proofs.Common.{sym, ◌∙◌, subst, List, arith}
use Rattle.ipcz_cell.specs.CellStates.{CellState}
use Rattle.ipcz_cell.proofs.ReadBack.{order_many}
use Rattle.ipcz_fabric.specs.Hubs.{AreFirstPortals}
use Rattle.ipcz_fabric.proofs.Holding.{first_portals}
use Rattle.ipcz_fabric.proofs.hub.Hub.new.Goals as goal

pub invariant_of-hub : goal.invariant_of-hub
invariant_of-hub g c =
    let many = order_many _ 0 c.as_slice.result.now (sym c.are_all.ensures ∙ c.if-not-are_all.false) in
    omega (arith, many, c.as_slice.ensures.len, c.lock_all-cells.ensures)

pub returns-clause-portals : goal.returns-clause-portals
returns-clause-portals g c =
    subst (λ (l : List CellState). AreFirstPortals l c.add_first.new.portals.items) c.as_slice-2.ensures.value
    (first_portals c.add_first.result c.as_slice-2.result.now c.new-portals.result.items c.add_first.new.portals.items (sym c.is_err.ensures.value ∙ c.if-is_err.false) c.add_first.ensures
    c.new-portals.ensures.items)

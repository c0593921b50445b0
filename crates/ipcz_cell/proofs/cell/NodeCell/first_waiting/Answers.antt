use Rattle.std.proofs.Common.{subst, sym, ap, ◌∙◌}
use Rattle.ipcz_node.specs.Node.{Node}
use Rattle.ipcz_node.specs.RoomyNodes.{RoomyNode}
use Rattle.ipcz_cell.specs.CellStates.{CellState}
use Rattle.ipcz_cell.specs.Cells.{IsCell}
use Rattle.ipcz_cell.specs.Retries.{IsFirstDry}
use Rattle.ipcz_cell.specs.Seats.{mine_of}
use Rattle.ipcz_cell.proofs.cell.NodeCell.first_waiting.Goals as goal

pub invariant_of-self : goal.invariant_of-self
invariant_of-self g c = (
  subst (λ (z : Node). IsCell g.F.FabricName.table z c.self.inside.message c.self.inside.probed c.self.inside.held c.self.inside.seat.table_id (mine_of c.self.inside.seat.me))
      (sym (ap (λ (v : RoomyNode). v.node) c.first_dry.ensures.stays)) c.self.invariant.0,
  c.self.invariant.1,
)

pub returns-clause-waits : goal.returns-clause-waits
returns-clause-waits g c =
    let state = sym c.self.invariant.0.seated.state ∙ ap (λ (o : CellState). o.part.state) c.self.view_is in
    subst (λ (x : Node). IsFirstDry x c.first_dry.result) state c.first_dry.ensures.found

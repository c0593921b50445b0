use Rattle.ipcz_fabric.proofs.Stops.{stopped_for}
use Rattle.ipcz_fabric.proofs.desk.Desk.stop.Goals as goal

pub returns : goal.returns
returns g c = stopped_for c.self.inside.stop c.self.inside.cell.part.history c.self.invariant.1

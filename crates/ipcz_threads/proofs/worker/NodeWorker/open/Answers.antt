use Rattle.std.proofs.Common.{subst}
use Rattle.ipcz_cell.specs.Opens.{OpensPair}
use Rattle.ipcz_threads.proofs.worker.NodeWorker.open.Goals as goal

pub returns-clause-opens : goal.returns-clause-opens
returns-clause-opens g c = subst (λ w. OpensPair g.F.FabricName.table w.cell c.open_pair.new.self c.open_pair.result) c.self.view_is c.open_pair.ensures

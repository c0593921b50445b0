use Rattle.std.proofs.Common.{subst}
use Rattle.ipcz_cell.specs.CellStates.{CellState}
use Rattle.ipcz_cell.specs.Opens.{OpensPair}
use Rattle.ipcz_c.proofs.member.Member.open.Goals as goal

pub returns : goal.returns
returns g c = subst (λ (x : CellState). OpensPair g.F.FabricName.table x c.open_pair.new.self c.open_pair.result) c.self.view_is c.open_pair.ensures

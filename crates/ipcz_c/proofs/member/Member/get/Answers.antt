use Rattle.std.proofs.Common.{◌≡◌, Some, subst}
use Rattle.std.specs.Prelude.{IfOk}
use Rattle.ipcz_base.specs.Items.{sizes_of}
use Rattle.ipcz_node.specs.Calls.{next_sizes}
use Rattle.ipcz_cell.specs.CellStates.{CellState}
use Rattle.ipcz_c.proofs.CellAnswering.{sizes_got}
use Rattle.ipcz_c.proofs.member.Member.get.Goals as goal

pub returns-clause-sizes : goal.returns-clause-sizes
returns-clause-sizes g c = subst (λ (x : CellState). IfOk c.get.result (λ got. next_sizes x.part.state c.args.at ≡ Some (sizes_of got.1))) c.self.view_is
    (sizes_got c.self.inside.cell.part.state c.args.at c.get.result c.get.ensures.allowed c.get.ensures.parcel)

use Rattle.std.proofs.Common.{subst}
use Rattle.ipcz_cell.specs.CellStates.{CellState}
use Rattle.ipcz_cell.specs.Opens.{OpensPair}
use Rattle.ipcz_c.proofs.Moving.{moved}
use Rattle.ipcz_c.proofs.cell_handle.CellHandle.open.Goals as goal

pub returns : goal.returns
returns g c = moved (λ t x y. OpensPair t x y c.open-answer.result) _ _ g.F.FabricName.table _ _ c.take-member.ensures.cell c.give.ensures
    (subst (λ (x : CellState). OpensPair g.F.FabricName.table x c.open-answer.new.self c.open-answer.result) c.deref_mut.ensures.value c.open-answer.ensures)

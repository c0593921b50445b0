use Rattle.std.proofs.Common.{subst}
use Rattle.ipcz_cell.specs.CellStates.{CellState}
use Rattle.ipcz_cell.specs.Retries.{Retries}
use Rattle.ipcz_c.proofs.Moving.{moved}
use Rattle.ipcz_c.proofs.cell_handle.CellHandle.retry.Goals as goal

pub returns : goal.returns
returns g c = moved (λ t x y. Retries t x c.retry-answer.result y) _ _ g.F.FabricName.table _ _ c.take-member.ensures.cell c.give.ensures
    (subst (λ (x : CellState). Retries g.F.FabricName.table x c.retry-answer.result c.retry-answer.new.self) c.deref_mut.ensures.value c.retry-answer.ensures)

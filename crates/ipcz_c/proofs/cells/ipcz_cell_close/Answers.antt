use Rattle.ipcz_c.specs.CellSteps.{ClosesAt}
use Rattle.ipcz_c.specs.HeldCells.{Moves}
use Rattle.ipcz_c.proofs.cells.ipcz_cell_close.Goals as goal

pub returns-clause-did : goal.returns-clause-did
returns-clause-did c = λ has. (
  c.close-answer.result,
  coe 0 1 (j. Moves (λ t x y. ClosesAt (c.end.ensures j) x c.close-answer.result y) c.args.of.now.held.cell c.close-answer.new.self.held.cell)
      c.close-answer.ensures,
  c.outcome.ensures,
)

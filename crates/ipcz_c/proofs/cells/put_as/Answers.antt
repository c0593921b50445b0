use Rattle.std.proofs.Common.{inl}
use Rattle.ipcz_c.specs.CellSteps.{PutsAt}
use Rattle.ipcz_c.specs.HeldCells.{Moves}
use Rattle.ipcz_c.proofs.cells.put_as.Goals as goal

pub returns-in-Ok-clause-did : goal.returns-in-Ok-clause-did
returns-in-Ok-clause-did c = λ has. inl (
  c.put-answer.result,
  coe 0 1 (j. Moves (λ t x y. PutsAt c.args.profile (c.end.ensures j) (c.in-Ok.ensures.0 j) (c.in-Ok.ensures.1 j) x c.put-answer.result y)
      c.args.of.now.held.cell c.put-answer.new.self.held.cell) c.put-answer.ensures,
  c.tell_number.ensures,
)

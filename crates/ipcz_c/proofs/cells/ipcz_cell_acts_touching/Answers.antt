use Rattle.ipcz_cell.specs.TurnChains.{RunsTouching}
use Rattle.ipcz_c.specs.HeldCells.{Moves}
use Rattle.ipcz_c.proofs.cells.ipcz_cell_acts_touching.Goals as goal

pub returns-clause-did : goal.returns-clause-did
returns-clause-did c = λ has. (
  c.acts-answer.result,
  c.acts-answer.new.touched,
  coe 0 1 (j. Moves (λ t x y. RunsTouching t c.args.limit x c.acts-answer.result (c.none-nodes.ensures j) c.acts-answer.new.touched y)
      c.args.of.now.held.cell c.acts-answer.new.self.held.cell) c.acts-answer.ensures,
  c.tell_number.ensures,
  c.bits.ensures,
)

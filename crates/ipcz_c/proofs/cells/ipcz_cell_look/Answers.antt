use Rattle.ipcz_c.specs.Looks.{IsLookOf}
use Rattle.ipcz_c.proofs.cells.ipcz_cell_look.Goals as goal

pub returns-clause-did : goal.returns-clause-did
returns-clause-did c = λ has. (
  c.look-answer.result,
  coe 0 1 (j. IsLookOf c.args.of.now.held.cell (c.end.ensures j) c.look-answer.result) c.look-answer.ensures.look,
  c.tell_seen.ensures,
)

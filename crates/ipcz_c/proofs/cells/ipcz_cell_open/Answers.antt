use Rattle.ipcz_c.proofs.cells.ipcz_cell_open.Goals as goal

pub returns-clause-did : goal.returns-clause-did
returns-clause-did c = λ has. (c.open-answer.result, c.open-answer.ensures, c.tell_ends.ensures)

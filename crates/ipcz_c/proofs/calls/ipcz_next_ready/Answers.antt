use Rattle.ipcz_c.proofs.calls.ipcz_next_ready.Goals as goal

pub returns-clause-did : goal.returns-clause-did
returns-clause-did c = λ has. (c.ready_from-answer.result, c.ready_from-answer.ensures.ready, c.tell_ready.ensures)

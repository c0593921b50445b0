use Rattle.ipcz_messages.proofs.named.index_closed.Goals as goal

pub returns-in_default-clause-other : goal.returns-in_default-clause-other
returns-in_default-clause-other c name h = absurd (c.in_default.ensures.other name h)

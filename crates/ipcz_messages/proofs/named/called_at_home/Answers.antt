use Rattle.ipcz_messages.proofs.named.called_at_home.Goals as goal

pub returns-in_default-clause-other : goal.returns-in_default-clause-other
returns-in_default-clause-other c name node other h first = c.in_default.ensures.other name h

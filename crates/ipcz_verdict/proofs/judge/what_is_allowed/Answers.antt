use Rattle.ipcz_verdict.proofs.judge.what_is_allowed.Goals as goal

pub returns : goal.returns
returns c = record { law = λ judge nodes profile log has. (has.ledger, has.run) }

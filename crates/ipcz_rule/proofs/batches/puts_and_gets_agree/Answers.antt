use Rattle.ipcz_rule.proofs.BatchedLaws.{puts_once, gets_after_puts}
use Rattle.ipcz_rule.proofs.batches.puts_and_gets_agree.Goals as goal

pub returns-clause-once : goal.returns-clause-once
returns-clause-once c = puts_once

pub returns-clause-order : goal.returns-clause-order
returns-clause-order c = gets_after_puts

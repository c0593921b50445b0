use Rattle.ipcz_rule.proofs.RuleLaws.{full_mailboxes_are_announced}
use Rattle.ipcz_rule.proofs.laws.each_full_mailbox_is_announced.Goals as goal

pub returns : goal.returns
returns c = full_mailboxes_are_announced

use Rattle.ipcz_rule.proofs.MailRaces.{waited_for_stays}
use Rattle.ipcz_rule.proofs.laws.a_mailbox_that_is_waited_for_stays.Goals as goal

pub returns : goal.returns
returns c = waited_for_stays

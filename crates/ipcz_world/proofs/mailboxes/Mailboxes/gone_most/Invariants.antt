use Rattle.std.proofs.Common.{◌≡◌, drop}
use Rattle.ipcz_world.proofs.Vocabulary.{higher, highest}
use Rattle.ipcz_world.specs.SettleLimit.{gone_mailed}
use Rattle.ipcz_world.proofs.mailboxes.Mailboxes.gone_most.Given as goal

-- the highest is that of the mailboxes so far
abbrev pub invariant-loop-mail : goal.invariant-loop-mail
invariant-loop-mail l = higher l.most (highest gone_mailed (drop l.mail-index l.mail-items)) ≡ highest gone_mailed l.mail-items

use Rattle.std.proofs.Common.{drop, cond}
use Rattle.ipcz_base.specs.Totals.{total_list}
use Rattle.ipcz_world.proofs.Vocabulary.{is_clear}
use Rattle.ipcz_world.proofs.code.Tallying.{IsTallied}
use Rattle.ipcz_world.proofs.mailboxes.Mailboxes.full_count.Given as goal

-- the mailboxes so far are summed up
abbrev pub invariant-loop-mail : goal.invariant-loop-mail
invariant-loop-mail l = IsTallied l.sum (total_list (λ m. cond (is_clear m) 0 1) (drop l.mail-index l.mail-items))
    (total_list (λ m. cond (is_clear m) 0 1) l.mail-items)

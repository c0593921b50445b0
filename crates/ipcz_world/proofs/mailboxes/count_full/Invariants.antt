use Rattle.std.proofs.Common.{◌≡◌, ◌+◌, cond, drop}
use Rattle.ipcz_base.specs.Totals.{total_list}
use Rattle.ipcz_world.specs.Mailing.{count_full}
use Rattle.ipcz_world.proofs.Vocabulary.{is_full}
use Rattle.ipcz_world.proofs.mailboxes.count_full.Given as goal

-- those so far are counted
abbrev pub invariant-loop-mail : goal.invariant-loop-mail
invariant-loop-mail l = l.sum + total_list (λ m. cond (is_full m) 1 0) (drop l.mail-index l.boxes) ≡ count_full l.boxes

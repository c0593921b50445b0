use Rattle.std.proofs.Common.{◌≡◌, replicate}
use Rattle.ipcz_world.proofs.Vocabulary.{Empty}
use Rattle.ipcz_world.proofs.mailboxes.Mailboxes.new.Given as goal

-- so many empty mailboxes were made
abbrev pub invariant-loop-k : goal.invariant-loop-k
invariant-loop-k l = l.boxes.items ≡ replicate l._k Empty

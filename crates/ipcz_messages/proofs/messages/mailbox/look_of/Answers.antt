use Rattle.ipcz_messages.specs.Messages.{touches_mailbox}
use Rattle.ipcz_messages.proofs.Joining.{no_next}
use Rattle.ipcz_messages.proofs.messages.mailbox.look_of.Goals as goal

pub returns-in_err-next : goal.returns-in_err-next
returns-in_err-next c = rw c.from_residual.ensures
    (λ k h. no_next (touches_mailbox c.args.from c.args.to) c.args.lines.now c.args.post c.in_err-next.ensures.none k h.next)

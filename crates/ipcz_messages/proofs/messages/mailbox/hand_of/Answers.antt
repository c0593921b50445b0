use Rattle.ipcz_messages.specs.Messages.{touches_hand}
use Rattle.ipcz_messages.proofs.Joining.{no_next}
use Rattle.ipcz_messages.proofs.messages.mailbox.hand_of.Goals as goal

pub returns-in_err-next : goal.returns-in_err-next
returns-in_err-next c = rw c.from_residual.ensures
    (λ k h. no_next (touches_hand c.args.to) c.args.lines.now c.args.look c.in_err-next.ensures.none k h.next)

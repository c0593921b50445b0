use Rattle.std.proofs.Common.{nat_eq, ap, ◌∙◌}
use Rattle.ipcz_node.specs.RoomyNodes.{boxes_with_mail}
use Rattle.ipcz_node.proofs.Mailing.{waiting_tells}
use Rattle.ipcz_node.proofs.outboxes.Outboxes.are_empty.Goals as goal

pub returns : goal.returns
returns c =
    ap (λ n. nat_eq n 0) c.self.invariant.1 ∙ ap (λ v. nat_eq (boxes_with_mail v.messages) 0) c.self.view_is ∙
    waiting_tells c.args.self.now.messages

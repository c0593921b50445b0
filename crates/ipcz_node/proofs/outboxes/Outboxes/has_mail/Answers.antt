use Rattle.std.proofs.Common.{length, not, nat_eq, [], ap, sym, ◌∙◌, arith}
use Rattle.ipcz_base.specs.Indexed.{place_at}
use Rattle.ipcz_node.proofs.Queues.{place_map}
use Rattle.ipcz_node.proofs.outboxes.Outboxes.has_mail.Goals as goal

pub returns : goal.returns
returns c =
    let at = place_map (λ q. q.messages) [] c.self.inside.queues.items c.from.result c.args.to c.index.result.now c.index.ensures
    c.from.ensures (omega (arith, c.self.invariant.0, c.from.ensures)) in
    ap not (c.is_empty.ensures ∙
    ap (λ ms. nat_eq (length ms) 0) (sym at ∙ ap (λ v. place_at [] v.messages c.args.to) c.self.view_is))

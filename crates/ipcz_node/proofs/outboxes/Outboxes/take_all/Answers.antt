use Rattle.std.proofs.Common.{◌<◌, [], length, length-set, ap, sym, ◌∙◌, arith, refl}
use Rattle.ipcz_base.specs.Indexed.{place_at, put_place}
use Rattle.ipcz_node.specs.RoomyNodes.{one_with_mail}
use Rattle.ipcz_node.proofs.Queues.{put_map, place_map}
use Rattle.ipcz_node.proofs.Mailing.{mail_noted, waiting_set}
use Rattle.ipcz_node.proofs.outboxes.Outboxes.take_all.Goals as goal

pub returns-clause-messages : goal.returns-clause-messages
returns-clause-messages c =
    put_map (λ q. q.messages) [] (λ m. []) c.self.inside.queues.items c.from.result c.args.to c.index_mut-queue.result.now c.take_from.new.outbox
    c.index_mut-queue.ensures.value c.take_from.ensures.outbox c.from.ensures (omega (arith, c.self.invariant.0, c.from.ensures))
    ∙ ap (λ v. put_place [] v.messages c.args.to []) c.self.view_is

pub returns-clause-batch : goal.returns-clause-batch
returns-clause-batch c =
    let at = place_map (λ q. q.messages) [] c.self.inside.queues.items c.from.result c.args.to c.index_mut-queue.result.now c.index_mut-queue.ensures.value
    c.from.ensures (omega (arith, c.self.invariant.0, c.from.ensures)) in
    c.take_from.ensures.batch ∙ (sym at ∙ ap (λ v. place_at [] v.messages c.args.to) c.self.view_is)

pub overflow_sub-self : goal.overflow_sub-self
overflow_sub-self c =
    let low : c.from.result < length c.self.inside.queues.items = omega (arith, c.self.invariant.0, c.from.ensures, c.ranges.to.fits) in
    let moved = waiting_set (λ q. q.messages) c.self.inside.queues.items c.from.result c.index_mut-queue.result.now c.take_from.new.outbox
    c.index_mut-queue.ensures.value low in
    let none = ap one_with_mail c.take_from.ensures.outbox in
    omega (arith, moved, none, c.count-before.ensures, c.self.invariant.1)

pub invariant_of-self : goal.invariant_of-self
invariant_of-self c =
    let low : c.from.result < length c.self.inside.queues.items = omega (arith, c.self.invariant.0, c.from.ensures, c.ranges.to.fits) in
    let moved = waiting_set (λ q. q.messages) c.self.inside.queues.items c.from.result c.index_mut-queue.result.now c.take_from.new.outbox
    c.index_mut-queue.ensures.value low in
    let none = ap one_with_mail c.take_from.ensures.outbox in (
      length-set c.self.inside.queues.items c.from.result c.take_from.new.outbox ∙ c.self.invariant.0,
      omega (arith, moved, none, c.count-before.ensures, c.self.invariant.1),
      mail_noted _ _ _ _ c.args.to _ c.self.invariant.2
          (put_map (λ q. q.messages) [] (λ b. c.take_from.new.outbox.messages) c.self.inside.queues.items c.from.result c.args.to c.index_mut-queue.result.now c.take_from.new.outbox c.index_mut-queue.ensures.value refl
          c.from.ensures (omega (arith, low))) c.note.ensures,
    )

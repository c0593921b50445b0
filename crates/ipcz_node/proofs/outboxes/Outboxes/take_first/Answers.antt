use Rattle.std.proofs.Common.{◌<◌, [], length, length-set, ap, sym, ◌∙◌, arith, refl}
use Rattle.std.specs.Prelude.{List, option_to_list}
use Rattle.ipcz_base.specs.declared.message.Message.{Message}
use Rattle.ipcz_base.specs.Indexed.{place_at, put_place}
use Rattle.ipcz_node.specs.Acts.{first_of, rest_of}
use Rattle.ipcz_node.proofs.Queues.{put_map, place_map}
use Rattle.ipcz_node.proofs.Mailing.{mail_noted, waiting_set, waiting_few, one_most}
use Rattle.ipcz_node.proofs.outboxes.Outboxes.take_first.Goals as goal

pub returns-clause-messages : goal.returns-clause-messages
returns-clause-messages c =
    put_map (λ q. q.messages) [] rest_of c.self.inside.queues.items c.from.result c.args.to c.index_mut-queue.result.now c.take_first_of.new.outbox
    c.index_mut-queue.ensures.value c.take_first_of.ensures.outbox c.from.ensures (omega (arith, c.self.invariant.0, c.from.ensures))
    ∙ ap (λ v. put_place [] v.messages c.args.to (rest_of (place_at [] v.messages c.args.to))) c.self.view_is

pub returns-clause-batch : goal.returns-clause-batch
returns-clause-batch c =
    let at = place_map (λ q. q.messages) [] c.self.inside.queues.items c.from.result c.args.to c.index_mut-queue.result.now c.index_mut-queue.ensures.value
    c.from.ensures (omega (arith, c.self.invariant.0, c.from.ensures)) in
    c.take_first_of.ensures.batch ∙ ap (λ (m : List Message). option_to_list (first_of m)) (sym at ∙ ap (λ v. place_at [] v.messages c.args.to) c.self.view_is)

pub overflow_add-self : goal.overflow_add-self
overflow_add-self c =
    omega (
      arith,
      c.self.invariant.1,
      waiting_few (λ q. q.messages) c.self.inside.queues.items c.self.invariant.0,
      one_most c.take_first_of.new.outbox.messages,
      c.count.ensures,
    )

pub overflow_sub-self : goal.overflow_sub-self
overflow_sub-self c =
    let low : c.from.result < length c.self.inside.queues.items = omega (arith, c.self.invariant.0, c.from.ensures, c.ranges.to.fits) in
    let moved = waiting_set (λ q. q.messages) c.self.inside.queues.items c.from.result c.index_mut-queue.result.now c.take_first_of.new.outbox
    c.index_mut-queue.ensures.value low in
    omega (arith, moved, c.count.ensures, c.count-before.ensures, c.self.invariant.1)

pub invariant_of-self : goal.invariant_of-self
invariant_of-self c =
    let low : c.from.result < length c.self.inside.queues.items = omega (arith, c.self.invariant.0, c.from.ensures, c.ranges.to.fits) in
    let moved = waiting_set (λ q. q.messages) c.self.inside.queues.items c.from.result c.index_mut-queue.result.now c.take_first_of.new.outbox
    c.index_mut-queue.ensures.value low in (
      length-set c.self.inside.queues.items c.from.result c.take_first_of.new.outbox ∙ c.self.invariant.0,
      omega (arith, moved, c.count.ensures, c.count-before.ensures, c.self.invariant.1),
      mail_noted _ _ _ _ c.args.to _ c.self.invariant.2
          (put_map (λ q. q.messages) [] (λ b. c.take_first_of.new.outbox.messages) c.self.inside.queues.items c.from.result c.args.to c.index_mut-queue.result.now c.take_first_of.new.outbox c.index_mut-queue.ensures.value refl
          c.from.ensures (omega (arith, low))) c.note.ensures,
    )

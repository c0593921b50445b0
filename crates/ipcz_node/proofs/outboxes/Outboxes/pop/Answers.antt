use Rattle.std.proofs.Common.{◌<◌, [], length, length-set, ap, sym, ◌∙◌, arith, refl}
use Rattle.ipcz_base.specs.Indexed.{place_at, put_place}
use Rattle.ipcz_node.specs.Acts.{first_of, rest_of}
use Rattle.ipcz_node.proofs.Queues.{put_map, place_map, place_set}
use Rattle.ipcz_node.proofs.Mailing.{mail_noted, waiting_set, waiting_few, one_most}
use Rattle.ipcz_node.proofs.outboxes.Outboxes.pop.Goals as goal

pub returns-clause-messages : goal.returns-clause-messages
returns-clause-messages c =
    put_map (λ q. q.messages) [] rest_of c.self.inside.queues.items c.from.result c.args.to c.index_mut-queue.result.now c.pop-message.new.self
    c.index_mut-queue.ensures.value c.pop-message.ensures.messages c.from.ensures (omega (arith, c.self.invariant.0, c.from.ensures))
    ∙ ap (λ v. put_place [] v.messages c.args.to (rest_of (place_at [] v.messages c.args.to))) c.self.view_is

pub returns-clause-message : goal.returns-clause-message
returns-clause-message c =
    let at = place_map (λ q. q.messages) [] c.self.inside.queues.items c.from.result c.args.to c.index_mut-queue.result.now c.index_mut-queue.ensures.value
    c.from.ensures (omega (arith, c.self.invariant.0, c.from.ensures)) in
    c.pop-message.ensures.message ∙ ap first_of (sym at ∙ ap (λ v. place_at [] v.messages c.args.to) c.self.view_is)

pub returns-clause-room : goal.returns-clause-room
returns-clause-room c h =
    let was = place_map (λ q. q.messages) [] c.self.inside.queues.items c.from.result c.args.to c.index_mut-queue.result.now c.index_mut-queue.ensures.value
    c.from.ensures (omega (arith, c.self.invariant.0, c.from.ensures)) in
    let empty = c.pop-message.ensures.messages ∙ ap rest_of (sym was ∙ ap (λ v. place_at [] v.messages c.args.to) c.self.view_is) ∙ h in
    let at = place_set (λ q. q.room) 0 c.self.inside.queues.items c.from.result c.args.to c.pop-message.new.self
    c.from.ensures (omega (arith, c.self.invariant.0, c.from.ensures)) in
    at ∙ c.pop-message.ensures.room empty

pub overflow_add-self : goal.overflow_add-self
overflow_add-self c =
    omega (
      arith,
      c.self.invariant.1,
      waiting_few (λ q. q.messages) c.self.inside.queues.items c.self.invariant.0,
      one_most c.pop-message.new.self.messages,
      c.count.ensures,
    )

pub overflow_sub-self : goal.overflow_sub-self
overflow_sub-self c =
    let low : c.from.result < length c.self.inside.queues.items = omega (arith, c.self.invariant.0, c.from.ensures, c.ranges.to.fits) in
    let moved = waiting_set (λ q. q.messages) c.self.inside.queues.items c.from.result c.index_mut-queue.result.now c.pop-message.new.self
    c.index_mut-queue.ensures.value low in
    omega (arith, moved, c.count.ensures, c.count-before.ensures, c.self.invariant.1)

pub invariant_of-self : goal.invariant_of-self
invariant_of-self c =
    let low : c.from.result < length c.self.inside.queues.items = omega (arith, c.self.invariant.0, c.from.ensures, c.ranges.to.fits) in
    let moved = waiting_set (λ q. q.messages) c.self.inside.queues.items c.from.result c.index_mut-queue.result.now c.pop-message.new.self
    c.index_mut-queue.ensures.value low in (
      length-set c.self.inside.queues.items c.from.result c.pop-message.new.self ∙ c.self.invariant.0,
      omega (arith, moved, c.count.ensures, c.count-before.ensures, c.self.invariant.1),
      mail_noted _ _ _ _ c.args.to _ c.self.invariant.2
          (put_map (λ q. q.messages) [] (λ b. c.pop-message.new.self.messages) c.self.inside.queues.items c.from.result c.args.to c.index_mut-queue.result.now c.pop-message.new.self c.index_mut-queue.ensures.value refl
          c.from.ensures (omega (arith, low))) c.note.ensures,
    )

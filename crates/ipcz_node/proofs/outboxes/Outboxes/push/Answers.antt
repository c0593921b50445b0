use Rattle.std.proofs.Common.{◌<◌, ◌++◌, ◌∷◌, [], ℕ, length, length-set, ap, sym, ◌∙◌, arith, refl, subst}
use Rattle.ipcz_base.specs.Indexed.{place_at, put_place}
use Rattle.ipcz_node.specs.RoomyNodes.{one_with_mail}
use Rattle.ipcz_node.proofs.Queues.{put_map, place_map}
use Rattle.ipcz_node.proofs.Mailing.{mail_noted, waiting_set, waiting_few, one_pushed, one_most}
use Rattle.ipcz_node.proofs.outboxes.Outboxes.push.Goals as goal

pub push-requires : goal.push-requires
push-requires c =
    let at = place_map (λ q. q.room) 0 c.self.inside.queues.items c.from.result c.args.to c.index_mut-queue.result.now c.index_mut-queue.ensures.value
    c.from.ensures (omega (arith, c.self.invariant.0, c.from.ensures)) in
    subst (λ (n : ℕ). 0 < n) (ap (λ v. place_at 0 v.room c.args.to) (sym c.self.view_is) ∙ at) c.requires

pub returns : goal.returns
returns c =
    put_map (λ q. q.messages) [] (λ q. q ++ c.args.message ∷ []) c.self.inside.queues.items c.from.result c.args.to c.index_mut-queue.result.now
    c.push.new.self c.index_mut-queue.ensures.value c.push.ensures c.from.ensures
    (omega (arith, c.self.invariant.0, c.from.ensures))
    ∙ ap (λ v. put_place [] v.messages c.args.to (place_at [] v.messages c.args.to ++ c.args.message ∷ [])) c.self.view_is

pub overflow_add-self : goal.overflow_add-self
overflow_add-self c =
    omega (arith, c.self.invariant.1, waiting_few (λ q. q.messages) c.self.inside.queues.items c.self.invariant.0, c.count.ensures)

pub invariant_of-self : goal.invariant_of-self
invariant_of-self c =
    let box = c.index_mut-queue.result.now.messages in
    let low : c.from.result < length c.self.inside.queues.items = omega (arith, c.self.invariant.0, c.from.ensures, c.ranges.to.fits) in
    let moved = waiting_set (λ q. q.messages) c.self.inside.queues.items c.from.result c.index_mut-queue.result.now c.push.new.self
    c.index_mut-queue.ensures.value low in
    let more = ap one_with_mail c.push.ensures ∙ one_pushed box c.args.message in (
      length-set c.self.inside.queues.items c.from.result c.push.new.self ∙ c.self.invariant.0,
      omega (arith, moved, more, one_most box, c.count.ensures, c.self.invariant.1),
      mail_noted _ _ _ _ c.args.to _ c.self.invariant.2
          (put_map (λ q. q.messages) [] (λ b. c.push.new.self.messages) c.self.inside.queues.items c.from.result c.args.to c.index_mut-queue.result.now c.push.new.self c.index_mut-queue.ensures.value refl
          c.from.ensures (omega (arith, low))) c.note.ensures,
    )

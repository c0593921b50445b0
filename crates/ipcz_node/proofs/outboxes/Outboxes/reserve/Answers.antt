use Rattle.std.proofs.Common.{◌<◌, [], ℕ, ap, sym, ◌∙◌, arith, subst, ◌≤◌, List, map, slice_set, length-set}
use Rattle.std.specs.Prelude.{OnOk}
use Rattle.ipcz_base.specs.Indexed.{place_at}
use Rattle.ipcz_node.specs.NodeSets.{AreWithMail}
use Rattle.ipcz_node.specs.RoomyNodes.{boxes_with_mail}
use Rattle.ipcz_node.proofs.Queues.{kept_map, place_set, place_map, raised}
use Rattle.ipcz_node.proofs.outboxes.Outboxes.reserve.Goals as goal

pub returns-clause-ok : goal.returns-clause-ok
returns-clause-ok c =
    let at = place_set (λ q. q.room) 0 c.self.inside.queues.items c.from.result c.args.to c.reserve.new.self
    c.from.ensures (omega (arith, c.self.invariant.0, c.from.ensures)) in
    subst (λ (n : ℕ). OnOk c.reserve.result (0 < n)) (sym at) c.reserve.ensures.ok

pub returns-clause-messages : goal.returns-clause-messages
returns-clause-messages c =
    kept_map (λ q. q.messages) [] c.self.inside.queues.items c.from.result c.index_mut.result.now c.reserve.new.self c.index_mut.ensures.value
    c.reserve.ensures.messages
    ∙ ap (λ v. v.messages) c.self.view_is

pub returns-clause-succeeds : goal.returns-clause-succeeds
returns-clause-succeeds c h =
    let at = place_map (λ q. q.room) 0 c.self.inside.queues.items c.from.result c.args.to c.index_mut.result.now
    c.index_mut.ensures.value c.from.ensures (omega (arith, c.self.invariant.0, c.from.ensures)) in
    c.reserve.ensures.succeeds (subst (λ (n : ℕ). 0 < n) (ap (λ v. place_at 0 v.room c.args.to) (sym c.self.view_is) ∙ at) h)

pub returns-clause-empty : goal.returns-clause-empty
returns-clause-empty c none =
    let at = place_map (λ q. q.messages) [] c.self.inside.queues.items c.from.result c.args.to c.index_mut.result.now
    c.index_mut.ensures.value c.from.ensures (omega (arith, c.self.invariant.0, c.from.ensures)) in
    c.reserve.ensures.empty (sym at ∙ ap (λ v. place_at [] v.messages c.args.to) c.self.view_is ∙ none)

pub returns-clause-kept : goal.returns-clause-kept
returns-clause-kept c other =
    subst (λ (v : List ℕ). place_at 0 v other ≤ place_at 0 (map (λ q. q.room) (slice_set c.self.inside.queues.items c.from.result c.reserve.new.self)) other)
    (ap (λ v. v.room) c.self.view_is)
    (raised (λ q. q.room) c.self.inside.queues.items c.from.result c.index_mut.result.now c.reserve.new.self c.index_mut.ensures.value
    c.reserve.ensures.kept other)

pub invariant_of-self : goal.invariant_of-self
invariant_of-self c = (
  length-set c.self.inside.queues.items c.from.result c.reserve.new.self ∙ c.self.invariant.0,
  c.self.invariant.1 ∙
      sym (ap boxes_with_mail (kept_map (λ q. q.messages) [] c.self.inside.queues.items c.from.result c.index_mut.result.now c.reserve.new.self
      c.index_mut.ensures.value c.reserve.ensures.messages)),
  subst (AreWithMail c.self.inside.nodes) (sym (kept_map (λ q. q.messages) [] c.self.inside.queues.items c.from.result c.index_mut.result.now c.reserve.new.self
      c.index_mut.ensures.value c.reserve.ensures.messages)) c.self.invariant.2,
)

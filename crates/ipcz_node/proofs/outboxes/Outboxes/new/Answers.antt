use Rattle.std.proofs.Common.{◌≡◌, ◌+◌, ℕ, [], length, map, replicate, ap, subst, sym, ◌∙◌, arith, length-append}
use Rattle.ipcz_node.specs.NodeSets.{AreWithMail}
use Rattle.ipcz_node.specs.RoomyNodes.{boxes_with_mail}
use Rattle.ipcz_node.proofs.Mailing.{none_noted, none_waits}
use Rattle.ipcz_node.proofs.Queues.{blank_more}
use Rattle.ipcz_node.proofs.outboxes.Outboxes.new.Goals as goal

pub loop-i-preserved : goal.loop-i-preserved
loop-i-preserved c = (
  ap (map (λ q. q.messages)) c.push_reserved.ensures.items ∙ blank_more (λ q. q.messages) c.loop-i.queues.items c.loop-i._i c.new.result
      c.loop-i.invariant.0 c.new.ensures,
  ap length c.push_reserved.ensures.items ∙ length-append c.loop-i.queues.items _ ∙ ap (λ n. n + 1) c.loop-i.invariant.1,
  omega (arith, c.push_reserved.ensures.len, c.loop-i.invariant.2),
  omega (arith, c.push_reserved.ensures.capacity, c.loop-i.invariant.3),
)

pub invariant_of-result : goal.invariant_of-result
invariant_of-result c =
    let many : c.loop-i._i ≡ 256 = omega (arith, c.loop-i-test.false, c.loop-i.auto._i-end) in
    let blank = c.loop-i.invariant.0 ∙ ap (λ (k : ℕ). replicate k []) many in (
      c.loop-i.invariant.1 ∙ many,
      sym (ap boxes_with_mail blank ∙ none_waits 256),
      subst (λ s. AreWithMail s (map (λ q. q.messages) c.loop-i.queues.items)) (sym c.none.ensures) (subst (AreWithMail _) (sym blank) (none_noted 256)),
    )

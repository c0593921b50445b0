use Rattle.std.proofs.Common.{◌≡◌, ◌∙◌, ◌-◌, suc, zero, sym, subst, arith}
use Rattle.ipcz_threads.proofs.Turning.{GoesOn, goes_on-turn, goes_on-idle, goes_on-end}
use Rattle.ipcz_threads.proofs.session.take_turns.Goals as goal

pub returns-then-idle : goal.returns-then-idle
returns-then-idle g c =
    let t = g.F.FabricName.table in
    let one : c.loop-left.left ≡ suc (c.loop-left.left - 1) = omega (arith, c.loop-left-test.true) in
    goes_on-idle t c.args.count (c.loop-left.left - 1) c.args.node c.args.workers.now c.loop-left.workers c.call_at-reply.new.workers
    c.loop-left.turns.items c.push.new.self.items c.call_at-reply.result
    (subst (λ n. GoesOn t c.args.count n c.args.node c.args.workers.now c.loop-left.workers c.loop-left.turns.items) one c.loop-left.invariant)
    c.in_ok-push.ensures.items c.call_at-reply.ensures (sym c.is_want.ensures ∙ c.if-is_want.false)
    (sym c.is_idle-idle.ensures ∙ c.if-idle.true)

pub loop-left-preserved : goal.loop-left-preserved
loop-left-preserved g c =
    let t = g.F.FabricName.table in
    let one : c.loop-left.left ≡ suc (c.loop-left.left - 1) = omega (arith, c.loop-left-test.true) in
    goes_on-turn t c.args.count (c.loop-left.left - 1) c.args.node c.args.workers.now c.loop-left.workers c.call_at-reply.new.workers
    c.loop-left.turns.items c.push.new.self.items c.call_at-reply.result
    (subst (λ n. GoesOn t c.args.count n c.args.node c.args.workers.now c.loop-left.workers c.loop-left.turns.items) one c.loop-left.invariant)
    c.in_ok-push.ensures.items c.call_at-reply.ensures (sym c.is_want.ensures ∙ c.if-is_want.false)
    (sym c.is_idle-idle.ensures ∙ c.if-idle.false)

pub returns : goal.returns
returns g c =
    let t = g.F.FabricName.table in
    let none : c.loop-left.left ≡ zero = omega (arith, c.loop-left-test.false) in
    goes_on-end t c.args.count c.args.node c.args.workers.now c.loop-left.workers c.loop-left.turns.items
    (subst (λ n. GoesOn t c.args.count n c.args.node c.args.workers.now c.loop-left.workers c.loop-left.turns.items) none c.loop-left.invariant)

use Rattle.std.proofs.Common.{◌∙◌, ◌≡◌, ◌-◌, suc, zero, sym, subst, refl, arith}
use Rattle.ipcz_script.proofs.Stepping.{GoesOn, goes_on-start, goes_on-turn, goes_on-idle, goes_on-end}
use Rattle.ipcz_script.proofs.session.take_turns.Goals as goal

pub loop-left-init : goal.loop-left-init
loop-left-init c = goes_on-start c.args.count c.args.node c.args.world.now.world c.args.world.now.world c.new-turns.result.items refl
    c.new-turns.ensures.items

pub returns-then-idle : goal.returns-then-idle
returns-then-idle c =
    let one : c.loop-left.left ≡ suc (c.loop-left.left - 1) = omega (arith, c.loop-left-test.true) in
    goes_on-idle c.args.count (c.loop-left.left - 1) c.args.node c.args.world.now.world c.loop-left.world.world c.step-reply.new.self.world
    c.loop-left.turns.items c.push.new.self.items c.step-reply.result
    (subst (λ n. GoesOn c.args.count n c.args.node c.args.world.now.world c.loop-left.world.world c.loop-left.turns.items) one c.loop-left.invariant)
    c.in_ok-push.ensures.items c.step-reply.ensures.step (sym c.is_want.ensures ∙ c.if-is_want.false)
    (sym c.is_idle-idle.ensures ∙ c.if-idle.true)

pub loop-left-preserved : goal.loop-left-preserved
loop-left-preserved c =
    let one : c.loop-left.left ≡ suc (c.loop-left.left - 1) = omega (arith, c.loop-left-test.true) in
    goes_on-turn c.args.count (c.loop-left.left - 1) c.args.node c.args.world.now.world c.loop-left.world.world c.step-reply.new.self.world
    c.loop-left.turns.items c.push.new.self.items c.step-reply.result
    (subst (λ n. GoesOn c.args.count n c.args.node c.args.world.now.world c.loop-left.world.world c.loop-left.turns.items) one c.loop-left.invariant)
    c.in_ok-push.ensures.items c.step-reply.ensures.step (sym c.is_want.ensures ∙ c.if-is_want.false)
    (sym c.is_idle-idle.ensures ∙ c.if-idle.false)

pub returns : goal.returns
returns c =
    let none : c.loop-left.left ≡ zero = omega (arith, c.loop-left-test.false) in
    goes_on-end c.args.count c.args.node c.args.world.now.world c.loop-left.world.world c.loop-left.turns.items
    (subst (λ n. GoesOn c.args.count n c.args.node c.args.world.now.world c.loop-left.world.world c.loop-left.turns.items) none c.loop-left.invariant)

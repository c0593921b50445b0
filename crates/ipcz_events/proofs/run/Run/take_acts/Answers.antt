use Rattle.std.proofs.Common.{◌≡◌, ◌-◌, suc, zero, subst, arith}
use Rattle.ipcz_events.proofs.Adding.{GoOn, acts-end, acts-last, acts-more, acts-start}
use Rattle.ipcz_events.proofs.run.Run.take_acts.Goals as goal

pub loop-left-init : goal.loop-left-init
loop-left-init c = acts-start c.args.most c.args.who c.args.self.now c.args.out.now.items

pub returns-then-last : goal.returns-then-last
returns-then-last c =
    let one : c.loop-left.left ≡ suc (c.loop-left.left - 1) = omega (arith, c.loop-left-test.true) in
    acts-last c.args.most c.args.who c.args.self.now c.args.out.now.items c.loop-left.self c.loop-left.out.items (c.loop-left.left - 1)
    (subst (λ n. GoOn c.args.most c.args.who c.args.self.now c.args.out.now.items n c.loop-left.self c.loop-left.out.items) one c.loop-left.invariant)
    c.take_one.new.self c.take_one.new.out.items c.in_ok-last.last c.in_ok-last.ensures c.if-last.true

pub loop-left-preserved : goal.loop-left-preserved
loop-left-preserved c =
    let one : c.loop-left.left ≡ suc (c.loop-left.left - 1) = omega (arith, c.loop-left-test.true) in
    acts-more c.args.most c.args.who c.args.self.now c.args.out.now.items c.loop-left.self c.loop-left.out.items (c.loop-left.left - 1)
    (subst (λ n. GoOn c.args.most c.args.who c.args.self.now c.args.out.now.items n c.loop-left.self c.loop-left.out.items) one c.loop-left.invariant)
    c.take_one.new.self c.take_one.new.out.items c.in_ok-last.last c.in_ok-last.ensures c.if-last.false

pub returns : goal.returns
returns c =
    let none : c.loop-left.left ≡ zero = omega (arith, c.loop-left-test.false) in
    acts-end c.args.most c.args.who c.args.self.now c.args.out.now.items c.loop-left.self c.loop-left.out.items
    (subst (λ n. GoOn c.args.most c.args.who c.args.self.now c.args.out.now.items n c.loop-left.self c.loop-left.out.items) none c.loop-left.invariant)

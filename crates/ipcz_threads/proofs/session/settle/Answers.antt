use Rattle.std.proofs.Common.{◌≡◌, ◌∙◌, sym, subst, arith}
use Rattle.ipcz_threads.specs.Rounds.{AreAsked}
use Rattle.ipcz_threads.proofs.Settling.{settles-end, settles-quiet, settles-round}
use Rattle.ipcz_threads.proofs.session.settle.Goals as goal

pub returns-then-are_quiet : goal.returns-then-are_quiet
returns-then-are_quiet g c =
    let t = g.F.FabricName.table in
    let us = c.loop-left.workers in
    settles-quiet g.G.Gate.answers t c.args.limit c.loop-left.left c.args.workers.now us c.are_quiet.new.workers c.are_quiet.result c.loop-left.invariant.0
    (subst (λ n. AreAsked t n 0 us c.are_quiet.result c.are_quiet.new.workers) (sym c.loop-left.invariant.1) c.are_quiet.ensures.asked)
    c.if-are_quiet.true

pub loop-left-preserved : goal.loop-left-preserved
loop-left-preserved g c =
    let t = g.F.FabricName.table in
    let us = c.loop-left.workers in (
      settles-round g.G.Gate.answers t c.args.limit c.loop-left.left c.left_after-left.result c.args.workers.now us c.are_quiet.new.workers c.take_round.new.workers c.are_quiet.result
          c.loop-left.invariant.0 c.loop-left-test.true
          (subst (λ n. AreAsked t n 0 us c.are_quiet.result c.are_quiet.new.workers) (sym c.loop-left.invariant.1) c.are_quiet.ensures.asked)
          c.if-are_quiet.false c.take_round.ensures (sym c.is_some_starved.ensures ∙ c.if-is_some_starved.false) c.left_after-left.ensures.left,
      c.take_round.ensures.many ∙ c.are_quiet.ensures.many ∙ c.loop-left.invariant.1,
    )

pub returns : goal.returns
returns g c =
    let t = g.F.FabricName.table in
    let us = c.loop-left.workers in
    let none : c.loop-left.left ≡ 0 = omega (arith, c.loop-left-test.false) in
    settles-end g.G.Gate.answers t c.args.limit c.loop-left.left c.args.workers.now us c.are_quiet-2.new.workers c.are_quiet-2.result c.loop-left.invariant.0
    (subst (λ n. AreAsked t n 0 us c.are_quiet-2.result c.are_quiet-2.new.workers) (sym c.loop-left.invariant.1) c.are_quiet-2.ensures.asked)
    (λ busy. none)

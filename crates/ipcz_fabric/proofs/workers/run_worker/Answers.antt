use Rattle.ipcz_fabric.specs.Workers.{Works}
use Rattle.std.proofs.Common.{sym, subst}
use Rattle.ipcz_fabric.proofs.Working.{goes_on-start, goes_on-stop, goes_on-last, goes_on-turn, goes_on-end}
use Rattle.ipcz_fabric.proofs.workers.run_worker.Goals as goal

pub loop-turns-init : goal.loop-turns-init
loop-turns-init g c = goes_on-start g.W.Worker.asks g.W.Worker.takes g.W.Worker.ends c.args.limit c.args.worker.now

pub returns-then-not-may_turn-clause-works : goal.returns-then-not-may_turn-clause-works
returns-then-not-may_turn-clause-works g c = goes_on-stop g.W.Worker.asks g.W.Worker.takes g.W.Worker.ends c.args.limit c.loop-turns.turns c.args.worker.now
    c.loop-turns.worker c.loop-turns.invariant c.loop-turns-test.true c.may_turn.result c.may_turn.new.self c.may_turn.ensures c.if-not-may_turn.true

pub returns-then-is_last-clause-works : goal.returns-then-is_last-clause-works
returns-then-is_last-clause-works g c = subst (λ n. Works g.W.Worker.asks g.W.Worker.takes g.W.Worker.ends c.args.limit 0 c.args.worker.now n c.turn-answer.new.self)
    (sym c.counted.ensures)
    (goes_on-last g.W.Worker.asks g.W.Worker.takes g.W.Worker.ends c.args.limit c.loop-turns.turns c.args.worker.now c.loop-turns.worker
    c.loop-turns.invariant c.loop-turns-test.true c.may_turn.result c.may_turn.new.self c.turn-answer.new.self c.turn-answer.result c.is_last.result
    c.may_turn.ensures c.if-not-may_turn.false c.turn-answer.ensures c.is_last.ensures c.if-is_last.true)

pub loop-turns-preserved : goal.loop-turns-preserved
loop-turns-preserved g c = goes_on-turn g.W.Worker.asks g.W.Worker.takes g.W.Worker.ends c.args.limit c.loop-turns.turns c.args.worker.now c.loop-turns.worker
    c.loop-turns.invariant c.loop-turns-test.true c.may_turn.result c.may_turn.new.self c.turn-answer.new.self c.turn-answer.result c.is_last.result
    c.may_turn.ensures c.if-not-may_turn.false c.turn-answer.ensures c.is_last.ensures c.if-is_last.false

pub returns-clause-works : goal.returns-clause-works
returns-clause-works g c = goes_on-end g.W.Worker.asks g.W.Worker.takes g.W.Worker.ends c.args.limit c.loop-turns.turns c.args.worker.now c.loop-turns.worker
    c.loop-turns.invariant c.loop-turns-test.false c.loop-turns.auto.turns-end

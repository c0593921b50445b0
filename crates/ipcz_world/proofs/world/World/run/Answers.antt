use Rattle.std.proofs.Common.{◌≤◌, length, subst, arith}
use Rattle.std.proofs.lemmas.List.{take_all}
use Rattle.ipcz_world.specs.FirstRuns.{AreSteps, KeepsLaw}
use Rattle.ipcz_world.proofs.code.Running.{run-next}
use Rattle.ipcz_world.proofs.world.World.run.Goals as goal

pub loop-step-preserved : goal.loop-step-preserved
loop-step-preserved c = record {
  run = run-next c.args.self.now.world c.loop-step.self.world c.step.new.self.world c.args.steps.now c.loop-step.step-index c.loop-step.replies.items _
      c.step-item.result c.step.result
      c.step-item.is c.loop-step-test.true c.loop-step.invariant.run c.step.ensures.step c.push_reserved.ensures.items;
  room = omega (arith, c.loop-step.invariant.room, c.push_reserved.ensures.capacity);
  len = omega (arith, c.loop-step.invariant.len, c.push_reserved.ensures.len);
}

pub returns-clause-run : goal.returns-clause-run
returns-clause-run c =
    let all : length c.args.steps.now ≤ c.loop-step.step-index = omega (arith, c.loop-step-test.false) in
    subst (λ steps. AreSteps c.args.self.now.world steps c.loop-step.replies.items c.loop-step.self.world)
    (take_all c.loop-step.step-index c.args.steps.now all)
    c.loop-step.invariant.run.are

pub returns-clause-lawful : goal.returns-clause-lawful
returns-clause-lawful c =
    let all : length c.args.steps.now ≤ c.loop-step.step-index = omega (arith, c.loop-step-test.false) in
    subst (λ steps. KeepsLaw c.args.self.now.world steps c.loop-step.replies.items c.loop-step.self.world)
    (take_all c.loop-step.step-index c.args.steps.now all)
    c.loop-step.invariant.run.law

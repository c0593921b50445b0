use Rattle.std.proofs.Common.{◌≡◌, ◌∙◌, ◌≤◌, ℕ, IfOk, sym, ap, subst, arith}
use Rattle.ipcz_world.proofs.code.StatesOfNodes.{world_is}
use Rattle.ipcz_world.proofs.Vocabulary.{IsLawful, next_node}
use Rattle.ipcz_world.specs.Settling.{IsSettle, IsRefusedSettle}
use Rattle.ipcz_world.specs.Visiting.{AreIdle, IsNextBusy}
use Rattle.ipcz_world.proofs.code.Regular.{lawful-regular}
use Rattle.ipcz_world.proofs.code.Running.{visits-lead}
use Rattle.ipcz_world.proofs.code.Visiting.{OnWay, on_way-turn, on_way-walked, settled, unsettled, refused}
use Rattle.ipcz_world.proofs.world.World.settle.Goals.{then-alone-gt0, else-alone-gt0, in-None, in-Some-last_busy}
use Rattle.ipcz_world.proofs.world.World.settle.Goals as goal
use Rattle.ipcz_base.specs.declared.refusal.Refusal.{Refusal}
use Rattle.ipcz_world.specs.World.{World}
use Rattle.ipcz_world.specs.declared.step.Settled.{Settled}
use Rattle.ipcz_world.specs.Ranks.{TurnsKeepRates}
use Rattle.ipcz_world.specs.SettleBounds.{IsLawfulSettle, IsLawfulRefusal}
use Rattle.ipcz_world.proofs.Whole.{each_step_keeps_lawful, first_acts_are_possible, replies_plainly}
use Rattle.ipcz_world.proofs.lawful.Rating.{turns_keep_rates}
use Rattle.ipcz_world.proofs.lawful.Settling.{answer_fits, visits_are_bounded}

-- what the laws say of the turns of a settle
rates : TurnsKeepRates
rates = turns_keep_rates each_step_keeps_lawful replies_plainly

lawful : (limit : ℕ) (w v : World) (answer : Settled) → IsSettle limit w v answer → IsLawfulSettle limit w v answer
lawful limit w v answer s = record {
  settle = s;
  keeps = visits-lead 0 s.visits w v s.turns;
  most = λ b g c law rated. answer_fits each_step_keeps_lawful first_acts_are_possible rates limit w v answer s b g c law rated;
}

lawful-refused : (limit : ℕ) (w v : World) (why : Refusal) → IsRefusedSettle limit w v why → IsLawfulRefusal limit w v why
lawful-refused limit w v why s = record {
  settle = s;
  keeps = visits-lead 0 s.visits w v s.turns;
  most = λ b g c law rated.
      omega (arith, visits_are_bounded each_step_keeps_lawful first_acts_are_possible rates 0 s.visits w v b g c law rated s.turns);
}

pub returns-then-alone-eq6-clause-settles : goal.returns-then-alone-eq6-clause-settles
returns-then-alone-eq6-clause-settles c =
    let carried = c.carry-alone in
    lawful _ _ _ _ (settled c.args.limit 6 carried.result.1 c.args.self.now.world carried.new.self.world
    (subst (λ k. OnWay c.args.self.now.world k carried.new.self.world carried.result.1) c.if-alone-eq6.true
    (on_way-walked _ _ _ _ carried.ensures.walk carried.ensures.place))
    (omega (arith, carried.ensures.within, c.if-alone-eq6.true)) carried.ensures.lawful (carried.ensures.idle c.if-alone-eq6.true))

pub loop-acts-init : goal.loop-acts-init
loop-acts-init c =
    elim c.if-alone-gt0.branch [
      | then-alone-gt0 w ↦ subst (λ v. OnWay c.args.self.now.world c.if-alone-gt0.carried.0 v c.if-alone-gt0.carried.1) (sym (world_is w.self-is))
          (subst (λ (p : ℕ × ℕ). OnWay c.args.self.now.world p.0 c.carry-alone.new.self.world p.1) (sym w.carried-is)
          (on_way-walked _ _ _ _ c.carry-alone.ensures.walk c.carry-alone.ensures.place))
      | else-alone-gt0 w ↦ let none = c.carry-alone.ensures.none (omega (arith, w.if-alone-gt0.false)) in
          subst (λ v. OnWay c.args.self.now.world c.if-alone-gt0.carried.0 v c.if-alone-gt0.carried.1) (sym (world_is w.self-is))
          (subst (λ (p : ℕ × ℕ). OnWay c.args.self.now.world p.0 w.carry_several.new.self.world p.1) (sym w.carried-is)
          (subst (λ u. OnWay u w.carry_several.result.0 w.carry_several.new.self.world w.carry_several.result.1) none
          (on_way-walked _ _ _ _ w.carry_several.ensures.walk w.carry_several.ensures.place)))
    ]

pub next_busy-requires-clause-regular : goal.next_busy-requires-clause-regular
next_busy-requires-clause-regular c = lawful-regular _ c.self.invariant

pub last_busy-requires-clause-regular : goal.last_busy-requires-clause-regular
last_busy-requires-clause-regular c = lawful-regular _ c.self-2.invariant

pub returns-in_default-clause-settles : goal.returns-in_default-clause-settles
returns-in_default-clause-settles c =
    lawful _ _ _ _ (settled c.args.limit c.loop-acts.acts c.loop-acts.from c.args.self.now.world c.loop-acts.self.world c.loop-acts.invariant
    (omega (arith, c.loop-acts-test.true))
    (subst IsLawful (world_is c.self.view_is) c.self.invariant) (subst (λ v. AreIdle v 0 v.count) (world_is c.self.view_is) c.in_default.ensures.none))

pub returns-in-Err-clause-refused : goal.returns-in-Err-clause-refused
returns-in-Err-clause-refused c =
    lawful-refused _ _ _ _ (refused c.args.limit c.loop-acts.acts c.loop-acts.from c.in-Some.node c.args.self.now.world c.loop-acts.self.world
    c.take_turn.new.self.world c.in-Err.why
    c.loop-acts.invariant
    (omega (arith, c.loop-acts-test.true)) (subst (λ v. IsNextBusy v c.loop-acts.from c.in-Some.node) (world_is c.self.view_is) c.in-Some.ensures.some)
    c.in-Err.ensures.refused)

pub loop-acts-preserved : goal.loop-acts-preserved
loop-acts-preserved c =
    on_way-turn c.args.self.now.world c.loop-acts.self.world c.take_turn.new.self.world c.loop-acts.acts c.loop-acts.from c.in-Some.node c.next_node-from.result
    c.in-Ok.ensures.turned.0
    c.loop-acts.invariant (subst (λ v. IsNextBusy v c.loop-acts.from c.in-Some.node) (world_is c.self.view_is) c.in-Some.ensures.some)
    (c.next_node-from.ensures ∙ ap (λ v. next_node v c.in-Some.node) (world_is c.self.view_is))
    c.in-Ok.ensures.turned.1

pub returns-clause-settles : goal.returns-clause-settles
returns-clause-settles c =
    let within : c.if-alone-gt0.carried.0 ≤ c.args.limit = elim c.if-alone-gt0.branch [
      | then-alone-gt0 w ↦ subst (λ (p : ℕ × ℕ). p.0 ≤ c.args.limit) (sym w.carried-is) c.carry-alone.ensures.within
      | else-alone-gt0 w ↦ subst (λ (p : ℕ × ℕ). p.0 ≤ c.args.limit) (sym w.carried-is) w.carry_several.ensures.within
    ] in
    let all : c.loop-acts.acts ≡ c.args.limit = omega (arith, within, c.loop-acts.auto.acts-end, c.loop-acts-test.false) in
    elim c.match-last_busy.branch [
      | in-None w ↦ subst (λ r. IfOk r (λ answer. IsLawfulSettle c.args.limit c.args.self.now.world c.loop-acts.self.world answer)) (sym w.result-is)
          (lawful _ _ _ _ (settled c.args.limit c.args.limit c.loop-acts.from c.args.self.now.world c.loop-acts.self.world
          (subst (λ k. OnWay c.args.self.now.world k c.loop-acts.self.world c.loop-acts.from) all c.loop-acts.invariant) (omega arith)
          (subst IsLawful (world_is c.self-2.view_is) c.self-2.invariant) (subst (λ v. AreIdle v 0 v.count) (world_is c.self-2.view_is) w.in-None.ensures.none)))
      | in-Some-last_busy w ↦ subst (λ r. IfOk r (λ answer. IsLawfulSettle c.args.limit c.args.self.now.world c.loop-acts.self.world answer))
          (sym w.result-is)
          (lawful _ _ _ _ (unsettled c.args.limit c.loop-acts.acts c.loop-acts.from w.in-Some-last_busy.field-0.0 c.args.self.now.world c.loop-acts.self.world
          c.loop-acts.invariant all
          (subst (λ v. IsNextBusy v c.loop-acts.from w.in-Some-last_busy.field-0.0) (world_is c.self-2.view_is) w.in-Some-last_busy.ensures.some)))
    ]

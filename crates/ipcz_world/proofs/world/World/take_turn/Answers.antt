use Rattle.std.specs.Prelude.{ℕ, ⊤, Result, Ok, Err, OnOk, IfOk, IfErr}
use Rattle.ipcz_world.proofs.code.StatesOfNodes.{world_is}
use Rattle.std.proofs.Common.{subst}
use Rattle.ipcz_base.specs.declared.refusal.Refusal.{Refusal}
use Rattle.ipcz_world.proofs.Vocabulary.{Happened, Turn, IsLawful}
use Rattle.ipcz_world.specs.declared.step.Reply.TheVariants.{Turned, Refused}
use Rattle.ipcz_world.specs.Settling.{TakesTurn}
use Rattle.ipcz_world.specs.Steps.{StepFirst}
use Rattle.ipcz_world.specs.Taking.{ToldTurn}
use Rattle.ipcz_world.specs.World.{World}
use Rattle.ipcz_world.proofs.code.Kept.{still-lawful}
use Rattle.ipcz_world.proofs.code.Regular.{lawful-regular}
use Rattle.ipcz_world.proofs.world.World.take_turn.Goals as goal

-- a turn keeps the law, whether it was taken or refused
kept : {X : Type 0} (tells : Happened → X → Type 0) (w v : World) (n : ℕ) (r : Result X Refusal) → IfOk r (λ told. ToldTurn tells w n told v) →
    IfErr r (λ why. StepFirst w (Turn n) (Refused why) v) → IsLawful w → IsLawful v
kept tells w v n (Ok x) turned refused law = still-lawful w v (Turn n) (Turned turned.0) turned.2 law
kept tells w v n (Err why) turned refused law = still-lawful w v (Turn n) (Refused why) refused law

untold : {X : Type 0} (tells : Happened → X → Type 0) (w v : World) (n : ℕ) (r : Result X Refusal) → IfOk r (λ told. ToldTurn tells w n told v) →
    OnOk r (TakesTurn w n v)
untold tells w v n (Ok x) turned = (turned.0, turned.2)
untold tells w v n (Err why) turned = tt

pub take_first-requires-clause-regular : goal.take_first-requires-clause-regular
take_first-requires-clause-regular c = lawful-regular _ c.self.invariant

pub invariant_of-self : goal.invariant_of-self
invariant_of-self c =
    kept (λ event told. ⊤) _ _ c.args.node c.take_first.result c.take_first.ensures.turned c.take_first.ensures.refused c.self.invariant

pub returns-clause-turned : goal.returns-clause-turned
returns-clause-turned c =
    subst (λ (w : World). OnOk c.take_first.result (TakesTurn w c.args.node c.take_first.new.self.world)) (world_is c.self.view_is)
    (untold (λ event told. ⊤) _ _ c.args.node c.take_first.result c.take_first.ensures.turned)

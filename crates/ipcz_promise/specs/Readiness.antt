-- Whether something has come to a portal: what its next get is answered.
use Rattle.std.specs.Prelude.{◌≡◌, ℕ}
use Rattle.ipcz_base.specs.declared.end.End.{End}
use Rattle.ipcz_base.specs.declared.refusal.Refusal.TheVariants.{Empty}
use Rattle.ipcz_world.specs.declared.step.Step.TheVariants.{Get}
use Rattle.ipcz_world.specs.declared.step.Reply.{Reply}
use Rattle.ipcz_world.specs.declared.step.Reply.TheVariants.{Refused}
use Rattle.ipcz_world.specs.World.{World}
use Rattle.ipcz_world.specs.Steps.{StepAny}

-- a get there isn't Empty
abbrev pub HasSomething : World → ℕ → End → Type 0
HasSomething w n at = (v : World) → StepAny w (Get n at) (Refused Empty) v → ⊥

-- a get there is Empty
abbrev pub HasNothing : World → ℕ → End → Type 0
HasNothing w n at = (reply : Reply) (v : World) → StepAny w (Get n at) reply v → reply ≡ Refused Empty

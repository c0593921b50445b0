-- A caller's own calls are runs from the start, of which the theorem speaks (specs/Theorem of ipcz_world).
use Rattle.std.specs.Prelude.{ℕ, Bool, List, ◌++◌}
use Rattle.ipcz_world.specs.declared.step.Step.{Step}
use Rattle.ipcz_world.specs.declared.step.Reply.{Reply}
use Rattle.ipcz_world.specs.World.{World, new_world}
use Rattle.ipcz_world.specs.Books.{Books, no_books}
use Rattle.ipcz_world.specs.Routes.{Routes, first_routes}
use Rattle.ipcz_world.specs.Lawful.{RunAny, IsWithinLimits}
use Rattle.ipcz_world.specs.FirstRuns.{AreSteps, turns_of, replies_of}
use Rattle.ipcz_world.specs.Settling.{AreVisits}
use Rattle.ipcz_world.specs.Theorem.{Theorem}

-- these steps got these replies and led from the start to this world, with some books and routes
abbrev pub IsRun : ℕ → ℕ → List Step → List Reply → World → Type 0
IsRun nodes words steps replies w = (b : Books) × (g : Routes) × RunAny (new_world nodes words) no_books (first_routes nodes) steps replies w b g

-- the theorem holds of them, with such books and routes
abbrev pub HasTheorem : List Step → List Reply → World → Type 0
HasTheorem steps replies w = (b : Books) × (g : Routes) × Theorem steps replies w b g

-- law: steps that are called go on a run, and so do the turns of a settle
pub record CallsAreRuns : Type 0 where
  pub steps : (nodes words : ℕ) (steps : List Step) (replies : List Reply) (w : World) (more : List Step) (told : List Reply) (v : World) →
      IsWithinLimits nodes words → IsRun nodes words steps replies w → AreSteps w more told v →
      IsRun nodes words (steps ++ more) (replies ++ told) v
  pub turns : (nodes words : ℕ) (steps : List Step) (replies : List Reply) (w : World) (n : ℕ) (visits : List Bool) (v : World) →
      IsWithinLimits nodes words → IsRun nodes words steps replies w → (turns : AreVisits n visits w v) →
      IsRun nodes words (steps ++ turns_of n visits w v turns) (replies ++ replies_of n visits w v turns) v

-- law: the theorem holds of each run, so of what calls and settles lead to from the start
abbrev pub RunsHaveTheTheorem : Type 0
RunsHaveTheTheorem =
    (nodes words : ℕ) (steps : List Step) (replies : List Reply) (w : World) → IsWithinLimits nodes words →
    IsRun nodes words steps replies w → HasTheorem steps replies w

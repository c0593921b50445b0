-- A caller's own calls, and the turns of a settle, go on a run from the start.
use Rattle.std.specs.Prelude.{ℕ, Bool, true, false, List, [], ◌∷◌, ◌++◌, refl}
use Rattle.std.proofs.Common.{subst}
use Rattle.ipcz_world.specs.declared.step.Step.{Step}
use Rattle.ipcz_world.specs.declared.step.Step.TheVariants.{Turn}
use Rattle.ipcz_world.specs.declared.step.Reply.{Reply}
use Rattle.ipcz_world.specs.declared.step.Reply.TheVariants.{Turned}
use Rattle.ipcz_world.specs.World.{World, new_world}
use Rattle.ipcz_world.specs.Books.{Books, no_books, advance}
use Rattle.ipcz_world.specs.Routes.{Routes, first_routes, routes_after}
use Rattle.ipcz_world.specs.Lawful.{IsReached, IsWithinLimits, Lawful, RunAny}
use Rattle.ipcz_world.specs.FirstRuns.{AreSteps, turns_of, replies_of}
use Rattle.ipcz_world.specs.Settling.{AreVisits, next_node}
use Rattle.ipcz_world.proofs.Whole.{each_step_keeps_lawful, first_acts_are_possible, world_starts_lawful}
use Rattle.ipcz_world.proofs.WholeTheorem.{the_theorem_holds}
use Rattle.ipcz_world.proofs.runs.Running.{reached_lawful}
use Rattle.ipcz_promise.specs.CallRuns.{CallsAreRuns, HasTheorem, IsRun, RunsHaveTheTheorem}

-- a run that goes on from where another one ends
run-onto : (w : World) (b : Books) (g : Routes) (steps : List Step) (replies : List Reply) (u : World) (c : Books) (h : Routes) →
    RunAny w b g steps replies u c h → (more : List Step) (told : List Reply) (v : World) (d : Books) (k : Routes) →
    RunAny u c h more told v d k → RunAny w b g (steps ++ more) (replies ++ told) v d k
run-onto w b g [] [] u c h is more told v d k run =
    subst (λ x. RunAny x b g more told v d k) is.0 (subst (λ x. RunAny u x g more told v d k) is.1
    (subst (λ x. RunAny u c x more told v d k) is.2 run))
run-onto w b g [] (reply ∷ replies) u c h is more told v d k run = absurd is
run-onto w b g (step ∷ steps) [] u c h is more told v d k run = absurd is
run-onto w b g (step ∷ steps) (reply ∷ replies) u c h is more told v d k run =
    (is.0, is.1, run-onto is.0 (advance w b step reply) (routes_after w g step reply) steps replies u c h is.2 more told v d k run)

-- steps from a lawful world are a run from it
pub steps-run : (w : World) (b : Books) (g : Routes) → Lawful w b g → (steps : List Step) (replies : List Reply) (v : World) →
    AreSteps w steps replies v → (d : Books) × (k : Routes) × RunAny w b g steps replies v d k
steps-run w b g law [] [] v same = (b, g, (same, refl, refl))
steps-run w b g law [] (reply ∷ replies) v is = absurd is
steps-run w b g law (step ∷ steps) [] v is = absurd is
steps-run w b g law (step ∷ steps) (reply ∷ replies) v (u, first, more) =
    let any = first_acts_are_possible w u b g step reply law first in
    let (d, k, run) = steps-run u (advance w b step reply) (routes_after w g step reply)
    (each_step_keeps_lawful w u b g step reply law any) steps replies v more in
    (d, k, (u, any, run))

-- and so are the turns that visits take
pub turns-run : (w : World) (b : Books) (g : Routes) → Lawful w b g → (n : ℕ) (visits : List Bool) (v : World) (turns : AreVisits n visits w v) →
    (d : Books) × (k : Routes) × RunAny w b g (turns_of n visits w v turns) (replies_of n visits w v turns) v d k
turns-run w b g law n [] v same = (b, g, (same, refl, refl))
turns-run w b g law n (true ∷ visits) v (has, (u, (event, first), more)) =
    let any = first_acts_are_possible w u b g (Turn n) (Turned event) law first in
    let (d, k, run) = turns-run u (advance w b (Turn n) (Turned event)) (routes_after w g (Turn n) (Turned event))
    (each_step_keeps_lawful w u b g (Turn n) (Turned event) law any) (next_node w n) visits v more in
    (d, k, (u, any, run))
turns-run w b g law n (false ∷ visits) v (idle, more) = turns-run w b g law (next_node w n) visits v more

-- the world that a run leads to is lawful
run-lawful : (nodes words : ℕ) (steps : List Step) (replies : List Reply) (w : World) → IsWithinLimits nodes words →
    (run : IsRun nodes words steps replies w) → Lawful w run.0 run.1
run-lawful nodes words steps replies w limits run =
    let is : IsReached nodes words w run.0 run.1 = record { limits = limits; steps = steps; replies = replies; run = run.2 } in
    reached_lawful world_starts_lawful each_step_keeps_lawful nodes words w run.0 run.1 is

pub calls_are_runs : CallsAreRuns
calls_are_runs = record {
  steps = λ nodes words steps replies w more told v limits run is.
      let (d, k, next) = steps-run w run.0 run.1 (run-lawful nodes words steps replies w limits run) more told v is in
      (d, k, run-onto (new_world nodes words) no_books (first_routes nodes) steps replies w run.0 run.1 run.2 more told v d k next);
  turns = λ nodes words steps replies w n visits v limits run is.
      let (d, k, next) = turns-run w run.0 run.1 (run-lawful nodes words steps replies w limits run) n visits v is in (
        d,
        k,
        run-onto (new_world nodes words) no_books (first_routes nodes) steps replies w run.0 run.1 run.2
            (turns_of n visits w v is) (replies_of n visits w v is) v d k next,
      );
}

pub runs_have_the_theorem : RunsHaveTheTheorem
runs_have_the_theorem nodes words steps replies w limits (b, g, run) = (b, g, the_theorem_holds nodes words steps replies w b g limits run)

-- steps from the start
pub played-theorem : (nodes words : ℕ) (steps : List Step) (replies : List Reply) (w : World) → IsWithinLimits nodes words →
    AreSteps (new_world nodes words) steps replies w → HasTheorem steps replies w
played-theorem nodes words steps replies w limits is =
    runs_have_the_theorem nodes words steps replies w limits
    (steps-run (new_world nodes words) no_books (first_routes nodes) (world_starts_lawful nodes words limits) steps replies w is)

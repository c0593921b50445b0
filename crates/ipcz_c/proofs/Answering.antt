-- A step that was taken, with what was told of its reply, answers the call.
use Rattle.std.proofs.Common.{◌≡◌, ℕ, Option, Some, subst, sym, ap, ◌∙◌}
use Rattle.std.specs.Prelude.{unwrap_or}
use Rattle.ipcz_base.specs.declared.end.End.{End}
use Rattle.ipcz_world.specs.World.{World}
use Rattle.ipcz_world.specs.Books.{Books, advance}
use Rattle.ipcz_world.specs.Routes.{Routes}
use Rattle.ipcz_world.specs.Lawful.{Lawful}
use Rattle.ipcz_world.specs.Plain.{Plain}
use Rattle.ipcz_world.specs.Steps.{StepFirst, next_sizes, sizes_given}
use Rattle.ipcz_world.specs.declared.step.Step.{Step}
use Rattle.ipcz_world.specs.declared.step.Step.TheVariants as steps
use Rattle.ipcz_world.specs.declared.step.Reply.{Reply}
use Rattle.ipcz_c.specs.Statuses.{status_of}
use Rattle.ipcz_c.specs.Calls.{Steps, Keeps, RepliesPlainly, TakesStep, Answers}

pub answered : (Tells : Reply → Type 0) (old new : Option World) (s t : Step) (reply : Reply) (status : ℕ) → s ≡ t → Steps old s reply new →
    Keeps old s reply new → RepliesPlainly old s reply → status ≡ status_of reply → Tells reply → Answers Tells old t status new
answered Tells old new s t reply status same step lawful plain told tells =
    (reply, subst (λ (u : Step). TakesStep old u reply new) same (record { step_is = step; lawful = lawful; plain = plain }), told, tells)

-- what the world's own call says of a reply, of the world that the handle had
pub plainly : (s : Step) (reply : Reply) (old : Option World) (x y : World) → old ≡ Some x → y ≡ x →
    ((b : Books) → (g : Routes) → Lawful y b g → Plain b s reply (advance y b s reply)) → RepliesPlainly old s reply
plainly s reply old x y took same plain w is = subst (λ (v : World). (b : Books) → (g : Routes) → Lawful v b g → Plain b s reply (advance v b s reply))
    (same ∙ ap (λ (o : Option World). unwrap_or o x) (sym took ∙ is)) plain

-- what a get gives is as large as what it was to give
pub sizes_are_given : (w v : World) (node : ℕ) (at : End) (reply : Reply) → StepFirst w (steps.Get node at) reply v →
    sizes_given reply ≡ next_sizes w node at
sizes_are_given w v node at reply step = ap sizes_given step.0

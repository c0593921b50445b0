-- A step of a lawful world: what it leads to is lawful, and its reply is one that the books allow.
use Rattle.std.specs.Prelude.{ℕ, Bool, true, false, List, [], ◌∷◌}
use Rattle.std.proofs.Common.{subst, sym}
use Rattle.ipcz_world.proofs.Vocabulary.{Reply, World, Books, Step, Turn, next_node, Walk, advance, Routes, routes_after, Lawful, IsLawful}
use Rattle.ipcz_world.specs.declared.step.Reply.TheVariants.{Turned}
use Rattle.ipcz_world.specs.Settling.{AreVisits}
use Rattle.ipcz_world.specs.Steps.{StepFirst}
use Rattle.ipcz_world.specs.Plain.{Plain}
use Rattle.ipcz_world.proofs.Whole.{each_step_keeps_lawful, first_acts_are_possible, replies_plainly}

module _ (w v : World) (step : Step) (reply : Reply) (is : StepFirst w step reply v) where
  -- it is lawful with the books and the routes after it
  pub keeps : (b : Books) (g : Routes) → Lawful w b g → Lawful v (advance w b step reply) (routes_after w g step reply)
  keeps b g law = each_step_keeps_lawful w v b g step reply law (first_acts_are_possible w v b g step reply law is)

  -- the books allow its reply
  pub plainly : (b : Books) (g : Routes) → Lawful w b g → Plain b step reply (advance w b step reply)
  plainly b g law = replies_plainly w v b g step reply law (first_acts_are_possible w v b g step reply law is)

  -- so there are books and routes after it
  pub still-lawful : IsLawful w → IsLawful v
  still-lawful law = record {
    books = advance w law.books step reply;
    routes = routes_after w law.routes step reply;
    lawful = keeps law.books law.routes law.lawful;
  }

-- visits keep the law
visits-lawful : (n : ℕ) (visits : List Bool) (w v : World) → AreVisits n visits w v → IsLawful w → IsLawful v
visits-lawful n [] w v same law = subst IsLawful (sym same) law
visits-lawful n (true ∷ visits) w v (has, (u, (event, step), more)) law =
    visits-lawful (next_node w n) visits u v more (still-lawful w u (Turn n) (Turned event) step law)
visits-lawful n (false ∷ visits) w v (idle, more) law = visits-lawful (next_node w n) visits w v more law

pub walk-lawful : (w v : World) (acts n : ℕ) → Walk w v acts n → IsLawful w → IsLawful v
walk-lawful w v acts n walk law = visits-lawful 0 walk.visits w v walk.turns law

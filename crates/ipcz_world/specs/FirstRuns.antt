-- Runs of steps and of visits: which replies they get, and what they keep, whatever the books and the routes are.
use Rattle.std.specs.Prelude.{◌≡◌, ℕ, Bool, true, false, List, [], ◌∷◌}
use Rattle.ipcz_world.specs.declared.step.Step.{Step}
use Rattle.ipcz_world.specs.declared.step.Step.TheVariants.{Turn}
use Rattle.ipcz_world.specs.declared.step.Reply.{Reply}
use Rattle.ipcz_world.specs.declared.step.Reply.TheVariants.{Turned}
use Rattle.ipcz_world.specs.World.{World}
use Rattle.ipcz_world.specs.Steps.{StepFirst}
use Rattle.ipcz_world.specs.Books.{Books, advance}
use Rattle.ipcz_world.specs.Plain.{Plain}
use Rattle.ipcz_world.specs.Routes.{Routes, routes_after}
use Rattle.ipcz_world.specs.Lawful.{Lawful}
use Rattle.ipcz_world.specs.Settling.{AreVisits, next_node}

-- these steps, one after the other, get these replies and lead from one world to another
abbrev pub AreSteps : World → List Step → List Reply → World → Type 0
AreSteps w [] [] v = v ≡ w
AreSteps w [] (reply ∷ replies) v = ⊥
AreSteps w (step ∷ steps) [] v = ⊥
AreSteps w (step ∷ steps) (reply ∷ replies) v = (u : World) × StepFirst w step reply u × AreSteps u steps replies v

-- the same, and each world on the way is lawful with the books and the routes that the steps write, and each reply is one that the books
-- before it allow
abbrev pub Leads : World → Books → Routes → List Step → List Reply → World → Type 0
Leads w b g [] [] v = (v ≡ w) × Lawful w b g
Leads w b g [] (reply ∷ replies) v = ⊥
Leads w b g (step ∷ steps) [] v = ⊥
Leads w b g (step ∷ steps) (reply ∷ replies) v =
    (u : World) × StepFirst w step reply u × Lawful w b g × Plain b step reply (advance w b step reply)
    × Leads u (advance w b step reply) (routes_after w g step reply) steps replies v

-- so it is for all books and routes with which the world is lawful
abbrev pub KeepsLaw : World → List Step → List Reply → World → Type 0
KeepsLaw w steps replies v = (b : Books) (g : Routes) → Lawful w b g → Leads w b g steps replies v

-- the turns that visits from a node on take, as steps
abbrev pub turns_of : (n : ℕ) (visits : List Bool) (w v : World) → AreVisits n visits w v → List Step
turns_of n [] w v same = []
turns_of n (true ∷ visits) w v (has, (u, (event, takes), rest)) = Turn n ∷ turns_of (next_node w n) visits u v rest
turns_of n (false ∷ visits) w v (idle, rest) = turns_of (next_node w n) visits w v rest

-- and their replies: what each turn is seen to do
abbrev pub replies_of : (n : ℕ) (visits : List Bool) (w v : World) → AreVisits n visits w v → List Reply
replies_of n [] w v same = []
replies_of n (true ∷ visits) w v (has, (u, (event, takes), rest)) = Turned event ∷ replies_of (next_node w n) visits u v rest
replies_of n (false ∷ visits) w v (idle, rest) = replies_of (next_node w n) visits w v rest

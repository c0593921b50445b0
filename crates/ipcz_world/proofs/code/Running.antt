-- A run goes on by one step at its end; and visits are turns.
use Rattle.std.specs.Prelude.{◌≡◌, ◌<◌, ℕ, ◌+◌, Bool, true, false, List, [], ◌∷◌, ◌++◌, length, take}
use Rattle.std.proofs.Common.{refl, sym, ap, subst, ◌∙◌, get_or}
use Rattle.std.proofs.lemmas.List.{take_more}
use Rattle.ipcz_world.proofs.Vocabulary.{Reply, World, Books, Step, Turn, advance, Routes, routes_after, next_node}
use Rattle.ipcz_world.specs.declared.step.Reply.TheVariants as replies
use Rattle.ipcz_world.specs.Steps.{StepFirst}
use Rattle.ipcz_world.specs.Settling.{AreVisits}
use Rattle.ipcz_world.specs.FirstRuns.{AreSteps, KeepsLaw, Leads, turns_of, replies_of}
use Rattle.ipcz_world.proofs.code.Kept.{keeps, plainly}

-- one step more
steps-more : (w v u : World) (steps : List Step) (replies : List Reply) (step : Step) (reply : Reply) → AreSteps w steps replies v →
    StepFirst v step reply u → AreSteps w (steps ++ step ∷ []) (replies ++ reply ∷ []) u
steps-more w v u [] [] step reply same s = (u, subst (λ x. StepFirst x step reply u) same s, refl)
steps-more w v u [] (r ∷ rs) step reply run s = absurd run
steps-more w v u (x ∷ xs) [] step reply run s = absurd run
steps-more w v u (x ∷ xs) (r ∷ rs) step reply (m, first, rest) s = (m, first, steps-more m v u xs rs step reply rest s)

leads-more : (w v u : World) (b : Books) (g : Routes) (steps : List Step) (replies : List Reply) (step : Step) (reply : Reply) →
    Leads w b g steps replies v → StepFirst v step reply u → Leads w b g (steps ++ step ∷ []) (replies ++ reply ∷ []) u
leads-more w v u b g [] [] step reply (same, law) s =
    let here = subst (λ x. StepFirst x step reply u) same s in
    (u, here, law, plainly w u step reply here b g law, (refl, keeps w u step reply here b g law))
leads-more w v u b g [] (r ∷ rs) step reply run s = absurd run
leads-more w v u b g (x ∷ xs) [] step reply run s = absurd run
leads-more w v u b g (x ∷ xs) (r ∷ rs) step reply (m, first, law, allowed, rest) s =
    (m, first, law, allowed, leads-more m v u (advance w b x r) (routes_after w g x r) xs rs step reply rest s)

-- steps that get these replies, and keep the law
pub record IsRun (w : World) (steps : List Step) (replies : List Reply) (v : World) : Type 0 where
  pub are : AreSteps w steps replies v
  pub law : KeepsLaw w steps replies v

-- the same of the steps as a loop goes over them
pub run-next : (w v u : World) (all : List Step) (i : ℕ) (replies more : List Reply) (step : Step) (reply : Reply) →
    step ≡ get_or all i step →
    i < length all → IsRun w (take i all) replies v → StepFirst v step reply u → more ≡ replies ++ reply ∷ [] →
    IsRun w (take (i + 1) all) more u
run-next w v u all i replies more step reply e l run s grown =
    let front : take (i + 1) all ≡ take i all ++ step ∷ [] = take_more all i step l ∙ ap (λ x. take i all ++ x ∷ []) (sym e) in
    rw (front, grown) (record {
      are = steps-more w v u (take i all) replies step reply run.are s;
      law = λ b g law. leads-more w v u b g (take i all) replies step reply (run.law b g law) s;
    })

-- visits are turns, which keep the law
pub visits-lead : (n : ℕ) (visits : List Bool) (w v : World) (turns : AreVisits n visits w v) →
    KeepsLaw w (turns_of n visits w v turns) (replies_of n visits w v turns) v
visits-lead n [] w v same = λ b g law. (same, law)
visits-lead n (true ∷ visits) w v (has, (u, (event, s), rest)) = λ b g law. (
  u,
  s,
  law,
  plainly w u (Turn n) (replies.Turned event) s b g law,
  visits-lead (next_node w n) visits u v rest (advance w b (Turn n) (replies.Turned event))
      (routes_after w g (Turn n) (replies.Turned event)) (keeps w u (Turn n) (replies.Turned event) s b g law),
)
visits-lead n (false ∷ visits) w v (idle, rest) = visits-lead (next_node w n) visits w v rest

-- What the calls of a world promise, from what their steps do.
use Rattle.std.specs.Prelude.{◌≡◌, ℕ, Bool, true, false, List, [], ◌∷◌, refl, take, length, map}
use Rattle.std.proofs.Common.{arith, subst, sym, ap, ◌∙◌}
use Rattle.ipcz_world.specs.declared.step.Step.{Step}
use Rattle.ipcz_base.specs.declared.refusal.Refusal.TheVariants as refusals
use Rattle.ipcz_world.specs.declared.step.Step.TheVariants.{Get, Turn}
use Rattle.ipcz_world.specs.declared.step.Reply.TheVariants.{Turned, Refused}
use Rattle.ipcz_world.proofs.Vocabulary.{End, World, opposite_end}
use Rattle.ipcz_world.specs.declared.step.Reply.{Reply}
use Rattle.ipcz_world.specs.Steps.{StepFirst}
use Rattle.ipcz_world.specs.FirstRuns.{AreSteps}
use Rattle.ipcz_world.specs.Settling.{AreVisits, FitsAnswer, IsQuiet, act_count, next_node}
use Rattle.std.specs.Prelude.{Result, Ok, Err, IfOk, IfErr}
use Rattle.ipcz_world.specs.World.{new_world}
use Rattle.ipcz_world.specs.RoomyWorlds.{RoomyWorld}
use Rattle.ipcz_world.specs.Lawful.{IsWithinLimits}
use Rattle.ipcz_world.proofs.Vocabulary.{Refusal}
use Rattle.ipcz_world.specs.declared.step.Settled.{Settled}
use Rattle.ipcz_world.specs.declared.step.Settled.TheVariants as ends
use Rattle.ipcz_world.specs.SettleBounds.{IsLawfulSettle, IsLawfulRefusal}
use Rattle.ipcz_node.specs.declared.happened.Happened.{Happened}
use Rattle.ipcz_promise.specs.Promise.{Account, MayRun, MaySettle, TookTurns, peer, IsDelivered, IsInOrder, start}
use Rattle.ipcz_promise.specs.Accounting.{Keeps, IsPromised}
use Rattle.ipcz_promise.specs.CallRuns.{HasTheorem}
use Rattle.ipcz_promise.proofs.CallRuns.{played-theorem}
use Rattle.ipcz_world.proofs.Whole.{first_acts_are_possible, each_get_stays_quiet}
use Rattle.ipcz_promise.proofs.Kept.{steps_keep_the_promise, a_rest_delivers, starts_promised}
use Rattle.ipcz_promise.proofs.Refusals.{prefix-at}
use Rattle.ipcz_promise.proofs.Parcels.{first-parcels}

-- a step that the code takes
pub promised : (w v : World) (step : Step) (reply : Reply) → StepFirst w step reply v → (a : Account) → Keeps w a →
    IsPromised w a step reply v
promised w v step reply is a k = steps_keep_the_promise w v a step reply k
    (first_acts_are_possible w v k.stands.books k.stands.routes step reply k.stands.lawful is)

-- and a run of them
pub run-promised : (w v : World) (steps : List Step) (replies : List Reply) → AreSteps w steps replies v → (a : Account) → Keeps w a →
    (c : Account) × MayRun a steps replies c × Keeps v c
run-promised w v [] [] same a k = (a, refl, subst (λ u. Keeps u a) (sym same) k)
run-promised w v [] (reply ∷ replies) run a k = absurd run
run-promised w v (step ∷ steps) [] run a k = absurd run
run-promised w v (step ∷ steps) (reply ∷ replies) (u, first, rest) a k =
    let p = promised w u step reply first a k in
    let q = run-promised u v steps replies rest p.0 p.2 in
    (q.0, (p.0, p.1, q.1), q.2)

-- what was got is in order
pub in-order : (w : World) (a : Account) → Keeps w a → IsInOrder a
in-order w a k e =
    let s = k.stands in
    ap (λ xs. take (length xs) (a.put (peer e))) (s.got e) ∙ ap (take (length (s.books.got e))) (s.put (opposite_end e))
    ∙ first-parcels (s.books.got e) (s.books.put (opposite_end e)) (prefix-at w a s e) ∙ sym (s.got e)

-- visits are turns, as many as acts were taken, and no other step
pub visits-promised : (n : ℕ) (visits : List Bool) (w v : World) → AreVisits n visits w v → (a : Account) → Keeps w a →
    (nodes : List ℕ) × (seen : List Happened) × (c : Account) × (length seen ≡ act_count visits)
    × MayRun a (map Turn nodes) (map Turned seen) c × Keeps v c
visits-promised n [] w v same a k = ([], [], a, refl, refl, subst (λ u. Keeps u a) (sym same) k)
visits-promised n (true ∷ visits) w v (has, (u, (event, step), more)) a k =
    let p = promised w u (Turn n) (Turned event) step a k in
    let (nodes, seen, c, count, run, kept) = visits-promised (next_node w n) visits u v more p.0 p.2 in
    (n ∷ nodes, event ∷ seen, c, omega (arith, count), (p.0, p.1, run), kept)
visits-promised n (false ∷ visits) w v (idle, more) a k = visits-promised (next_node w n) visits w v more a k

-- so a settle is, whether it is refused or not
pub settle-promised : (limit : ℕ) (w v : World) (r : Result Settled Refusal) → IfOk r (λ answer. IsLawfulSettle limit w v answer) →
    IfErr r (λ why. IsLawfulRefusal limit w v why) → (a : Account) → Keeps w a → (c : Account) × MaySettle a limit r c × Keeps v c
settle-promised limit w v (Ok answer) ok err a k =
    let (nodes, seen, c, count, run, kept) = visits-promised 0 ok.settle.visits w v ok.settle.turns a k in
    (c, (nodes, seen, took answer (length seen) count ok.settle.answers, run), kept)
  where
    took : (answer : Settled) (turns : ℕ) → turns ≡ act_count ok.settle.visits → FitsAnswer limit (act_count ok.settle.visits) v answer →
        TookTurns limit (Ok answer) turns
    took (ends.Settled after) turns count fits = (count ∙ sym fits.0, omega (arith, count, ok.settle.within))
    took ends.Unsettled turns count fits = count ∙ fits.0
settle-promised limit w v (Err why) ok err a k =
    let (nodes, seen, c, count, run, kept) = visits-promised 0 err.settle.visits w v err.settle.turns a k in
    (c, (nodes, seen, omega (arith, count, err.settle.below), run), kept)

-- and if it has settled, nothing waits
pub settle-quiet : (limit : ℕ) (w v : World) (r : Result Settled Refusal) → IfOk r (λ answer. IsLawfulSettle limit w v answer) →
    (acts : ℕ) → r ≡ Ok (ends.Settled acts) → IsQuiet v
settle-quiet limit w v (Ok (ends.Settled n)) ok acts e = ok.settle.answers.1
settle-quiet limit w v (Ok ends.Unsettled) ok acts e = cc
settle-quiet limit w v (Err why) ok acts e = cc

-- a get at rest
pub empty-delivered : (w v : World) (n : ℕ) (at : End) (reply : Reply) → StepFirst w (Get n at) reply v → (a : Account) → Keeps w a →
    IsQuiet w → reply ≡ Refused refusals.Empty → IsDelivered a at
empty-delivered w v n at reply s a k quiet e =
    a_rest_delivers w v a n at k quiet (subst (λ r. StepFirst w (Get n at) r v) e s)

pub get-quiet : (w v : World) (n : ℕ) (at : End) (reply : Reply) → StepFirst w (Get n at) reply v → IsQuiet w → IsQuiet v
get-quiet w v n at reply s quiet = each_get_stays_quiet w v n at reply quiet s

-- the same of results
pub made-promised : (nodes words : ℕ) → IsWithinLimits nodes words → (r : Result RoomyWorld Refusal) →
    IfOk r (λ w. w.world ≡ new_world nodes words) → IfOk r (λ w. Keeps w.world (start nodes words))
made-promised nodes words limits (Ok w) is = subst (λ u. Keeps u (start nodes words)) (sym is) (starts_promised nodes words limits)
made-promised nodes words limits (Err e) is = tt

pub result-promised : {V : Type 0} (w v : World) (steps : List Step) (items : V → List Reply) (r : Result V Refusal) →
    IfOk r (λ replies. AreSteps w steps (items replies) v) →
    IfOk r (λ replies. (a : Account) → Keeps w a → (c : Account) × MayRun a steps (items replies) c × Keeps v c)
result-promised w v steps items (Ok replies) is = λ a k. run-promised w v steps (items replies) is a k
result-promised w v steps items (Err e) is = tt

-- a world that was made, and a run in it
module _ (nodes words : ℕ) (limits : IsWithinLimits nodes words) (w v : World) (steps : List Step) (replies : List Reply)
    (made : w ≡ new_world nodes words) (taken : AreSteps w steps replies v) where
  pub play-promised : (c : Account) × MayRun (start nodes words) steps replies c × IsInOrder c × Keeps v c
  play-promised =
      let first : Keeps w (start nodes words) = subst (λ u. Keeps u (start nodes words)) (sym made) (starts_promised nodes words limits) in
      let (c, may, kept) = run-promised w v steps replies taken (start nodes words) first in
      (c, may, in-order v c kept, kept)

  pub play-theorem : HasTheorem steps replies v
  play-theorem = played-theorem nodes words steps replies v limits (subst (λ u. AreSteps u steps replies v) made taken)

-- Runs of worlds that last: between steps a claim may pass over numbers, be told that no word is left, or be told to try again.
-- (This project's own: scripts and calls of `World` do none of this.)
use Rattle.std.specs.Prelude.{◌≡◌, ◌≤◌, ◌<◌, ℕ, ◌+◌, true, Some, List, [], ◌∷◌}
use Rattle.ipcz_router.specs.Router.{Router}
use Rattle.ipcz_router.specs.declared.act.RouterAct.TheVariants as acts
use Rattle.ipcz_node.specs.declared.act.Act.TheVariants.{Router as OfRouter}
use Rattle.ipcz_world.specs.declared.step.Step.{Step}
use Rattle.ipcz_world.specs.declared.step.Reply.{Reply}
use Rattle.ipcz_world.specs.World.{World, Key, router_at, new_world}
use Rattle.ipcz_world.specs.Turns.{router_of, can_take}
use Rattle.ipcz_world.specs.HeldEnds.{dry_act}
use Rattle.ipcz_world.specs.Steps.{StepAny}
use Rattle.ipcz_world.specs.Books.{Books, advance, no_books}
use Rattle.ipcz_world.specs.Routes.{Routes, routes_after, first_routes}
use Rattle.ipcz_world.specs.Lawful.{IsWithinLimits}
use Rattle.ipcz_world.specs.Ranks.{Rates, rank}
use Rattle.ipcz_world.specs.Theorem.{Theorem}
use Rattle.ipcz_base.specs.declared.side.Side.{Side}
use Rattle.ipcz_world.specs.HeldEnds.{passed_over, lose_words, grown, wet_act, IsEndHeld}

-- a step with its reply, or what happens between steps: so many numbers are passed over, there are so many more, the claim of a router finds
-- no word, a router may claim again
pub data Deed : Type 0 where
  Steps : (step : Step) → (reply : Reply) → Deed
  Passes : (count : ℕ) → Deed
  Grows : (count : ℕ) → Deed
  Dries : (node serial : ℕ) → (router : Router) → Deed
  Wets : (key : Key) → (router : Router) → Deed

-- a run of such deeds, from a world with books and routes to another; each turn takes any possible act
abbrev pub LastingRun : World → Books → Routes → List Deed → World → Books → Routes → Type 0
LastingRun w b g [] v c h = (v ≡ w) × (c ≡ b) × (h ≡ g)
LastingRun w b g (Steps step reply ∷ deeds) v c h =
    (u : World) × StepAny w step reply u × LastingRun u (advance w b step reply) (routes_after w g step reply) deeds v c h
LastingRun w b g (Passes count ∷ deeds) v c h =
    (w.claimed + count ≤ w.size) × LastingRun (passed_over w count) b (lose_words g w.claimed count) deeds v c h
LastingRun w b g (Grows count ∷ deeds) v c h = LastingRun (grown w count) b g deeds v c h
LastingRun w b g (Dries n serial r ∷ deeds) v c h =
    ((n < w.count) × ((router_of w n serial ≡ Some r) × (can_take w n (OfRouter serial acts.Claim) ≡ true))) ×
    LastingRun (dry_act w (record { node = n; serial = serial }) r) b g deeds v c h
LastingRun w b g (Wets k r ∷ deeds) v c h = (router_at w k ≡ Some r) × LastingRun (wet_act w k r) b g deeds v c h

-- the steps of a run
abbrev pub steps_in : List Deed → List Step
steps_in [] = []
steps_in (Steps step reply ∷ deeds) = step ∷ steps_in deeds
steps_in (Passes count ∷ deeds) = steps_in deeds
steps_in (Grows count ∷ deeds) = steps_in deeds
steps_in (Dries n serial r ∷ deeds) = steps_in deeds
steps_in (Wets k r ∷ deeds) = steps_in deeds

-- their replies
abbrev pub replies_in : List Deed → List Reply
replies_in [] = []
replies_in (Steps step reply ∷ deeds) = reply ∷ replies_in deeds
replies_in (Passes count ∷ deeds) = replies_in deeds
replies_in (Grows count ∷ deeds) = replies_in deeds
replies_in (Dries n serial r ∷ deeds) = replies_in deeds
replies_in (Wets k r ∷ deeds) = replies_in deeds

-- the theorem holds of such runs as well
abbrev pub LastingRunsKeepTheTheorem : Type 0
LastingRunsKeepTheTheorem =
    (nodes words : ℕ) (deeds : List Deed) (w : World) (b : Books) (g : Routes) → IsWithinLimits nodes words →
    LastingRun (new_world nodes words) no_books (first_routes nodes) deeds w b g → Theorem (steps_in deeds) (replies_in deeds) w b g

-- law: what happens between steps raises no rank, but that a router which may claim again has up to two acts more to take
pub record DeedsKeepRanks : Type 0 where
  pub passes : (c : Rates) (w : World) (count : ℕ) → rank c (passed_over w count) ≡ rank c w
  pub grows : (c : Rates) (w : World) (count : ℕ) → rank c (grown w count) ≡ rank c w
  pub dries : (c : Rates) (w : World) (k : Key) (r : Router) → router_at w k ≡ Some r → rank c (dry_act w k r) ≤ rank c w
  pub wets : (c : Rates) (w : World) (k : Key) (r : Router) → router_at w k ≡ Some r → rank c (wet_act w k r) ≤ rank c w + 2

-- the same ends of words are held in two worlds
pub record HasSameEnds (w v : World) (i : ℕ) (s : Side) : Type 0 where
  pub were : IsEndHeld v i s → IsEndHeld w i s
  pub are : IsEndHeld w i s → IsEndHeld v i s

-- law: what happens between steps lets no end go, and gives none
pub record DeedsKeepEnds : Type 0 where
  pub passes : (w : World) (count i : ℕ) (s : Side) → HasSameEnds w (passed_over w count) i s
  pub grows : (w : World) (count i : ℕ) (s : Side) → HasSameEnds w (grown w count) i s
  pub dries : (w : World) (k : Key) (r : Router) (i : ℕ) (s : Side) → router_at w k ≡ Some r → HasSameEnds w (dry_act w k r) i s
  pub wets : (w : World) (k : Key) (r : Router) (i : ℕ) (s : Side) → router_at w k ≡ Some r → HasSameEnds w (wet_act w k r) i s

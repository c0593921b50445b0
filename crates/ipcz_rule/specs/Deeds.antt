-- What a step of the table is for the world that is shown: a step of a caller or of a node, with its reply, or something of which callers see
-- nothing.
use Rattle.std.specs.Prelude.{◌≡◌, ◌≤◌, ◌<◌, ◌+◌, ℕ, Bool, true, cond, is_some, None, List, [], ◌∷◌}
use Rattle.ipcz_router.specs.declared.act.RouterAct.TheVariants as router_acts
use Rattle.ipcz_router.specs.declared.act.Answer.TheVariants as answers
use Rattle.ipcz_node.specs.declared.act.Act.{Act}
use Rattle.ipcz_node.specs.declared.act.Act.TheVariants as acts
use Rattle.ipcz_node.specs.Acts.{commit}
use Rattle.ipcz_node.specs.Finding.{rewet_node}
use Rattle.ipcz_node.specs.Node.{router_in}
use Rattle.ipcz_world.specs.declared.step.Step.{Step}
use Rattle.ipcz_world.specs.declared.step.Step.TheVariants.{Turn}
use Rattle.ipcz_world.specs.declared.step.Reply.{Reply}
use Rattle.ipcz_world.specs.declared.step.Reply.TheVariants.{Turned}
use Rattle.ipcz_world.specs.World.{World, node_at, set_node}
use Rattle.ipcz_world.specs.Turns.{after_act, turn_event, can_take}
use Rattle.ipcz_world.specs.Steps.{StepAny, claim_for_open}
use Rattle.ipcz_world.specs.Books.{Books, advance}
use Rattle.ipcz_world.specs.Routes.{Routes, routes_after}
use Rattle.ipcz_world.specs.HeldEnds.{passed_over, lose_words}

-- what is no step of the machine: a node claims a word for an open, so many numbers are passed over, the claim of a router is told that no word is
-- left, and a router may claim again
pub data Aside : Type 0 where
  ClaimsWord : (node : ℕ) → Aside
  Passes : (count : ℕ) → Aside
  Dries : (node serial : ℕ) → Aside
  Wets : (node serial : ℕ) → Aside

-- when it may be
abbrev pub IsPossibleAside : World → Aside → Type 0
IsPossibleAside w (ClaimsWord n) = (n < w.count) × (w.claimed < w.size) × ((node_at w n).opening ≡ None)
IsPossibleAside w (Passes count) = w.claimed + count ≤ w.size
IsPossibleAside w (Dries n serial) = (n < w.count) × (can_take w n (acts.Router serial router_acts.Claim) ≡ true)
IsPossibleAside w (Wets n serial) = (n < w.count) × (is_some (router_in (node_at w n) serial) ≡ true)

-- the world after it, and its routes: the books stay
abbrev pub after_aside : World → Aside → World
after_aside w (ClaimsWord n) = claim_for_open w n
after_aside w (Passes count) = passed_over w count
after_aside w (Dries n serial) = set_node w n (commit (node_at w n) (acts.Router serial router_acts.Claim) answers.NoWord)
after_aside w (Wets n serial) = set_node w n (rewet_node (node_at w n) serial)

abbrev pub routes_after_aside : World → Routes → Aside → Routes
routes_after_aside w g (Passes count) = lose_words g w.claimed count
routes_after_aside w g other = g

-- a step, a caller's or a node's, with its reply; or an aside
pub data Deed : Type 0 where
  Does : (step : Step) → (reply : Reply) → Deed
  Beside : (aside : Aside) → Deed

-- deeds, one after the other, lead from a world with books and routes to another; each turn takes any possible act
abbrev pub AreDeeds : World → Books → Routes → List Deed → World → Books → Routes → Type 0
AreDeeds w b g [] v c h = (v ≡ w) × (c ≡ b) × (h ≡ g)
AreDeeds w b g (Does step reply ∷ deeds) v c h =
    (u : World) × StepAny w step reply u × AreDeeds u (advance w b step reply) (routes_after w g step reply) deeds v c h
AreDeeds w b g (Beside aside ∷ deeds) v c h =
    IsPossibleAside w aside × AreDeeds (after_aside w aside) b (routes_after_aside w g aside) deeds v c h

-- the steps among deeds, and their replies
abbrev pub steps_of : List Deed → List Step
steps_of [] = []
steps_of (Does step reply ∷ deeds) = step ∷ steps_of deeds
steps_of (Beside aside ∷ deeds) = steps_of deeds

abbrev pub replies_of : List Deed → List Reply
replies_of [] = []
replies_of (Does step reply ∷ deeds) = reply ∷ replies_of deeds
replies_of (Beside aside ∷ deeds) = replies_of deeds

-- acts of nodes, one after the other, as turns with what is seen in them
abbrev pub turn_deeds : World → List (ℕ × Act) → List Deed
turn_deeds w [] = []
turn_deeds w (t ∷ turns) = Does (Turn t.0) (Turned (turn_event w t.0 t.1)) ∷ turn_deeds (after_act w t.0 t.1) turns

-- a deed if a test holds, else nothing
abbrev pub deed_where : Bool → Deed → List Deed
deed_where hit deed = cond hit (deed ∷ []) []

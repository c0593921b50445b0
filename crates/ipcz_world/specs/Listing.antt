-- All that a node could do now, whichever it does.
use Rattle.std.specs.Prelude.{◌≡◌, ◌⊎◌, ℕ, true, Option, Some, None, List, [], ◌∷◌, ◌++◌, map}
use Rattle.std.specs.List.{filter}
use Rattle.std.specs.FinMap.{entries}
use Rattle.ipcz_base.specs.declared.end.End.{End}
use Rattle.ipcz_router.specs.declared.act.RouterAct.{RouterAct}
use Rattle.ipcz_router.specs.declared.act.RouterAct.TheVariants.{SendOut, SendIn, Discard, FinishOut, FinishIn, Leave, Mark, Wake, Claim}
use Rattle.ipcz_router.specs.declared.act.RouterAct.TheVariants.{Lock, Begin, Retire, Unlock, Rest}
use Rattle.ipcz_router.specs.Router.{Router}
use Rattle.ipcz_node.specs.declared.act.Act.{Act}
use Rattle.ipcz_node.specs.declared.act.Act.TheVariants.{Hand, Look, Post, Close, Router as OfRouter, Idle}
use Rattle.ipcz_world.specs.Asking.{can_act}
use Rattle.ipcz_world.specs.World.{World, node_at, numbers_from}

-- ---- lists of acts

abbrev pub IsAmong : Act → List Act → Type 0
IsAmong act [] = ⊥
IsAmong act (a ∷ rest) = (act ≡ a) ⊎ IsAmong act rest

abbrev pub AreAllPossible : World → ℕ → List Act → Type 0
AreAllPossible w n [] = Unit {0}
AreAllPossible w n (a ∷ rest) = (can_act w n a ≡ true) × AreAllPossible w n rest

-- no act stands there twice
abbrev pub AreDistinct : List Act → Type 0
AreDistinct [] = Unit {0}
AreDistinct (a ∷ rest) = (IsAmong a rest → ⊥) × AreDistinct rest

-- these are the acts that the node may take: each of them, no other, and none twice
pub record ArePossible (w : World) (n : ℕ) (acts : List Act) : Type 0 where
  pub each : (act : Act) → can_act w n act ≡ true → IsAmong act acts
  pub only : AreAllPossible w n acts
  pub once : AreDistinct acts

-- ---- their order

-- the acts of a router in the order of its table, and unlock and rest behind them
abbrev pub router_acts : List RouterAct
router_acts =
    SendOut ∷ SendIn ∷ Discard ∷ FinishOut ∷ FinishIn ∷ Leave ∷ Mark ∷ Wake ∷ Claim ∷ Lock ∷ Begin ∷ Retire ∷ Unlock ∷ Rest ∷ []

-- those of the routers of these entries, router by router
abbrev pub acts_of_routers : List (ℕ × Router) → List Act
acts_of_routers [] = []
acts_of_routers (e ∷ es) = map (OfRouter e.0) router_acts ++ acts_of_routers es

abbrev pub acts_of_hand : Option ℕ → List Act
acts_of_hand None = []
acts_of_hand (Some sender) = Hand sender ∷ []

abbrev pub acts_of_pending : List End → List Act
acts_of_pending [] = []
acts_of_pending (e ∷ es) = Close e ∷ []

-- what a node could do if all were possible: in the order in which turns try it, each router by its serial
abbrev pub acts_in_order : World → ℕ → List Act
acts_in_order w n =
    acts_of_hand (node_at w n).hand ++ (map Look (numbers_from 0 w.count) ++ (map Post (numbers_from 0 w.count)
    ++ (acts_of_pending (node_at w n).pending ++ (acts_of_routers (entries (node_at w n).routers) ++ Idle ∷ []))))

-- the possible ones of them
abbrev pub possible_acts : World → ℕ → List Act
possible_acts w n = filter (can_act w n) (acts_in_order w n)

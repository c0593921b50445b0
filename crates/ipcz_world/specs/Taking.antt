-- What the code needs to know of a world to take a step of it, and what comes of a turn that takes a certain act.
use Rattle.std.specs.Prelude.{◌≡◌, ◌<◌, ℕ, true, false, if◌then◌else◌, Some, Result, IsOk, OnOk, OnErr, IfOk, IfErr}
use Rattle.ipcz_base.specs.declared.refusal.Refusal.{Refusal}
use Rattle.ipcz_base.specs.declared.refusal.Refusal.TheVariants.{NumbersEnd, OutOfMemory}
use Rattle.ipcz_word.specs.Laws.{HasNode}
use Rattle.ipcz_router.specs.Router.{Router, source_of}
use Rattle.ipcz_node.specs.Node.{router_in}
use Rattle.ipcz_node.specs.declared.act.Act.{Act}
use Rattle.ipcz_node.specs.declared.happened.Happened.{Happened}
use Rattle.ipcz_world.specs.declared.step.Step.{Step}
use Rattle.ipcz_world.specs.declared.step.Step.TheVariants.{Open, Put, PutWide, Get, Close, Turn}
use Rattle.ipcz_world.specs.declared.step.Reply.TheVariants.{Turned}
use Rattle.ipcz_world.specs.World.{World, node_at}
use Rattle.ipcz_world.specs.Turns.{turn_event, turn_lacks_serials, turn_grows, after_act, can_take}
use Rattle.ipcz_world.specs.Steps.{FirstAct, StepFirst}
use Rattle.ipcz_world.specs.Soundness.{HasLengths, IsSound}

-- the lists of a world have their lengths, its nodes name only what there is, of the words only claimed ones, the source of each router is the
-- number of a node, and the first act of each of them is possible, and so is what stands in for it
pub record IsRegular (w : World) : Type 0 where
  pub lengths : HasLengths w
  pub sound : (n : ℕ) → n < w.count → IsSound w.count w.claimed n (node_at w n)
  pub sourced : (n serial : ℕ) (r : Router) → n < w.count → router_in (node_at w n) serial ≡ Some r → HasNode (source_of r)
  pub possible : (n : ℕ) (act : Act) → n < w.count → FirstAct w n act → can_take w n act ≡ true

-- a node has taken an act, of which this is told, or was refused it: for want of serials, or of memory if the act makes something grow
pub record IsTaken {X : Type 0} (tells : Happened → X → Type 0) (w : World) (n : ℕ) (act : Act) (result : Result X Refusal) (v : World) : Type 0 where
  pub event : IfOk result (tells (turn_event w n act))
  pub done : OnOk result (v ≡ after_act w n act)
  pub allowed : OnOk result (turn_lacks_serials w n act ≡ false)
  pub why : IfErr result (λ e. e ≡ (if turn_lacks_serials w n act then NumbersEnd else OutOfMemory))
  pub grows : turn_grows w n act ≡ false → turn_lacks_serials w n act ≡ false → IsOk result
  pub left : OnErr result (v ≡ w)

-- a node has taken its first act, or what stands in for it, and this is told of what happened
abbrev pub ToldTurn : {X : Type 0} → (Happened → X → Type 0) → World → ℕ → X → World → Type 0
ToldTurn tells w n told v = (event : Happened) × tells event told × StepFirst w (Turn n) (Turned event) v

-- the node that a step is for
unfoldable pub node_of : Step → ℕ
node_of (Open n) = n
node_of (Put n at bytes ends) = n
node_of (PutWide n at bytes ends) = n
node_of (Get n at) = n
node_of (Close n at) = n
node_of (Turn n) = n

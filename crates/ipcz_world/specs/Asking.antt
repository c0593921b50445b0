-- An act that is asked for by name: whether a node may take it, what comes of it, and why it isn't taken.
use Rattle.std.specs.Prelude.{◌≡◌, ◌⊎◌, ◌<◌, ◌&&◌, ℕ, Bool, true, false, nat_lt, if◌then◌else◌, Option, None}
use Rattle.ipcz_base.specs.declared.refusal.Refusal.{Refusal}
use Rattle.ipcz_base.specs.declared.refusal.Refusal.TheVariants.{NumbersEnd, OutOfMemory}
use Rattle.ipcz_node.specs.declared.act.Act.{Act}
use Rattle.ipcz_node.specs.declared.happened.Happened.{Happened}
use Rattle.ipcz_world.specs.declared.step.NotTaken.{NotTaken}
use Rattle.ipcz_world.specs.declared.step.NotTaken.TheVariants as why
use Rattle.ipcz_world.specs.World.{World, node_at}
use Rattle.ipcz_world.specs.Turns.{after_act, can_take, turn_event, turn_grows, turn_lacks_serials}

-- whether the node is one of the world's and may take the act, in whatever order
abbrev pub can_act : World → ℕ → Act → Bool
can_act w n act = nat_lt n w.count && can_take w n act

-- the sender of the message that a node of the world has in its hand
abbrev pub hand_at : World → ℕ → Option ℕ
hand_at w n = if nat_lt n w.count then (node_at w n).hand else None

-- the node has taken this very act, which was possible, and this is what it was seen to do
pub record IsActed (w : World) (n : ℕ) (act : Act) (event : Happened) (v : World) : Type 0 where
  pub node : n < w.count
  pub possible : can_take w n act ≡ true
  pub serials : turn_lacks_serials w n act ≡ false
  pub seen : event ≡ turn_event w n act
  pub after : v ≡ after_act w n act

-- a possible act is refused only for want of serials, or, if it makes something grow, of memory
abbrev pub IsWanting : World → ℕ → Act → Refusal → Type 0
IsWanting w n act refusal =
    ((refusal ≡ NumbersEnd) × (turn_lacks_serials w n act ≡ true))
    ⊎ ((refusal ≡ OutOfMemory) × (turn_lacks_serials w n act ≡ false) × (turn_grows w n act ≡ true))

-- why the act wasn't taken
abbrev pub WhyNotTaken : World → ℕ → Act → NotTaken → Type 0
WhyNotTaken w n act why.NotPossible = can_act w n act ≡ false
WhyNotTaken w n act (why.Refused refusal) = (can_act w n act ≡ true) × IsWanting w n act refusal

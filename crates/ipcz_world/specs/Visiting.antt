-- Which node takes the next act in passes over the nodes.
use Rattle.std.specs.Prelude.{◌≡◌, ◌⊎◌, ◌≤◌, ◌<◌, ℕ, Bool, true, false, List}
use Rattle.ipcz_world.specs.World.{World}
use Rattle.ipcz_world.specs.Turns.{next_at, is_idle}
use Rattle.ipcz_world.specs.Settling.{AreVisits, act_count, node_behind}

-- each node from one number up to another is idle
abbrev pub AreIdle : World → ℕ → ℕ → Type 0
AreIdle w from to = (n : ℕ) → from ≤ n → n < to → is_idle (next_at w n) ≡ true

-- the first node from one number up to another that has an act
pub record IsFirstBusy (w : World) (from to n : ℕ) : Type 0 where
  pub after : from ≤ n
  pub within : n < to
  pub acts : is_idle (next_at w n) ≡ false
  pub before : AreIdle w from n

-- the next node that has an act, from a node on: in this pass, or else in the next one
abbrev pub IsNextBusy : World → ℕ → ℕ → Type 0
IsNextBusy w from n = IsFirstBusy w from w.count n ⊎ (AreIdle w from w.count × IsFirstBusy w 0 from n)

-- where a pass stands: at one of the nodes, or at its start
abbrev pub IsPlace : World → ℕ → Type 0
IsPlace w n = (n ≡ 0) ⊎ (n < w.count)

-- visits from the first node on in which so many acts were taken lead from one world to another, and this node is visited next
pub record Walk (w v : World) (acts n : ℕ) : Type 0 where
  pub visits : List Bool
  pub turns : AreVisits 0 visits w v
  pub taken : act_count visits ≡ acts
  pub next : node_behind w.count 0 visits ≡ n

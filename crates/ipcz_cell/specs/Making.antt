-- The cells of a table that was made.
use Rattle.std.specs.Prelude.{◌≡◌, ℕ, List, [], map, replicate}
use Rattle.ipcz_node.specs.Node.{Node}
use Rattle.ipcz_node.specs.FirstPairs.{new_node}
use Rattle.ipcz_world.specs.World.{numbers_from}
use Rattle.ipcz_rule.specs.Start.{opening_parts}
use Rattle.ipcz_cell.specs.CellStates.{CellState}

-- what a cell has in addition to its seat: its node, the mailboxes that it has probed, and the senders whose slots it has
pub record BodyValue : Type 0 where
  pub node : Node
  pub probed : List ℕ
  pub held : List ℕ

-- what the cell of a node at the start has
abbrev pub opening_body : ℕ → ℕ → BodyValue
opening_body count n = record { node = new_node n count; probed = []; held = [] }

-- these are of the first so many nodes
abbrev pub AreBodies : ℕ → ℕ → List BodyValue → Type 0
AreBodies count n bodies = bodies ≡ map (opening_body count) (numbers_from 0 n)

-- the cells of the first so many nodes at the start: their views join to what the table shows, and nothing was seen
pub record AreFirst (count n : ℕ) (cells : List CellState) : Type 0 where
  pub parts : map (λ c. c.part) cells ≡ opening_parts count 0 n
  pub seen : map (λ c. c.seen) cells ≡ replicate n []

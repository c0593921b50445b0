-- Cells behind locks. Which state the cell of a node is in when a call takes its lock has no name, so what a call answers is said of some
-- cell of that node.
use Rattle.std.specs.Prelude.{◌≡◌, ◌<◌, ◌⊎◌, ℕ, Bool, true, Option, Some, unwrap_or}
use Rattle.ipcz_base.specs.declared.refusal.Refusal.{Refusal}
use Rattle.ipcz_base.specs.declared.refusal.Refusal.TheVariants as refusals
use Rattle.ipcz_cell.specs.CellStates.{CellState}
use Rattle.ipcz_cell.specs.Cells.{IsSoundCell}
use Rattle.ipcz_cell.specs.TableNames.{TableName}

-- a cell of a table's node, which is sound
pub record IsCellOf (t : TableName) (node : ℕ) (c : CellState) : Type 0 where
  pub node_is : c.part.node ≡ node
  pub inside : node < t.count
  pub sound : IsSoundCell t c

-- a cell of a table's node of which this holds
pub record CellWhere (t : TableName) (node : ℕ) (Holds : CellState → Type 0) : Type 0 where
  pub cell : CellState
  pub here : IsCellOf t node cell
  pub holds : Holds cell

-- a call is refused for this, if there is such a reason, or for want of memory, if it wants some
abbrev pub IsRefusedFor : Bool → Option Refusal → Refusal → Type 0
IsRefusedFor wants reason why = ((wants ≡ true) × (why ≡ refusals.OutOfMemory)) ⊎ (reason ≡ Some why)

-- a call is refused for want of memory for a list of its own, if it wants one; else for this, if there is such a reason; else for
-- want of memory
abbrev pub IsRefusedInOrder : Bool → Option Refusal → Refusal → Type 0
IsRefusedInOrder wants reason why = ((wants ≡ true) × (why ≡ refusals.OutOfMemory)) ⊎ (why ≡ unwrap_or reason refusals.OutOfMemory)

-- A node's cell that a pointer has: of which table it is, and what its pointer owns.
use Rattle.std.specs.Prelude.{◌≡◌, Option, Some, None, IsSomeAnd}
use base.Fml.{Fml, ftrue}
use base.Stored.{Coded, coded×, coded_via}
use denote.RawPtr.{Ptr}
use denote.RattleType.{RattleType}
use Rattle.core.specs.contracts.marker.Brand.{the_row as brand_row}
use Rattle.std.specs.Box.Ownership.{box_owns}
use Rattle.std.specs.Coded.{coded_option}
use Rattle.std.specs.Global.{Global}
use Rattle.std.specs.contracts.impls.GlobalAllocator.TheImpl.{ghosts}
use Rattle.ipcz_base.specs.declared.end.End.{End}
use Rattle.ipcz_base.specs.declared.parcel.Sizes.{Sizes}
use Rattle.ipcz_cell.specs.CellStates.{CellState}
use Rattle.ipcz_cell.specs.TableNames.{TableName, no_table, name_coded}
use Rattle.ipcz_node.specs.Calls.{next_sizes}
use Rattle.ipcz_c.specs.contracts.member.Member.{the_row}

-- which table it is of, and what its node has
pub record HeldCell : Type 0 where
  pub table : TableName
  pub cell : CellState

-- a member of the table of a name
abbrev pub member_row : TableName → RattleType
member_row table = the_row brand_row (record { table = table })

-- what the pointer owns with the cell that it has, or with none
abbrev pub cell_owns : Global → Ptr → Option HeldCell → Fml
cell_owns alloc p None = ftrue
cell_owns alloc p (Some c) = box_owns (ghosts.dealloc_token alloc) (member_row c.table) p c.cell

abbrev pub cell_coded : Coded (Option HeldCell)
cell_coded = coded_option (coded_via (coded× name_coded (member_row no_table).coded) (λ (c : HeldCell). (c.table, c.cell))
    (λ x y e i. record { table = (e i).0; cell = (e i).1 }))

-- the table of the cell, where there is one
abbrev pub table_of : Option HeldCell → TableName
table_of None = no_table
table_of (Some c) = c.table

-- a type of one value, as each that stands for a table's name alone
abbrev pub IsOnly : Type 0 → Type 0
IsOnly X = (x : X) × ((y : X) → y ≡ x)

-- what a call does to the cell, which stays of its table
abbrev pub Moves : (TableName → CellState → CellState → Type 0) → Option HeldCell → Option HeldCell → Type 0
Moves Does old new = (c : HeldCell) → old ≡ Some c → IsSomeAnd new (λ d. (d.table ≡ c.table) × Does c.table c.cell d.cell)

-- the sizes of the parcel that a get of the cell would give; none where it would be refused, or there is no cell
unfoldable pub cell_sizes : Option HeldCell → End → Option Sizes
cell_sizes None at = None
cell_sizes (Some c) at = next_sizes c.cell.part.state at

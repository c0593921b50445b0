-- A pointer to a cell and its parts own what a box of the cell owns.
use mathlib.Core.Path.{◌≡◌, ap}
use mathlib.Core.List.{List}
use mir.Val.{Val}
use base.Fml.{Fml, fsep}
use denote.Param.{param}
use denote.Param.Laws.{Laws, param_laws}
use denote.RattleType.{RattleType}
use denote.RawPtr.{Ptr}
use denote.Signature.{Slot, plain}
use denote.Struct.Owning.{shape, to}
use denote.Struct.Struct.{Struct}
use Rattle.std.specs.Global.{Global}
use Rattle.std.specs.Prelude.{Some}
use Rattle.std_alloc.proofs.BoxSteps.Form.{Bx, B}
use Rattle.std_heap.specs.contracts.Global as Heap
use Rattle.std_heap.specs.contracts.GlobalAllocator.TheImpl.{ghosts}
use Rattle.ipcz_cell.specs.declared.fabric.FabricName.{Ghosts}
use Rattle.ipcz_c.proofs.AsBox as world
use Rattle.ipcz_c.proofs.SameOwner.{same_owner}
use Rattle.ipcz_c.proofs.member.Member.TheLaws as member
use Rattle.ipcz_c.specs.contracts.cell_pointer.CellPointer as Pointer
use Rattle.ipcz_c.specs.contracts.member.Member as Member
use Rattle.ipcz_c.specs.contracts.parts.Parts as Parts
use Rattle.ipcz_c.specs.HeldCells.{HeldCell, IsOnly}

-- what `into_parts` is given
abbrev pub FromPointer : Slot 1
FromPointer = plain (λ _. Pointer.the_row)

module _ (F : RattleType) (L : Laws F) (g : Ghosts F.Denot) where
  -- a member of the table that F names
  abbrev pub Cell : RattleType
  Cell = Member.the_row (param 0 F) g

  -- a box of it in the memory of C's heap
  abbrev pub E : Bx
  E = record { row = Cell; laws = member.the_row_laws (param 0 F) g (param_laws 0 F L); al = world.E.al }

  -- what `of_parts` is given
  abbrev pub FromParts : Slot 1
  FromParts = plain (λ _. Parts.the_row Cell Heap.the_row ghosts)

  -- a pointer to a cell owns what its box does
  pub same_pointer : IsOnly F.Denot → (ptr : Ptr) (alloc : Global) (c : HeldCell) → c.table ≡ g.table → (vs : List Val) →
      Pointer.the_row.own_val (record { ptr = ptr; alloc = alloc; cell = Some c }) vs ≡ (B E).own_val (record { ptr = ptr; alloc = alloc; value = c.cell }) vs
  same_pointer only ptr alloc c named vs =
      ap (λ (q : Fml). fsep ((Struct (shape Pointer.the_type)).own_val (to Pointer.the_type (record { ptr = ptr; alloc = alloc; cell = Some c })) vs) q)
      (same_owner (param 0 F) g only c.table named (ghosts.dealloc_token alloc) ptr c.cell)

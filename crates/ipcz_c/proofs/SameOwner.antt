-- What a box of a cell owns doesn't depend on which type of one value stands for its table's name.
use Rattle.std.proofs.Common.{◌≡◌, refl}
use std.HLevel.{contr→prop}
use std.Univalence.{h_prop_ext}
use base.Fml.{Fml, ftrue}
use base.Stored.{Coded}
use denote.Exit.{unchanged}
use denote.RattleType.{RattleType}
use denote.RawPtr.{Ptr}
use mir.Syntax.{Ty}
use Rattle.core.specs.contracts.marker.Brand.{the_row as brand_row}
use Rattle.std.specs.Box.Ownership.{box_owns}
use Rattle.ipcz_cell.specs.CellStates.{CellState}
use Rattle.ipcz_cell.specs.TableNames.{TableName}
use Rattle.ipcz_cell.specs.declared.fabric.FabricName.{Ghosts}
use Rattle.ipcz_c.specs.contracts.member.Member as Member
use Rattle.ipcz_c.specs.HeldCells.{IsOnly, member_row}

-- `Brand` has one value
pub brand_only : IsOnly brand_row.Denot
brand_only = (record {}, λ y. refl)

-- types of one value are one type
same_type : (X : Type 0) → IsOnly X → brand_row.Denot ≡ X
same_type X only = h_prop_ext (contr→prop brand_only) (contr→prop only) (λ y. only.0) (λ x. brand_only.0)

-- no formula reads more of such a type than its values
pub same_owner : (F : RattleType) (g : Ghosts F.Denot) → IsOnly F.Denot → (table : TableName) → table ≡ g.table →
    (token : Ty → Ptr → Fml) (p : Ptr) (c : CellState) → box_owns token (member_row table) p c ≡ box_owns token (Member.the_row F g) p c
same_owner F g only table named token p c = λ i. box_owns token (Member.the_row (record {
  Denot = same_type F.Denot only i;
  mir = brand_row.mir;
  written = brand_row.written;
  reaches = brand_row.reaches;
  lives = brand_row.lives;
  own_val = λ x vs. ftrue;
  exit = λ k. unchanged;
  coded = coe 0 i (j. Coded (same_type F.Denot only j)) brand_row.coded;
  shr_at = λ x b o κ. ftrue;
}) (record { table = named i })) p c

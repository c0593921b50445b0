-- The pointer and its parts own what a box of a world owns.
use mir.Syntax.{impl, tnil, dnil}
use mathlib.Core.List.{[]}
use lib.Dec.{T}
use mathlib.Core.Bool.{Bool, true, false, ◌&&◌}
use mir.Syntax.{ty_ptr}
use mir.Val.{Val, vstruct, vcons, vnil, has_ty, WT}
use denote.RawPtr.{Ptr, ptr_val}
use denote.Param.{layout}
use Rattle.core.proofs.atomic.Steps.{Ptr-Good}
use Rattle.core.proofs.cell.Inside.{Good}
use denote.Signature.{Slot, plain}
use Rattle.std_alloc.proofs.BoxSteps.Form.{Bx}
use Rattle.std_heap.specs.contracts.Global as Heap
use Rattle.std_heap.specs.contracts.GlobalAllocator.TheImpl.{ghosts, dict}
use Rattle.std_heap.proofs.Global.TheLaws as heap
use Rattle.ipcz_world.specs.contracts.world.World as World
use Rattle.ipcz_world.proofs.world.World.TheLaws as world
use Rattle.ipcz_c.specs.contracts.parts.Parts as Parts
use Rattle.ipcz_c.specs.contracts.pointer.WorldPointer as Pointer

-- a box of a world in the memory of C's heap
abbrev pub E : Bx
E = record { row = World.the_row; laws = world.the_row_laws; al = record { row = Heap.the_row; laws = heap.the_row_laws; g = ghosts; d = dict; drops = impl [] tnil dnil } }

-- what `of_parts` is given
abbrev pub FromParts : Slot 0
FromParts = plain (λ _. Parts.the_row World.the_row Heap.the_row ghosts)

-- what `into_parts` is given
abbrev pub FromPointer : Slot 0
FromPointer = plain (λ _. Pointer.the_row)

-- the machine value of a struct of a pointer and the heap's handle has that struct's type
pub both_good : (p : Ptr) (h : Val) → Good (layout Heap.the_row) h → T (has_ty (layout Pointer.the_row) (vstruct (vcons (ptr_val p) (vcons h vnil)))) × WT (vstruct (vcons (ptr_val p) (vcons h vnil)))
both_good p h fits = (both_tt (has_ty ty_ptr (ptr_val p)) (has_ty (layout Heap.the_row) h) (Ptr-Good p).0 fits.0, ((Ptr-Good p).1, (fits.1, tt)))
  where
    both_tt : (x y : Bool) → T x → T y → T (x && (y && true))
    both_tt true true s t = tt
    both_tt true false s t = absurd t
    both_tt false y s t = absurd s

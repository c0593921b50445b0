use mir.Raw.{raw}
use base.Shift.{Keyless}
use denote.Memory.{lone}
use denote.RawPtr.{Ptr}
use denote.Struct.Struct.{exits_of}
use denote.Struct.Owning.{shape, fields, to}
use denote.Param.Send.{IsSend, AllSend, owning_send, struct_send, sendable}
use Rattle.core.specs.contracts.marker.Brand.{the_row as brand_row}
use Rattle.std.proofs.Crossing as heap
use Rattle.std.specs.Prelude.{Option, Some, None}
use Rattle.std.specs.Global.{Global}
use Rattle.std_alloc.proofs.SendSync.{quiet, lies}
use Rattle.std_heap.proofs.Global.TheSendSync as handle
use Rattle.ipcz_c.proofs.member.Member.TheSendSync.{the_send as member}
use Rattle.ipcz_c.specs.HeldCells.{HeldCell, cell_owns, member_row}
use Rattle.ipcz_c.specs.contracts.cell_pointer.CellPointer.{the_row, the_type}

keyless : (a : Global) (p : Ptr) (held : Option HeldCell) → Keyless (cell_owns a p held)
keyless a p None = tt
keyless a p (Some c) = (lies (member_row c.table) (member brand_row (record { table = c.table })) p c.cell, heap.frees.frees a (raw (lone (member_row c.table).mir)) p)

pub send : IsSend the_row
send =
    let all : AllSend (fields the_type) = (search sendable, (handle.the_field_send, tt)) in
    owning_send the_type all (λ d. keyless d.alloc d.ptr d.cell)
    (λ k. quiet (to the_type) (exits_of k (fields the_type)) ((struct_send (shape the_type) all).leaving k))

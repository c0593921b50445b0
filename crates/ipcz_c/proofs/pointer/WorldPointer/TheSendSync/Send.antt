use mir.Raw.{raw}
use base.Shift.{Keyless}
use denote.Memory.{lone}
use denote.RawPtr.{Ptr}
use denote.Struct.Struct.{exits_of}
use denote.Struct.Owning.{shape, fields, to}
use denote.Param.Send.{IsSend, AllSend, owning_send, struct_send, sendable}
use Rattle.std.proofs.Crossing as heap
use Rattle.std.specs.Prelude.{Option, Some, None, List}
use Rattle.std.specs.Global.{Global}
use Rattle.std_alloc.proofs.SendSync.{quiet, lies}
use Rattle.std_heap.proofs.Global.TheSendSync as handle
use Rattle.ipcz_node.specs.RoomyNodes.{NodeRoom}
use Rattle.ipcz_world.specs.World as worlds
use Rattle.ipcz_world.specs.contracts.world.World as World
use Rattle.ipcz_world.proofs.world.World.TheSendSync.{the_send as world}
use Rattle.ipcz_c.specs.Held.{pointer_owns, roomy}
use Rattle.ipcz_c.specs.contracts.pointer.WorldPointer.{the_row, the_type}

keyless : (a : Global) (p : Ptr) (held : Option worlds.World) (rooms : List NodeRoom) → Keyless (pointer_owns a p held rooms)
keyless a p None rooms = tt
keyless a p (Some w) rooms = (lies World.the_row world p (roomy w rooms), heap.frees.frees a (raw (lone World.the_row.mir)) p)

pub send : IsSend the_row
send =
    let all : AllSend (fields the_type) = (search sendable, (handle.the_field_send, tt)) in
    owning_send the_type all (λ d. keyless d.alloc d.ptr d.world d.rooms)
    (λ k. quiet (to the_type) (exits_of k (fields the_type)) ((struct_send (shape the_type) all).leaving k))

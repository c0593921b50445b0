-- What a pointer to a world owns: what a box of that world does, where it has one.
use Rattle.std.specs.Prelude.{Option, Some, None, List, []}
use base.Fml.{Fml, ftrue}
use base.Stored.{Coded, coded_via}
use denote.RawPtr.{Ptr}
use Rattle.std.specs.Box.Ownership.{box_owns}
use Rattle.std.specs.Global.{Global}
use Rattle.std.specs.contracts.impls.GlobalAllocator.TheImpl.{ghosts}
use Rattle.std.specs.Coded.{coded_option}
use Rattle.ipcz_node.specs.RoomyNodes.{NodeRoom}
use Rattle.ipcz_world.specs.World.{World, new_world}
use Rattle.ipcz_world.specs.RoomyWorlds.{RoomyWorld}
use Rattle.ipcz_world.specs.contracts.world.World.{the_row}

-- a world with the room of its nodes
abbrev pub roomy : World → List NodeRoom → RoomyWorld
roomy w rooms = record { world = w; rooms = rooms }

-- what the pointer owns with the world that it has, of which each node has such room, or with none
abbrev pub pointer_owns : Global → Ptr → Option World → List NodeRoom → Fml
pointer_owns alloc p None rooms = ftrue
pointer_owns alloc p (Some w) rooms = box_owns (ghosts.dealloc_token alloc) the_row p (roomy w rooms)

abbrev pub held_coded : Coded (Option World)
held_coded = coded_option (coded_via the_row.coded (λ (w : World). roomy w []) (λ x y e i. (e i).world))

abbrev pub rooms_coded : Coded (List NodeRoom)
rooms_coded = coded_via the_row.coded (λ (rooms : List NodeRoom). roomy (new_world 0 0) rooms) (λ x y e i. (e i).rooms)

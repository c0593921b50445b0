-- Routers with the room that is made for more.
use Rattle.std.specs.Prelude.{ℕ, ◌+◌, ◌-◌, ◌<◌, Bool, if◌then◌else◌, List, IsSomeAnd}
use Rattle.std.specs.Ordering.{nat_cmp}
use Rattle.std.specs.FinMap.{FinMap, get, insert, remove}
use Rattle.ipcz_base.specs.declared.message.Message.{Message}
use Rattle.ipcz_router.specs.Router.{Router}
use Rattle.ipcz_router.specs.Hearing.{hear, links_brought}
use Rattle.ipcz_router.specs.RoomyRouters.{RoomyRouter}
use Rattle.ipcz_node.specs.Node.{EndSet, with_ends, without_ends}
use Rattle.ipcz_base.specs.declared.end.End.{End}

-- the routers by serial, how many items more the out queue and the in queue of each take, the serial of the next one, and the room for
-- more
pub record RoutersValue : Type 0 where
  pub routers : FinMap nat_cmp Router
  pub out_rooms : FinMap nat_cmp ℕ
  pub in_rooms : FinMap nat_cmp ℕ
  pub next : ℕ
  pub room : ℕ

-- the routers with this one under the serial
abbrev pub put_router : RoutersValue → ℕ → RoomyRouter → RoutersValue
put_router v serial r = record v {
  routers = insert v.routers serial r.router;
  out_rooms = insert v.out_rooms serial r.out_room;
  in_rooms = insert v.in_rooms serial r.in_room;
}

-- the routers with one more under the next serial
abbrev pub routers_with : RoutersValue → RoomyRouter → RoutersValue
routers_with v r = record {
  routers = insert v.routers v.next r.router;
  out_rooms = insert v.out_rooms v.next r.out_room;
  in_rooms = insert v.in_rooms v.next r.in_room;
  next = v.next + 1;
  room = v.room - 1;
}

-- the routers of a node and the ends that its callers hold, with room for more routers and for more of their links
pub record FiledRouters : Type 0 where
  pub routers : FinMap nat_cmp Router
  pub held : EndSet
  pub next : ℕ
  pub room : ℕ
  pub links : ℕ

-- the same, how many items more the out queue and the in queue of each router take, how many of the ends that wait there is room to hold,
-- and how many ends more may come to wait
pub record RoomyDirectory : Type 0 where
  pub filed : FiledRouters
  pub out_rooms : FinMap nat_cmp ℕ
  pub in_rooms : FinMap nat_cmp ℕ
  pub ends : ℕ
  pub more_ends : ℕ

-- the routers with this one under the serial
abbrev pub put_filed : FiledRouters → ℕ → Router → FiledRouters
put_filed v serial r = record v { routers = insert v.routers serial r }

-- the same, with a link more
abbrev pub link_filed : FiledRouters → ℕ → Router → FiledRouters
link_filed v serial r = record v { routers = insert v.routers serial r; links = v.links - 1 }

-- the routers with this one after a message from a node that it hears, and with the links fewer to come that the message may bring
abbrev pub hear_filed : FiledRouters → ℕ → Router → ℕ → Message → FiledRouters
hear_filed v serial r sender m = record v {
  routers = insert v.routers serial (hear r sender m);
  links = v.links - links_brought m;
}

-- the routers with one more under the next serial
abbrev pub add_filed : FiledRouters → Router → FiledRouters
add_filed v r = record v { routers = insert v.routers v.next r; next = v.next + 1; room = v.room - 1 }

-- the routers without that of a serial
abbrev pub drop_filed : FiledRouters → ℕ → FiledRouters
drop_filed v serial = record v { routers = remove v.routers serial }

-- the same routers, with these ends more that callers hold
abbrev pub hold_filed : FiledRouters → List End → FiledRouters
hold_filed v ends = record v { held = with_ends v.held ends }

-- the same routers, with these ends that callers hold no more
abbrev pub release_filed : FiledRouters → List End → FiledRouters
release_filed v ends = record v { held = without_ends v.held ends }

-- of the queues of one kind, that of the router of a serial takes an item more without memory
abbrev pub HasQueueRoom : FinMap nat_cmp ℕ → ℕ → Type 0
HasQueueRoom rooms serial = IsSomeAnd (get rooms serial) (λ room. 0 < room)

-- how many items more the queues take that an item comes into, over a link of the outward edge or not
abbrev pub rooms_for : FinMap nat_cmp ℕ → FinMap nat_cmp ℕ → Bool → FinMap nat_cmp ℕ
rooms_for in_rooms out_rooms from_outward = if from_outward then in_rooms else out_rooms

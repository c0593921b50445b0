use Rattle.std.proofs.Common.{◌≡◌, ◌≤◌, length, true, Option, Some, refl, sym, subst, ap, ◌∙◌, arith}
use Rattle.std.specs.Prelude.{IsSomeAnd}
use Rattle.std.specs.FinMap.{get}
use Rattle.ipcz_base.specs.declared.item.Item.{Item}
use Rattle.ipcz_router.specs.Router.{Router, outward_has, router_has}
use Rattle.ipcz_node.specs.Node.{router_in, found}
use Rattle.ipcz_node.specs.RoomyNodes.{RoomyNode}
use Rattle.ipcz_node.specs.Rooms.{RoomyDirectory, HasQueueRoom, rooms_for}
use Rattle.ipcz_node.specs.Directories.{ends_brought}
use Rattle.ipcz_node.specs.Telling.{HasRoomForItem}
use Rattle.ipcz_node.specs.contracts.state.NodeState.{the_view}
use Rattle.ipcz_node.proofs.Carrying.{place_refused}
use Rattle.ipcz_node.proofs.state.NodeState.take_item.Goals.{else-count-gt0-via-then-count-gt0+else-is_err, else-count-gt0-via-else-count-gt0}
use Rattle.ipcz_node.proofs.state.NodeState.take_item.Goals as goal

-- the router has the place and the room, and so nothing to refuse the item for
pub returns-in-Err-clause-full : goal.returns-in-Err-clause-full
returns-in-Err-clause-full c r here place room enough =
    let was : RoomyDirectory = c.self.inside.routers in
    let is : RoomyDirectory = c.else-count-gt0.self-inside.routers in
    let within : length c.as_slice-count.result.now ≤ was.filed.room =
    subst (λ (x : RoomyNode). length c.as_slice-count.result.now ≤ x.room.routers) (sym c.self.view_is)
    (omega (arith, enough, ap length c.as_slice-count.ensures)) in
    let same : is ≡ was = elim c.else-count-gt0.branch [
      | else-count-gt0-via-then-count-gt0+else-is_err w ↦ rw w.self-inside-is (w.reserve.ensures.full within (omega arith)).1
      | else-count-gt0-via-else-count-gt0 w ↦ rw w.self-inside-is refl
    ] in
    let there : get is.filed.routers c.args.serial ≡ Some r = ap (λ (d : RoomyDirectory). get d.filed.routers c.args.serial) same ∙
    ap (λ (x : RoomyNode). router_in x.node c.args.serial) c.self.view_is ∙ here in
    let stands : router_has r c.args.link c.args.side ≡ true =
    subst (λ (o : Option Router). IsSomeAnd o (λ x. router_has x c.args.link c.args.side ≡ true)) here c.requires.stands in
    let given = c.replace-given.result in
    let before : HasQueueRoom (rooms_for was.in_rooms was.out_rooms (outward_has r c.args.link c.args.side)) c.args.serial ×
    (ends_brought r (outward_has r c.args.link c.args.side) c.args.n given ≤ was.more_ends) =
    subst (λ (i : Item). HasRoomForItem (the_view c.self.inside) c.args.link c.args.side c.args.n i (found c.args.serial r))
    (sym c.replace-given.ensures.value)
    (subst (λ (x : RoomyNode). HasRoomForItem x c.args.link c.args.side c.args.n c.args.item.now (found c.args.serial r)) (sym c.self.view_is)
    room) in
    let now : HasQueueRoom (rooms_for is.in_rooms is.out_rooms (outward_has r c.args.link c.args.side)) c.args.serial ×
    (ends_brought r (outward_has r c.args.link c.args.side) c.args.n given ≤ is.more_ends) =
    subst (λ (d : RoomyDirectory). HasQueueRoom (rooms_for d.in_rooms d.out_rooms (outward_has r c.args.link c.args.side)) c.args.serial ×
    (ends_brought r (outward_has r c.args.link c.args.side) c.args.n given ≤ d.more_ends)) (sym same) before in
    sym (place_refused r c.args.link c.args.side c.args.n stands
    (λ wanted. c.in-Err.ensures.full r there now.0 now.1 (c.in-Err.ensures.why r there ∙ wanted))) ∙ place

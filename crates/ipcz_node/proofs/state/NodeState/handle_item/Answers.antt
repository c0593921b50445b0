use Rattle.std.proofs.Common.{◌≡◌, Some}
use Rattle.ipcz_router.specs.Router.{Router}
use Rattle.ipcz_node.specs.Node.{router_in, link_router, found}
use Rattle.ipcz_node.proofs.AtRouter.{taken}
use Rattle.ipcz_node.proofs.Telling.{room_for_item}
use Rattle.ipcz_node.proofs.Handing.{item_placed, item_found, item_has_place}
use Rattle.ipcz_node.proofs.state.NodeState.handle_item.Goals as goal

pub take_item-requires-clause-number : goal.take_item-requires-clause-number
take_item-requires-clause-number c =
    (item_placed _ _ c.args.link c.args.side c.args.n c.args.item.now c.args.moves.now c.requires.fits).0

pub take_item-requires-clause-numbers : goal.take_item-requires-clause-numbers
take_item-requires-clause-numbers c =
    (item_placed _ _ c.args.link c.args.side c.args.n c.args.item.now c.args.moves.now c.requires.fits).1

pub unreachable-requires : goal.unreachable-requires
unreachable-requires c =
    item_found _ _ c.args.link c.args.side c.args.n c.args.item.now c.args.moves.now c.requires.fits c.in-None.ensures.none

pub returns-clause-full : goal.returns-clause-full
returns-clause-full c room =
    let n = c.args.self.now.node in
    let t = taken (router_in n c.in-Some.serial) (λ (r : Router). link_router n c.args.link c.args.side ≡ Some (found c.in-Some.serial r))
    c.in-Some.ensures.found in
    let here = room_for_item c.args.self.now c.args.link c.args.side c.args.n c.args.item.now c.args.moves.now (found c.in-Some.serial t.0) t.2 room in
    c.take_item.ensures.full t.0 t.1
    (item_has_place n c.args.sender c.args.link c.args.side c.args.n c.args.item.now c.args.moves.now (found c.in-Some.serial t.0) t.2 c.requires.fits)
    here.1 here.0

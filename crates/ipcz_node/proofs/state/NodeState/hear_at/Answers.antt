use Rattle.std.proofs.Common.{◌≡◌, ◌≤◌, ◌<◌, true, Option, sym, subst, ap, ◌∙◌}
use Rattle.std.specs.Prelude.{IfSome}
use Rattle.std.specs.FinMap.{get}
use Rattle.ipcz_base.specs.Indexed.{place_at}
use Rattle.ipcz_router.specs.Router.{Router}
use Rattle.ipcz_router.specs.Hearing.{hears, answer_to, links_brought}
use Rattle.ipcz_router.specs.declared.sending.Sending.{Sending}
use Rattle.ipcz_node.specs.Node.{router_in}
use Rattle.ipcz_node.specs.RoomyNodes.{RoomyNode}
use Rattle.ipcz_node.specs.Telling.{HasRoomToTell}
use Rattle.ipcz_node.proofs.AtRouter.{taken}
use Rattle.ipcz_node.proofs.state.NodeState.hear_at.Goals as goal

pub hear-answer-requires-clause-room : goal.hear-answer-requires-clause-room
hear-answer-requires-clause-room c =
    let m = c.args.message.now in
    let t = taken (router_in c.args.self.now.node c.args.serial) (λ (r : Router). hears r c.args.sender m c.args.source ≡ true) c.requires in
    subst (λ (v : RoomyNode). links_brought m ≤ v.room.links) (sym c.self.view_is) (c.in_ok-make_room_to_hear.ensures.room t.0 t.1).0

pub tell-requires : goal.tell-requires
tell-requires c =
    let m = c.args.message.now in
    let t = taken (router_in c.args.self.now.node c.args.serial) (λ (r : Router). hears r c.args.sender m c.args.source ≡ true) c.requires in
    let sent = c.hear-answer.ensures.sending t.0
    (ap (λ (v : RoomyNode). get v.node.routers c.args.serial) c.self.view_is
    ∙ ap (λ n. get n.routers c.args.serial) c.in_ok-make_room_to_hear.ensures.node ∙ t.1) in
    let room = subst (λ (v : RoomyNode). HasRoomToTell v (answer_to t.0 m)) (sym c.self.view_is)
    (c.in_ok-make_room_to_hear.ensures.room t.0 t.1).1 in
    subst (λ (s : Option Sending). IfSome s (λ x. 0 < place_at 0 c.self.inside.outboxes.room x.to)) (sym sent) room

use Rattle.std.proofs.Common.{◌≡◌, true, sym, subst, ap, ◌∙◌}
use Rattle.ipcz_router.specs.Router.{Router}
use Rattle.ipcz_router.specs.ActTable.{may_take}
use Rattle.ipcz_node.specs.Node.{router_in}
use Rattle.ipcz_node.specs.RoomyNodes.{IsReady, CanTell}
use Rattle.ipcz_node.specs.Events.{act_event, link_acted, moved_by}
use Rattle.ipcz_node.proofs.AtRouter.{taken}
use Rattle.ipcz_node.proofs.Handing.{still_ready, can_tell}
use Rattle.ipcz_node.proofs.Happenings.{told}
use Rattle.ipcz_node.proofs.state.NodeState.commit_act.Goals as goal

pub event-event-requires : goal.event-event-requires
event-event-requires c =
    let r = taken (router_in c.args.self.now.node c.args.serial) (λ (x : Router). may_take x c.args.act ≡ true) c.requires.possible in
    let a = c.act_router-applied in
    can_tell c.args.self.now a.new.self a.result (ap (λ r. r.event_ends) a.ensures.room) a.ensures.number
    (subst (CanTell c.args.self.now) (sym (a.ensures.output r.0 r.1)) (c.requires.ready r.0 r.1).1)

pub send-requires : goal.send-requires
send-requires c =
    let r = taken (router_in c.args.self.now.node c.args.serial) (λ (x : Router). may_take x c.args.act ≡ true) c.requires.possible in
    let a = c.act_router-applied in
    let e = c.event-event in
    still_ready c.args.self.now e.new.self a.result
    (ap (λ r. r.outboxes) e.ensures.room ∙ ap (λ r. r.outboxes) a.ensures.room)
    (ap (λ r. r.links) e.ensures.room ∙ ap (λ r. r.links) a.ensures.room)
    (ap (λ r. r.moves) e.ensures.room ∙ ap (λ r. r.moves) a.ensures.room)
    (ap (λ r. r.pending) e.ensures.room ∙ ap (λ r. r.pending) a.ensures.room)
    (ap (λ n. n.number) e.ensures.node ∙ a.ensures.number)
    (ap (λ n. n.next_peripheral) e.ensures.node ∙ a.ensures.serial)
    (subst (IsReady c.args.self.now) (sym (a.ensures.output r.0 r.1)) (c.requires.ready r.0 r.1).0)

pub returns-clause-event : goal.returns-clause-event
returns-clause-event c r is =
    let a = c.act_router-applied in
    let may = taken (router_in c.args.self.now.node c.args.serial) (λ (x : Router). may_take x c.args.act ≡ true) c.requires.possible in
    let same : may.0 ≡ r = cc (may.1, is) in
    c.event-event.ensures.event
    ∙ ap (λ l. act_event c.args.serial l c.args.act c.args.answer a.result (moved_by a.new.self.node a.result))
    (c.link_acted-link.ensures r is)
    ∙ ap (λ o. act_event c.args.serial (link_acted r c.args.act) c.args.act c.args.answer o (moved_by a.new.self.node o))
    (a.ensures.output r is)
    ∙ told c.args.self.now.node a.new.self.node c.args.serial r c.args.act c.args.answer
    (subst (λ (x : Router). may_take x c.args.act ≡ true) same may.2) a.ensures.number

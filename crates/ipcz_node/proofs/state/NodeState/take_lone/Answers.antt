use Rattle.std.proofs.Common.{◌≡◌, ◌≤◌, true, false, Ok, Err, Some, refl, sym, subst, ap, ◌∙◌}
use Rattle.std.specs.Prelude.{IsSomeAnd}
use Rattle.ipcz_base.specs.declared.message.Message.TheVariants as messages
use Rattle.ipcz_base.specs.Limits.{no_number}
use Rattle.ipcz_router.specs.Router.{Router, router_has}
use Rattle.ipcz_node.specs.Node.{router_in, link_router, found}
use Rattle.ipcz_node.specs.Hands.{free_hand}
use Rattle.ipcz_node.specs.Deliveries.{IsTakenAtOnce}
use Rattle.ipcz_node.specs.contracts.state.NodeState.{the_view}
use Rattle.ipcz_node.specs.RoomyNodes.{RoomyNode}
use Rattle.ipcz_node.proofs.AtRouter.{taken}
use Rattle.ipcz_node.proofs.Telling.{room_for_item}
use Rattle.ipcz_node.proofs.Carrying.{lone_without_place, lone_without_router, not_lone, place_refused, place_wanted}
use Rattle.ipcz_node.proofs.Carrying.{stays_at_once, takes_at_once, wants_at_once}
use Rattle.ipcz_node.proofs.state.NodeState.take_lone.Goals.{in-OutOfMemory, in_default-why}
use Rattle.ipcz_node.proofs.state.NodeState.take_lone.Goals as goal

pub returns-then-not-is_lone_item-clause-tried : goal.returns-then-not-is_lone_item-clause-tried
returns-then-not-is_lone_item-clause-tried c source =
    let a = c.args in
    stays_at_once a.self.now a.self.now a.from (messages.Item a.link a.side a.n a.item.now a.moves.now) source
    (not_lone a.self.now.node a.from a.link a.side a.n a.item.now a.moves.now source (sym c.is_lone_item.ensures.same ∙ c.if-not-is_lone_item.true))

pub returns-in_default-clause-tried : goal.returns-in_default-clause-tried
returns-in_default-clause-tried c source =
    let a = c.args in
    stays_at_once a.self.now a.self.now a.from (messages.Item a.link a.side a.n a.item.now a.moves.now) source
    (lone_without_router a.self.now.node a.from a.link a.side a.n a.item.now a.moves.now source c.in_default.ensures.none)

pub returns-in-Ok-clause-tried : goal.returns-in-Ok-clause-tried
returns-in-Ok-clause-tried c source =
    let a = c.args in
    let v = the_view c.self.inside in
    let t = taken (router_in v.node c.in-Some.serial)
    (λ (r : Router). link_router v.node a.link a.side ≡ Some (found c.in-Some.serial r))
    (subst (λ x. IsSomeAnd (router_in x.node c.in-Some.serial) (λ (r : Router). link_router x.node a.link a.side ≡ Some (found c.in-Some.serial r)))
    (sym c.self.view_is) c.in-Some.ensures.found) in
    let filed = c.in-Ok.ensures.ok t.0 t.1 in
    let alone = c.if-not-is_lone_item.ensures.alone refl in
    subst (λ (k : RoomyNode). IsTakenAtOnce k a.from (messages.Item a.link a.side a.n a.item.now a.moves.now) source _ c.free_hand.new.self)
    c.self.view_is
    (takes_at_once v c.free_hand.new.self a.from a.link a.side a.n a.item.now a.moves.now source c.in-Some.serial t.0 t.2
    (c.in-Ok.ensures.place t.0 t.1) (alone.1, alone.2)
    (subst (λ (k : RoomyNode). k.node.next_router ≤ no_number) (sym c.self.view_is) c.counts_serials.ensures.routers)
    (c.free_hand.ensures ∙ ap (λ x. free_hand x a.from)
    (λ j. record v.node { routers = (filed j).routers; held = (filed j).held; next_router = (filed j).next })))

-- the router that refuses the item: it has its place there exactly if memory was wanted
pub returns-after-why-clause-tried : goal.returns-after-why-clause-tried
returns-after-why-clause-tried c source =
    let a = c.args in
    let v = the_view c.self.inside in
    let m = messages.Item a.link a.side a.n a.item.now a.moves.now in
    let t = taken (router_in v.node c.in-Some.serial)
    (λ (r : Router). link_router v.node a.link a.side ≡ Some (found c.in-Some.serial r))
    (subst (λ x. IsSomeAnd (router_in x.node c.in-Some.serial) (λ (r : Router). link_router x.node a.link a.side ≡ Some (found c.in-Some.serial r)))
    (sym c.self.view_is) c.in-Some.ensures.found) in
    let stands : router_has t.0 a.link a.side ≡ true = subst (λ o. IsSomeAnd o (λ (r : Router). router_has r a.link a.side ≡ true)) t.1
    (subst (λ x. IsSomeAnd (router_in x.node c.in-Some.serial) (λ (r : Router). router_has r a.link a.side ≡ true)) (sym c.self.view_is)
    c.in-Some.ensures.stands) in
    let alone = c.if-not-is_lone_item.ensures.alone refl in
    let after = the_view (record c.self.inside { routers = c.accept_lone.new.self }) in
    elim c.match-why.branch [
      | in-OutOfMemory w ↦ rw w.result-is
          (subst (λ (k : RoomyNode). IsTakenAtOnce k a.from m source (Err c.in-Err.why) after) c.self.view_is
          (wants_at_once v after a.from a.link a.side a.n a.item.now a.moves.now source c.in-Some.serial t.0 c.in-Err.why w.in-OutOfMemory.is t.2
          (place_wanted t.0 a.link a.side a.n alone.0 (sym (c.in-Err.ensures.why t.0 t.1) ∙ w.in-OutOfMemory.is)) (alone.1, alone.2)
          (subst (λ (k : RoomyNode). k.node.next_router ≤ no_number) (sym c.self.view_is) c.counts_serials.ensures.routers)
          (λ room. c.in-Err.ensures.full t.0 t.1
          (room_for_item v a.link a.side a.n a.item.now a.moves.now (found c.in-Some.serial t.0) t.2 room).1.0 w.in-OutOfMemory.is)))
      | in_default-why w ↦ rw w.result-is
          (subst (λ (k : RoomyNode). IsTakenAtOnce k a.from m source (Ok false) after) c.self.view_is
          (stays_at_once v after a.from m source
          (lone_without_place v.node a.from a.link a.side a.n a.item.now a.moves.now source c.in-Some.serial t.0 t.2
          (place_refused t.0 a.link a.side a.n stands
          (λ same. w.in_default-why.not-OutOfMemory (c.in-Err.ensures.why t.0 t.1 ∙ same))))))
    ]

use Rattle.std.proofs.Common.{◌≡◌, ◌+◌, ◌-◌, ap, sym, subst, ◌∙◌, arith}
use Rattle.std.specs.Prelude.{vec_capacity, vec_len}
use Rattle.ipcz_node.specs.Serials.{AreRising, map_by}
use Rattle.ipcz_node.specs.Rooms.{routers_with}
use Rattle.ipcz_node.proofs.Serials.{map_push, rising_push}
use Rattle.ipcz_node.proofs.routers.Routers.add.Goals as goal

pub invariant_of-self : goal.invariant_of-self
invariant_of-self c = subst (AreRising 0 (c.self.inside.next + 1)) (sym c.push_reserved.ensures.items)
    (rising_push 0 c.self.inside.next c.self.inside.entries.items c.args.router c.self.invariant)

pub returns : goal.returns
returns c =
    let left : vec_capacity c.push_reserved.new.self - vec_len c.push_reserved.new.self ≡
    vec_capacity c.self.inside.entries - vec_len c.self.inside.entries - 1 =
    omega (arith, c.push_reserved.ensures.len, c.push_reserved.ensures.capacity) in
    (λ j. record {
      routers = (ap (map_by (λ x. x.router)) c.push_reserved.ensures.items ∙
          map_push (λ x. x.router) 0 c.self.inside.next c.self.inside.entries.items c.args.router c.self.invariant) j;
      out_rooms = (ap (map_by (λ x. x.out_room)) c.push_reserved.ensures.items ∙
          map_push (λ x. x.out_room) 0 c.self.inside.next c.self.inside.entries.items c.args.router c.self.invariant) j;
      in_rooms = (ap (map_by (λ x. x.in_room)) c.push_reserved.ensures.items ∙
          map_push (λ x. x.in_room) 0 c.self.inside.next c.self.inside.entries.items c.args.router c.self.invariant) j;
      next = c.self.inside.next + 1;
      room = left j;
    })
    ∙ ap (λ v. routers_with v c.args.router) c.self.view_is

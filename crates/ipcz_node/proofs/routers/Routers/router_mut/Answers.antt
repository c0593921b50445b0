use Rattle.std.proofs.Common.{◌≡◌, ap, sym, subst, ◌∙◌, Some, None, is_some, true, false, refl}
use Rattle.std.specs.Prelude.{vec_capacity, vec_len, ◌-◌}
use Rattle.std.specs.FinMap.{get, find}
use Rattle.std.specs.Ordering.{nat_cmp}
use Rattle.ipcz_node.specs.Serials.{key_at, AreRising}
use Rattle.ipcz_node.specs.Rooms.{put_router}
use Rattle.ipcz_node.proofs.Serials.{get_none, map_put, rising_put, read_key, read_value}
use Rattle.ipcz_node.proofs.routers.Routers.router_mut.Goals as goal

pub place_of-requires : goal.place_of-requires
place_of-requires c = (c.self.inside.next, subst (AreRising 0 c.self.inside.next) (sym c.deref.ensures.value) c.self.invariant)

pub unreachable-requires : goal.unreachable-requires
unreachable-requires c =
    let none : get c.args.self.now.routers c.args.serial ≡ None =
    sym (ap (λ v. get v.routers c.args.serial) c.self.view_is)
    ∙ get_none (λ x. x.router) c.args.serial c.self.inside.entries.items
    (subst (λ es. find nat_cmp c.args.serial es ≡ None) c.deref.ensures.value c.in_default.ensures.found) in
    let no : is_some (get c.args.self.now.routers c.args.serial) ≡ false = rw none refl in
    let yes : is_some (get c.args.self.now.routers c.args.serial) ≡ true = c.requires in
    cc

pub invariant_of-self-lent : goal.invariant_of-self-lent
invariant_of-self-lent c = λ w.
    let at_i : key_at c.self.inside.entries.items c.in-Some.place ≡ Some c.args.serial =
    subst (λ es. key_at es c.in-Some.place ≡ Some c.args.serial) c.deref.ensures.value c.in-Some.ensures.found in
    rising_put 0 c.self.inside.next c.args.serial _ c.self.inside.entries.items c.in-Some.place w c.self.invariant at_i
    (read_key c.args.serial c.self.inside.entries.items c.in-Some.place c.index_mut-entry.result.now at_i c.index_mut-entry.ensures.value)

pub returns : goal.returns
returns c =
    let at_i : key_at c.self.inside.entries.items c.in-Some.place ≡ Some c.args.serial =
    subst (λ es. key_at es c.in-Some.place ≡ Some c.args.serial) c.deref.ensures.value c.in-Some.ensures.found in
    let key = read_key c.args.serial c.self.inside.entries.items c.in-Some.place c.index_mut-entry.result.now at_i
    c.index_mut-entry.ensures.value in (
      (
        refl,
        λ w.
            (λ j. record {
              routers = map_put (λ x. x.router) 0 c.self.inside.next c.args.serial _ c.self.inside.entries.items c.in-Some.place w
                  c.self.invariant at_i key j;
              out_rooms = map_put (λ x. x.out_room) 0 c.self.inside.next c.args.serial _ c.self.inside.entries.items c.in-Some.place w
                  c.self.invariant at_i key j;
              in_rooms = map_put (λ x. x.in_room) 0 c.self.inside.next c.args.serial _ c.self.inside.entries.items c.in-Some.place w
                  c.self.invariant at_i key j;
              next = c.self.inside.next;
              room = vec_capacity c.self.inside.entries - vec_len c.self.inside.entries;
            })
            ∙ ap (λ v. put_router v c.args.serial w) c.self.view_is,
      ),
      record {
        writes_back = tt;
        value = read_value (λ x. x.router) 0 c.self.inside.next c.args.serial c.self.inside.entries.items c.in-Some.place
            c.index_mut-entry.result.now c.self.invariant at_i c.index_mut-entry.ensures.value
            ∙ ap (λ v. get v.routers c.args.serial) c.self.view_is;
        room = read_value (λ x. x.out_room) 0 c.self.inside.next c.args.serial c.self.inside.entries.items c.in-Some.place
            c.index_mut-entry.result.now c.self.invariant at_i c.index_mut-entry.ensures.value
            ∙ ap (λ v. get v.out_rooms c.args.serial) c.self.view_is;
        in_room = read_value (λ x. x.in_room) 0 c.self.inside.next c.args.serial c.self.inside.entries.items c.in-Some.place
            c.index_mut-entry.result.now c.self.invariant at_i c.index_mut-entry.ensures.value
            ∙ ap (λ v. get v.in_rooms c.args.serial) c.self.view_is;
      },
    )

use Rattle.std.proofs.Common.{arith, subst, sym}
use Rattle.ipcz_cell.specs.Cells.{IsSetOf}
use Rattle.ipcz_cell.proofs.Onces.{set_without}
use Rattle.ipcz_cell.proofs.Taking.{taken_once, taken_below, taken_without, taken_place}
use Rattle.ipcz_cell.proofs.node_list.NodeList.take_of_many.Goals as goal

pub remove-requires : goal.remove-requires
remove-requires c =
    let inside = c.place_of-place.ensures.inside in
    let len = c.as_slice.ensures.len in
    omega (arith, inside, len)

pub invariant_of-self : goal.invariant_of-self
invariant_of-self c =
    let inv = c.self.invariant in
    let capacity = c.remove.ensures.capacity in
    let room = inv.0 in (
      omega (arith, capacity, room),
      taken_once _ _ _ _ _ _ c.requires c.self.view_is c.as_slice.ensures.value c.place_of-place.ensures.place c.remove.ensures.by_index.2 inv.1,
      taken_below _ _ _ _ _ _ c.requires c.self.view_is c.as_slice.ensures.value c.place_of-place.ensures.place c.remove.ensures.by_index.2 inv.1 inv.2,
      subst (IsSetOf c.remove-2.new.self) (sym (taken_without _ _ _ _ _ _ c.requires c.self.view_is c.as_slice.ensures.value c.place_of-place.ensures.place c.remove.ensures.by_index.2 inv.1))
          (set_without c.self.inside.set c.remove-2.new.self c.args.self.now c.args.number (subst (IsSetOf c.self.inside.set) c.self.view_is inv.3) c.remove-2.ensures),
    )

pub returns-clause-without : goal.returns-clause-without
returns-clause-without c = taken_without _ _ _ _ _ _ c.requires c.self.view_is c.as_slice.ensures.value c.place_of-place.ensures.place c.remove.ensures.by_index.2 c.self.invariant.1

pub returns-clause-place : goal.returns-clause-place
returns-clause-place c = taken_place _ _ _ _ _ _ c.requires c.self.view_is c.as_slice.ensures.value c.place_of-place.ensures.place c.remove.ensures.by_index.2 c.self.invariant.1

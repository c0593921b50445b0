use Rattle.std.proofs.Common.{◌≡◌, List, ℕ, false, subst, sym, arith}
use Rattle.ipcz_rule.specs.Rule.{has_number}
use Rattle.ipcz_cell.specs.Cells.{AreOnce, AreBelow, IsSetOf}
use Rattle.ipcz_cell.proofs.Onces.{fewer, below_last, once_last, set_last}
use Rattle.ipcz_cell.proofs.node_list.NodeList.push.Goals as goal

pub push_reserved-requires : goal.push_reserved-requires
push_reserved-requires c =
    let inv = c.self.invariant in
    let absent = subst (λ (l : List ℕ). has_number l c.args.number ≡ false) (sym c.self.view_is) c.requires.absent in
    let some = fewer 64 c.args.number c.self.inside.nodes.items inv.1 inv.2 c.requires.small absent in
    let room = inv.0 in
    let is = c.as_slice-all.ensures.value in
    let len = c.as_slice-all.ensures.len in
    omega (arith, some, room, is, len)

pub invariant_of-self : goal.invariant_of-self
invariant_of-self c =
    let inv = c.self.invariant in
    let absent = subst (λ (l : List ℕ). has_number l c.args.number ≡ false) (sym c.self.view_is) c.requires.absent in
    let e = c.push_reserved.ensures.items in
    let capacity = c.push_reserved.ensures.capacity in
    let room = inv.0 in (
      omega (arith, capacity, room),
      subst AreOnce (sym e) (once_last c.self.inside.nodes.items c.args.number inv.1 absent),
      subst (AreBelow 64) (sym e) (below_last 64 c.self.inside.nodes.items c.args.number inv.2 c.requires.small),
      subst (IsSetOf c.add.new.self) (sym e) (set_last c.self.inside.set c.add.new.self c.self.inside.nodes.items c.args.number inv.3 c.add.ensures),
    )

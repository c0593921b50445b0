use Rattle.std.proofs.Common.{◌≡◌, List, ℕ, false, subst, sym, arith}
use Rattle.ipcz_rule.specs.Rule.{has_number}
use Rattle.ipcz_cell.proofs.Onces.{fewer}
use Rattle.ipcz_cell.proofs.node_list.NodeList.add.Goals as goal

pub unreachable-requires : goal.unreachable-requires
unreachable-requires c =
    let inv = c.self.invariant in
    let full = c.in_default.ensures.full in
    let some = fewer 64 c.args.number c.self.inside.nodes.items inv.1 inv.2 c.requires.small (subst (λ (l : List ℕ). has_number l c.args.number ≡ false) (sym c.self.view_is) c.requires.absent) in
    let room = inv.0 in
    let is = c.as_slice-all.ensures.value in
    let len = c.as_slice-all.ensures.len in
    omega (arith, full, some, room, is, len)

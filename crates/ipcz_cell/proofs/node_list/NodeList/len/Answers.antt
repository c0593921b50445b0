use Rattle.std.proofs.Common.{length, List, ℕ, ap, arith}
use Rattle.ipcz_cell.proofs.Few.{few}
use Rattle.ipcz_cell.proofs.node_list.NodeList.len.Goals as goal

pub returns-clause-few : goal.returns-clause-few
returns-clause-few c =
    let inv = c.self.invariant in
    let most = few 64 c.self.inside.nodes.items inv.1 inv.2 in
    let is = ap (λ (l : List ℕ). length l) c.as_slice.ensures.value in
    omega (arith, most, is)

use Rattle.std.proofs.Common.{sym, ◌∙◌, arith}
use Rattle.ipcz_cell.proofs.Onces.{set_empty}
use Rattle.ipcz_cell.proofs.node_list.NodeList.lowest.Goals as goal

pub returns-else-low-lt64 : goal.returns-else-low-lt64
returns-else-low-lt64 c =
    let inv = c.self.invariant in
    let high = c.if-low-lt64.false in
    sym c.self.view_is ∙ set_empty c.self.inside.set c.self.inside.nodes.items inv.2 inv.3 (λ n from low. c.first_from-low.ensures.none n from (omega (arith, low, high)))

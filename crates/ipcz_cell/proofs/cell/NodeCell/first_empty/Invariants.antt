use Rattle.std.proofs.Common.{◌≡◌, ◌≤◌, ◌<◌, true}
use Rattle.ipcz_node.specs.Acts.{has_mail_for}
use Rattle.ipcz_cell.proofs.FirstActs.{LooksEmpty}
use Rattle.ipcz_cell.proofs.cell.NodeCell.first_empty.Given as goal

-- to the nodes before this one no message can be posted, and one waits for this one, if it is below 64; there is a node for each try
abbrev pub invariant-loop-tried : goal.invariant-loop-tried
invariant-loop-tried g l =
    LooksEmpty g.F.FabricName.table l.fn.self l.self l.to × (l.tried ≤ l.to) × (l.to ≤ 64) × (l.to < 64 → has_mail_for l.fn.self.part.state l.to ≡ true)

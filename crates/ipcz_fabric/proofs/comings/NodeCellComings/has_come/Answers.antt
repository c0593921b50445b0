use Rattle.std.proofs.Common.{◌∙◌, sym}
use Rattle.ipcz_fabric.proofs.Chairs.{looked_at}
use Rattle.ipcz_fabric.proofs.comings.NodeCellComings.has_come.Goals as goal

pub returns-else-has_come : goal.returns-else-has_come
returns-else-has_come g c =
    looked_at c.args.self.now.part.state c.args.at c.look.result c.is_none.result c.is_none.ensures c.look.ensures (sym c.has_come.ensures ∙ c.if-has_come.false)

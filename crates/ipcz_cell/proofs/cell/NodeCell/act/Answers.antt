use Rattle.std.proofs.Common.{sym, ◌∙◌}
use Rattle.ipcz_cell.proofs.FirstActs.{post_chosen, else_chosen}
use Rattle.ipcz_cell.proofs.cell.NodeCell.act.Goals as goal

pub returns-in-Some-first_empty-clause-first : goal.returns-in-Some-first_empty-clause-first
returns-in-Some-first_empty-clause-first g c =
    post_chosen g.F.FabricName.table c.args.self.now c.first_full.new.self c.first_empty.new.self c.first_full.result c.first_empty.result c.in_default-first_full.is (sym c.hand.ensures ∙ c.in_default.is)
    c.first_full.ensures c.first_empty.ensures c.in-Some-first_empty.to c.in-Some-first_empty.is

pub returns-clause-first : goal.returns-clause-first
returns-clause-first g c =
    else_chosen g.F.FabricName.table c.args.self.now c.first_full.new.self c.first_empty.new.self c.first_full.result c.first_empty.result c.in_default-first_full.is (sym c.hand.ensures ∙ c.in_default.is)
    c.first_full.ensures c.first_empty.ensures c.next_else.result c.in_default-first_empty.is c.next_else.ensures.act

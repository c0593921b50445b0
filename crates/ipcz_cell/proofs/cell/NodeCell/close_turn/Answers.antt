use Rattle.std.proofs.Common.{refl}
use Rattle.std.proofs.lemmas.Result.{err_from_is_err_and}
use Rattle.ipcz_node.specs.declared.act.Act.TheVariants.{Close}
use Rattle.ipcz_cell.proofs.TurnActs.{touch_acts, close_refused}
use Rattle.ipcz_cell.proofs.cell.NodeCell.close_turn.Goals as goal

pub returns : goal.returns
returns g c =
    let ready = c.prepare.ensures in
    let done = c.touch_act.ensures in
    touch_acts g.F.FabricName.table (Close c.args.end) c.args.self.now c.prepare.new.self c.touch_act.new.self c.touch_act.result refl ready.part ready.seen done.event done.part done.seen

pub returns-in_err-prepare : goal.returns-in_err-prepare
returns-in_err-prepare g c =
    let p = err_from_is_err_and c.from_residual.result c.from_residual.ensures.1 in
    let ready = c.prepare.ensures in
    rw (p.1, p.2) (close_refused g.F.FabricName.table c.args.end c.args.self.now c.prepare.new.self _ ready.part ready.seen c.in_err-prepare.ensures.why c.in_err-prepare.ensures.grows c.in_err-prepare.ensures.full)

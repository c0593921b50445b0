use Rattle.ipcz_cell.proofs.TurnParts.{chosen}
use Rattle.ipcz_cell.proofs.TurnChains.{at_start, more, ends_idle, ends_refused, ends_full}
use Rattle.ipcz_cell.proofs.cell.NodeCell.acts_by.Goals as goal

pub loop-taken-init : goal.loop-taken-init
loop-taken-init g c = at_start g.F.FabricName.table c.args.self.now c.args.touched.now

pub take-requires : goal.take-requires
take-requires g c =
    let may = chosen g.F.FabricName.table c.act-act.result c.loop-taken.self c.act-act.new.self c.act-act.ensures.first c.act-act.ensures.possible in
    record { inside = may.0; possible = may.1 }

pub loop-taken-preserved : goal.loop-taken-preserved
loop-taken-preserved g c = more g.F.FabricName.table c.args.limit c.args.self.now c.loop-taken.self c.act-act.new.self c.take.new.self c.args.touched.now c.loop-taken.touched
    c.loop-taken.taken c.act-act.result c.loop-taken.invariant c.act-act.ensures.first c.add_touched.new.touched c.in_default.not-Idle c.in-Ok.ensures.0 c.in-Ok.ensures.2
    c.add_touched.ensures

pub returns-in-Idle : goal.returns-in-Idle
returns-in-Idle g c = ends_idle g.F.FabricName.table c.args.limit c.args.self.now c.loop-taken.self c.act-act.new.self c.take.new.self c.args.touched.now c.loop-taken.touched
    c.loop-taken.taken c.act-act.result c.loop-taken.invariant c.act-act.ensures.first c.loop-taken-test.true c.in-Idle.is c.in-Ok.ensures.0 c.in-Ok.ensures.2

pub returns-in-Err : goal.returns-in-Err
returns-in-Err g c = ends_refused g.F.FabricName.table c.args.limit c.args.self.now c.loop-taken.self c.act-act.new.self c.take.new.self c.args.touched.now c.loop-taken.touched
    c.loop-taken.taken c.act-act.result c.loop-taken.invariant c.act-act.ensures.first c.in-Err.why c.loop-taken-test.true c.in-Err.ensures

pub returns : goal.returns
returns g c = ends_full g.F.FabricName.table c.args.limit c.args.self.now c.loop-taken.self c.args.touched.now c.loop-taken.touched c.loop-taken.taken c.loop-taken.invariant
    c.loop-taken-test.false c.loop-taken.auto.taken-end

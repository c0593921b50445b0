use Rattle.ipcz_rule.specs.declared.history.Call.TheVariants as calls
use Rattle.ipcz_rule.specs.Steps.{close_part}
use Rattle.ipcz_fabric.proofs.Replaying.{calls_at, left_by, closes_by}
use Rattle.ipcz_fabric.proofs.Stops.{desk_more}
use Rattle.ipcz_fabric.proofs.desk.Desk.close.Goals as goal

pub invariant_of-self : goal.invariant_of-self
invariant_of-self g c =
    let t = g.F.FabricName.table in
    desk_more t (calls.Closed c.args.at c.close-answer.result) c.args.me.now.id c.self.inside.cell.part c.close-answer.new.self.part c.note_as.new.cell.part c.self.inside.stop c.self.invariant
    (closes_by c.args.at c.self.inside.cell.part c.close-answer.new.self.part c.close-answer.result c.close-answer.ensures.allowed c.close-answer.ensures.number c.close-answer.ensures.ok c.close-answer.ensures.why c.close-answer.ensures.err)
    c.note_as.ensures.part

pub returns-clause-left : goal.returns-clause-left
returns-clause-left g c =
    left_by c.args.me.now.id (calls.Closed c.args.at c.close-answer.result) (close_part c.args.at) c.close-answer.result c.self.inside.cell c.args.self.now c.close-answer.new.self c.note_as.new.cell
    c.self.view_is c.close-answer.ensures.ok c.close-answer.ensures.err c.close-answer.ensures.seen c.note_as.ensures.part c.note_as.ensures.seen

pub returns-clause-extends : goal.returns-clause-extends
returns-clause-extends g c =
    let t = g.F.FabricName.table in
    calls_at t (calls.Closed c.args.at c.close-answer.result) c.self.inside.cell c.args.self.now c.close-answer.new.self c.note_as.new.cell c.args.me.now c.note_as.new.me c.self.view_is
    c.self.invariant.0
    (closes_by c.args.at c.self.inside.cell.part c.close-answer.new.self.part c.close-answer.result c.close-answer.ensures.allowed c.close-answer.ensures.number c.close-answer.ensures.ok c.close-answer.ensures.why c.close-answer.ensures.err)
    c.note_as.ensures.part c.note_as.ensures.me

pub returns-clause-full : goal.returns-clause-full
returns-clause-full g c = rw (← c.self.view_is) c.close-answer.ensures.full

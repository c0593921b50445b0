use Rattle.std.proofs.Common.{sym, subst}
use Rattle.ipcz_rule.specs.declared.history.Call.TheVariants as calls
use Rattle.ipcz_cell.specs.Parts.{got_part}
use Rattle.ipcz_fabric.specs.Replays.{Extends, LeavesPart}
use Rattle.ipcz_fabric.proofs.Replaying.{calls_at, left_by, gives_by}
use Rattle.ipcz_fabric.proofs.Stops.{desk_more, match_of, tells_at, tells_of}
use Rattle.ipcz_fabric.proofs.desk.Desk.take.Goals as goal

pub invariant_of-self : goal.invariant_of-self
invariant_of-self g c =
    let t = g.F.FabricName.table in
    desk_more t (calls.Taken c.args.at c.get-answer.result) c.args.me.now.id c.self.inside.cell.part c.get-answer.new.self.part c.note_as.new.cell.part c.self.inside.stop c.self.invariant
    (gives_by c.args.at _ c.self.inside.cell.part c.get-answer.new.self.part c.get-answer.result c.get-answer.ensures.allowed c.get-answer.ensures.parcel c.get-answer.ensures.ok c.get-answer.ensures.why c.get-answer.ensures.err)
    c.note_as.ensures.part

pub returns-clause-left : goal.returns-clause-left
returns-clause-left g c = match_of c.missed_at.result c.get-answer.result c.missed_at.ensures.same
    (λ answer. LeavesPart c.args.me.now.id (calls.Taken c.args.at answer) (got_part c.args.at c.args.self.now.part) c.args.self.now c.note_as.new.cell)
    (λ answer. LeavesPart c.args.me.now.id (calls.Taken c.args.at answer) c.args.self.now.part c.args.self.now c.note_as.new.cell)
    (left_by c.args.me.now.id (calls.Taken c.args.at c.get-answer.result) (got_part c.args.at) c.get-answer.result c.self.inside.cell c.args.self.now c.get-answer.new.self c.note_as.new.cell
    c.self.view_is c.get-answer.ensures.ok c.get-answer.ensures.err c.get-answer.ensures.seen c.note_as.ensures.part c.note_as.ensures.seen)

pub returns-clause-extends : goal.returns-clause-extends
returns-clause-extends g c =
    let t = g.F.FabricName.table in
    subst (λ answer. Extends t c.args.self.now.part.node (calls.Taken c.args.at answer) c.args.me.now c.note_as.new.me) (sym c.missed_at.ensures.same)
    (calls_at t (calls.Taken c.args.at c.get-answer.result) c.self.inside.cell c.args.self.now c.get-answer.new.self c.note_as.new.cell c.args.me.now c.note_as.new.me c.self.view_is
    c.self.invariant.0
    (gives_by c.args.at _ c.self.inside.cell.part c.get-answer.new.self.part c.get-answer.result c.get-answer.ensures.allowed c.get-answer.ensures.parcel c.get-answer.ensures.ok c.get-answer.ensures.why c.get-answer.ensures.err)
    c.note_as.ensures.part c.note_as.ensures.me)

pub returns-clause-stop : goal.returns-clause-stop
returns-clause-stop g c =
    let t = g.F.FabricName.table in
    tells_of c.missed_at.result c.self.inside.stop _
    (tells_at t (calls.Taken c.args.at c.get-answer.result) c.self.inside.cell c.args.self.now c.get-answer.new.self c.note_as.new.cell c.args.me.now c.note_as.new.me c.self.inside.stop
    c.self.view_is c.self.invariant
    (gives_by c.args.at _ c.self.inside.cell.part c.get-answer.new.self.part c.get-answer.result c.get-answer.ensures.allowed c.get-answer.ensures.parcel c.get-answer.ensures.ok c.get-answer.ensures.why c.get-answer.ensures.err)
    c.note_as.ensures.part c.note_as.ensures.me)
    c.missed_at.ensures.stop

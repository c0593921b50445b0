use Rattle.std.proofs.Common.{inr}
use Rattle.ipcz_rule.specs.declared.history.Call.TheVariants as calls
use Rattle.ipcz_cell.specs.Parts.{got_part}
use Rattle.ipcz_fabric.proofs.Locking.{if_err}
use Rattle.ipcz_fabric.proofs.Replaying.{calls_at, left_by, gives_by}
use Rattle.ipcz_fabric.proofs.Stops.{desk_more}
use Rattle.ipcz_fabric.proofs.desk.Desk.get.Goals as goal

pub invariant_of-self : goal.invariant_of-self
invariant_of-self g c =
    let t = g.F.FabricName.table in
    desk_more t (calls.Got c.args.at c.get-got.result) c.args.me.now.id c.self.inside.cell.part c.get-got.new.self.part c.note_as.new.cell.part c.self.inside.stop c.self.invariant
    (gives_by c.args.at _ c.self.inside.cell.part c.get-got.new.self.part c.get-got.result c.get-got.ensures.allowed c.get-got.ensures.parcel c.get-got.ensures.ok (if_err (λ e h. inr h) c.get-got.result c.get-got.ensures.why) c.get-got.ensures.err)
    c.note_as.ensures.part

pub returns-clause-left : goal.returns-clause-left
returns-clause-left g c =
    left_by c.args.me.now.id (calls.Got c.args.at c.get-got.result) (got_part c.args.at) c.get-got.result c.self.inside.cell c.args.self.now c.get-got.new.self c.note_as.new.cell
    c.self.view_is c.get-got.ensures.ok c.get-got.ensures.err c.get-got.ensures.seen c.note_as.ensures.part c.note_as.ensures.seen

pub returns-clause-extends : goal.returns-clause-extends
returns-clause-extends g c =
    let t = g.F.FabricName.table in
    calls_at t (calls.Got c.args.at c.get-got.result) c.self.inside.cell c.args.self.now c.get-got.new.self c.note_as.new.cell c.args.me.now c.note_as.new.me c.self.view_is
    c.self.invariant.0
    (gives_by c.args.at _ c.self.inside.cell.part c.get-got.new.self.part c.get-got.result c.get-got.ensures.allowed c.get-got.ensures.parcel c.get-got.ensures.ok (if_err (λ e h. inr h) c.get-got.result c.get-got.ensures.why) c.get-got.ensures.err)
    c.note_as.ensures.part c.note_as.ensures.me

use Rattle.std.proofs.Common.{ap, inl, refl, ◌∙◌}
use Rattle.std.specs.Prelude.{Err}
use Rattle.ipcz_base.specs.declared.refusal.Refusal.TheVariants.{OutOfMemory}
use Rattle.ipcz_node.specs.Calls.{next_sizes}
use Rattle.ipcz_rule.specs.declared.history.Call.TheVariants as calls
use Rattle.ipcz_cell.specs.CellStates.{CellState}
use Rattle.ipcz_fabric.specs.Portals.{has_ends}
use Rattle.ipcz_fabric.proofs.Replaying.{calls_at, left_part}
use Rattle.ipcz_fabric.proofs.Stops.{desk_more}
use Rattle.ipcz_fabric.proofs.desk.Desk.refuse_get.Goals as goal

pub invariant_of-self : goal.invariant_of-self
invariant_of-self g c =
    let wants = ap (λ (x : CellState). has_ends (next_sizes x.part.state c.args.at)) c.self.view_is ∙ c.requires in
    desk_more g.F.FabricName.table (calls.Got c.args.at (Err OutOfMemory)) c.args.me.now.id c.self.inside.cell.part c.self.inside.cell.part c.note_as.new.cell.part
    c.self.inside.stop c.self.invariant (inl (wants, refl), refl) c.note_as.ensures.part

pub returns-clause-left : goal.returns-clause-left
returns-clause-left g c =
    left_part c.args.me.now.id (calls.Got c.args.at (Err OutOfMemory)) (λ p. p) c.self.inside.cell c.args.self.now c.self.inside.cell c.note_as.new.cell
    c.self.view_is refl refl c.note_as.ensures.part c.note_as.ensures.seen

pub returns-clause-extends : goal.returns-clause-extends
returns-clause-extends g c =
    let wants = ap (λ (x : CellState). has_ends (next_sizes x.part.state c.args.at)) c.self.view_is ∙ c.requires in
    calls_at g.F.FabricName.table (calls.Got c.args.at (Err OutOfMemory)) c.self.inside.cell c.args.self.now c.self.inside.cell c.note_as.new.cell c.args.me.now c.note_as.new.me
    c.self.view_is c.self.invariant.0 (inl (wants, refl), refl) c.note_as.ensures.part c.note_as.ensures.me

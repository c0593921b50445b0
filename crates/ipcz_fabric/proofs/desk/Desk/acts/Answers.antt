use Rattle.std.proofs.Common.{◌∙◌}
use Rattle.std.proofs.Common.{subst}
use Rattle.ipcz_rule.specs.declared.history.Call.TheVariants as calls
use Rattle.ipcz_cell.specs.CellStates.{CellState}
use Rattle.ipcz_cell.specs.TurnChains.{RunsTurns}
use Rattle.ipcz_fabric.proofs.Replaying.{changes, calls_at}
use Rattle.ipcz_fabric.proofs.Stops.{desk_more}
use Rattle.ipcz_fabric.proofs.desk.Desk.acts.Goals as goal

pub invariant_of-self : goal.invariant_of-self
invariant_of-self g c =
    let t = g.F.FabricName.table in
    let desk = desk_more t (calls.Acted c.args.limit c.acts-answer.result) c.args.me.now.id c.self.inside.cell.part c.acts-answer.new.self.part c.note_as.new.cell.part c.self.inside.stop c.self.invariant
    (changes t (λ old new. RunsTurns t c.args.limit old c.acts-answer.result new) c.self.inside.cell c.args.self.now c.acts-answer.new.self c.self.view_is c.requires c.acts-answer.ensures)
    c.note_as.ensures.part in
    (desk.0, c.stop_of-self-inside.ensures ∙ desk.1)

pub returns-clause-did : goal.returns-clause-did
returns-clause-did g c = let t = g.F.FabricName.table in (
  c.acts-answer.new.self,
  subst (λ (x : CellState). RunsTurns t c.args.limit x c.acts-answer.result c.acts-answer.new.self) c.self.view_is c.acts-answer.ensures,
  record { part = c.note_as.ensures.part; seen = c.note_as.ensures.seen },
)

pub returns-clause-extends : goal.returns-clause-extends
returns-clause-extends g c =
    let t = g.F.FabricName.table in
    calls_at t (calls.Acted c.args.limit c.acts-answer.result) c.self.inside.cell c.args.self.now c.acts-answer.new.self c.note_as.new.cell c.args.me.now c.note_as.new.me c.self.view_is
    c.self.invariant.0
    (changes t (λ old new. RunsTurns t c.args.limit old c.acts-answer.result new) c.self.inside.cell c.args.self.now c.acts-answer.new.self c.self.view_is c.requires c.acts-answer.ensures)
    c.note_as.ensures.part c.note_as.ensures.me

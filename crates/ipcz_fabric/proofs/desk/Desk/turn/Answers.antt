use Rattle.std.proofs.Common.{subst, ◌∙◌}
use Rattle.ipcz_rule.specs.declared.history.Call.TheVariants as calls
use Rattle.ipcz_cell.specs.CellStates.{CellState}
use Rattle.ipcz_cell.specs.TurnEnds.{Turns}
use Rattle.ipcz_fabric.proofs.Books.{turned_book}
use Rattle.ipcz_fabric.proofs.Replaying.{changes, calls_at, here_is, noted_node}
use Rattle.ipcz_fabric.proofs.Stops.{desk_more}
use Rattle.ipcz_fabric.proofs.desk.Desk.turn.Goals as goal

pub invariant_of-self : goal.invariant_of-self
invariant_of-self g c =
    let t = g.F.FabricName.table in
    let desk = desk_more t (calls.Turned c.turn-answer.result) c.args.me.now.id c.self.inside.cell.part c.turn-answer.new.self.part c.note_as.new.cell.part c.self.inside.stop c.self.invariant
    (changes t (λ old new. Turns t old c.turn-answer.result new) c.self.inside.cell c.args.self.now c.turn-answer.new.self c.self.view_is c.requires c.turn-answer.ensures)
    c.note_as.ensures.part in
    (desk.0, c.stop_of-self-inside.ensures ∙ desk.1)

pub returns-clause-did : goal.returns-clause-did
returns-clause-did g c = let t = g.F.FabricName.table in (
  c.turn-answer.new.self,
  subst (λ (x : CellState). Turns t x c.turn-answer.result c.turn-answer.new.self) c.self.view_is c.turn-answer.ensures,
  record { part = c.note_as.ensures.part; seen = c.note_as.ensures.seen },
)

pub returns-clause-here : goal.returns-clause-here
returns-clause-here g c =
    let same = turned_book g.F.FabricName.table c.self.inside.cell c.turn-answer.new.self c.turn-answer.result c.turn-answer.ensures in
    noted_node _ c.turn-answer.new.self.part c.note_as.new.cell.part c.note_as.ensures.part ∙ (same.node ∙ here_is c.self.inside.cell c.args.self.now c.self.view_is)

pub returns-clause-extends : goal.returns-clause-extends
returns-clause-extends g c =
    let t = g.F.FabricName.table in
    calls_at t (calls.Turned c.turn-answer.result) c.self.inside.cell c.args.self.now c.turn-answer.new.self c.note_as.new.cell c.args.me.now c.note_as.new.me c.self.view_is
    c.self.invariant.0
    (changes t (λ old new. Turns t old c.turn-answer.result new) c.self.inside.cell c.args.self.now c.turn-answer.new.self c.self.view_is c.requires c.turn-answer.ensures)
    c.note_as.ensures.part c.note_as.ensures.me

use Rattle.std.proofs.Common.{subst}
use Rattle.ipcz_rule.specs.declared.history.Call.TheVariants as calls
use Rattle.ipcz_cell.specs.CellStates.{CellState}
use Rattle.ipcz_cell.specs.Opens.{OpensPair}
use Rattle.ipcz_fabric.proofs.Replaying.{changes, calls_at}
use Rattle.ipcz_fabric.proofs.Stops.{desk_more}
use Rattle.ipcz_fabric.proofs.desk.Desk.open_pair.Goals as goal

pub invariant_of-self : goal.invariant_of-self
invariant_of-self g c =
    let t = g.F.FabricName.table in
    desk_more t (calls.Opened c.open_pair-answer.result) c.args.me.now.id c.self.inside.cell.part c.open_pair-answer.new.self.part c.note_as.new.cell.part c.self.inside.stop c.self.invariant
    (changes t (λ old new. OpensPair t old new c.open_pair-answer.result) c.self.inside.cell c.args.self.now c.open_pair-answer.new.self c.self.view_is c.requires c.open_pair-answer.ensures)
    c.note_as.ensures.part

pub returns-clause-did : goal.returns-clause-did
returns-clause-did g c = let t = g.F.FabricName.table in (
  c.open_pair-answer.new.self,
  subst (λ (x : CellState). OpensPair t x c.open_pair-answer.new.self c.open_pair-answer.result) c.self.view_is c.open_pair-answer.ensures,
  record { part = c.note_as.ensures.part; seen = c.note_as.ensures.seen },
)

pub returns-clause-extends : goal.returns-clause-extends
returns-clause-extends g c =
    let t = g.F.FabricName.table in
    calls_at t (calls.Opened c.open_pair-answer.result) c.self.inside.cell c.args.self.now c.open_pair-answer.new.self c.note_as.new.cell c.args.me.now c.note_as.new.me c.self.view_is
    c.self.invariant.0
    (changes t (λ old new. OpensPair t old new c.open_pair-answer.result) c.self.inside.cell c.args.self.now c.open_pair-answer.new.self c.self.view_is c.requires c.open_pair-answer.ensures)
    c.note_as.ensures.part c.note_as.ensures.me

use Rattle.std.proofs.Common.{subst}
use Rattle.ipcz_rule.specs.declared.history.Call.TheVariants as calls
use Rattle.ipcz_cell.specs.CellStates.{CellState}
use Rattle.ipcz_cell.specs.Retries.{Retries}
use Rattle.ipcz_fabric.proofs.Replaying.{changes, calls_at}
use Rattle.ipcz_fabric.proofs.Stops.{desk_more}
use Rattle.ipcz_fabric.proofs.desk.Desk.retry.Goals as goal

pub invariant_of-self : goal.invariant_of-self
invariant_of-self g c =
    let t = g.F.FabricName.table in
    desk_more t (calls.Retried c.retry-answer.result) c.args.me.now.id c.self.inside.cell.part c.retry-answer.new.self.part c.note_as.new.cell.part c.self.inside.stop c.self.invariant
    (changes t (λ old new. Retries t old c.retry-answer.result new) c.self.inside.cell c.args.self.now c.retry-answer.new.self c.self.view_is c.requires c.retry-answer.ensures)
    c.note_as.ensures.part

pub returns-clause-did : goal.returns-clause-did
returns-clause-did g c = let t = g.F.FabricName.table in (
  c.retry-answer.new.self,
  subst (λ (x : CellState). Retries t x c.retry-answer.result c.retry-answer.new.self) c.self.view_is c.retry-answer.ensures,
  record { part = c.note_as.ensures.part; seen = c.note_as.ensures.seen },
)

pub returns-clause-extends : goal.returns-clause-extends
returns-clause-extends g c =
    let t = g.F.FabricName.table in
    calls_at t (calls.Retried c.retry-answer.result) c.self.inside.cell c.args.self.now c.retry-answer.new.self c.note_as.new.cell c.args.me.now c.note_as.new.me c.self.view_is
    c.self.invariant.0
    (changes t (λ old new. Retries t old c.retry-answer.result new) c.self.inside.cell c.args.self.now c.retry-answer.new.self c.self.view_is c.requires c.retry-answer.ensures)
    c.note_as.ensures.part c.note_as.ensures.me

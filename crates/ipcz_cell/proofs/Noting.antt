-- A call is written down by a seat that a caller has lent its view.
use Rattle.std.specs.Prelude.{not, ◌≡◌, ℕ, [], ◌∷◌, Some}
use Rattle.ipcz_rule.specs.declared.history.Call.{Call}
use Rattle.ipcz_rule.specs.declared.history.CallerView.{CallerView}
use Rattle.ipcz_rule.specs.Batches.{BatchMine}
use Rattle.ipcz_rule.proofs.BatchPlainKinds.{notes}
use Rattle.ipcz_cell.specs.CellStates.{part_in}
use Rattle.ipcz_cell.specs.Outcomes.{Tells, IsPicked, noting}
use Rattle.ipcz_cell.specs.Seats.{Keeps}
use Rattle.ipcz_cell.specs.TableNames.{TableName}
use Rattle.ipcz_cell.proofs.Seating.{may_by}

-- a note may be taken by a seat that a caller has lent its view
pub note_may : (t : TableName) (id word : ℕ) (m : BatchMine) (call : Call) (told : Tells) → IsPicked told (noting call) → m.0.parts ≡ part_in m.0 ∷ [] → (c : CallerView) × (m.0.caller ≡ Some c) →
    Keeps t.reuses t.count t.size t.id.slots id m word (λ n. n) (told m)
note_may t id word m call told picked whole has =
    may_by t.reuses t.count t.size t.id.slots id m word (λ n. n) told (noting call) picked
    (λ s r deep at low. let h = notes (not t.reuses) t.reuses t.count t.size t.id.slots id word m (part_in m.0) has.0 call whole has.1 s r deep at low in
    (h.0, h.1, h.2, h.3, (has.0, has.1, h.4.0, h.4.1)))

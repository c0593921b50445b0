-- A try for the lock, with and without the word and what the load has found.
use Rattle.std.specs.Prelude.{ℕ, Result}
use Rattle.ipcz_base.specs.declared.refusal.Refusal.{Refusal}
use Rattle.ipcz_cell.specs.CellStates.{CellState}
use Rattle.ipcz_cell.specs.Words.{LocksWord, TriesLock, plan_in}
use Rattle.ipcz_cell.specs.declared.words.LockTry.{LockTry}

pub try_told : (size serial : ℕ) (old new : CellState) (answer : Result LockTry Refusal) → LocksWord size serial old answer new → TriesLock size serial old (plan_in answer) new
try_told size serial old new answer h = record { word = h.word; side = h.side; loaded = h.loaded; named = h.named; inside = h.inside; is_word = h.is_word; tried = h.tried }

-- The link words that a show tells: what the first worker's cell looks at, and what is left of the workers.
use Rattle.std.specs.Prelude.{◌≡◌, ◌+◌, ℕ, zero, suc, false, List, [], ◌∷◌, length, Some, None}
use Rattle.ipcz_cell.specs.CellStates.{CellState}
use Rattle.ipcz_cell.specs.Mails.{HasSeen}
use Rattle.ipcz_cell.specs.Opens.{ShowsWord}
use Rattle.ipcz_cell.specs.TableNames.{TableName}
use Rattle.ipcz_threads.specs.Workers.{WorkerState}

-- so many link words at most, from the number i on, are looked at by a cell one after the other, and these are told; it ends at the first
-- that isn't there
abbrev pub ReadsWords : TableName → ℕ → ℕ → CellState → List ℕ → CellState → Type 0
ReadsWords t i zero c [] d = d ≡ c
ReadsWords t i zero c (word ∷ words) d = ⊥
ReadsWords t i (suc left) c [] d = ShowsWord t i c None d
ReadsWords t i (suc left) c (word ∷ words) d = (e : CellState) × ShowsWord t i c (Some word) e × ReadsWords t (i + 1) left e words d

-- a worker tells the claimed link words: its cell looks at the claim count, and then at each word below it, and where no word comes back
-- it tells as many as are claimed; nothing else of the worker has changed
abbrev pub TellsWords : TableName → WorkerState → List ℕ → WorkerState → Type 0
TellsWords t w words v = (claimed : ℕ) × (counted : CellState) × HasSeen t.size claimed w.cell counted
    × ReadsWords t 0 claimed counted words v.cell × (t.reuses ≡ false → length words ≡ claimed) × (v.starved ≡ w.starved) × (v.left ≡ w.left)

-- the first worker tells them, and the others stay as they are; where there is no worker there are no words
abbrev pub FirstTells : TableName → List WorkerState → List ℕ → List WorkerState → Type 0
FirstTells t [] words vs = (words ≡ []) × (vs ≡ [])
FirstTells t (w ∷ ws) words vs = (v : WorkerState) × (vs ≡ v ∷ ws) × TellsWords t w words v

-- The transcript of a script whose settles run on threads, and what a run may have read and written.
use Rattle.std.specs.Prelude.{ℕ, ◌≡◌, Bool, false, List, map, Option, Result}
use Rattle.ipcz_script.specs.declared.command.Command.{Command}
use Rattle.ipcz_script.specs.declared.script.Script.{Script}
use Rattle.ipcz_script.specs.declared.outcome.Outcome.{Outcome}
use Rattle.ipcz_script.specs.declared.run_fault.RunFault.{RunFault}
use Rattle.ipcz_script.specs.Labels.{first_labels}
use Rattle.ipcz_script.specs.Transcript.{IsRunOutputBy, IsOutputBy, ReadsAndWritesBy, WritesBy}
use Rattle.ipcz_cell.specs.Making.{AreFirst}
use Rattle.ipcz_cell.specs.TableNames.{TableName}
use Rattle.ipcz_threads.specs.Stages.{Stage, Runs}
use Rattle.ipcz_threads.specs.Rounds.{Gates}

-- these commands, run one after the other, write this text: the lines of what they are answered; and whether some settle came to its limit
abbrev pub Writes : Gates → TableName → Stage → List Command → List ℕ → Bool → Stage → Type 0
Writes gates t = WritesBy (Runs gates t) (λ s. s.labels.titles)

-- the workers before the first command: their cells are those of a table at its start, and the names of the first pairs are bound
pub record IsFirst (t : TableName) (s : Stage) : Type 0 where
  pub cells : AreFirst t.count t.count (map (λ w. w.cell) s.workers)
  pub labels : s.labels ≡ first_labels t.count

-- a transcript of a script, and whether some line of it is `unsettled`: a run over a table of as many nodes and words as the script says, in which
-- no word comes back
abbrev pub IsTranscript : Gates → Script → List ℕ → Bool → Type 0
IsTranscript gates script text unsettled = (t : TableName) × (s u : Stage) × (t.count ≡ script.nodes) × (t.size ≡ script.words) × (t.reuses ≡ false)
    × IsFirst t s × Writes gates t s script.commands text unsettled u

-- what comes of the run of a script, of some bytes and of a device, by these transcripts
abbrev pub IsRunOutput : Gates → Script → Outcome → List ℕ → Type 0
IsRunOutput gates = IsRunOutputBy (IsTranscript gates)

abbrev pub IsOutput : Gates → List ℕ → Outcome → List ℕ → Type 0
IsOutput gates = IsOutputBy (IsTranscript gates)

abbrev pub ReadsAndWrites : Gates → Option (List ℕ) → Option (List ℕ) → Option (List ℕ) → Option (List ℕ) → Result Outcome RunFault → Type 0
ReadsAndWrites gates = ReadsAndWritesBy (IsOutput gates)

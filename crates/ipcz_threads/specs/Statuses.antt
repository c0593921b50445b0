-- The status that the program ends with, its texts, and what it has read and written by then.
use Rattle.std.specs.Prelude.{◌≡◌, ◌↔◌, ◌++◌, [], ℕ, Bool, true, false, IsTrue, IsErrOf, List, Option, Result, Ok, Err, codes}
use Rattle.std.specs.Io.KnownBytes.{Appends}
use Rattle.ipcz_script.specs.declared.outcome.Outcome.{Outcome}
use Rattle.ipcz_script.specs.declared.outcome.Outcome.TheVariants as outcomes
use Rattle.ipcz_script.specs.declared.run_fault.RunFault.{RunFault}
use Rattle.ipcz_script.specs.declared.run_fault.RunFault.TheVariants as faults
use Rattle.ipcz_script.specs.Lines.{line}
use Rattle.ipcz_device.specs.WholeIo.{AppendsFront}
use Rattle.ipcz_script.specs.Transcript.{ReadsAndWrites}
use Rattle.ipcz_threads.specs.Rounds.{OpenGates}
use Rattle.ipcz_threads.specs.Transcripts as on_threads

-- the status after a run
unfoldable pub status : Result Outcome RunFault → ℕ
status (Ok outcomes.Done) = 0
status (Err faults.Read) = 1
status (Err faults.Write) = 1
status (Ok (outcomes.Refused why)) = 2
status (Err faults.OutOfMemory) = 3
status (Ok outcomes.Unsettled) = 4

-- the line that unknown arguments print
abbrev pub usage : List ℕ
usage = line (codes "usage: ipcz_run [--help] [threads] < SCRIPT")

-- what the program is for
abbrev pub help : List ℕ
help = usage ++ line []
    ++ line (codes "Reads a script from standard input, runs it, and writes to standard output what each command came to and what each node did. With")
    ++ line (codes "the word threads the settles run on threads, one for each node. Ends with status 0 if the script was run, 4 if it was and a settle")
    ++ line (codes "came to its limit, and 2 if it is no script; ipcz_check tells why it is none.")

-- a text was written, with this status, or after a failed write some front of it, with the status 1
abbrev pub Writes : List ℕ → ℕ → Option (List ℕ) → Option (List ℕ) → Bool → ℕ → Type 0
Writes text wanted old new false status = (status ≡ wanted) × Appends old new text
Writes text wanted old new true status = (status ≡ 1) × AppendsFront old new text

-- a script was run, and the status is that of its ending: what was read and written, and which device has failed, are as the ending says
pub record RunsScript (before after old new : Option (List ℕ)) (reader_failed writer_failed : Bool) (answered : ℕ) : Type 0 where
  pub ending : Result Outcome RunFault
  pub answer : answered ≡ status ending
  pub run : ReadsAndWrites before after old new ending
  pub read : IsErrOf ending faults.Read ↔ IsTrue reader_failed
  pub write : IsErrOf ending faults.Write ↔ IsTrue writer_failed

-- the same of a script whose settles run on threads
pub record RunsOnThreads (before after old new : Option (List ℕ)) (reader_failed writer_failed : Bool) (answered : ℕ) : Type 0 where
  pub ending : Result Outcome RunFault
  pub answer : answered ≡ status ending
  pub run : on_threads.ReadsAndWrites OpenGates before after old new ending
  pub read : IsErrOf ending faults.Read ↔ IsTrue reader_failed
  pub write : IsErrOf ending faults.Write ↔ IsTrue writer_failed

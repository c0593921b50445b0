-- The status that the program ends with, its texts, and what it has read and written by then.
use Rattle.std.specs.Prelude.{◌≡◌, ◌↔◌, ◌++◌, [], ℕ, Bool, true, false, IsTrue, IsErrOf, List, Option, Result, Ok, Err, codes}
use Rattle.std.specs.Io.KnownBytes.{Appends}
use Rattle.ipcz_script.specs.declared.run_fault.RunFault.{RunFault}
use Rattle.ipcz_script.specs.declared.run_fault.RunFault.TheVariants as faults
use Rattle.ipcz_script.specs.Lines.{line}
use Rattle.ipcz_script.specs.Transcript.{ReadsAndWritesBy}
use Rattle.ipcz_device.specs.WholeIo.{AppendsFront}
use Rattle.ipcz_report.specs.declared.verdict.Verdict.{Verdict}
use Rattle.ipcz_report.specs.declared.verdict.Verdict.TheVariants as verdicts
use Rattle.ipcz_report.specs.Reports.{IsReport}

-- what was read and written, by the answer: the whole report, or after a failed write some front of it, and else nothing
abbrev pub ReadsAndWrites : Option (List ℕ) → Option (List ℕ) → Option (List ℕ) → Option (List ℕ) → Result Verdict RunFault → Type 0
ReadsAndWrites = ReadsAndWritesBy IsReport

-- the status after a check: 0 valid, 1 a read or a write failed, 2 refused, 3 want of memory
unfoldable pub status : Result Verdict RunFault → ℕ
status (Ok verdicts.Valid) = 0
status (Err faults.Read) = 1
status (Err faults.Write) = 1
status (Ok (verdicts.Refused why)) = 2
status (Err faults.OutOfMemory) = 3

-- the line that unknown arguments print
abbrev pub usage : List ℕ
usage = line (codes "usage: ipcz_check [--help] < SCRIPT")

-- what the program is for
abbrev pub help : List ℕ
help = usage ++ line [] ++ line (codes "Reads a script of ipcz_run from standard input. If it is one, prints a line for what each of its commands does, and ends with")
    ++ line (codes "status 0. If it isn't, prints a line for each fault, with its place and what was expected, and ends with status 2.")

-- a text was written, with this status, or after a failed write some front of it, with the status 1
abbrev pub Writes : List ℕ → ℕ → Option (List ℕ) → Option (List ℕ) → Bool → ℕ → Type 0
Writes text wanted old new false status = (status ≡ wanted) × Appends old new text
Writes text wanted old new true status = (status ≡ 1) × AppendsFront old new text

-- a script was checked, and the status is that of its ending: what was read and written, and which device has failed, are as the ending says
pub record Checks (before after old new : Option (List ℕ)) (reader_failed writer_failed : Bool) (answered : ℕ) : Type 0 where
  pub ending : Result Verdict RunFault
  pub answer : answered ≡ status ending
  pub run : ReadsAndWrites before after old new ending
  pub read : IsErrOf ending faults.Read ↔ IsTrue reader_failed
  pub write : IsErrOf ending faults.Write ↔ IsTrue writer_failed

-- The status that the program ends with, its texts, and what it has read and written by then.
use Rattle.std.specs.Prelude.{ℕ, ◌≡◌, ◌↔◌, ◌++◌, ◌∷◌, [], Bool, true, false, IsTrue, IsErrOf, List, Option, Result, Ok, Err, codes}
use Rattle.std.specs.Fmt.{decimal}
use Rattle.std.specs.Io.KnownBytes.{Appends, Keeps}
use Rattle.ipcz_device.specs.WholeIo.{AppendsFront}
use Rattle.ipcz_script.specs.declared.run_fault.RunFault.{RunFault}
use Rattle.ipcz_script.specs.declared.run_fault.RunFault.TheVariants as faults
use Rattle.ipcz_log.specs.declared.verdict.Verdict.{Verdict}
use Rattle.ipcz_log.specs.declared.verdict.Verdict.TheVariants as verdicts
use Rattle.ipcz_log.specs.Pieces.{ConsumesSome, HoldsOfInput}
use Rattle.ipcz_log.specs.Verdicts.{IsVerdict}

-- a text, and a newline
abbrev pub line : List ℕ → List ℕ
line text = text ++ 10 ∷ []

-- the line that is written for a verdict
abbrev pub IsText : Verdict → List ℕ → Type 0
IsText verdicts.Allowed text = text ≡ line (codes "allowed")
IsText (verdicts.Refused n) text = text ≡ codes "line " ++ (decimal n ++ line (codes ": refused"))
IsText (verdicts.NoOrder n) text = text ≡ codes "line " ++ (decimal n ++ line (codes ": refused in every order"))
IsText verdicts.Untold text = text ≡ line (codes "no order found in ten million steps")
IsText (verdicts.NoLog n) text = text ≡ codes "line " ++ (decimal n ++ line (codes ": no line of a log"))

-- what was read and written, by the answer: the line of the verdict on all that there was to read, or after a failed write some front of it, and else nothing
abbrev pub ReadsAndWrites : Option (List ℕ) → Option (List ℕ) → Option (List ℕ) → Option (List ℕ) → Result Verdict RunFault → Type 0
ReadsAndWrites before after old new (Ok verdict) = (text : List ℕ) × HoldsOfInput before after (λ input. IsVerdict input verdict) × IsText verdict text × Appends old new text
ReadsAndWrites before after old new (Err faults.Write) =
    (verdict : Verdict) × (text : List ℕ) × HoldsOfInput before after (λ input. IsVerdict input verdict) × IsText verdict text × AppendsFront old new text
ReadsAndWrites before after old new (Err faults.Read) = ConsumesSome before after × Keeps old new
ReadsAndWrites before after old new (Err faults.OutOfMemory) = ConsumesSome before after × Keeps old new

-- the status after a log: 0 allowed, 1 a read or a write failed, 2 refused or no log, 3 want of memory, 4 not told
unfoldable pub status : Result Verdict RunFault → ℕ
status (Ok verdicts.Allowed) = 0
status (Err faults.Read) = 1
status (Err faults.Write) = 1
status (Ok (verdicts.Refused n)) = 2
status (Ok (verdicts.NoOrder n)) = 2
status (Ok (verdicts.NoLog n)) = 2
status (Ok verdicts.Untold) = 4
status (Err faults.OutOfMemory) = 3

-- the line that unknown arguments print
abbrev pub usage : List ℕ
usage = line (codes "usage: ipcz_judge [--help] < LOG")

-- what the program is for
abbrev pub help : List ℕ
help = usage ++ line [] ++ line (codes "Reads a log of calls of another implementation, a JSON value a line, and says whether the promise allows them: ends with status 0")
    ++ line (codes "if it does, and else with status 2 and the first line that it doesn't allow, or that is none of a log.")

-- a text was written, with this status, or after a failed write some front of it, with the status 1
abbrev pub Writes : List ℕ → ℕ → Option (List ℕ) → Option (List ℕ) → Bool → ℕ → Type 0
Writes text wanted old new false status = (status ≡ wanted) × Appends old new text
Writes text wanted old new true status = (status ≡ 1) × AppendsFront old new text

-- a log was judged, and the status is that of its ending: what was read and written, and which device has failed, are as the ending says
pub record Judges (before after old new : Option (List ℕ)) (reader_failed writer_failed : Bool) (answered : ℕ) : Type 0 where
  pub ending : Result Verdict RunFault
  pub answer : answered ≡ status ending
  pub run : ReadsAndWrites before after old new ending
  pub read : IsErrOf ending faults.Read ↔ IsTrue reader_failed
  pub write : IsErrOf ending faults.Write ↔ IsTrue writer_failed

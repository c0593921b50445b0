-- The status that the program ends with, its texts, and what it has read and written by then.
use Rattle.std.specs.Prelude.{ℕ, ◌≡◌, ◌≤◌, ◌+◌, ◌↔◌, ◌++◌, ◌∷◌, [], Bool, true, false, IsTrue, IsErrOf, List, length, Option, Some, None, Result, Ok, Err, codes}
use Rattle.std.specs.Fmt.{decimal}
use Rattle.std.specs.Io.KnownBytes.{Appends, Consumes, IsAtEnd, Keeps}
use Rattle.ipcz_node.specs.declared.act.Act.{Act}
use Rattle.ipcz_device.specs.WholeIo.{AppendsFront, ConsumesAtMost}
use Rattle.ipcz_script.specs.declared.run_fault.RunFault.{RunFault}
use Rattle.ipcz_script.specs.declared.run_fault.RunFault.TheVariants as faults
use Rattle.ipcz_events.specs.declared.verdict.Verdict.{Verdict}
use Rattle.ipcz_events.specs.declared.verdict.Verdict.TheVariants as verdicts
use Rattle.ipcz_events.specs.Naming.{act_text}
use Rattle.ipcz_events.specs.Verdicts.{IsVerdict}

-- a text, and a newline
abbrev pub line : List ℕ → List ℕ
line text = text ++ 10 ∷ []

-- the line that tells what is allowed in place of a refused one, if something is told
abbrev pub place_text : Option (List ℕ) → List ℕ
place_text None = []
place_text (Some told) = codes "in its place: " ++ line told

-- the lines that tell acts, each in the words by which its event begins
abbrev pub acts_text : List Act → List ℕ
acts_text [] = []
acts_text (act ∷ acts) = codes "possible: " ++ line (act_text act) ++ acts_text acts

-- what is written for a verdict
abbrev pub verdict_text : Verdict → List ℕ
verdict_text verdicts.Allowed = line (codes "allowed")
verdict_text (verdicts.Refused n told acts) = codes "line " ++ decimal n ++ line (codes ": refused") ++ place_text told ++ acts_text acts
verdict_text (verdicts.NoLog n) = codes "line " ++ decimal n ++ line (codes ": no line of a log")

abbrev pub IsText : Verdict → List ℕ → Type 0
IsText verdict text = text ≡ verdict_text verdict

-- how many bytes a log may have
abbrev pub most_bytes : ℕ
most_bytes = 1073741824

-- the bytes that were read: all there are, or one more than a log may have
pub record IsInput (before after : Option (List ℕ)) (input : List ℕ) : Type 0 where
  pub taken : Consumes before after input
  pub most : length input ≤ most_bytes + 1
  pub whole : length input ≤ most_bytes → IsAtEnd after

-- what was read and written, by the answer: the verdict's text, or after a failed write some front of it, and else nothing
abbrev pub ReadsAndWrites : Option (List ℕ) → Option (List ℕ) → Option (List ℕ) → Option (List ℕ) → Result Verdict RunFault → Type 0
ReadsAndWrites before after old new (Ok verdict) =
    (input : List ℕ) × (text : List ℕ) × IsInput before after input × IsVerdict input verdict × IsText verdict text × Appends old new text
ReadsAndWrites before after old new (Err faults.Write) =
    (input : List ℕ) × (verdict : Verdict) × (text : List ℕ) × IsInput before after input × IsVerdict input verdict × IsText verdict text × AppendsFront old new text
ReadsAndWrites before after old new (Err faults.Read) = ConsumesAtMost before after (most_bytes + 1) × Keeps old new
ReadsAndWrites before after old new (Err faults.OutOfMemory) = ConsumesAtMost before after (most_bytes + 1) × Keeps old new

-- the status after a log: 0 allowed, 1 a read or a write failed, 2 refused or no log, 3 want of memory
unfoldable pub status : Result Verdict RunFault → ℕ
status (Ok verdicts.Allowed) = 0
status (Err faults.Read) = 1
status (Err faults.Write) = 1
status (Ok (verdicts.Refused n told acts)) = 2
status (Ok (verdicts.NoLog n)) = 2
status (Err faults.OutOfMemory) = 3

-- the line that unknown arguments print
abbrev pub usage : List ℕ
usage = line (codes "usage: ipcz_judge_events [--help] < LOG, or ipcz_judge_events run [--seed N] < SCRIPT")

-- what the program is for
abbrev pub help : List ℕ
help = usage ++ line [] ++ line (codes "Reads a log of the calls and events of another implementation, a JSON value a line, and says whether the rules allow it: ends with")
    ++ line (codes "status 0 if they do, and else with status 2 and the first line that they don't allow, or that is none of a log.")
    ++ line (codes "Of one that they don't allow a second line tells a text that is allowed in its place, if one is known; and of an act")
    ++ line (codes "further lines tell each act that its node could take there.")
    ++ line [] ++ line (codes "With run it reads a script, runs it in an order of acts that the seed N draws (0 if none is given), and writes a log of its calls and events: ends with")
    ++ line (codes "status 0, or with status 2 if it is no script or asks for an act that isn't possible.")

-- a text was written, with this status, or after a failed write some front of it, with the status 1
abbrev pub Writes : List ℕ → ℕ → Option (List ℕ) → Option (List ℕ) → Bool → ℕ → Type 0
Writes text wanted old new false status = (status ≡ wanted) × Appends old new text
Writes text wanted old new true status = (status ≡ 1) × AppendsFront old new text

-- a log was judged, and the status is that of its ending: what was read and written, and which device has failed, are as the ending says
pub record Judges (before after old new : Option (List ℕ)) (reader_failed writer_failed : Bool) (answered : ℕ) : Type 0 where
  pub ending : Result Verdict RunFault
  pub answer : answered ≡ status ending
  pub run : ReadsAndWrites before after old new ending
  pub read : IsErrOf ending faults.Read ↔ IsTrue reader_failed
  pub write : IsErrOf ending faults.Write ↔ IsTrue writer_failed

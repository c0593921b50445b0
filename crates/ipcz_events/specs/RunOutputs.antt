-- What is written of a run whose order of acts is drawn, and the status that the program ends with then.
use Rattle.std.specs.Prelude.{ℕ, ◌≡◌, ◌↔◌, ◌++◌, ◌∷◌, [], Bool, IsTrue, IsErrOf, List, Option, Result, Ok, Err, codes}
use Rattle.std.specs.Fmt.{decimal}
use Rattle.ipcz_script.specs.declared.run_fault.RunFault.{RunFault}
use Rattle.ipcz_script.specs.declared.run_fault.RunFault.TheVariants as faults
use Rattle.ipcz_script.specs.Lines.{refused_line}
use Rattle.ipcz_script.specs.ReadBack.{text_of}
use Rattle.ipcz_script.specs.Transcript.{ReadsAndWritesBy}
use Rattle.ipcz_events.specs.declared.ending.Ending.{Ending}
use Rattle.ipcz_events.specs.declared.ending.Ending.TheVariants as endings
use Rattle.ipcz_events.specs.declared.entry.Entry.{Entry}
use Rattle.ipcz_events.specs.declared.ran.Ran.{Ran}
use Rattle.ipcz_events.specs.declared.ran.Ran.TheVariants as ran
use Rattle.ipcz_events.specs.declared.schedule.Schedule.{Schedule}
use Rattle.ipcz_events.specs.declared.verdict.Verdict.TheVariants as verdicts
use Rattle.ipcz_events.specs.Outputs.{acts_text, line}
use Rattle.ipcz_events.specs.Runs.{IsRun}
use Rattle.ipcz_events.specs.Schedules.{IsSchedule}
use Rattle.ipcz_events.specs.Verdicts.{IsVerdict}
use Rattle.ipcz_events.specs.Written.{AreUtf8, AreWritten, IsTextOf, header_data}

-- the line that tells which command couldn't be obeyed
abbrev pub stop_text : ℕ → List ℕ
stop_text number = codes "command " ++ decimal number ++ line (codes ": not possible")

-- what is written behind the log: nothing, or which command couldn't be obeyed, and what its node could do there
abbrev pub ending_text : Ending → List ℕ
ending_text endings.Whole = []
ending_text (endings.Stopped number acts) = stop_text number ++ acts_text acts

-- what is written of a run: the header, the log, and how it ended
pub record IsRunText (schedule : Schedule) (seed : ℕ) (ending : Ending) (text : List ℕ) : Type 0 where
  pub log : List Entry
  pub header : List ℕ
  pub lines : List (List ℕ)
  pub run : IsRun schedule seed ending log
  pub first : IsTextOf header (header_data schedule.nodes schedule.words seed)
  pub written : AreWritten log lines
  pub whole : text ≡ text_of (header ∷ lines) ++ ending_text ending

-- law: what is written of a run that ends with its script is judged to be allowed, if the texts of its lines are UTF-8
abbrev pub RunsAreJudged : Type 0
RunsAreJudged =
    (input : List ℕ) (schedule : Schedule) (seed : ℕ) (text : List ℕ) → IsSchedule input (Ok schedule) → (run : IsRunText schedule seed endings.Whole text) →
    AreUtf8 run.log → IsVerdict text verdicts.Allowed

-- the same of what came of some bytes
abbrev pub IsEndedText : Schedule → ℕ → Ran → List ℕ → Type 0
IsEndedText schedule seed (ran.Ended ending) text = IsRunText schedule seed ending text
IsEndedText schedule seed (ran.Refused why) text = ⊥

-- what is written for some bytes, and how that ends: the run of the script that they are, or the one line that says why they are none
abbrev pub IsRunOutput : ℕ → List ℕ → Ran → List ℕ → Type 0
IsRunOutput seed input (ran.Ended ending) text = (schedule : Schedule) × IsSchedule input (Ok schedule) × IsRunText schedule seed ending text
IsRunOutput seed input (ran.Refused why) text = IsSchedule input (Err why) × (text ≡ refused_line why)

-- the status: 0 each command was obeyed, 1 a read or a write failed, 2 one couldn't be, or the bytes are no script, 3 want of memory
unfoldable pub run_status : Result Ran RunFault → ℕ
run_status (Ok (ran.Ended endings.Whole)) = 0
run_status (Err faults.Read) = 1
run_status (Err faults.Write) = 1
run_status (Ok (ran.Ended (endings.Stopped number acts))) = 2
run_status (Ok (ran.Refused why)) = 2
run_status (Err faults.OutOfMemory) = 3

-- a script was run by a seed, and the status is that of its ending: what was read and written, and which device has failed, are as the ending says
pub record RunsScript (seed : ℕ) (before after old new : Option (List ℕ)) (reader_failed writer_failed : Bool) (answered : ℕ) : Type 0 where
  pub ending : Result Ran RunFault
  pub answer : answered ≡ run_status ending
  pub run : ReadsAndWritesBy (IsRunOutput seed) before after old new ending
  pub read : IsErrOf ending faults.Read ↔ IsTrue reader_failed
  pub write : IsErrOf ending faults.Write ↔ IsTrue writer_failed

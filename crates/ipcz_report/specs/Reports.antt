-- What is written of some bytes.
use Rattle.std.specs.Prelude.{ℕ, ◌≡◌, ◌≤◌, ◌+◌, List, [], ◌∷◌, ◌++◌, codes, map, length, Some}
use Rattle.std.specs.Prelude.{Ok, Err}
use Rattle.std.specs.Fmt.{decimal}
use Rattle.serde_json.specs.Data.{Data}
use Rattle.ipcz_script.specs.declared.script.Script.{Script}
use Rattle.ipcz_script.specs.declared.script_fault.ScriptFault.{ScriptFault}
use Rattle.ipcz_script.specs.declared.script_fault.ScriptFault.TheVariants.{NotJson, BadShape, TooLong, OutOfMemory}
use Rattle.ipcz_script.specs.Lines.{line}
use Rattle.ipcz_script.specs.Reading.{IsJson, IsScript}
use Rattle.ipcz_report.specs.declared.remark.Remark.{Remark}
use Rattle.ipcz_report.specs.declared.verdict.Verdict.{Verdict}
use Rattle.ipcz_report.specs.declared.verdict.Verdict.TheVariants as verdicts
use Rattle.ipcz_report.specs.declared.wrong.Fault.{Fault}
use Rattle.ipcz_report.specs.Faults.{AreFaultsOf}
use Rattle.ipcz_report.specs.Notes.{AreNotes}
use Rattle.ipcz_report.specs.Remarks.{remarks_text}

-- ---- a script

-- the last line of the report on a script, with how many nodes, link words and commands it has
abbrev pub valid_line : ℕ → ℕ → ℕ → List ℕ
valid_line nodes words commands =
    codes "valid: nodes " ++ (decimal nodes ++ (codes ", words " ++ (decimal words ++ (codes ", commands " ++ (decimal commands ++ 10 ∷ [])))))

-- as many numbers as a list has items, counted from one on
abbrev pub numbers : {X : Type 0} → ℕ → List X → List ℕ
numbers n [] = []
numbers n (x ∷ xs) = n ∷ numbers (n + 1) xs

-- a line for each command, with its number, those on members that stand again, and the last line
abbrev pub IsValidText : List ℕ → Script → List ℕ → Type 0
IsValidText input script text =
    (remarks : List Remark) × (map (λ r. r.number) remarks ≡ numbers 1 script.commands) × (notes : List ℕ) × AreNotes input notes
    × (text ≡ remarks_text input remarks ++ (notes ++ valid_line script.nodes script.words (length script.commands)))

-- ---- no script

-- the line on a script that is too long
abbrev pub long_text : List ℕ
long_text = line (codes "line 1, column 1: the script is too long; expected at most 1048576 bytes")

-- a line with the place, within the bytes or at their end, at which they are no JSON text
abbrev pub IsJsonText : List ℕ → List ℕ → Type 0
IsJsonText input text = (remark : Remark) × (remark.number ≡ 0) × (remark.offset ≤ length input) × (text ≡ remarks_text input (remark ∷ []))

-- a line for each fault, with its number
abbrev pub TellsAll : List Fault → List Remark → Type 0
TellsAll faults remarks = map (λ r. r.number) remarks ≡ map (λ f. f.number) faults

-- the faults of the JSON value, of which the first has this number, their lines, and those on members that stand again
abbrev pub IsShapeText : List ℕ → ℕ → List ℕ → Type 0
IsShapeText input first text = (d : Data) × IsJson input (Some d) × (f : Fault) × (rest : List Fault) × AreFaultsOf d (f ∷ rest)
    × (f.number ≡ first) × (remarks : List Remark) × TellsAll (f ∷ rest) remarks
    × (notes : List ℕ) × AreNotes input notes × (text ≡ remarks_text input remarks ++ notes)

-- what is written of bytes that are no script, by why they are none
abbrev pub IsRefusedText : List ℕ → ScriptFault → List ℕ → Type 0
IsRefusedText input TooLong text = text ≡ long_text
IsRefusedText input NotJson text = IsJsonText input text
IsRefusedText input (BadShape n) text = IsShapeText input n text
IsRefusedText input OutOfMemory text = ⊥

-- ---- the whole

-- what is written of some bytes: a line for each command of the script that they are, or for each of their faults
abbrev pub IsReport : List ℕ → Verdict → List ℕ → Type 0
IsReport input verdicts.Valid text = (script : Script) × IsScript input (Ok script) × IsValidText input script text
IsReport input (verdicts.Refused why) text = IsScript input (Err why) × IsRefusedText input why text

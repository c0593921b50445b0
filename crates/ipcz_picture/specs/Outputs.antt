-- What is written for a transcript, and what a run of the program may have read and written.
use Rattle.std.specs.Prelude.{ℕ, ◌≡◌, ◌≤◌, ◌↔◌, Bool, true, false, IsTrue, IsErrOf, List, [], ◌∷◌, ◌++◌, ◌==◌, if◌then◌else◌, codes, length, take}
use Rattle.std.specs.Prelude.{Option, Result, Ok, Err}
use Rattle.std.specs.Fmt.{decimal}
use Rattle.std.specs.Io.KnownBytes.{Consumes, IsAtEnd, Appends, Keeps}
use Rattle.ipcz_lines.specs.declared.line.ReadLine.{ReadLine}
use Rattle.ipcz_lines.specs.declared.line.Unread.TheVariants as unread
use Rattle.ipcz_picture.specs.declared.ending.Ending.{Ending}
use Rattle.ipcz_picture.specs.declared.ending.Ending.TheVariants as endings
use Rattle.ipcz_device.specs.declared.fault.Fault.{Fault}
use Rattle.ipcz_device.specs.declared.fault.Fault.TheVariants as faults
use Rattle.ipcz_lines.specs.Lines.{IsRead, IsRefused}
use Rattle.ipcz_picture.specs.declared.part.Part.{Part}
use Rattle.ipcz_picture.specs.Parts.{end_of, first_of}
use Rattle.ipcz_picture.specs.Rows.{IsPicture}
use Rattle.ipcz_picture.specs.Sizes.{IsBounded}
use Rattle.ipcz_device.specs.WholeIo.{AppendsFront, ConsumesAtMost}

-- the lines that say why there is no picture: too many bytes, or a line that is none of a transcript
abbrev pub long_line : List ℕ
long_line = codes "refused line 0: more than 262144 bytes" ++ 10 ∷ []

abbrev pub bad_line : ℕ → List ℕ
bad_line n = codes "refused line " ++ decimal n ++ (codes ": not a line of a transcript" ++ 10 ∷ [])

-- the line that says which line of the transcript is refused, 0 if it is too long
abbrev pub refused_line : ℕ → List ℕ
refused_line n = if n == 0 then long_line else bad_line n

-- what is written for these bytes: a picture of the lines that they are, or of a part of them, of a size that is linear in theirs, or the
-- one line that says which line is refused
abbrev pub IsOutput : List ℕ → Option Part → Ending → List ℕ → Type 0
IsOutput input part endings.Drawn text =
    (read : List ReadLine) × IsRead input read × IsPicture (take (end_of part (length read)) read) (first_of part (length read)) text
    × IsBounded input read text
IsOutput input part (endings.Refused n) text = IsRefused input (unread.Refused n) × (text ≡ refused_line n)

-- the bytes that were read: all there are, or one more than a transcript may have
pub record IsInput (before after : Option (List ℕ)) (input : List ℕ) : Type 0 where
  pub taken : Consumes before after input
  pub most : length input ≤ 262145
  pub whole : length input ≤ 262144 → IsAtEnd after

-- what was read and written: the whole output, or after a failed write some front of it, and else nothing
abbrev pub ReadsAndWrites : Option (List ℕ) → Option (List ℕ) → Option (List ℕ) → Option (List ℕ) → Option Part → Result Ending Fault
    → Type 0
ReadsAndWrites before after old new part (Ok ending) =
    (input : List ℕ) × (text : List ℕ) × IsInput before after input × IsOutput input part ending text × Appends old new text
ReadsAndWrites before after old new part (Err faults.Write) =
    (input : List ℕ) × (ending : Ending) × (text : List ℕ) × IsInput before after input × IsOutput input part ending text
    × AppendsFront old new text
ReadsAndWrites before after old new part (Err faults.Read) = ConsumesAtMost before after 262145 × Keeps old new
ReadsAndWrites before after old new part (Err faults.OutOfMemory) = ConsumesAtMost before after 262145 × Keeps old new

-- the status after a run: 0 drawn, 1 a read or a write failed, 2 refused, 3 want of memory
unfoldable pub status : Result Ending Fault → ℕ
status (Ok endings.Drawn) = 0
status (Err faults.Read) = 1
status (Err faults.Write) = 1
status (Ok (endings.Refused n)) = 2
status (Err faults.OutOfMemory) = 3

-- the line that arguments print which ask for no part
abbrev pub usage : List ℕ
usage = codes "usage: ipcz_draw [--help] [--used] [FROM TO] < TRANSCRIPT" ++ 10 ∷ []

-- what the program is for
abbrev pub help : List ℕ
help = usage ++ 10 ∷ codes "Reads a transcript of ipcz_run from standard input, and writes a picture of it, an SVG, to standard output: of all its lines, or of" ++ 10 ∷
    codes "those from line FROM to line TO, which are counted from 1; with --used without the nodes that take no part. Ends with status 2, and" ++ 10 ∷
    codes "names the line, if one is none of a transcript." ++ 10 ∷ []

-- a text was written, with this status, or after a failed write some front of it, with the status 1
abbrev pub Writes : List ℕ → ℕ → Option (List ℕ) → Option (List ℕ) → Bool → ℕ → Type 0
Writes text wanted old new false status = (status ≡ wanted) × Appends old new text
Writes text wanted old new true status = (status ≡ 1) × AppendsFront old new text

-- a part of a transcript was drawn or not, and the status is that of its ending: what was read and written, and which device has failed, are as the
-- ending says
pub record Draws (part : Option Part) (before after old new : Option (List ℕ)) (reader_failed writer_failed : Bool) (answered : ℕ) : Type 0 where
  pub ending : Result Ending Fault
  pub answer : answered ≡ status ending
  pub run : ReadsAndWrites before after old new part ending
  pub read : IsErrOf ending faults.Read ↔ IsTrue reader_failed
  pub write : IsErrOf ending faults.Write ↔ IsTrue writer_failed

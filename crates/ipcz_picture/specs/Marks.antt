-- What stands in rows.
use Rattle.std.specs.Prelude.{ℕ, ◌≡◌, ◌+◌, ◌*◌, ◌%◌, ◌<◌, ◌≤◌, ◌==◌, Bool, true, false, List, length, codes, Option, Some, None}
use Rattle.std.specs.List.{AllWithin, HoldsAt}
use Rattle.ipcz_lines.specs.declared.line.Line.{Line}
use Rattle.ipcz_lines.specs.declared.line.Line.TheVariants as lines
use Rattle.ipcz_lines.specs.declared.line.Event.TheVariants as events
use Rattle.ipcz_lines.specs.declared.line.parts.Answer.TheVariants as answers
use Rattle.ipcz_lines.specs.declared.line.parts.Refusal.TheVariants as refusals
use Rattle.ipcz_lines.specs.declared.line.RouterEvent.TheVariants as acts
use Rattle.ipcz_lines.specs.declared.line.ReadLine.{ReadLine}

-- what a settle's row says
abbrev pub settle_note : Line → List ℕ
settle_note lines.Unsettled = codes "unsettled: the limit came first; the turns up to here are not in the transcript"
settle_note other = codes "settled: the turns up to here are not in the transcript"

-- the node that may answer the link whose word has this value: one less than what stands in the value's places from 256 up, if that
-- isn't 0
abbrev pub IsSource : ℕ → Option ℕ → Type 0
IsSource value (Some node) = (low : ℕ) × (low < 256) × (value ≡ 256 * (node + 1) + low)
IsSource value None = value < 256

-- the column of the word that a line changes; six words stand side by side
abbrev pub column_of : Line → Option ℕ
column_of (lines.Turn node (events.Router serial (acts.Word step word after))) = Some (word % 6)
column_of (lines.Turn node (events.Router serial (acts.Claim (Some word)))) = Some (word % 6)
column_of other = None

-- whether a line changes a word of this column
abbrev pub is_in_column : ℕ → Option ℕ → Bool
is_in_column column (Some c) = c == column
is_in_column column None = false

-- whether a word's bar ends at a line: where a word of its column changes, or within which it may have
abbrev pub ends_bar : ℕ → Line → Bool
ends_bar column lines.Settled = true
ends_bar column lines.Unsettled = true
ends_bar column other = is_in_column column (column_of other)

-- a bar that begins at a line ends at the next line that ends it, or behind the last one
pub record IsBarEnd (read : List ReadLine) (line column end : ℕ) : Type 0 where
  pub behind : line < end
  pub within : end ≤ length read
  pub stands : AllWithin (λ x. ends_bar column x.line ≡ false) read (line + 1) end
  pub ended : end < length read → HoldsAt (λ x. ends_bar column x.line ≡ true) read end

-- a line in whose row signs or arrows end: an act of a router, a hand, a settle
abbrev pub has_marks : Line → Bool
has_marks (lines.Turn node (events.Router serial act)) = true
has_marks (lines.Turn node (events.Hand kind link unfit)) = true
has_marks lines.Settled = true
has_marks lines.Unsettled = true
has_marks other = false

-- whether a call was refused
abbrev pub is_refused : Line → Bool
is_refused (lines.Put name (answers.Refused refusal)) = true
is_refused (lines.Close name (answers.Refused refusal)) = true
is_refused (lines.Missed name refusal) = true
is_refused other = false

-- what a call is, a put, a close or a get, and whether it was refused; a get that finds no parcel yet is empty
abbrev pub call_note : Line → List ℕ
call_note (lines.Put name (answers.Number number)) = codes "put"
call_note (lines.Put name (answers.Refused refusal)) = codes "put refused"
call_note (lines.Close name (answers.Number number)) = codes "close"
call_note (lines.Close name (answers.Refused refusal)) = codes "close refused"
call_note (lines.Missed name refusals.Empty) = codes "get: empty"
call_note (lines.Missed name other) = codes "get refused"
call_note other = codes "get"

-- The rows of a picture: which lines stand in each, how far down it begins, and how high it is.
use Rattle.std.specs.Prelude.{ℕ, ◌+◌, ◌*◌, ◌/◌, ◌≡◌, ◌≤◌, ◌<◌, ◌==◌, Bool, true, false, if◌then◌else◌, List, [], ◌∷◌, length, map, take}
use Rattle.std.specs.Prelude.{drop, min, max, count_by}
use Rattle.std.specs.List.{AllWithin, HoldsAt}
use Rattle.ipcz_lines.specs.declared.line.Line.{Line}
use Rattle.ipcz_lines.specs.declared.line.Line.TheVariants as lines
use Rattle.ipcz_lines.specs.declared.line.Event.{Event}
use Rattle.ipcz_lines.specs.declared.line.Event.TheVariants as events
use Rattle.ipcz_lines.specs.declared.line.ReadLine.{ReadLine}
use Rattle.ipcz_picture.specs.declared.rows.Place.{Place}
use Rattle.ipcz_markup.specs.Markup.{IsDocument, Row}

-- whether a turn did nothing
abbrev pub is_idle_turn : Event → Bool
is_idle_turn events.Idle = true
is_idle_turn other = false

-- whether a line is that of a turn that did nothing
abbrev pub is_idle : Line → Bool
is_idle (lines.Turn node event) = is_idle_turn event
is_idle other = false

abbrev pub IsIdle : ReadLine → Type 0
IsIdle x = is_idle x.line ≡ true

abbrev pub IsBusy : ReadLine → Type 0
IsBusy x = is_idle x.line ≡ false

-- how many values these are, with a space between two
abbrev pub value_count : List ℕ → ℕ
value_count values = if length values == 0 then 0 else count_by (λ b. b == 32) values + 1

-- how many units a line's row is high: two for a settle, for words one for each six values (at most 4096 have a place), and else one
abbrev pub units_of : Line → ℕ
units_of lines.Settled = 2
units_of lines.Unsettled = 2
units_of (lines.Words values) = (max 1 (min 4096 (value_count values.now)) + 5) / 6
units_of other = 1

-- what is drawn at a place: these lines' texts, with the number of the first
abbrev pub row_at : List ReadLine → Place → Row
row_at read p =
    record { number = p.first + 1; texts = map (λ x. x.text.now) (take p.count (drop p.first read)); top = p.top; units = p.units }

-- a place for one line, or for idle lines up to one that isn't
pub record IsPlace (read : List ReadLine) (p : Place) : Type 0 where
  pub some : 0 < p.count
  pub within : p.first + p.count ≤ length read
  pub idle : 1 < p.count → AllWithin IsIdle read p.first (p.first + p.count)
  pub whole : HoldsAt IsIdle read p.first → p.first + p.count < length read → HoldsAt IsBusy read (p.first + p.count)
  pub high : HoldsAt (λ x. p.units ≡ units_of x.line) read p.first

-- Places for the lines from one index to another, one under the other from one height to another: each line has one place, they are in
-- order, and each place begins where the one above ends.
abbrev pub Follow : List ReadLine → ℕ → ℕ → List Place → ℕ → ℕ → Type 0
Follow read from top [] to bottom = (to ≡ from) × (bottom ≡ top)
Follow read from top (p ∷ ps) to bottom =
    (p.first ≡ from) × (p.top ≡ top) × IsPlace read p × Follow read (from + p.count) (top + 18 * p.units) ps to bottom

-- a picture of these lines from one on: a document with a row for each of them, or for a run of idle ones, in order, the rows one under
-- the other
abbrev pub IsPicture : List ReadLine → ℕ → List ℕ → Type 0
IsPicture read from text =
    (places : List Place) × (bottom : ℕ) × Follow read from 136 places (length read) bottom × IsDocument text (map (row_at read) places)

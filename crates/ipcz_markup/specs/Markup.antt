-- The markup that is written: which bytes are the front of one element with all that is in it, how a row of the picture begins in it, and
-- how bytes of the input stand in it.
use Rattle.std.specs.Prelude.{ℕ, ◌+◌, ◌≡◌, ◌≤◌, false, ◌==◌, if◌then◌else◌, List, [], ◌∷◌, ◌++◌, length, flat_map, nat_lt, codes}
use Rattle.std.specs.Fmt.{decimal}
use Rattle.ipcz_markup.specs.declared.writer.Tag.{Tag}
use Rattle.ipcz_markup.specs.declared.writer.Tag.TheVariants as tags
use Rattle.ipcz_markup.specs.declared.writer.Key.{Key}
use Rattle.ipcz_markup.specs.declared.writer.Key.TheVariants as keys
use Rattle.ipcz_markup.specs.declared.writer.Writer.{Writer}

-- the name of an element
abbrev pub tag_name : Tag → List ℕ
tag_name tags.Svg = codes "svg"
tag_name tags.Title = codes "title"
tag_name tags.Desc = codes "desc"
tag_name tags.Style = codes "style"
tag_name tags.Rect = codes "rect"
tag_name tags.Line = codes "line"
tag_name tags.Path = codes "path"
tag_name tags.Text = codes "text"
tag_name tags.G = codes "g"

-- the name of an attribute
abbrev pub key_name : Key → List ℕ
key_name keys.Xmlns = codes "xmlns"
key_name keys.Width = codes "width"
key_name keys.Height = codes "height"
key_name keys.ViewBox = codes "viewBox"
key_name keys.Role = codes "role"
key_name keys.LabelledBy = codes "aria-labelledby"
key_name keys.Id = codes "id"
key_name keys.Class = codes "class"
key_name keys.X = codes "x"
key_name keys.Y = codes "y"
key_name keys.X1 = codes "x1"
key_name keys.Y1 = codes "y1"
key_name keys.X2 = codes "x2"
key_name keys.Y2 = codes "y2"
key_name keys.Rx = codes "rx"
key_name keys.D = codes "d"
key_name keys.TextAnchor = codes "text-anchor"
key_name keys.Message = codes "data-message"

-- a byte as it stands in a text or a value: the four that markup is made of have names, and one that isn't printable is a question mark
abbrev pub escaped_byte : ℕ → List ℕ
escaped_byte c =
    if c == 38 then codes "&amp;"
    else if c == 60 then codes "&lt;"
    else if c == 62 then codes "&gt;"
    else if c == 34 then codes "&quot;"
    else if nat_lt c 32 then codes "?"
    else if nat_lt 126 c then codes "?"
    else c ∷ []

-- bytes as they stand in a text or a value
abbrev pub escaped : List ℕ → List ℕ
escaped bytes = flat_map escaped_byte bytes

-- a row of the picture: the number of its first line, the texts of its lines, how far down it begins, and how many units it is high
pub record Row : Type 0 where
  pub number : ℕ
  pub texts : List (List ℕ)
  pub top : ℕ
  pub units : ℕ

-- what the title of a row says of idle lines: their numbers, and how many they are
abbrev pub run_title : ℕ → ℕ → ℕ → List ℕ
run_title number last count = codes "lines " ++ decimal number ++ codes "-" ++ decimal last ++ codes ": idle x" ++ decimal count

-- what the title of a row begins with: its line with that line's number, or of more lines, which are idle then, their numbers and count
abbrev pub row_title : ℕ → List (List ℕ) → List ℕ
row_title number [] = []
row_title number (text ∷ []) = codes "line " ++ decimal number ++ codes ": " ++ escaped text
row_title number (a ∷ b ∷ texts) = run_title number (number + length texts + 1) (length texts + 2)

-- the number of the last of a row's lines
abbrev pub last_line : ℕ → List (List ℕ) → ℕ
last_line number [] = number
last_line number (text ∷ []) = number
last_line number (a ∷ b ∷ texts) = number + length texts + 1

-- the names of a row, by which a viewer finds it: the numbers of its first line and of its last one
abbrev pub row_names : ℕ → ℕ → List ℕ
row_names number last = codes "<g id=\"l" ++ decimal number ++ codes "\" data-last=\"" ++ decimal last

-- how a row begins: a group of its own with its names, moved down to the row's top
abbrev pub row_head : ℕ → ℕ → ℕ → List ℕ
row_head number last top = row_names number last ++ codes "\" transform=\"translate(0 " ++ decimal top ++ codes ")\"><title>"

-- where the next byte comes: in the text of an element, behind a name in a tag, or in the value of an attribute
pub data Place : Type 0 where
  InText : Place
  InTag : Place
  InValue : Place

-- The front of a document, in which these rows were begun, that ends in such a place within these elements, the innermost first. There is
-- one root; each element that is closed is the innermost; a group is a row, and nothing else is one.
pub data IsMarkup : List ℕ → List Row → Place → List Tag → Type 0 where
  Root : IsMarkup (codes "<svg") [] InTag (tags.Svg ∷ [])
  Element : {b : List ℕ} {rows : List Row} {u : Tag} {s : List Tag} → (t : Tag) → (t ≡ tags.G → ⊥) → IsMarkup b rows InText (u ∷ s)
      → IsMarkup (b ++ (codes "<" ++ tag_name t)) rows InTag (t ∷ u ∷ s)
  RowGroup : {b : List ℕ} {rows : List Row} {u : Tag} {s : List Tag} → (r : Row) → IsMarkup b rows InText (u ∷ s)
      → IsMarkup (b ++ (row_head r.number (last_line r.number r.texts) r.top ++ row_title r.number r.texts)) (rows ++ r ∷ []) InText (tags.Title ∷ tags.G ∷ u ∷ s)
  Attribute : {b : List ℕ} {rows : List Row} {s : List Tag} → (k : Key) → IsMarkup b rows InTag s
      → IsMarkup (b ++ (codes " " ++ key_name k ++ codes "=\"")) rows InValue s
  ValueText : {b : List ℕ} {rows : List Row} {s : List Tag} → (bytes : List ℕ) → IsMarkup b rows InValue s
      → IsMarkup (b ++ escaped bytes) rows InValue s
  ValueNumber : {b : List ℕ} {rows : List Row} {s : List Tag} → (n : ℕ) → IsMarkup b rows InValue s
      → IsMarkup (b ++ decimal n) rows InValue s
  ValueEnd : {b : List ℕ} {rows : List Row} {s : List Tag} → IsMarkup b rows InValue s → IsMarkup (b ++ codes "\"") rows InTag s
  TagEnd : {b : List ℕ} {rows : List Row} {s : List Tag} → IsMarkup b rows InTag s → IsMarkup (b ++ codes ">") rows InText s
  Empty : {b : List ℕ} {rows : List Row} {t : Tag} {s : List Tag} → IsMarkup b rows InTag (t ∷ s) → IsMarkup (b ++ codes "/>") rows InText s
  Text : {b : List ℕ} {rows : List Row} {u : Tag} {s : List Tag} → (bytes : List ℕ) → IsMarkup b rows InText (u ∷ s)
      → IsMarkup (b ++ escaped bytes) rows InText (u ∷ s)
  Number : {b : List ℕ} {rows : List Row} {u : Tag} {s : List Tag} → (n : ℕ) → IsMarkup b rows InText (u ∷ s)
      → IsMarkup (b ++ decimal n) rows InText (u ∷ s)
  Close : {b : List ℕ} {rows : List Row} {t : Tag} {s : List Tag} → IsMarkup b rows InText (t ∷ s)
      → IsMarkup (b ++ (codes "</" ++ tag_name t ++ codes ">")) rows InText s

-- a whole document in which these rows stand, and a line feed behind it
abbrev pub IsDocument : List ℕ → List Row → Type 0
IsDocument text rows = (b : List ℕ) × IsMarkup b rows InText [] × (text ≡ b ++ 10 ∷ [])

-- unless memory was wanted, what was written is such a front
pub record Stands (w : Writer) (rows : List Row) (place : Place) (open_tags : List Tag) : Type 0 where
  pub markup : w.failed ≡ false → IsMarkup w.bytes.items rows place open_tags

-- how many bytes were written so far
abbrev pub size : Writer → ℕ
size w = length w.bytes.items

-- at most so many bytes were added
abbrev pub Grows : Writer → Writer → ℕ → Type 0
Grows old new most = size new ≤ size old + most

-- unless memory was wanted, these bytes were added
pub record Adds (old new : Writer) (bytes : List ℕ) : Type 0 where
  pub done : new.failed ≡ false → (old.failed ≡ false) × (new.bytes.items ≡ old.bytes.items ++ bytes)
  pub size : Grows old new (length bytes)

-- from one writer to the next the elements that are open stay the same, and no row is begun
abbrev pub Keeps : Writer → Writer → Type 0
Keeps old new = (rows : List Row) (u : Tag) (s : List Tag) → Stands old rows InText (u ∷ s) → Stands new rows InText (u ∷ s)

-- the same within a tag
abbrev pub KeepsTag : Writer → Writer → Type 0
KeepsTag old new = (rows : List Row) (s : List Tag) → Stands old rows InTag s → Stands new rows InTag s

-- the same within a value
abbrev pub KeepsValue : Writer → Writer → Type 0
KeepsValue old new = (rows : List Row) (s : List Tag) → Stands old rows InValue s → Stands new rows InValue s

-- How the lines of a log are written, as JSON.
use Rattle.std.specs.Prelude.{◌≡◌, ◌<◌, ◌^◌, ℕ, true, List, [], ◌∷◌, ◌++◌, map, codes, IsUtf8, Some}
use Rattle.serde_json.specs.Data.{Data, number, string, array, object, unsigned, Items, no_items, item, no_members, member}
use Rattle.serde_json.specs.View.{items_of}
use Rattle.serde_json.specs.Written.{compact_text}
use Rattle.ipcz_script.specs.declared.command.Command.{Command}
use Rattle.ipcz_script.specs.declared.command.Command.TheVariants as commands
use Rattle.ipcz_script.specs.ReadBack.{lacks, text_of}
use Rattle.ipcz_script.specs.Reading.{IsJson}
use Rattle.ipcz_events.specs.declared.entry.Entry.{Entry}
use Rattle.ipcz_events.specs.declared.entry.Entry.TheVariants as entries

-- ---- values

abbrev pub texts : List (List ℕ) → Items
texts ts = items_of (map string ts)

-- a call, as a script has it; turns and settles aren't logged
abbrev pub call_items : Command → Items
call_items (commands.Open node first second) = item (string (codes "open")) (item (number (unsigned node)) (texts (first ∷ second ∷ [])))
call_items (commands.Put at text ends) = item (string (codes "put")) (item (string at) (item (string text) (item (array (texts ends)) no_items)))
call_items (commands.Get at) = texts (codes "get" ∷ at ∷ [])
call_items (commands.Close at) = texts (codes "close" ∷ at ∷ [])
call_items commands.Show = texts (codes "show" ∷ [])
call_items (commands.Turn node count) = texts (codes "turn" ∷ [])
call_items (commands.Settle limit) = texts (codes "settle" ∷ [])

-- a line of a log
abbrev pub entry_data : Entry → Data
entry_data (entries.Call command text) = object (member (codes "answer") (string text) (member (codes "call") (array (call_items command)) no_members))
entry_data (entries.Acted node text) = object (member (codes "event") (string text) (member (codes "node") (number (unsigned node)) no_members))

-- the first line of the log of a run, which has its seed, too
abbrev pub header_data : ℕ → ℕ → ℕ → Data
header_data nodes words seed =
    object (member (codes "nodes") (number (unsigned nodes)) (member (codes "seed") (number (unsigned seed)) (member (codes "words") (number (unsigned words)) no_members)))

-- ---- texts

-- the line is the text of the value, and is read as that
pub record IsTextOf (text : List ℕ) (d : Data) : Type 0 where
  pub exact : text ≡ compact_text d
  pub line : lacks 10 text ≡ true
  pub reads : IsJson text (Some d)

abbrev pub own_text : Entry → List ℕ
own_text (entries.Call command text) = text
own_text (entries.Acted node text) = text

-- a node has 8 bits
abbrev pub HasByte : Entry → Type 0
HasByte (entries.Call command text) = Unit {0}
HasByte (entries.Acted node text) = node < 2 ^ 8

-- a line of a log is written so, if its text is UTF-8
pub record IsWritten (entry : Entry) (text : List ℕ) : Type 0 where
  pub byte : HasByte entry
  pub line : lacks 10 text ≡ true
  pub value : IsUtf8 (own_text entry) → IsTextOf text (entry_data entry)

abbrev pub AreWritten : List Entry → List (List ℕ) → Type 0
AreWritten [] [] = Unit {0}
AreWritten [] (t ∷ ts) = ⊥
AreWritten (e ∷ log) [] = ⊥
AreWritten (e ∷ log) (t ∷ ts) = IsWritten e t × AreWritten log ts

-- these lines of a log are added to a text, each with a line feed behind it
abbrev pub Adds : List Entry → List ℕ → List ℕ → Type 0
Adds log before after = (lines : List (List ℕ)) × AreWritten log lines × (after ≡ before ++ text_of lines)

-- the texts of these lines are UTF-8
abbrev pub AreUtf8 : List Entry → Type 0
AreUtf8 [] = Unit {0}
AreUtf8 (e ∷ log) = IsUtf8 (own_text e) × AreUtf8 log

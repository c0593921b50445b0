-- What is said of the next line of a log, and what is told of one that isn't allowed.
use Rattle.std.specs.Prelude.{ℕ, ◌≡◌, ◌≢◌, false, List, [], Option, Some, None}
use Rattle.ipcz_node.specs.declared.act.Act.{Act}
use Rattle.ipcz_node.specs.declared.happened.Happened.{Happened}
use Rattle.ipcz_world.specs.Asking.{IsActed}
use Rattle.ipcz_world.specs.Listing.{ArePossible}
use Rattle.ipcz_world.specs.World.{World}
use Rattle.ipcz_script.specs.Sessions.{Session}
use Rattle.ipcz_events.specs.declared.entry.Entry.{Entry}
use Rattle.ipcz_events.specs.declared.entry.Entry.TheVariants as entries
use Rattle.ipcz_events.specs.declared.judged.Judged.{Judged}
use Rattle.ipcz_events.specs.declared.judged.Judged.TheVariants as judged
use Rattle.ipcz_events.specs.Naming.{IsNamedBy, act_text, behind_word, first_word, name_of}
use Rattle.ipcz_events.specs.Rules.{ActHasBits, MayEntry, is_call}

-- the text of an event begins with the words that tell this act
abbrev pub BeginsWith : List ℕ → Act → Type 0
BeginsWith text act = IsNamedBy (first_word text) (behind_word text) (name_of act)

-- law: the words by which an act is told name it, so a line whose event begins with them is judged by that act
abbrev pub ToldWordsName : Type 0
ToldWordsName = (act : Act) → BeginsWith (act_text act) act

-- the same line with another text
abbrev pub with_text : Entry → List ℕ → Entry
with_text (entries.Call command line) text = entries.Call command text
with_text (entries.Acted node event) text = entries.Acted node text

-- nothing can be told: the command is no call, or no act that the text begins with can be taken
abbrev pub HasNone : Session → Entry → Type 0
HasNone s (entries.Call command line) = is_call command ≡ false
HasNone s (entries.Acted node text) =
    (act : Act) (event : Happened) (w : World) → ActHasBits act → BeginsWith text act → IsActed s.world node act event w → ⊥

-- what is told of a line that isn't allowed: a text that is allowed in its place
abbrev pub IsInstead : Session → Entry → Option (List ℕ) → Type 0
IsInstead s entry None = HasNone s entry
IsInstead s entry (Some text) = (t : Session) × MayEntry s (with_text entry text) t

-- what is told beside it: of an act each that its node may take there, and of a call none
abbrev pub AreToldActs : Session → Entry → List Act → Type 0
AreToldActs s (entries.Call command line) acts = acts ≡ []
AreToldActs s (entries.Acted node text) acts = ArePossible s.world node acts

-- a line was judged: it is allowed, and leads there; or there is no way that it is
abbrev pub Judges : Session → Entry → Judged → Session → Type 0
Judges s entry judged.Allowed t = MayEntry s entry t
Judges s entry (judged.Refused told) t = ((u : Session) → MayEntry s entry u → ⊥) × IsInstead s entry told

-- what is printed is compared with the text of a line
abbrev pub IsCompared : List ℕ → List ℕ → Judged → Type 0
IsCompared printed text judged.Allowed = printed ≡ text
IsCompared printed text (judged.Refused None) = ⊥
IsCompared printed text (judged.Refused (Some told)) = (printed ≢ text) × (told ≡ printed)

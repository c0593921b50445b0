-- What a line says by its place: the numbers that it must have, and the data.
use Rattle.std.specs.Prelude.{◌≡◌, ℕ, List, [], ◌∷◌, ◌++◌, Some, length, slice_get, codes}
use Rattle.std.specs.Fmt.{decimal}
use Rattle.std.specs.FinMap.{get}
use Rattle.ipcz_base.specs.declared.end.End.{End}
use Rattle.ipcz_base.specs.declared.parcel.Parcel as parcels
use Rattle.ipcz_base.specs.Ends.{opposite_end}
use Rattle.ipcz_script.specs.ScriptLimits.{HasScriptLimits}
use Rattle.ipcz_script.specs.declared.command.Command.{Command}
use Rattle.ipcz_script.specs.declared.command.Command.TheVariants as commands
use Rattle.ipcz_script.specs.declared.said.Said.{Said}
use Rattle.ipcz_script.specs.declared.said.Said.TheVariants as said
use Rattle.ipcz_script.specs.Bindings.{Bindings}
use Rattle.ipcz_script.specs.Sessions.{Session, new_session}
use Rattle.ipcz_script.specs.Transcript.{Answered, AreAnswered, lines_in}
use Rattle.ipcz_script.specs.ScriptBooks.{gots_in, puts_in}
use Rattle.ipcz_script.specs.ReadBack.{AreLines, HaveNames, between, spaced}

-- a line that says that a name got a parcel: its number, some names in brackets, and in quotes the data
pub record SaysGot (line name : List ℕ) (number : ℕ) (data_ : List ℕ) : Type 0 where
  pub portals : List ℕ
  pub words : line ≡ spaced (codes "get" ∷ name ∷ decimal number ∷ between 91 portals 93 ∷ between 34 data_ 34 ∷ [])

-- the line of a put or a close whose answer is a number has how many parcels its end had put; that of a get that got a parcel has how many
-- its end had got, and the data of the peer's put of this number
unfoldable pub AreCounted : List Answered → Bindings → Command → Said → List (List ℕ) → Type 0
AreCounted earlier names (commands.Put at text attached) (said.Put n) lines =
    (e : End) → get names at ≡ Some e → lines ≡ spaced (codes "put" ∷ at ∷ decimal (length (puts_in earlier e)) ∷ []) ∷ []
AreCounted earlier names (commands.Close at) (said.Closed n) lines =
    (e : End) → get names at ≡ Some e → lines ≡ spaced (codes "close" ∷ at ∷ decimal (length (puts_in earlier e)) ∷ []) ∷ []
AreCounted earlier names (commands.Get at) (said.Got n p) lines =
    (e : End) → get names at ≡ Some e → (line : List ℕ) × (put : parcels.Parcel) × (lines ≡ line ∷ []) ×
    (slice_get (puts_in earlier (opposite_end e)) (length (gots_in earlier e)) ≡ Some put) ×
    SaysGot line at (length (gots_in earlier e)) put.bytes
AreCounted earlier names command answer lines = Unit {0}

-- law: of the lines of a text that answers to a script make, those of each answer, behind the lines of the answers before it, are so
abbrev pub LinesAreCounted : Type 0
LinesAreCounted =
    (nodes words : ℕ) (cs : List Command) (earlier : List Answered) (a : Answered) (later : List Answered) (t : Session)
    (lines : List (List ℕ)) → HasScriptLimits nodes words → HaveNames cs → AreAnswered (new_session nodes words) cs (earlier ++ a ∷ later)
    t →
    AreLines (lines_in (earlier ++ a ∷ later)) lines →
    (before own behind : List (List ℕ)) × (lines ≡ before ++ (own ++ behind)) × AreLines (lines_in earlier) before ×
    AreCounted earlier a.before.names a.command a.said own

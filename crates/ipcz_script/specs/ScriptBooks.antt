-- What the answers to a script's commands say that each end has put and got.
use Rattle.std.specs.Prelude.{◌≡◌, ℕ, Bool, false, cond, unwrap_or, List, [], ◌∷◌, ◌++◌, length, Some}
use Rattle.std.specs.Option.{option_map_or}
use Rattle.std.specs.FinMap.{get}
use Rattle.ipcz_base.specs.declared.end.End.{End}
use Rattle.ipcz_base.specs.declared.parcel.Parcel as parcels
use Rattle.ipcz_base.specs.declared.item.Item.{Item}
use Rattle.ipcz_base.specs.declared.item.Item.TheVariants.{Parcel, Mark, Gone}
use Rattle.ipcz_base.specs.Ends.{same_end}
use Rattle.ipcz_world.specs.Books.{Books}
use Rattle.ipcz_script.specs.declared.command.Command.{Command}
use Rattle.ipcz_script.specs.declared.command.Command.TheVariants as commands
use Rattle.ipcz_script.specs.declared.said.Said.{Said}
use Rattle.ipcz_script.specs.declared.said.Said.TheVariants as said
use Rattle.ipcz_script.specs.Bindings.{Bindings}
use Rattle.ipcz_script.specs.Sessions.{ends_of}
use Rattle.ipcz_script.specs.Transcript.{Answered}

-- whether a name is bound to this end
abbrev pub is_bound : Bindings → List ℕ → End → Bool
is_bound names name e = option_map_or (same_end e) (get names name) false

-- the parcel of this text and the ends that these names are bound to
abbrev pub parcel_of : Bindings → List ℕ → List (List ℕ) → parcels.Parcel
parcel_of names text attached = record { bytes = text; ends = unwrap_or (ends_of names attached) [] }

-- the parcel that an end has put, if that is what a command and its answer say
unfoldable pub put_said : Bindings → Command → Said → End → List parcels.Parcel
put_said names (commands.Put at text attached) (said.Put n) e = cond (is_bound names at e) (parcel_of names text attached ∷ []) []
put_said names command answer e = []

-- the parcel that an end has got, if that is what a command and its answer say
unfoldable pub got_said : Bindings → Command → Said → End → List parcels.Parcel
got_said names (commands.Get at) (said.Got n p) e = cond (is_bound names at e) (p ∷ []) []
got_said names command answer e = []

-- the parcels that an end has put, in order
abbrev pub puts_in : List Answered → End → List parcels.Parcel
puts_in [] e = []
puts_in (a ∷ rest) e = put_said a.before.names a.command a.said e ++ puts_in rest e

-- the parcels that an end has got, in order
abbrev pub gots_in : List Answered → End → List parcels.Parcel
gots_in [] e = []
gots_in (a ∷ rest) e = got_said a.before.names a.command a.said e ++ gots_in rest e

-- the parcels among these items
abbrev pub parcels_in : List Item → List parcels.Parcel
parcels_in [] = []
parcels_in (Parcel p ∷ items) = p ∷ parcels_in items
parcels_in (Mark ∷ items) = parcels_in items
parcels_in (Gone ∷ items) = parcels_in items

-- the books of a run have just the parcels that its answers say; the marks of closes that were pending are in no answer,
-- nor is Gone of a sink that has retired
pub record AreSaid (b : Books) (log : List Answered) : Type 0 where
  pub puts : (e : End) → parcels_in (b.put e) ≡ puts_in log e
  pub gots : (e : End) → b.got e ≡ gots_in log e

-- a number that is said at a portal counts what its end had put before, or what it had got
unfoldable pub IsCount : List Answered → Bindings → Command → Said → Type 0
IsCount earlier names (commands.Put at text attached) (said.Put n) = (e : End) → get names at ≡ Some e → n ≡ length (puts_in earlier e)
IsCount earlier names (commands.Get at) (said.Got n p) = (e : End) → get names at ≡ Some e → n ≡ length (gots_in earlier e)
IsCount earlier names (commands.Close at) (said.Closed n) = (e : End) → get names at ≡ Some e → n ≡ length (puts_in earlier e)
IsCount earlier names command answer = Unit {0}

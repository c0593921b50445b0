-- What a reply tells C beside its status: what is written to the places that C gave for it. A reply that tells nothing leaves them.
use Rattle.std.specs.Prelude.{◌≡◌, ℕ, Bool, true, false, ◌&&◌, nat_le, Option, Some, None, List, ◌++◌, length, drop, take, Result, Ok, Err}
use Rattle.ipcz_base.specs.declared.end.End.{End}
use Rattle.ipcz_base.specs.declared.parcel.Sizes.{Sizes}
use Rattle.ipcz_base.specs.declared.refusal.Refusal.{Refusal}
use Rattle.ipcz_base.specs.Refusals.{code_of}
use Rattle.ipcz_node.specs.declared.happened.Happened.TheVariants as events
use Rattle.ipcz_world.specs.declared.step.Reply.{Reply}
use Rattle.ipcz_world.specs.declared.step.Reply.TheVariants as replies
use Rattle.ipcz_world.specs.declared.step.Settled.{Settled}
use Rattle.ipcz_world.specs.declared.step.Settled.TheVariants as ends
use Rattle.ipcz_c.specs.declared.portal.Portal.{Portal}
use Rattle.ipcz_c.specs.Named.{named, ends_of}

-- nothing is told
abbrev pub nothing : Reply → Type 0
nothing reply = Unit {0}

-- the portals that were opened
unfoldable pub AreOpened : Reply → Portal → Portal → Portal → Portal → Type 0
AreOpened (replies.Opened a b) old_first old_second first second = (named first ≡ a) × (named second ≡ b)
AreOpened reply old_first old_second first second = (first ≡ old_first) × (second ≡ old_second)

-- the number of what was put
unfoldable pub IsPut : Reply → ℕ → ℕ → Type 0
IsPut (replies.Put n) old number = number ≡ n
IsPut reply old number = number ≡ old

-- the places for a parcel
pub record Room : Type 0 where
  pub bytes : List ℕ
  pub size : ℕ
  pub portals : List Portal
  pub count : ℕ
  pub number : ℕ

abbrev pub room_of : List ℕ → ℕ → List Portal → ℕ → ℕ → Room
room_of bytes size portals count number = record { bytes = bytes; size = size; portals = portals; count = count; number = number }

-- whether a parcel of these sizes fits into room for so many bytes and portals, or there is none
unfoldable pub fits : Option Sizes → ℕ → ℕ → Bool
fits None bytes portals = true
fits (Some s) bytes portals = nat_le s.bytes bytes && nat_le s.ends portals

-- whether there is a next parcel, and its sizes; where there is none, nothing is told
unfoldable pub TellsSizes : Option Sizes → Bool → ℕ → ℕ → ℕ → ℕ → Type 0
TellsSizes (Some s) there old_size old_count size count = (there ≡ true) × (size ≡ s.bytes) × (count ≡ s.ends)
TellsSizes None there old_size old_count size count = (there ≡ false) × (size ≡ old_size) × (count ≡ old_count)

-- whether a turn was an act: it was none if the node had nothing to do
unfoldable pub IsActed : Reply → Bool → Bool → Type 0
IsActed (replies.Turned events.Idle) old acted = acted ≡ false
IsActed (replies.Turned event) old acted = acted ≡ true
IsActed reply old acted = acted ≡ old

-- these bytes stand at the front of a room, and the rest of it is as it was
abbrev pub AreAtFront : List ℕ → List ℕ → List ℕ → Type 0
AreAtFront bytes old room = room ≡ bytes ++ drop (length bytes) old

-- these ends are named at the front of a room, and the rest of it is as it was
abbrev pub AreNamedAtFront : List End → List Portal → List Portal → Type 0
AreNamedAtFront named_ends old room =
    (ends_of (take (length named_ends) room) ≡ named_ends) × (drop (length named_ends) room ≡ drop (length named_ends) old)

-- the parcel that was got
unfoldable pub IsGot : Reply → Room → Room → Type 0
IsGot (replies.Got n p) old new =
    (new.number ≡ n) × (new.size ≡ length p.bytes) × (new.count ≡ length p.ends)
    × AreAtFront p.bytes old.bytes new.bytes × AreNamedAtFront p.ends old.portals new.portals
IsGot reply old new = new ≡ old

-- what a settle came to: its status, how many acts, and whether nothing waits
unfoldable pub IsSettled : ℕ → Result Settled Refusal → ℕ → ℕ → Bool → ℕ → Bool → Type 0
IsSettled limit (Ok (ends.Settled after)) status old_acts old_quiet acts quiet = (status ≡ 0) × (acts ≡ after) × (quiet ≡ true)
IsSettled limit (Ok ends.Unsettled) status old_acts old_quiet acts quiet = (status ≡ 0) × (acts ≡ limit) × (quiet ≡ false)
IsSettled limit (Err why) status old_acts old_quiet acts quiet = (status ≡ code_of why) × (acts ≡ old_acts) × (quiet ≡ old_quiet)

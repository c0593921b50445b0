-- What the calls of C do to the world of a handle, by the steps of the world.
use Rattle.std.specs.Prelude.{◌≡◌, ◌≢◌, ◌⊎◌, ℕ, Bool, ◌&&◌, nat_le, if◌then◌else◌, Option, Some, None, IfSome, IsSomeAnd, option_map, List, Result, IfOk, IfErr}
use Rattle.ipcz_base.specs.declared.end.End.{End}
use Rattle.ipcz_base.specs.declared.parcel.Sizes.{Sizes}
use Rattle.ipcz_base.specs.declared.profile.Profile.{Profile}
use Rattle.ipcz_base.specs.declared.refusal.Refusal.{Refusal}
use Rattle.ipcz_base.specs.declared.refusal.Refusal.TheVariants.{OutOfMemory}
use Rattle.ipcz_base.specs.Refusals.{code_of}
use Rattle.ipcz_node.specs.FirstPairs.{first_pair_count}
use Rattle.ipcz_world.specs.World.{World, node_limit, new_world}
use Rattle.ipcz_world.specs.Steps.{StepFirst, next_sizes, put_of}
use Rattle.ipcz_world.specs.Books.{Books, advance}
use Rattle.ipcz_world.specs.Routes.{Routes, routes_after}
use Rattle.ipcz_world.specs.HeldEnds.{grown}
use Rattle.ipcz_world.specs.Lawful.{Lawful}
use Rattle.ipcz_world.specs.Owed.{IsWet}
use Rattle.ipcz_world.specs.Plain.{Plain}
use Rattle.ipcz_world.specs.Retries.{LetAskTold}
use Rattle.ipcz_world.specs.SettleBounds.{IsLawfulSettle, IsLawfulRefusal}
use Rattle.ipcz_world.specs.declared.step.Step.{Step}
use Rattle.ipcz_world.specs.declared.step.Step.TheVariants as steps
use Rattle.ipcz_world.specs.declared.step.Reply.{Reply}
use Rattle.ipcz_world.specs.declared.step.Settled.{Settled}
use Rattle.ipcz_c.specs.declared.portal.Portal.{Portal}
use Rattle.ipcz_c.specs.Named.{named, ends_of}
use Rattle.ipcz_c.specs.Statuses.{status_of, too_small}
use Rattle.ipcz_c.specs.Told.{nothing, AreOpened, IsPut, IsActed, Room, IsGot, IsSettled}

-- a step of the world of a handle
abbrev pub Steps : Option World → Step → Reply → Option World → Type 0
Steps old step reply new = (w : World) → old ≡ Some w → IsSomeAnd new (λ v. StepFirst w step reply v)

-- which keeps it lawful, with the books and routes that the step writes
abbrev pub Keeps : Option World → Step → Reply → Option World → Type 0
Keeps old step reply new = (w : World) → old ≡ Some w →
    IsSomeAnd new (λ v. (b : Books) → (g : Routes) → Lawful w b g → Lawful v (advance w b step reply) (routes_after w g step reply))

-- and whose reply is one that the machine over the books alone allows
abbrev pub RepliesPlainly : Option World → Step → Reply → Type 0
RepliesPlainly old step reply = (w : World) → old ≡ Some w → (b : Books) → (g : Routes) → Lawful w b g → Plain b step reply (advance w b step reply)

-- all that the world's own call says of a step
pub record TakesStep (old : Option World) (step : Step) (reply : Reply) (new : Option World) : Type 0 where
  pub step_is : Steps old step reply new
  pub lawful : Keeps old step reply new
  pub plain : RepliesPlainly old step reply

-- a step of the handle's world was taken; this is its status, and it tells what it tells
abbrev pub Answers : (Reply → Type 0) → Option World → Step → ℕ → Option World → Type 0
Answers Tells old step status new = (reply : Reply) × TakesStep old step reply new × (status ≡ status_of reply) × Tells reply

-- the call was refused with this status, and what the handle has is as it was
abbrev pub IsRefused : {X : Type 0} → ℕ → X → ℕ → X → Type 0
IsRefused why old status new = (status ≡ why) × (new ≡ old)

-- how many words a world or a table may have that C makes: IPCZ_MAX_WORDS of the header
abbrev pub most_words : ℕ
most_words = 4096

-- whether a world or a table that C makes may have so many nodes and words
abbrev pub is_within : ℕ → ℕ → Bool
is_within nodes words = nat_le 1 nodes && nat_le nodes node_limit && nat_le (first_pair_count nodes) words && nat_le words most_words

-- how many slots for links a table may have that C makes, whose link words come back: IPCZ_MAX_SLOTS of the header; and how many links there can be in
-- its life
abbrev pub most_slots : ℕ
most_slots = 1048576

abbrev pub all_links : ℕ
all_links = 18446744073709551615

-- whether such a table may have so many nodes and slots
abbrev pub has_slots : ℕ → ℕ → Bool
has_slots nodes slots = nat_le 1 nodes && nat_le nodes node_limit && nat_le 1 slots && nat_le (first_pair_count nodes) slots && nat_le slots most_slots

-- a create within the limits, on a handle of no world: a new world, or no memory was found
abbrev pub Creates : ℕ → ℕ → ℕ → Option World → Type 0
Creates nodes words status new =
    ((status ≡ 0) × (new ≡ Some (new_world nodes words))) ⊎ ((status ≡ code_of OutOfMemory) × (new ≡ None))

-- words that are added to the world of a handle: so many more, and nothing else changes; or no memory was found, which is wanted for none
abbrev pub AddsWords : Option World → ℕ → ℕ → Option World → Type 0
AddsWords old count status new =
    ((status ≡ 0) × (new ≡ option_map (λ w. grown w count) old)) ⊎ ((count ≢ 0) × IsRefused (code_of OutOfMemory) old status new)

-- the routers of the world of a handle that found no word may ask again: so many as are told, and then none is left that may not
abbrev pub Retries : Option World → ℕ → Option World → Type 0
Retries old told new = (w : World) → old ≡ Some w → IsSomeAnd new (λ v. LetAskTold w told v × IsWet v)

-- an open
abbrev pub Opens : Option World → ℕ → ℕ → Portal → Portal → Portal → Portal → Option World → Type 0
Opens old node status old_first old_second first second new =
    Answers (λ reply. AreOpened reply old_first old_second first second) old (steps.Open node) status new

-- a put; where no memory is found for its lists no step is taken
abbrev pub Puts : Profile → Option World → ℕ → Portal → List ℕ → List Portal → ℕ → ℕ → ℕ → Option World → Type 0
Puts profile old node at bytes portals status old_number number new =
    Answers (λ reply. IsPut reply old_number number) old (put_of profile node (named at) bytes (ends_of portals)) status new
    ⊎ (IsRefused (code_of OutOfMemory) old status new × (number ≡ old_number))

-- the sizes of the parcel that a get of a handle's world would give, where it wouldn't be refused
unfoldable pub sizes_next : Option World → ℕ → End → Option Sizes
sizes_next None node at = None
sizes_next (Some w) node at = next_sizes w node at

-- a get that was given room, or finds no parcel
abbrev pub Gets : Option World → ℕ → Portal → ℕ → Room → Room → Option World → Type 0
Gets old node at status old_room room new = Answers (λ reply. IsGot reply old_room room) old (steps.Get node (named at)) status new

-- a get that was given too little: nothing is taken, and the sizes of what would be are told
abbrev pub LacksRoom : {X : Type 0} → X → Option Sizes → ℕ → Room → Room → X → Type 0
LacksRoom old sizes status old_room room new =
    IsRefused too_small old status new × IfSome sizes (λ s. room ≡ record old_room { size = s.bytes; count = s.ends })

-- a close
abbrev pub Closes : Option World → ℕ → Portal → ℕ → Option World → Type 0
Closes old node at = Answers nothing old (steps.Close node (named at))

-- a turn that tells whether it was an act
abbrev pub TellsTurn : Option World → ℕ → ℕ → Bool → Bool → Option World → Type 0
TellsTurn old node status old_acted acted new = Answers (λ reply. IsActed reply old_acted acted) old (steps.Turn node) status new

-- a turn
abbrev pub TakesTurn : Option World → ℕ → ℕ → Option World → Type 0
TakesTurn old node = Answers nothing old (steps.Turn node)

-- a settle of the world of a handle: what the world's own call says of it
abbrev pub SettlesTo : Option World → ℕ → Result Settled Refusal → Option World → Type 0
SettlesTo old limit answer new = (w : World) → old ≡ Some w → IsSomeAnd new (λ v.
    IfOk answer (λ s. IsLawfulSettle limit w v s) × IfErr answer (λ why. IsLawfulRefusal limit w v why))

-- a settle
abbrev pub Settles : Option World → ℕ → ℕ → ℕ → Bool → ℕ → Bool → Option World → Type 0
Settles old limit status old_acts old_quiet acts quiet new =
    (answer : Result Settled Refusal) × SettlesTo old limit answer new × IsSettled limit answer status old_acts old_quiet acts quiet

-- a number that is read off the handle's world, where it has one and the number is there
abbrev pub read_off : Option World → (World → Option ℕ) → Option ℕ
read_off None number = None
read_off (Some w) number = number w

-- a number that is written where it is there
abbrev pub written : Bool → ℕ → Option ℕ
written there n = if there then Some n else None

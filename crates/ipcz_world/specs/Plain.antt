-- The machine over the books alone: which replies it allows, and what they write.
use Rattle.std.specs.Prelude.{◌≡◌, ◌<◌, ◌≤◌, ℕ, true, false, Some, List, [], ◌∷◌, length}
use Rattle.ipcz_base.specs.declared.side.Side.{Side}
use Rattle.ipcz_base.specs.declared.end.End.{End}
use Rattle.ipcz_base.specs.declared.item.Item.TheVariants.{Parcel, Mark, Gone}
use Rattle.ipcz_base.specs.declared.profile.Profile.{Profile}
use Rattle.ipcz_base.specs.declared.profile.Profile.TheVariants.{Printed, Wide}
use Rattle.ipcz_base.specs.declared.refusal.Refusal.{Refusal}
use Rattle.ipcz_base.specs.declared.refusal.Refusal.TheVariants.{OutOfMemory, Empty, PeerClosed, NoWord, SelfAttach, PeerAttach, Stranger}
use Rattle.ipcz_base.specs.declared.refusal.Refusal.TheVariants.{NumbersEnd, BadData, TooMany}
use Rattle.ipcz_base.specs.Ends.{opposite_end, end_at, has_end}
use Rattle.ipcz_base.specs.Limits.{takes_bytes, last_number}
use Rattle.ipcz_node.specs.Calls.{are_too_many}
use Rattle.ipcz_node.specs.declared.happened.Happened.{Happened}
use Rattle.ipcz_node.specs.declared.happened.Happened.TheVariants as events
use Rattle.ipcz_world.specs.declared.step.Step.{Step}
use Rattle.ipcz_world.specs.declared.step.Step.TheVariants.{Open, Put, PutWide, Get, Close, Turn}
use Rattle.ipcz_world.specs.declared.step.Reply.{Reply}
use Rattle.ipcz_world.specs.declared.step.Reply.TheVariants as replies
use Rattle.ipcz_world.specs.Books.{Books, read, next_item, is_closed, is_retired, add_put, add_got, add_gone}

-- the books have nothing of an end
pub record IsUnwritten (b : Books) (e : End) : Type 0 where
  pub put : b.put e ≡ []
  pub got : b.got e ≡ []
  pub gone : b.gone e ≡ 0

-- why a put may be refused, by the books: its parcel or ends are wrong by themselves, the peer's portal is closed, or the last number was given
abbrev pub MayRefusePut : Profile → Books → End → List ℕ → List End → Refusal → Type 0
MayRefusePut profile b at bytes ends Stranger = Unit {0}
MayRefusePut profile b at bytes ends TooMany = are_too_many profile bytes ends ≡ true
MayRefusePut profile b at bytes ends BadData = takes_bytes profile bytes ≡ false
MayRefusePut profile b at bytes ends SelfAttach = has_end at ends ≡ true
MayRefusePut profile b at bytes ends PeerAttach = has_end (opposite_end at) ends ≡ true
MayRefusePut profile b at bytes ends PeerClosed = is_closed b (opposite_end at) ≡ true
MayRefusePut profile b at bytes ends NumbersEnd = last_number ≤ length (b.put at)
MayRefusePut profile b at bytes ends OutOfMemory = Unit {0}
MayRefusePut profile b at bytes ends why = ⊥

-- why a step may be refused, by the books: a put whose parcel or ends are wrong by themselves, at a closed peer's portal, and behind the
-- last number; and a get whose next item is the mark. Whom callers hold, what has come, words, serials and memory aren't in the books
abbrev pub MayRefuse : Books → Step → Refusal → Type 0
MayRefuse b (Open n) Stranger = Unit {0}
MayRefuse b (Open n) NoWord = Unit {0}
MayRefuse b (Open n) NumbersEnd = Unit {0}
MayRefuse b (Open n) OutOfMemory = Unit {0}
MayRefuse b (Put n at bytes ends) why = MayRefusePut Printed b at bytes ends why
MayRefuse b (PutWide n at bytes ends) why = MayRefusePut Wide b at bytes ends why
MayRefuse b (Get n at) Stranger = Unit {0}
MayRefuse b (Get n at) Empty = Unit {0}
MayRefuse b (Get n at) PeerClosed = next_item b at ≡ Some Mark
MayRefuse b (Close n at) Stranger = Unit {0}
MayRefuse b (Close n at) OutOfMemory = Unit {0}
MayRefuse b (Turn n) Stranger = Unit {0}
MayRefuse b (Turn n) NumbersEnd = Unit {0}
MayRefuse b (Turn n) OutOfMemory = Unit {0}
MayRefuse b step why = ⊥

-- the sink of a closed end drops the next item of its peer
pub record Discards (b : Books) (number : ℕ) (c : Books) : Type 0 where
  pub end : End
  pub closed : is_closed b end ≡ true
  pub next : number ≡ read b end
  pub put : read b end < length (b.put (opposite_end end))
  pub books : c ≡ add_gone b end

-- the sink of an end retires: both ends are closed, neither sink has retired before, and it has dropped all that its peer put, the mark too;
-- Gone comes right after its own mark
pub record Retires (b : Books) (number : ℕ) (c : Books) : Type 0 where
  pub end : End
  pub closed : is_closed b end ≡ true
  pub peer_closed : is_closed b (opposite_end end) ≡ true
  pub neither : (s : Side) → is_retired b (end_at end.pair s) ≡ false
  pub all_read : read b end ≡ length (b.put (opposite_end end))
  pub next : number ≡ length (b.put end)
  pub books : c ≡ add_put b end Gone

-- the sink of an end that is sent Gone drops it
pub record Drops (b : Books) (number : ℕ) (c : Books) : Type 0 where
  pub discards : Discards b number c
  pub gone : next_item b discards.end ≡ Some Gone

-- what a turn may be seen to do, and what that writes: a pending close writes the mark, a retire Gone, a discard that an item is gone, and
-- nothing else is written
abbrev pub PlainTurn : Books → Happened → Books → Type 0
PlainTurn b (events.Close e) c = c ≡ add_put b e Mark
PlainTurn b (events.Discard serial number) c = Discards b number c
PlainTurn b (events.DiscardLeave serial number) c = Drops b number c
PlainTurn b (events.Retire serial number link) c = Retires b number c
PlainTurn b other c = c ≡ b

-- a put gets the next number of its end, and is written
abbrev pub IsNextPut : Books → End → List ℕ → List End → ℕ → Books → Type 0
IsNextPut b at bytes ends number c =
    (number ≡ length (b.put at)) × (c ≡ add_put b at (Parcel (record { bytes = bytes; ends = ends })))

-- what the machine over books alone allows: an open gives both ends of a pair of which nothing is written; a put or a close gets the next
-- number of its end, and a get the next parcel of the peer; a refusal writes nothing. That no pair is opened twice can't be told by the
-- books alone: it is in the relation of steps
abbrev pub Plain : Books → Step → Reply → Books → Type 0
Plain b (Open n) (replies.Opened d e) c = (e ≡ opposite_end d) × IsUnwritten b d × IsUnwritten b e × (c ≡ b)
Plain b (Put n at bytes ends) (replies.Put number) c = IsNextPut b at bytes ends number c
Plain b (PutWide n at bytes ends) (replies.Put number) c = IsNextPut b at bytes ends number c
Plain b (Get n at) (replies.Got number p) c = (number ≡ read b at) × (next_item b at ≡ Some (Parcel p)) × (c ≡ add_got b at p)
Plain b (Close n at) (replies.Closed number) c = (number ≡ length (b.put at)) × (c ≡ add_put b at Mark)
Plain b (Turn n) (replies.Turned event) c = PlainTurn b event c
Plain b step (replies.Refused why) c = MayRefuse b step why × (c ≡ b)
Plain b step reply c = ⊥

-- a run of this machine: these steps, one after the other, get these replies and lead from one books to another
abbrev pub PlainRun : Books → List Step → List Reply → Books → Type 0
PlainRun b [] [] c = c ≡ b
PlainRun b [] (reply ∷ replies) c = ⊥
PlainRun b (step ∷ steps) [] c = ⊥
PlainRun b (step ∷ steps) (reply ∷ replies) c = (d : Books) × Plain b step reply d × PlainRun d steps replies c

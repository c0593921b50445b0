-- The accounts of the promise, read off the books, the routes and what nodes' callers hold: what ties a world to the plain machine of
-- specs/Promise. Who wants to know what is promised needn't read it: it is a name for "this world stands at these accounts".
use Rattle.std.specs.Prelude.{◌≡◌, ◌⊎◌, ◌≤◌, ◌<◌, ℕ, true, Some, List, [], ◌∷◌, length, slice_get}
use Rattle.ipcz_base.specs.declared.end.End.{End}
use Rattle.ipcz_base.specs.declared.parcel.Parcel as parcels
use Rattle.ipcz_base.specs.declared.item.Item.{Item}
use Rattle.ipcz_base.specs.declared.item.Item.TheVariants.{Parcel, Mark, Gone}
use Rattle.ipcz_base.specs.Ends.{has_end, opposite_end}
use Rattle.ipcz_base.specs.Items.{ends_in}
use Rattle.ipcz_node.specs.Node.{holds_end}
use Rattle.ipcz_base.specs.declared.refusal.Refusal.TheVariants.{Empty}
use Rattle.ipcz_world.specs.declared.step.Step.{Step}
use Rattle.ipcz_world.specs.declared.step.Step.TheVariants.{Get}
use Rattle.ipcz_world.specs.declared.step.Reply.{Reply}
use Rattle.ipcz_world.specs.declared.step.Reply.TheVariants.{Refused}
use Rattle.ipcz_world.specs.World.{World, node_at}
use Rattle.ipcz_world.specs.Books.{Books, is_closed, read}
use Rattle.ipcz_world.specs.Routes.{Routes, is_opened}
use Rattle.ipcz_world.specs.Lawful.{Lawful}
use Rattle.ipcz_world.specs.Settling.{IsQuiet}
use Rattle.ipcz_world.specs.Steps.{StepAny}
use Rattle.ipcz_promise.specs.Promise.{Account, HasClosedDropped, IsDelivered, May, holds}

-- the parcels in a list of items
abbrev pub parcels_in : List Item → List parcels.Parcel
parcels_in [] = []
parcels_in (Parcel p ∷ items) = p ∷ parcels_in items
parcels_in (Mark ∷ items) = parcels_in items
parcels_in (Gone ∷ items) = parcels_in items

-- an end lies in an item that was put for a closed end, and that this one never got
pub record IsUngotAt (b : Books) (e : End) : Type 0 where
  pub at : End
  pub closed : is_closed b at ≡ true
  pub number : ℕ
  pub item : Item
  pub put : slice_get (b.put (opposite_end at)) number ≡ Some item
  pub ungot : length (b.got at) ≤ number
  pub carried : has_end e (ends_in item) ≡ true

-- the close of an end is pending at some node
abbrev pub IsPending : World → End → Type 0
IsPending w e = (n : ℕ) × (n < w.count) × (has_end e (node_at w n).pending ≡ true)

-- the closes that are pending are of such ends; and each end in an item that a closed end has read, but not got, is one of them, or closed
pub record PendingFits (w : World) (b : Books) : Type 0 where
  pub ungot : (n : ℕ) (e : End) → n < w.count → has_end e (node_at w n).pending ≡ true → IsUngotAt b e
  pub closes : (e : End) (is : IsUngotAt b e) → is.number < read b is.at → IsPending w e ⊎ (is_closed b e ≡ true)

-- the world stands at these accounts: they are those of books and routes with which it is lawful, and of what its nodes' callers hold
pub record Stands (w : World) (a : Account) : Type 0 where
  pub books : Books
  pub routes : Routes
  pub lawful : Lawful w books routes
  pub nodes : a.nodes ≡ w.count
  pub opened : (pair : ℕ) → a.opened pair ≡ true → is_opened routes pair ≡ true
  pub holder : (n : ℕ) (e : End) → n < w.count → holds_end (node_at w n) e ≡ holds a n e
  pub real : (n : ℕ) (e : End) → a.holder e ≡ Some n → n < w.count
  pub put : (e : End) → a.put e ≡ parcels_in (books.put e)
  pub got : (e : End) → a.got e ≡ books.got e
  pub closed : (e : End) → a.closed e ≡ is_closed books e
  pub pending : PendingFits w books

-- the world keeps these accounts
pub record Keeps (w : World) (a : Account) : Type 0 where
  pub stands : Stands w a
  pub words : a.words ≡ w.size

-- a step gets a reply that the plain machine may give, and the accounts go on as it says
abbrev pub IsPromised : World → Account → Step → Reply → World → Type 0
IsPromised w a step reply v = (c : Account) × May a step reply c × Keeps v c

-- law: each step does, whichever possible act a turn takes
abbrev pub StepsKeepThePromise : Type 0
StepsKeepThePromise =
    (w v : World) (a : Account) (step : Step) (reply : Reply) → Keeps w a → StepAny w step reply v → IsPromised w a step reply v

-- law: if nothing waits, a get is Empty only if all that the peer has put was got, and the peer isn't closed
abbrev pub RestDelivers : Type 0
RestDelivers =
    (w v : World) (a : Account) (n : ℕ) (at : End) → Keeps w a → IsQuiet w → StepAny w (Get n at) (Refused Empty) v → IsDelivered a at

-- law: and then each portal that was dropped is closed
abbrev pub RestCloses : Type 0
RestCloses = (w : World) (a : Account) → Keeps w a → IsQuiet w → HasClosedDropped a

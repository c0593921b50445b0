-- What a look at a terminal tells of its in queue.
-- (ipcz: QueryPortalStatus.)
use Rattle.std.specs.Prelude.{◌≡◌, ℕ, ◌+◌, ◌<◌, Bool, if◌then◌else◌, None, Some}
use Rattle.ipcz_base.specs.declared.item.Item.{Item}
use Rattle.ipcz_base.specs.declared.refusal.Refusal.{Refusal}
use Rattle.ipcz_base.specs.declared.refusal.Refusal.TheVariants.{Empty, PeerClosed}
use Rattle.ipcz_base.specs.declared.status.PortalStatus.{PortalStatus}
use Rattle.ipcz_seq.specs.Queue.{Queue, current_item, item_at}
use Rattle.ipcz_router.specs.Calls.{item_refusal, sizes_found}

-- why a get behind the last parcel is refused, where the peer has closed or not
abbrev pub refusal_behind : Bool → Refusal
refusal_behind peer_closed = if peer_closed then PeerClosed else Empty

-- as many parcels stand in a row, from the current number on, and behind them stands what a get is refused for
pub record HasParcels (q : Queue Item) (count : ℕ) (peer_closed : Bool) : Type 0 where
  pub given : (i : ℕ) → i < count → item_refusal (item_at q (q.current + i)) ≡ None
  pub refused : item_refusal (item_at q (q.current + count)) ≡ Some (refusal_behind peer_closed)

-- what a look tells of the queue: the number and the sizes of the next parcel, and how many stand in a row
pub record IsStatus (q : Queue Item) (s : PortalStatus) : Type 0 where
  pub next : s.next ≡ q.current
  pub sizes : s.sizes ≡ sizes_found (current_item q)
  pub parcels : HasParcels q s.waiting s.peer_closed

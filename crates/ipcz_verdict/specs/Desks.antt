-- The judge's own books, and what they have to do with the machine's accounts.
use Rattle.std.specs.Prelude.{◌≡◌, ◌⊎◌, ◌≤◌, ◌<◌, ◌+◌, ◌*◌, ℕ, zero, suc, Bool, true, false, not, ◌&&◌, ◌||◌, nat_eq, nat_lt, nat_le, Option, Some, None, is_none, List, [], ◌∷◌, ◌++◌}
use Rattle.std.specs.Prelude.{length, drop, slice_get, bytes_eq, MatchBool, if◌then◌else◌}
use Rattle.std.specs.Option.{unwrap_or}
use Rattle.std.specs.FinMap.{get}
use Rattle.ipcz_base.specs.declared.side.Side.{Side}
use Rattle.ipcz_base.specs.declared.side.Side.TheVariants.{A, B}
use Rattle.ipcz_base.specs.declared.end.End.{End}
use Rattle.ipcz_base.specs.declared.parcel.Parcel.{Parcel}
use Rattle.ipcz_base.specs.declared.profile.Profile.{Profile}
use Rattle.ipcz_base.specs.declared.refusal.Refusal.{Refusal}
use Rattle.ipcz_base.specs.declared.refusal.Refusal.TheVariants as why
use Rattle.ipcz_base.specs.Ends.{has_end}
use Rattle.ipcz_base.specs.Limits.{last_number}
use Rattle.ipcz_base.specs.Refusals.{code_of}
use Rattle.ipcz_node.specs.FirstPairs.{first_pairs}
use Rattle.ipcz_world.specs.declared.step.Step.{Step}
use Rattle.ipcz_world.specs.declared.step.Reply.{Reply}
use Rattle.ipcz_promise.specs.Promise.{Account, IsDropped, May, holds, peer}
use Rattle.ipcz_script.specs.Labels.{Labels, first_labels}
use Rattle.ipcz_verdict.specs.declared.portal.Portal.{Portal}
use Rattle.ipcz_verdict.specs.declared.line.Line.{Line}
use Rattle.ipcz_verdict.specs.Accounts.{IsSound}
use Rattle.ipcz_verdict.specs.Ledger.{Ledger, MayLine, MayLog, MayRest, MayTurns, first_ledger}

-- ---- the books

-- a portal of which nothing is known
abbrev pub absent : Portal
absent = record { holder = None; closed = false; put = 0; got = 0; waiting = [] }

-- where the book of a portal stands
abbrev pub side_index : Side → ℕ
side_index A = 0
side_index B = 1

abbrev pub index : End → ℕ
index e = 2 * e.pair + side_index e.side

-- among so many books that of the portal stands here, or it is not among them
abbrev pub IsIndex : ℕ → End → ℕ → Type 0
IsIndex count e i = (i < count → i ≡ index e) × (count ≤ i → count ≤ index e)

-- a portal of a new pair
abbrev pub held_by : ℕ → Portal
held_by node = record { holder = Some node; closed = false; put = 0; got = 0; waiting = [] }

abbrev pub portal_at : List Portal → End → Portal
portal_at s e = unwrap_or (slice_get s (index e)) absent

-- accounts with these holders: all that tests of holders look at
abbrev pub account_of : List Portal → Account
account_of s = record {
  nodes = 0;
  words = 0;
  opened = λ pair. false;
  holder = λ e. (portal_at s e).holder;
  put = λ e. [];
  got = λ e. [];
  closed = λ e. (portal_at s e).closed;
}

-- the books with a change of one of them, if it is there
abbrev pub change : List Portal → ℕ → (Portal → Portal) → List Portal
change [] i f = []
change (p ∷ s) zero f = f p ∷ s
change (p ∷ s) (suc i) f = p ∷ change s i f

abbrev pub holding : List Portal → End → Option ℕ → List Portal
holding s e node = change s (index e) (λ p. record p { holder = node })

abbrev pub holding_each : List Portal → List End → Option ℕ → List Portal
holding_each s [] holder = s
holding_each s (e ∷ es) holder = holding_each (holding s e holder) es holder

abbrev pub counted : Portal → Portal
counted p = record p { put = p.put + 1 }

abbrev pub counting_put : List Portal → End → List Portal
counting_put s e = change s (index e) counted

abbrev pub pushing : List Portal → End → Parcel → List Portal
pushing s e parcel = change s (index e) (λ p. record p { waiting = p.waiting ++ parcel ∷ [] })

abbrev pub took : Portal → Portal
took p = record p { got = p.got + 1; waiting = drop 1 p.waiting }

abbrev pub taking : List Portal → End → List Portal
taking s e = change s (index e) took

-- a portal was closed: what waits for it is dropped
abbrev pub shut : Portal → Portal
shut p = record p { holder = None; closed = true; waiting = [] }

abbrev pub closing : List Portal → End → List Portal
closing s e = change s (index e) shut

-- the portals in some parcels
abbrev pub ends_in : List Parcel → List End
ends_in [] = []
ends_in (p ∷ parcels) = p.ends ++ ends_in parcels

-- ---- the books and the accounts

-- the books tell what the accounts do: of each portal who holds it, whether it is closed, how much was put and got at it, and, while it is open,
-- which parcels wait for it
pub record AreBooksOf (a : Account) (pairs : ℕ) (s : List Portal) : Type 0 where
  pub size : length s ≡ 2 * pairs
  pub opened : (pair : ℕ) → a.opened pair ≡ nat_lt pair pairs
  pub holder : (e : End) → a.holder e ≡ (portal_at s e).holder
  pub closed : (e : End) → a.closed e ≡ (portal_at s e).closed
  pub put : (e : End) → length (a.put e) ≡ (portal_at s e).put
  pub got : (e : End) → length (a.got e) ≡ (portal_at s e).got
  pub waiting : (e : End) → (portal_at s e).closed ≡ false → drop (length (a.got e)) (a.put (peer e)) ≡ (portal_at s e).waiting

-- the same, and the accounts are sound; and each portal that was dropped is closed, but for those of a list, which were dropped all
pub record AreDue (a : Account) (pairs : ℕ) (s : List Portal) (dropped : List End) : Type 0 where
  pub sound : IsSound a
  pub some_node : 0 < a.nodes
  pub books : AreBooksOf a pairs s
  pub due : (e : End) → has_end e dropped ≡ true → IsDropped a e
  pub rest : (e : End) → IsDropped a e → (a.closed e ≡ true) ⊎ (has_end e dropped ≡ true)

-- what closing dropped portals does: turns of nodes lead to accounts that the new books tell, and these portals are left
abbrev pub ClosesSome : List Portal → List End → List Portal → List End → Type 0
ClosesSome old dropped new left =
    (a : Account) (pairs : ℕ) → AreDue a pairs old dropped → (c : Account) × MayTurns a c × (c.nodes ≡ a.nodes) × AreDue c pairs new left

abbrev pub ClosesDropped : List Portal → List End → List Portal → Type 0
ClosesDropped old dropped new = ClosesSome old dropped new []

-- ---- what the books become

-- a put: its parcel waits for the peer, or is dropped if that is closed
abbrev pub sending : List Portal → End → List End → List Portal
sending s at ends = holding_each (counting_put s at) ends None

abbrev pub receiving : List Portal → ℕ → End → List End → List Portal
receiving s node at ends = holding_each (taking s at) ends (Some node)

abbrev pub opening : List Portal → ℕ → List Portal
opening s node = s ++ held_by node ∷ held_by node ∷ []

-- the books of a put: its parcel waits for the peer, or is dropped, if that is closed, and then the portals in it are closed
abbrev pub SendsOff : Bool → List Portal → End → Parcel → List Portal → Type 0
SendsOff false old at p new = new ≡ pushing (sending old at p.ends) (peer at) p
SendsOff true old at p new = ClosesDropped (sending old at p.ends) p.ends new

abbrev pub Sends : List Portal → End → Parcel → List Portal → Type 0
Sends old at p new = SendsOff (portal_at (sending old at p.ends) (peer at)).closed old at p new

-- ---- which refusals may come, by the books

abbrev pub same_refusal : Refusal → Refusal → Bool
same_refusal a b = nat_eq (code_of a) (code_of b)

abbrev pub may_refuse_open : ℕ → ℕ → Refusal → Bool
may_refuse_open nodes node why.Stranger = not (nat_lt node nodes)
may_refuse_open nodes node why.NoWord = nat_lt node nodes
may_refuse_open nodes node why.NumbersEnd = nat_lt node nodes
may_refuse_open nodes node why.OutOfMemory = nat_lt node nodes
may_refuse_open nodes node other = false

abbrev pub may_refuse_put : Option Refusal → List Portal → ℕ → ℕ → End → Refusal → Bool
may_refuse_put (Some first) s nodes node at refusal = same_refusal refusal first || (same_refusal refusal why.OutOfMemory && nat_lt node nodes)
may_refuse_put None s nodes node at why.PeerClosed = (portal_at s (peer at)).closed
may_refuse_put None s nodes node at why.NumbersEnd = nat_le last_number (portal_at s at).put
may_refuse_put None s nodes node at why.OutOfMemory = nat_lt node nodes
may_refuse_put None s nodes node at other = false

abbrev pub may_refuse_get : List Portal → ℕ → End → Refusal → Bool
may_refuse_get s node at why.Stranger = not (holds (account_of s) node at)
may_refuse_get s node at why.Empty = holds (account_of s) node at
may_refuse_get s node at why.PeerClosed = holds (account_of s) node at && ((portal_at s (peer at)).closed && is_none (slice_get (portal_at s at).waiting 0))
may_refuse_get s node at other = false

abbrev pub may_refuse_close : List Portal → ℕ → End → Refusal → Bool
may_refuse_close s node at why.Stranger = not (holds (account_of s) node at)
may_refuse_close s node at why.OutOfMemory = holds (account_of s) node at
may_refuse_close s node at other = false

-- ---- calls

-- a call was allowed: it and some turns lead to accounts that the new books tell
pub record HasCalled (a : Account) (pairs : ℕ) (step : Step) (reply : Reply) (new : List Portal) : Type 0 where
  pub called : Account
  pub rested : Account
  pub may : May a step reply called
  pub turns : MayTurns called rested
  pub nodes : rested.nodes ≡ a.nodes
  pub due : AreDue rested pairs new []

-- a call was judged: if it is allowed, so it is by the machine; and if it isn't, there is no way that it is
abbrev pub DecidesCall : List Portal → Step → Reply → Bool → List Portal → Type 0
DecidesCall old step reply allowed new =
    (a : Account) (pairs : ℕ) → AreDue a pairs old [] → MatchBool allowed (HasCalled a pairs step reply new) ((c : Account) → May a step reply c → ⊥)

-- the portals in the parcel that comes next at a portal, if a caller of the node may get it there with this number and these bytes
abbrev pub ends_if : Bool → List ℕ → Option Parcel → Option (List End)
ends_if false bytes parcel = None
ends_if true bytes None = None
ends_if true bytes (Some p) = if bytes_eq p.bytes bytes then Some p.ends else None

abbrev pub next_ends : List Portal → ℕ → End → ℕ → List ℕ → Option (List End)
next_ends s node at number bytes = ends_if (holds (account_of s) node at && nat_eq number (portal_at s at).got) bytes (slice_get (portal_at s at).waiting 0)

-- ---- a judge

-- what a judge has: how many nodes there are, what its puts may have in them, its books, how many pairs there are, and what names mean
pub record Desk : Type 0 where
  pub nodes : ℕ
  pub profile : Profile
  pub portals : List Portal
  pub pairs : ℕ
  pub labels : Labels

-- whether the node is one, and the names of a new pair are new and differ
abbrev pub may_open : Desk → ℕ → List ℕ → List ℕ → Bool
may_open d node first second = nat_lt node d.nodes && (is_none (get d.labels.names first) && (is_none (get d.labels.names second) && not (bytes_eq first second)))

-- the judge's books are those of a ledger
pub record IsAt (d : Desk) (l : Ledger) : Type 0 where
  pub nodes : l.account.nodes ≡ d.nodes
  pub due : AreDue l.account d.pairs d.portals []
  pub pairs : l.pairs ≡ d.pairs
  pub labels : l.labels ≡ d.labels

-- the books of the first pairs, and a judge before the first line
abbrev pub first_books : List (ℕ × ℕ) → List Portal
first_books [] = []
first_books (p ∷ ps) = held_by p.0 ∷ held_by p.1 ∷ first_books ps

abbrev pub first_desk : ℕ → Profile → Desk
first_desk nodes profile = record {
  nodes = nodes;
  profile = profile;
  portals = first_books (first_pairs nodes);
  pairs = length (first_pairs nodes);
  labels = first_labels nodes;
}

-- a line was judged: if it is allowed, it and some turns lead to a ledger that the new books tell; and if it isn't, there is no way that it is
abbrev pub Decides : Desk → Line → Bool → Desk → Type 0
Decides old line allowed new = (l : Ledger) → IsAt old l →
    MatchBool allowed ((m : Ledger) × (n : Ledger) × MayLine old.profile l line m × MayRest m n × IsAt new n × (new.profile ≡ old.profile))
    ((m : Ledger) → MayLine old.profile l line m → ⊥)

-- the one ledger is like the other, but for portals that only the other has closed
pub record IsBehind (m l : Ledger) : Type 0 where
  pub closed : End → Bool
  pub is : m.account ≡ record l.account { closed = closed }
  pub fewer : (e : End) → closed e ≡ true → l.account.closed e ≡ true
  pub labels : m.labels ≡ l.labels
  pub pairs : m.pairs ≡ l.pairs

-- WHAT A JUDGE TELLS: it has read this log of an implementation with so many nodes, which is allowed. (Each ledger that the log may lead to is that
-- of the books, but that some portals may still be open which the nodes' turns may close.) No more need be known of it than `IsAllowed` says
pub record HasAllowed (d : Desk) (nodes : ℕ) (profile : Profile) (log : List Line) : Type 0 where
  pub same_profile : d.profile ≡ profile
  pub ledger : Ledger
  pub run : MayLog profile (first_ledger nodes) log ledger
  pub at : IsAt d ledger
  pub most : (m : Ledger) → MayLog profile (first_ledger nodes) log m → IsBehind m ledger

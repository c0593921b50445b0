-- THE PROMISE: what a program that uses these portals may rely on, whatever happens inside.
--
-- It is a plain machine over one page of accounts: who holds which portal, what was put, what was got, what was closed. Nodes, routes and
-- messages don't occur in it. `Keeps w a` says that the world `w` stands at the accounts `a`, and needs no reading, since each call of this
-- crate hands it on (`ensures promise`): `new_world` makes a world that keeps `start`; a call on a world that keeps `a` gets a reply, and leaves
-- a world that keeps some `c` with `May a step reply c`. So whatever is called, in whatever order, all replies together are those of this
-- machine; `run` and `play` say it of whole lists. How it is proved isn't needed to rely on it.
--
-- For a reader of Rust: `f x y` is the call f(x, y); `A → B` is a function; `≡` is "is the same as"; `P × Q` is "P and Q", `P ⊎ Q` "P or Q"; `P → ⊥` is "not P";
-- `(x : T) → P` is "for each x" and `(x : T) × P` "there is an x"; `record` is a struct, and `record a { f = v }` is `a` with another field;
-- `λ e. ..` is a closure; `cond c x y` is `if c { x } else { y }`; `[]` is an empty list, `x ∷ xs` has `x` before `xs`, and `xs ++ x ∷ []` has `x`
-- behind `xs`; ℕ is a number. `End`, `Parcel`, `Refusal`, `Step` and `Reply` are the types of the API: an end of a pair is a portal.
use Rattle.std.specs.Prelude.{◌≡◌, ◌⊎◌, ◌≤◌, ◌<◌, ◌+◌, ℕ, Bool, true, false, cond, not, ◌&&◌, ◌||◌, nat_eq, nat_lt, if◌then◌else◌, Option, Some, None, List}
use Rattle.std.specs.Prelude.{[], ◌∷◌, ◌++◌, length, take, map, slice_get, Result, Ok, Err}
use Rattle.ipcz_base.specs.declared.side.Side.{Side}
use Rattle.ipcz_base.specs.declared.side.Side.TheVariants.{A, B}
use Rattle.ipcz_base.specs.declared.end.End.{End}
use Rattle.ipcz_base.specs.declared.parcel.Parcel.{Parcel}
use Rattle.ipcz_base.specs.declared.profile.Profile.{Profile}
use Rattle.ipcz_base.specs.declared.profile.Profile.TheVariants.{Printed, Wide}
use Rattle.ipcz_base.specs.declared.refusal.Refusal.{Refusal}
use Rattle.ipcz_base.specs.declared.refusal.Refusal.TheVariants as why
use Rattle.ipcz_base.specs.Ends.{opposite_end, same_end, has_end}
use Rattle.ipcz_base.specs.Limits.{last_number, most_bytes, most_ends, takes_bytes}
use Rattle.ipcz_node.specs.FirstPairs.{first_pairs}
use Rattle.ipcz_node.specs.declared.happened.Happened.{Happened}
use Rattle.ipcz_node.specs.declared.happened.Happened.TheVariants as events
use Rattle.ipcz_world.specs.declared.step.Step.{Step}
use Rattle.ipcz_world.specs.declared.step.Step.TheVariants.{Open, Put, PutWide, Get, Close, Turn}
use Rattle.ipcz_world.specs.declared.step.Reply.{Reply}
use Rattle.ipcz_world.specs.declared.step.Reply.TheVariants as replies
use Rattle.ipcz_world.specs.declared.step.Settled.{Settled}
use Rattle.ipcz_world.specs.declared.step.Settled.TheVariants as settles

-- 1. THE ACCOUNTS

pub record Account : Type 0 where
  -- how many nodes there are: they have the numbers below it
  pub nodes : ℕ
  -- how many words there are in all: each pair takes one, and nodes take more for themselves
  pub words : ℕ
  -- which pairs of portals there are, by their numbers
  pub opened : ℕ → Bool
  -- the node whose callers hold the portal: one at most. Nobody holds one that is closed, or that travels in a parcel
  pub holder : End → Option ℕ
  -- the parcels that were put at the portal and those that were got at it, each in their order
  pub put : End → List Parcel
  pub got : End → List Parcel
  -- whether the portal was closed
  pub closed : End → Bool

-- the peer of a portal: what is put at the one is got at the other
abbrev pub peer : End → End
peer e = opposite_end e

-- whether callers of a node hold a portal
abbrev pub is_holder : Option ℕ → ℕ → Bool
is_holder None node = false
is_holder (Some n) node = nat_eq n node

abbrev pub holds : Account → ℕ → End → Bool
holds a node e = is_holder (a.holder e) node

-- whether they hold each of these, and none stands twice
abbrev pub hold_each : Account → ℕ → List End → Bool
hold_each a node [] = true
hold_each a node (e ∷ es) = holds a node e && (not (has_end e es) && hold_each a node es)

-- the node whose callers hold a portal of a first pair at the start: there is one such pair for each two nodes, numbered in the order
-- (0, 1), (0, 2), .., (1, 2), .., and its portals are held at the one and at the other
abbrev pub first_holder : Option (ℕ × ℕ) → Side → Option ℕ
first_holder None side = None
first_holder (Some (i, j)) A = Some i
first_holder (Some (i, j)) B = Some j

-- the accounts at the start
abbrev pub start : ℕ → ℕ → Account
start nodes words = record {
  nodes = nodes;
  words = words;
  opened = λ pair. nat_lt pair (length (first_pairs nodes));
  holder = λ e. first_holder (slice_get (first_pairs nodes) e.pair) e.side;
  put = λ e. [];
  got = λ e. [];
  closed = λ e. false;
}

-- how the accounts go on: a new pair, held by the callers of the node that opened it
abbrev pub open_pair : Account → ℕ → End → Account
open_pair a node e = record a {
  opened = λ pair. nat_eq pair e.pair || a.opened pair;
  holder = λ d. cond (nat_eq d.pair e.pair) (Some node) (a.holder d);
}

-- a parcel was put: nobody holds the portals in it any more
abbrev pub put_parcel : Account → End → Parcel → Account
put_parcel a at p = record a {
  put = λ e. cond (same_end e at) (a.put at ++ p ∷ []) (a.put e);
  holder = λ e. cond (has_end e p.ends) None (a.holder e);
}

-- a parcel was got: the callers of this node hold the portals in it
abbrev pub get_parcel : Account → ℕ → End → Parcel → Account
get_parcel a node at p = record a {
  got = λ e. cond (same_end e at) (a.got at ++ p ∷ []) (a.got e);
  holder = λ e. cond (has_end e p.ends) (Some node) (a.holder e);
}

-- a portal was closed: nobody holds it any more
abbrev pub close_portal : Account → End → Account
close_portal a at = record a {
  closed = λ e. cond (same_end e at) true (a.closed e);
  holder = λ e. cond (same_end e at) None (a.holder e);
}

-- so many words were added: nothing else changes
abbrev pub more_words : Account → ℕ → Account
more_words a count = record a { words = a.words + count }

-- 2. WHAT IS ANSWERED

-- no portal of this pair was seen before
pub record IsNew (a : Account) (e : End) : Type 0 where
  pub unopened : a.opened e.pair ≡ false
  pub put : a.put e ≡ []
  pub got : a.got e ≡ []
  pub unclosed : a.closed e ≡ false

-- why a put is refused whatever the peer does, in this order: its caller doesn't hold the portal; the parcel has too many bytes or portals, or
-- a byte that its profile doesn't take; the portal itself or its peer is in it; or its caller doesn't hold each portal in it, once
abbrev pub first_refusal : Profile → Account → ℕ → End → List ℕ → List End → Option Refusal
first_refusal profile a node at bytes ends =
    if not (holds a node at) then Some why.Stranger
    else if nat_lt (most_bytes profile) (length bytes) || nat_lt most_ends (length ends) then Some why.TooMany
    else if not (takes_bytes profile bytes) then Some why.BadData
    else if has_end at ends then Some why.SelfAttach
    else if has_end (peer at) ends then Some why.PeerAttach
    else if not (hold_each a node ends) then Some why.Stranger
    else None

-- a put is accepted: nothing of that refuses it, and its number is how many were put here before
pub record IsPut (profile : Profile) (a : Account) (node : ℕ) (at : End) (p : Parcel) (number : ℕ) : Type 0 where
  pub accepted : first_refusal profile a node at p.bytes p.ends ≡ None
  pub numbered : number ≡ length (a.put at)

-- a get gives a parcel: its caller holds the portal; it is the first of the peer's parcels that wasn't got yet, whole, with its number; and
-- none of the portals in it is closed
pub record IsGot (a : Account) (node : ℕ) (at : End) (p : Parcel) (number : ℕ) : Type 0 where
  pub holds : holds a node at ≡ true
  pub numbered : number ≡ length (a.got at)
  pub next : slice_get (a.put (peer at)) number ≡ Some p
  pub unclosed : (e : End) → has_end e p.ends ≡ true → a.closed e ≡ false

-- which refusal a put may get: the first that is found so; if none is, that the peer is closed or the numbers are used up; and at a node that
-- is there want of memory at any time
abbrev pub MayRefusePut : Option Refusal → Account → ℕ → End → Refusal → Type 0
MayRefusePut (Some first) a node at refusal = (refusal ≡ first) ⊎ ((refusal ≡ why.OutOfMemory) × (node < a.nodes))
MayRefusePut None a node at why.PeerClosed = a.closed (peer at) ≡ true
MayRefusePut None a node at why.NumbersEnd = last_number ≤ length (a.put at)
MayRefusePut None a node at why.OutOfMemory = node < a.nodes
MayRefusePut None a node at other = ⊥

-- why a call is refused: it is a Stranger's exactly if the node isn't there or its callers don't hold the portal. A get is PeerClosed only if the
-- peer is closed and all that it put was got. When words, serials or memory are missing isn't told here, nor when a parcel has come (`Empty`:
-- see `IsDelivered`)
abbrev pub MayRefuse : Account → Step → Refusal → Type 0
MayRefuse a (Open n) why.Stranger = a.nodes ≤ n
MayRefuse a (Open n) why.NoWord = n < a.nodes
MayRefuse a (Open n) why.NumbersEnd = n < a.nodes
MayRefuse a (Open n) why.OutOfMemory = n < a.nodes
MayRefuse a (Put n at bytes ends) refusal = MayRefusePut (first_refusal Printed a n at bytes ends) a n at refusal
MayRefuse a (PutWide n at bytes ends) refusal = MayRefusePut (first_refusal Wide a n at bytes ends) a n at refusal
MayRefuse a (Get n at) why.Stranger = holds a n at ≡ false
MayRefuse a (Get n at) why.Empty = holds a n at ≡ true
MayRefuse a (Get n at) why.PeerClosed = (holds a n at ≡ true) × (a.closed (peer at) ≡ true) × (a.got at ≡ a.put (peer at))
MayRefuse a (Close n at) why.Stranger = holds a n at ≡ false
MayRefuse a (Close n at) why.OutOfMemory = holds a n at ≡ true
MayRefuse a (Turn n) why.Stranger = a.nodes ≤ n
MayRefuse a (Turn n) why.NumbersEnd = n < a.nodes
MayRefuse a (Turn n) why.OutOfMemory = n < a.nodes
MayRefuse a step other = ⊥

-- a portal lies in a parcel that was put for a closed portal, and that was never got there
pub record IsDropped (a : Account) (e : End) : Type 0 where
  pub at : End
  pub closed : a.closed at ≡ true
  pub number : ℕ
  pub parcel : Parcel
  pub put : slice_get (a.put (peer at)) number ≡ Some parcel
  pub ungot : length (a.got at) ≤ number
  pub carried : has_end e parcel.ends ≡ true

-- what a node's turn does to the accounts: nothing, unless it closes a portal that was dropped so, nobody holds and isn't closed
abbrev pub MayTurn : Account → Happened → Account → Type 0
MayTurn a (events.Close e) c = IsDropped a e × (a.holder e ≡ None) × (a.closed e ≡ false) × (c ≡ close_portal a e)
MayTurn a other c = c ≡ a

-- THE MACHINE: over these accounts this step may get this reply, and then these are the accounts. A refusal changes nothing
abbrev pub May : Account → Step → Reply → Account → Type 0
May a (Open n) (replies.Opened d e) c = (n < a.nodes) × (e ≡ peer d) × IsNew a d × IsNew a e × (c ≡ open_pair a n d)
May a (Put n at bytes ends) (replies.Put number) c =
    IsPut Printed a n at (record { bytes = bytes; ends = ends }) number × (c ≡ put_parcel a at (record { bytes = bytes; ends = ends }))
May a (PutWide n at bytes ends) (replies.Put number) c =
    IsPut Wide a n at (record { bytes = bytes; ends = ends }) number × (c ≡ put_parcel a at (record { bytes = bytes; ends = ends }))
May a (Get n at) (replies.Got number p) c = IsGot a n at p number × (c ≡ get_parcel a n at p)
May a (Close n at) (replies.Closed number) c = (holds a n at ≡ true) × (number ≡ length (a.put at)) × (c ≡ close_portal a at)
May a (Turn n) (replies.Turned event) c = (n < a.nodes) × MayTurn a event c
May a step (replies.Refused refusal) c = MayRefuse a step refusal × (c ≡ a)
May a step reply c = ⊥

-- 3. RUNS AND REST

-- these steps, one after the other, may get these replies, and then these are the accounts
abbrev pub MayRun : Account → List Step → List Reply → Account → Type 0
MayRun a [] [] c = c ≡ a
MayRun a [] (reply ∷ replies) c = ⊥
MayRun a (step ∷ steps) [] c = ⊥
MayRun a (step ∷ steps) (reply ∷ replies) c = (b : Account) × May a step reply b × MayRun b steps replies c

-- how many turns a settle took: as many as it answers if nothing waits then, all that its limit allows if something does, and fewer if the next
-- turn was refused
abbrev pub TookTurns : ℕ → Result Settled Refusal → ℕ → Type 0
TookTurns limit (Ok (settles.Settled after)) turns = (turns ≡ after) × (turns ≤ limit)
TookTurns limit (Ok settles.Unsettled) turns = turns ≡ limit
TookTurns limit (Err refusal) turns = turns < limit

-- a settle lets nodes take turns, and does nothing else: turns of these nodes, in which this was seen
abbrev pub MaySettle : Account → ℕ → Result Settled Refusal → Account → Type 0
MaySettle a limit result c =
    (nodes : List ℕ) × (seen : List Happened) × TookTurns limit result (length seen) × MayRun a (map Turn nodes) (map replies.Turned seen) c

-- at each portal was got, in order and once each, a first part of what was put at its peer
abbrev pub IsInOrder : Account → Type 0
IsInOrder a = (e : End) → take (length (a.got e)) (a.put (peer e)) ≡ a.got e

-- Rest. A settle that answers Settled tells that nothing waits (`ensures quiet`), and `is_quiet` tells whether it is so; it stays so while there are
-- only gets. Then a get is Empty only if this is so (`ensures delivered`): all that was put at the peer was got, and the peer isn't closed. So at
-- rest gets give all that was put, and then Empty, or PeerClosed if the peer is closed
abbrev pub IsDelivered : Account → End → Type 0
IsDelivered a at = (a.got at ≡ a.put (peer at)) × (a.closed (peer at) ≡ false)

-- and each portal that was dropped is closed then (`ensures closes`)
abbrev pub HasClosedDropped : Account → Type 0
HasClosedDropped a = (e : End) → IsDropped a e → a.closed e ≡ true

-- WHAT FOLLOWS, in words. A parcel is got whole or not at all, in order, once, at the peer of where it was put, and by a holder. A portal has one
-- holder at most; who puts it into a parcel loses it, and who gets the parcel holds it. Who closes a portal loses it for good; its peer goes on to
-- get what was put before, and then PeerClosed; what is put for it may still be accepted, until the peer's node has heard of it, and is dropped.
-- Portals in parcels that are dropped so, or wait at a closed portal, nobody holds again: nodes close these by turns of their own, and no others.
-- Portals may be put for each other in a circle, each in a parcel that only the holder of another could get: then nobody holds any of them, nothing
-- of them is got or closed any more, and the nodes may never come to rest. That a settle answers Settled isn't promised here: docs/THEOREM.md says when.
-- Nor is it promised that memory, words or serials are found: those refusals may come at any time, and change nothing.

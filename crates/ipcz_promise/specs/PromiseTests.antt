-- What the promise refuses: short transcripts of wrong worlds, none of which the plain machine allows. Two nodes, whose callers hold the two
-- portals of the first pair: node 0's hold `left`, node 1's `right`.
use Rattle.std.specs.Prelude.{ℕ, List, [], ◌∷◌}
use Rattle.ipcz_base.specs.declared.side.Side.TheVariants.{A, B}
use Rattle.ipcz_base.specs.declared.end.End.{End}
use Rattle.ipcz_base.specs.declared.parcel.Parcel.{Parcel}
use Rattle.ipcz_base.specs.declared.refusal.Refusal.TheVariants.{Empty, PeerClosed, SelfAttach, Stranger}
use Rattle.ipcz_node.specs.declared.happened.Happened.TheVariants as events
use Rattle.ipcz_world.specs.declared.step.Step.{Step}
use Rattle.ipcz_world.specs.declared.step.Step.TheVariants.{Open, Put, Get, Close, Turn}
use Rattle.ipcz_world.specs.declared.step.Reply.{Reply}
use Rattle.ipcz_world.specs.declared.step.Reply.TheVariants as replies
use Rattle.ipcz_promise.specs.Promise.{Account, MayRun, IsDelivered, start}

abbrev pub left : End
left = record { pair = 0; side = A }

abbrev pub right : End
right = record { pair = 0; side = B }

-- another pair's portal
abbrev pub third : End
third = record { pair = 1; side = A }

abbrev pub fourth : End
fourth = record { pair = 1; side = B }

-- what such a parcel is
abbrev pub parcel : List ℕ → List End → Parcel
parcel bytes ends = record { bytes = bytes; ends = ends }

-- these steps never get these replies
abbrev pub Refuses : List Step → List Reply → Type 0
Refuses steps replies = (c : Account) → MayRun (start 2 8) steps replies c → ⊥

pub record PromiseRefuses : Type 0 where
  -- the first parcel is lost or overtaken: the get gives the second one
  pub lost : (i : ℕ) → Refuses (Put 0 left (97 ∷ []) [] ∷ Put 0 left (98 ∷ []) [] ∷ Get 1 right ∷ [])
      (replies.Put 0 ∷ replies.Put 1 ∷ replies.Got i (parcel (98 ∷ []) []) ∷ [])
  -- one parcel is got twice
  pub doubled : (i j : ℕ) → Refuses (Put 0 left (97 ∷ []) [] ∷ Get 1 right ∷ Get 1 right ∷ [])
      (replies.Put 0 ∷ replies.Got i (parcel (97 ∷ []) []) ∷ replies.Got j (parcel (97 ∷ []) []) ∷ [])
  -- its bytes are changed
  pub changed : (i : ℕ) → Refuses (Put 0 left (97 ∷ []) [] ∷ Get 1 right ∷ [])
      (replies.Put 0 ∷ replies.Got i (parcel (98 ∷ []) []) ∷ [])
  -- it comes back at the portal that it was put at
  pub returned : (i : ℕ) → Refuses (Put 0 left (97 ∷ []) [] ∷ Get 0 left ∷ [])
      (replies.Put 0 ∷ replies.Got i (parcel (97 ∷ []) []) ∷ [])
  -- it is given to a node that doesn't hold the portal
  pub stolen : (i : ℕ) → Refuses (Put 0 left (97 ∷ []) [] ∷ Get 0 right ∷ [])
      (replies.Put 0 ∷ replies.Got i (parcel (97 ∷ []) []) ∷ [])
  -- a portal that was put into a parcel can still be used
  pub kept : Refuses (Open 0 ∷ Put 0 left (97 ∷ []) (third ∷ []) ∷ Close 0 third ∷ [])
      (replies.Opened third fourth ∷ replies.Put 0 ∷ replies.Closed 0 ∷ [])
  -- a pair is opened a second time
  pub opened_again : Refuses (Open 0 ∷ []) (replies.Opened left right ∷ [])
  -- a closed portal takes a parcel
  pub closed : Refuses (Close 0 left ∷ Put 0 left (97 ∷ []) [] ∷ []) (replies.Closed 0 ∷ replies.Put 0 ∷ [])
  -- the peer is told to be closed though a parcel wasn't got
  pub unread : Refuses (Put 0 left (97 ∷ []) [] ∷ Close 0 left ∷ Get 1 right ∷ [])
      (replies.Put 0 ∷ replies.Closed 1 ∷ replies.Refused PeerClosed ∷ [])
  -- the holder of a portal is told to be a stranger
  pub stranger : Refuses (Get 1 right ∷ []) (replies.Refused Stranger ∷ [])
  -- a node closes a portal that callers hold
  pub taken : Refuses (Turn 0 ∷ []) (replies.Turned (events.Close left) ∷ [])
  -- a node closes a portal in a parcel that its receiver may still get
  pub undropped : Refuses (Open 0 ∷ Put 0 left (97 ∷ []) (third ∷ []) ∷ Turn 0 ∷ [])
      (replies.Opened third fourth ∷ replies.Put 0 ∷ replies.Turned (events.Close third) ∷ [])
  -- a stranger is told what else is wrong with its put
  pub order : Refuses (Put 1 left (97 ∷ []) (left ∷ []) ∷ []) (replies.Refused SelfAttach ∷ [])
  -- at rest, Empty though a parcel waits
  pub waiting : (c : Account) → MayRun (start 2 8) (Put 0 left (97 ∷ []) [] ∷ []) (replies.Put 0 ∷ []) c → IsDelivered c right → ⊥

-- and what it allows: a parcel is got, and then nothing is left
abbrev pub PromiseAllows : Type 0
PromiseAllows =
    (c : Account) × MayRun (start 2 8) (Put 0 left (97 ∷ []) [] ∷ Get 1 right ∷ Get 1 right ∷ [])
    (replies.Put 0 ∷ replies.Got 0 (parcel (97 ∷ []) []) ∷ replies.Refused Empty ∷ []) c

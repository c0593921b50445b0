-- The node: its routers, what it has to send, what it couldn't use, and what its callers hold.
-- (ipcz: Node. Outboxes, strays and serials are this project's own.)
use Rattle.std.specs.Prelude.{ℕ, ◌+◌, Bool, ◌&&◌, if◌then◌else◌, Option, Some, None, is_some, List, [], ◌∷◌, ◌++◌, replicate}
use Rattle.std.specs.Ordering.{nat_cmp}
use Rattle.std.specs.FinMap.{FinMap, get, insert, remove, empty, entries}
use Rattle.std.specs.FinSet as sets
use Rattle.ipcz_base.specs.declared.side.Side.{Side}
use Rattle.ipcz_base.specs.declared.end.End.{End}
use Rattle.ipcz_base.specs.declared.link_id.LinkId.{LinkId}
use Rattle.ipcz_base.specs.declared.message.Message.{Message}
use Rattle.ipcz_base.specs.Ends.{same_end, end_at}
use Rattle.ipcz_base.specs.Indexed.{place_at, put_place}
use Rattle.ipcz_base.specs.Links.{central_end}
use Rattle.ipcz_base.specs.Orders.{end_cmp}
use Rattle.ipcz_router.specs.Router.{Router, is_open_terminal, router_has, terminal, source_of, word_side as router_word_side}

-- a set of ends
abbrev pub EndSet : Type 0
EndSet = sets.FinSet end_cmp

-- a node as contracts see it
pub record Node : Type 0 where
  -- its number, and how many nodes there are
  pub number : ℕ
  pub count : ℕ
  -- its routers by serial
  pub routers : FinMap nat_cmp Router
  -- the messages that wait to be posted, by destination
  pub outboxes : List (List Message)
  -- the ends that are still to be closed, since a sink dropped the parcels that had them
  pub pending : List End
  -- the messages that didn't fit
  pub strays : List Message
  -- the ends that its callers hold
  pub held : EndSet
  -- the sender of the message in hand
  pub hand : Option ℕ
  -- the word that was claimed for an open which isn't done yet
  pub opening : Option ℕ
  -- the serials that the next router and the next peripheral link get
  pub next_router : ℕ
  pub next_peripheral : ℕ

-- the router of a serial
abbrev pub router_in : Node → ℕ → Option Router
router_in n serial = get n.routers serial

-- the word of a router's outward primary link with the side of its end, if there is such a router and such a word
abbrev pub word_at : Option Router → Option (ℕ × Side)
word_at None = None
word_at (Some r) = router_word_side r

-- the same, of the router of a serial
abbrev pub word_side : Node → ℕ → Option (ℕ × Side)
word_side n serial = word_at (router_in n serial)

-- the node inward of a router, if there is such a router and it is a proxy
abbrev pub source_at : Option Router → Option ℕ
source_at None = None
source_at (Some r) = source_of r

-- the same, of the router of a serial
abbrev pub source_in : Node → ℕ → Option ℕ
source_in n serial = source_at (router_in n serial)

-- the node with this router under the serial
abbrev pub with_router : Node → ℕ → Router → Node
with_router n serial r = record n { routers = insert n.routers serial r }

-- the node without the router of the serial
abbrev pub without_router : Node → ℕ → Node
without_router n serial = record n { routers = remove n.routers serial }

-- the node with a new router under the next serial
abbrev pub add_router : Node → Router → Node
add_router n r = record n { routers = insert n.routers n.next_router r; next_router = n.next_router + 1 }

-- the messages that wait to be posted to a node
abbrev pub outbox : Node → ℕ → List Message
outbox n to = place_at [] n.outboxes to

-- the node with other messages waiting for a destination
abbrev pub with_outbox : Node → ℕ → List Message → Node
with_outbox n to messages = record n { outboxes = put_place [] n.outboxes to messages }

-- the node with a message more waiting for a destination
abbrev pub push_out : Node → ℕ → Message → Node
push_out n to message = with_outbox n to (outbox n to ++ message ∷ [])

-- the node with a message more that didn't fit
abbrev pub add_stray : Node → Message → Node
add_stray n m = record n { strays = n.strays ++ m ∷ [] }

-- whether callers of the node hold the end
abbrev pub holds_end : Node → End → Bool
holds_end n end = sets.contains n.held end

-- the set with these ends more
abbrev pub with_ends : EndSet → List End → EndSet
with_ends held [] = held
with_ends held (e ∷ es) = with_ends (sets.insert held e) es

-- the set without any of these ends
abbrev pub without_ends : EndSet → List End → EndSet
without_ends held [] = held
without_ends held (e ∷ es) = without_ends (sets.remove held e) es

-- the node with these ends more that its callers hold
abbrev pub hold_ends : Node → List End → Node
hold_ends n ends = record n { held = with_ends n.held ends }

-- the node with these ends that its callers hold no more
abbrev pub release_ends : Node → List End → Node
release_ends n ends = record n { held = without_ends n.held ends }

-- a router that was found, with its serial
pub record Found : Type 0 where
  pub serial : ℕ
  pub router : Router

-- this router under this serial
abbrev pub found : ℕ → Router → Found
found serial r = record { serial = serial; router = r }

-- the first entry whose router passes a test
unfoldable pub first_where : (Router → Bool) → List (ℕ × Router) → Option Found
first_where test [] = None
first_where test (e ∷ es) = if test e.1 then Some (found e.0 e.1) else first_where test es

-- the router of the lowest serial that passes a test
abbrev pub find_router : Node → (Router → Bool) → Option Found
find_router n test = first_where test (entries n.routers)

-- whether a router is the open terminal of an end
abbrev pub is_terminal_of : End → Router → Bool
is_terminal_of end r = is_open_terminal r && same_end r.end end

-- the open terminal of an end, that of the lowest serial
abbrev pub terminal_of : Node → End → Option Found
terminal_of n end = find_router n (is_terminal_of end)

-- the router that has a link at a side, that of the lowest serial
abbrev pub link_router : Node → LinkId → Side → Option Found
link_router n link side = find_router n (λ r. router_has r link side)

-- whether a router of the node has the link at the side
abbrev pub is_named : Node → LinkId → Side → Bool
is_named n link side = is_some (link_router n link side)

-- the flagged router of the lowest serial
abbrev pub flagged_router : Node → Option Found
flagged_router n = find_router n (λ r. r.flagged)

-- the node after what is done with a router that was found, or unchanged
unfoldable pub on_found : Node → Option Found → (ℕ → Router → Node) → Node
on_found n None change = n
on_found n (Some f) change = change f.serial f.router

-- the node after what is done with the router of a serial, or unchanged
unfoldable pub on_router : Node → Option Router → (Router → Node) → Node
on_router n None change = n
on_router n (Some r) change = change r

-- the new terminal of a pair at a side, on the link of the pair's own word, toward the node of the other side
abbrev pub new_end : ℕ → Side → ℕ → Router
new_end pair side other = terminal (end_at pair side) (central_end pair side other) 0

-- the node with the terminal of a new pair's side, held by its callers
abbrev pub add_end : Node → ℕ → Side → ℕ → Node
add_end n pair side other = hold_ends (add_router n (new_end pair side other)) (end_at pair side ∷ [])

-- how many outboxes a node keeps: one for each number that a node could have
abbrev pub outbox_count : ℕ
outbox_count = 256

-- a node without routers
abbrev pub bare_node : ℕ → ℕ → Node
bare_node number count = record {
  number = number;
  count = count;
  routers = empty;
  outboxes = replicate outbox_count [];
  pending = [];
  strays = [];
  held = sets.empty;
  hand = None;
  opening = None;
  next_router = 0;
  next_peripheral = 0;
}

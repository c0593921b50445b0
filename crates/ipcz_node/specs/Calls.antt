-- What callers do at a node: open a pair, put, get and close, with the refusals of each in their order.
-- (ipcz: OpenPortals, Put, Get and Close.)
use Rattle.std.specs.Prelude.{ℕ, Bool, true, false, not, ◌&&◌, ◌||◌, nat_lt, if◌then◌else◌, Option, Some, None, option_map, List, [], ◌∷◌, length}
use Rattle.ipcz_base.specs.declared.side.Side.TheVariants.{A, B}
use Rattle.ipcz_base.specs.declared.end.End.{End}
use Rattle.ipcz_base.specs.declared.parcel.Parcel as parcels
use Rattle.ipcz_base.specs.declared.parcel.Sizes.{Sizes}
use Rattle.ipcz_base.specs.declared.profile.Profile.{Profile}
use Rattle.ipcz_base.specs.declared.item.Item.{Item}
use Rattle.ipcz_base.specs.declared.item.Item.TheVariants.{Parcel, Mark, Gone}
use Rattle.ipcz_base.specs.declared.refusal.Refusal.{Refusal}
use Rattle.ipcz_base.specs.declared.refusal.Refusal.TheVariants.{Stranger, TooMany, BadData, SelfAttach, PeerAttach, PeerClosed, NumbersEnd}
use Rattle.ipcz_base.specs.Ends.{opposite_end, has_end}
use Rattle.ipcz_base.specs.Items.{ends_in, sizes_of}
use Rattle.ipcz_base.specs.Limits.{takes_bytes, most_bytes, most_ends, has_serials}
use Rattle.ipcz_seq.specs.Queue.{current_item}
use Rattle.ipcz_router.specs.Router.{Router}
use Rattle.ipcz_router.specs.Calls.{next_number, put_item, router_get_refusal, take_item}
use Rattle.ipcz_router.specs.Calls.{router_put_refusal}
use Rattle.ipcz_router.specs.Closing.{close_router}
use Rattle.ipcz_node.specs.Node.{Node, Found, terminal_of, on_found, with_router, add_end, holds_end, hold_ends, release_ends}

-- why a pair isn't opened, memory and words aside: no serials are left
abbrev pub serials_refusal : Node → Option Refusal
serials_refusal n = if has_serials n.next_router 2 then None else Some NumbersEnd

-- the node with a new pair on the link of this word, side A's terminal first
abbrev pub open_node : Node → ℕ → Node
open_node n word = record (add_end (add_end n word A n.number) word B n.number) { opening = None }

-- whether callers of the node hold each of these ends, and none stands twice
abbrev pub are_held_once : Node → List End → Bool
are_held_once n [] = true
are_held_once n (e ∷ es) = holds_end n e && (not (has_end e es) && are_held_once n es)

-- what a refusal is at the terminal that was found: an end without one is a stranger
unfoldable pub refusal_at : Option Found → (Router → Option Refusal) → Option Refusal
refusal_at None why = Some Stranger
refusal_at (Some f) why = why f.router

-- whether these are too many bytes or ends for a parcel of a profile
abbrev pub are_too_many : Profile → List ℕ → List End → Bool
are_too_many profile bytes ends = nat_lt (most_bytes profile) (length bytes) || nat_lt most_ends (length ends)

-- why a put is refused, memory aside
unfoldable pub put_refusal : Profile → Node → End → List ℕ → List End → Option Refusal
put_refusal profile n at bytes ends =
    if not (holds_end n at) then Some Stranger
    else if are_too_many profile bytes ends then Some TooMany
    else if not (takes_bytes profile bytes) then Some BadData
    else if has_end at ends then Some SelfAttach
    else if has_end (opposite_end at) ends then Some PeerAttach
    else if not (are_held_once n ends) then Some Stranger
    else refusal_at (terminal_of n at) router_put_refusal

-- the node with a parcel put at this router, its ends no longer held
abbrev pub put_at_router : Node → parcels.Parcel → ℕ → Router → Node
put_at_router n p serial r = release_ends (with_router n serial (put_item r (Parcel p))) p.ends

-- the node after a put
abbrev pub put_node : Node → End → parcels.Parcel → Node
put_node n at p = on_found n (terminal_of n at) (put_at_router n p)

-- a number of the terminal that was found
unfoldable pub number_at : Option Found → (Router → ℕ) → ℕ
number_at None number = 0
number_at (Some f) number = number f.router

-- the number that a put gives its parcel, or a close its mark
abbrev pub put_number : Node → End → ℕ
put_number n at = number_at (terminal_of n at) next_number

-- why a get is refused
unfoldable pub get_refusal : Node → End → Option Refusal
get_refusal n at = if not (holds_end n at) then Some Stranger else refusal_at (terminal_of n at) router_get_refusal

-- whether a get that is refused so, or not at all, finds something: a parcel, or that the peer has closed
abbrev pub finds_something : Option Refusal → Bool
finds_something None = true
finds_something (Some PeerClosed) = true
finds_something (Some other) = false

-- the ends in an item, if there is one
unfoldable pub ends_found : Option Item → List End
ends_found None = []
ends_found (Some item) = ends_in item

-- the number and the parcel of an item, if there is one and it is a parcel
unfoldable pub item_got : ℕ → Option Item → Option (ℕ × parcels.Parcel)
item_got number None = None
item_got number (Some (Parcel p)) = Some (number, p)
item_got number (Some Mark) = None
item_got number (Some Gone) = None

-- what a get gives at a terminal
abbrev pub got_from : Router → Option (ℕ × parcels.Parcel)
got_from r = item_got r.in_queue.current (current_item r.in_queue)

-- what a get gives at the terminal that was found
unfoldable pub got_at_found : Option Found → Option (ℕ × parcels.Parcel)
got_at_found None = None
got_at_found (Some f) = got_from f.router

-- what a get gives: the number and the parcel
abbrev pub got_at : Node → End → Option (ℕ × parcels.Parcel)
got_at n at = got_at_found (terminal_of n at)

-- the sizes of what a get gives; none if it is refused
abbrev pub next_sizes : Node → End → Option Sizes
next_sizes n at = if holds_end n at then option_map (λ g. sizes_of g.1) (got_at n at) else None

-- the node after a get at this router, the parcel's ends held
abbrev pub get_at_router : Node → ℕ → Router → Node
get_at_router n serial r = hold_ends (with_router n serial (take_item r)) (ends_found (current_item r.in_queue))

-- the node after a get
abbrev pub get_node : Node → End → Node
get_node n at = on_found n (terminal_of n at) (get_at_router n)

-- why a close is refused, memory aside
unfoldable pub close_refusal : Node → End → Option Refusal
close_refusal n at = if not (holds_end n at) then Some Stranger else refusal_at (terminal_of n at) (λ r. None)

-- the node with the mark put at this router
abbrev pub close_at_router : Node → ℕ → Router → Node
close_at_router n serial r = with_router n serial (close_router r)

-- the node with the mark put at the terminal of an end
abbrev pub close_end : Node → End → Node
close_end n end = on_found n (terminal_of n end) (close_at_router n)

-- the node after a caller's close
abbrev pub close_node : Node → End → Node
close_node n at = close_end (release_ends n (at ∷ [])) at

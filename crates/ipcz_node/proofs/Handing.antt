-- What a message that fits says of its moves.
use Rattle.std.proofs.Common.{◌≡◌, ℕ, ◌≤◌, not, Bool, true, false, List, [], ◌∷◌, length, if◌then◌else◌, nat_eq, nat_le, sym, true≢false}
use Rattle.std.proofs.Common.{arith, Option, Some, None, nat_lt, ◌∙◌}
use Rattle.std.proofs.lemmas.Bool.Decides.{nat_tests}
use Rattle.ipcz_base.specs.declared.end.End.{End}
use Rattle.ipcz_base.specs.declared.descriptor.Descriptor.{Descriptor}
use Rattle.ipcz_base.specs.declared.item.Item.{Item}
use Rattle.ipcz_base.specs.Ends.{same_end}
use Rattle.ipcz_base.specs.Items.{ends_in}
use Rattle.ipcz_base.specs.Limits.{last_number, no_number}
use Rattle.ipcz_base.specs.declared.side.Side.{Side}
use Rattle.ipcz_base.specs.declared.link_id.LinkId.{LinkId}
use Rattle.ipcz_base.specs.declared.side.Side.TheVariants.{B}
use Rattle.ipcz_router.specs.Router.{outward_has}
use Rattle.ipcz_router.specs.Calls.{has_place_for}
use Rattle.ipcz_node.specs.Node.{Node, Found, is_named, link_router}
use Rattle.ipcz_node.specs.Hands.{fit_moves, fits_from, fits_item, fits, is_new_move, has_moved, grows_where_it_fits, serials_in}
use Rattle.ipcz_base.specs.declared.message.Message.{Message}
use Rattle.ipcz_base.specs.declared.message.Message.TheVariants as messages
use Rattle.ipcz_node.specs.RoomyNodes.{AreLow, IsReady, CanTell, RoomyNode}
use Rattle.std.proofs.Common.{subst, ap, ◌<◌, refl}
use Rattle.ipcz_base.specs.Indexed.{place_at}
use Rattle.ipcz_node.specs.Sends.{moved_ends}
use Rattle.ipcz_node.specs.Events.{moved_by}
use Rattle.ipcz_router.specs.declared.act.Applied.{Applied}
use Rattle.ipcz_router.specs.declared.act.Applied.TheVariants as outputs
use Rattle.ipcz_node.proofs.Refiling.{first_of_both, second_of_both}

low : (a b : ℕ) → nat_le a b ≡ true → a ≤ b
low a b h = grind (arith, nat_tests)

low_fit : (n : Node) (es : List End) (ds : List Descriptor) → fit_moves n es ds ≡ true → AreLow ds
low_fit n [] [] h = tt
low_fit n [] (d ∷ ds) h = absurd (true≢false (sym h))
low_fit n (e ∷ es) [] h = absurd (true≢false (sym h))
low_fit n (e ∷ es) (d ∷ ds) h =
    let new = second_of_both (same_end d.end e) _ h in (
      low d.next_out last_number (second_of_both (not (is_named n d.link B)) _ (first_of_both (is_new_move n d) _ new)),
      low_fit n es ds (second_of_both (not (has_moved d.link ds)) _ (second_of_both (is_new_move n d) _ new)),
    )

low_none : (ds : List Descriptor) → nat_eq (length ds) 0 ≡ true → AreLow ds
low_none [] h = tt
low_none (d ∷ ds) h = absurd (let none : length (d ∷ ds) ≡ 0 = grind (arith, nat_tests) in omega (arith, none))

pub low_moves : (n : Node) (sender : ℕ) (item : Item) (ds : List Descriptor) → fits_from n sender item ds ≡ true → AreLow ds
low_moves n sender item ds h = go (nat_eq sender n.number) h
  where
    go : (b : Bool) → (if b then nat_eq (length ds) 0 else fit_moves n (ends_in item) ds) ≡ true → AreLow ds
    go true h = low_none ds h
    go false h = low_fit n (ends_in item) ds h

below : (a b : ℕ) → nat_lt a b ≡ true → a < b
below a b h = grind (arith, nat_tests)

fits_placed : (n : Node) (sender : ℕ) (link : LinkId) (side : Side) (number : ℕ) (item : Item) (moves : List Descriptor)
    (f : Option Found) →
    fits_item n sender link side number item moves f ≡ true → (number < no_number) × AreLow moves
unfolding fits_item
fits_placed n sender link side number item moves None h = absurd (true≢false (sym h))
fits_placed n sender link side number item moves (Some f) h = (
  below number no_number (first_of_both (nat_lt number no_number) _ (first_of_both _ _ h)),
  low_moves n sender item moves (second_of_both _ _ h),
)

-- an item that fits is no number's end, and its moves have low numbers
pub item_placed : (n : Node) (sender : ℕ) (link : LinkId) (side : Side) (number : ℕ) (item : Item) (moves : List Descriptor) →
    fits n sender (messages.Item link side number item moves) None ≡ true → (number < no_number) × AreLow moves
unfolding fits
item_placed n sender link side number item moves h = fits_placed n sender link side number item moves (link_router n link side) h

-- and has its place at the router that has its link
pub item_has_place : (n : Node) (sender : ℕ) (link : LinkId) (side : Side) (number : ℕ) (item : Item) (moves : List Descriptor) (f : Found) →
    link_router n link side ≡ Some f → fits n sender (messages.Item link side number item moves) None ≡ true →
    has_place_for f.router (outward_has f.router link side) number ≡ true
unfolding fits fits_item
item_has_place n sender link side number item moves f here h =
    first_of_both (has_place_for f.router (outward_has f.router link side) number) _
    (sym (ap (fits_item n sender link side number item moves) here) ∙ h)

-- and a router has its link
pub item_found : (n : Node) (sender : ℕ) (link : LinkId) (side : Side) (number : ℕ) (item : Item) (moves : List Descriptor) →
    fits n sender (messages.Item link side number item moves) None ≡ true → link_router n link side ≡ None → ⊥
unfolding fits fits_item
item_found n sender link side number item moves h none =
    true≢false (sym h ∙ ap (fits_item n sender link side number item moves) none)

-- a message that makes nothing grow takes no serials
pub takes_no_serials : (m : Message) → grows_where_it_fits m ≡ false → serials_in m ≡ 0
unfolding grows_where_it_fits serials_in
takes_no_serials (messages.Item link side number item moves) h = absurd (true≢false h)
takes_no_serials other h = refl

-- what a node is ready for, it is ready for after a change of its routers alone
pub still_ready : (k j : RoomyNode) (a : Applied) → j.room.outboxes ≡ k.room.outboxes → j.room.links ≡ k.room.links →
    j.room.moves ≡ k.room.moves → j.room.pending ≡ k.room.pending
    → j.node.number ≡ k.node.number → j.node.next_peripheral ≡ k.node.next_peripheral → IsReady k a → IsReady j a
still_ready k j outputs.Nothing outboxes links moves pending number serial h = tt
still_ready k j (outputs.Sent link n item) outboxes links moves pending number serial h =
    let count : length (moved_ends j.node link item) ≡ length (moved_ends k.node link item) =
    ap (λ i. length (if nat_eq link.other i then [] else ends_in item)) number in (
      subst (λ (r : List ℕ). 0 < place_at 0 r link.other) (sym outboxes) h.0,
      omega (arith, count, h.1, links),
      omega (arith, count, h.2, moves),
      omega (arith, count, serial, h.3),
    )
still_ready k j (outputs.Message to m) outboxes links moves pending number serial h =
    subst (λ (r : List ℕ). 0 < place_at 0 r to) (sym outboxes) h
still_ready k j (outputs.Discarded n item) outboxes links moves pending number serial h = omega (arith, h, pending)

-- what a node can tell, it can tell after a change of its routers alone
pub can_tell : (k j : RoomyNode) (a : Applied) → j.room.event_ends ≡ k.room.event_ends → j.node.number ≡ k.node.number → CanTell k a →
    CanTell j a
unfolding moved_by
can_tell k j (outputs.Sent link n item) room number h =
    let count : length (moved_ends j.node link item) ≡ length (moved_ends k.node link item) =
    ap (λ i. length (if nat_eq link.other i then [] else ends_in item)) number in
    omega (arith, count, h, room)
can_tell k j any room number h = omega arith

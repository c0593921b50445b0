-- Why a call of a portal is refused, what one that isn't answers, and the portals that a get gives.
use Rattle.std.proofs.Common.{◌≡◌, ◌⊎◌, ◌≤◌, ◌<◌, ◌+◌, ℕ, zero, suc, List, [], ◌∷◌, ◌++◌, All, take, length, slice_index_or, refl, sym, subst, ap, ◌∙◌, arith, Bool, true, false, not, if◌then◌else◌, Option, Some, None, inl, inr}
use Rattle.std.specs.Prelude.{nat_le, unwrap_or, option_map}
use Rattle.std.proofs.lemmas.List.{map_more}
use Rattle.std.proofs.Math.Seq.{take-length}
use Rattle.ipcz_base.specs.declared.profile.Profile.{Profile}
use Rattle.ipcz_base.specs.declared.end.End.{End}
use Rattle.ipcz_base.specs.declared.item.Item.{Item}
use Rattle.ipcz_base.specs.declared.parcel.Parcel as parcels
use Rattle.ipcz_base.specs.declared.parcel.Sizes.{Sizes}
use Rattle.ipcz_base.specs.Items.{sizes_of}
use Rattle.ipcz_base.specs.declared.item.Item.TheVariants as items
use Rattle.ipcz_base.specs.declared.refusal.Refusal.{Refusal}
use Rattle.ipcz_base.specs.declared.refusal.Refusal.TheVariants as refusals
use Rattle.ipcz_base.specs.Ends.{opposite_end, has_end}
use Rattle.ipcz_base.specs.Limits.{takes_bytes, last_number}
use Rattle.ipcz_seq.specs.Queue.{current_item}
use Rattle.ipcz_router.specs.Router.{Router}
use Rattle.ipcz_router.specs.Calls.{item_refusal, next_number, router_get_refusal, router_put_refusal}
use Rattle.ipcz_node.specs.Node.{Node, Found, terminal_of, holds_end}
use Rattle.ipcz_node.specs.Calls.{refusal_at, are_held_once, are_too_many, put_refusal, get_refusal, got_at, next_sizes, close_refusal}
use Rattle.ipcz_rule.specs.declared.view.Part.{Part}
use Rattle.ipcz_rule.specs.Steps.{put_part}
use Rattle.ipcz_fabric.specs.Places.{IsRefusedFor, IsRefusedInOrder}
use Rattle.ipcz_fabric.specs.Portals.{PortalValue, ends_of, portals_at, parcel_refusal, wants_list, IsPutRefusal, IsTakeRefusal, IsGetRefusal, IsCloseRefusal}

item_why : (o : Option Item) (e : Refusal) → item_refusal o ≡ Some e → IsTakeRefusal e
unfolding item_refusal
item_why None e h = inr (inl cc)
item_why (Some (items.Parcel p)) e h = cc
item_why (Some items.Mark) e h = inr (inr cc)
item_why (Some items.Gone) e h = inr (inr cc)

terminal_why : (t : Option Found) (e : Refusal) → refusal_at t router_get_refusal ≡ Some e → IsTakeRefusal e
unfolding refusal_at
terminal_why None e h = inl cc
terminal_why (Some f) e h = item_why (current_item f.router.in_queue) e h

held_why : (held : Bool) (t : Option Found) (e : Refusal) → (if not held then Some refusals.Stranger else refusal_at t router_get_refusal) ≡ Some e → IsTakeRefusal e
held_why true t e h = terminal_why t e h
held_why false t e h = inl cc

-- a get at a node is refused for one of these
pub take_refused : (n : Node) (at : End) (e : Refusal) → get_refusal n at ≡ Some e → IsTakeRefusal e
unfolding get_refusal
take_refused n at e h = held_why (holds_end n at) (terminal_of n at) e h

pub get_refused : (wants : Bool) (n : Node) (at : End) (e : Refusal) → IsRefusedFor wants (get_refusal n at) e → IsGetRefusal e
get_refused wants n at e (inl h) = inl h.1
get_refused wants n at e (inr h) = inr (take_refused n at e h)

-- how many ends these sizes tell, if they tell any
abbrev pub ends_told : Option Sizes → ℕ
ends_told None = 0
ends_told (Some sizes) = sizes.ends

-- the sizes of what a get gives that isn't refused
pub sizes_there : (n : Node) (at : End) (got : ℕ × parcels.Parcel) → get_refusal n at ≡ None → got_at n at ≡ Some got → next_sizes n at ≡ Some (sizes_of got.1)
unfolding get_refusal
sizes_there n at got allowed there = go (holds_end n at) allowed
  where
    go : (held : Bool) → (if not held then Some refusals.Stranger else refusal_at (terminal_of n at) router_get_refusal) ≡ None →
        (if held then option_map (λ g. sizes_of g.1) (got_at n at) else None) ≡ Some (sizes_of got.1)
    go true e = ap (option_map (λ (g : ℕ × parcels.Parcel). sizes_of g.1)) there
    go false e = cc

open_why : (t : Option Found) (e : Refusal) → e ≡ unwrap_or (refusal_at t (λ (r : Router). None)) refusals.OutOfMemory → IsCloseRefusal e
unfolding refusal_at
open_why None e h = inr h
open_why (Some f) e h = inl h

kept_why : (held : Bool) (t : Option Found) (e : Refusal) → e ≡ unwrap_or (if not held then Some refusals.Stranger else refusal_at t (λ (r : Router). None)) refusals.OutOfMemory → IsCloseRefusal e
kept_why true t e h = open_why t e h
kept_why false t e h = inr h

-- a close at a node is refused for one of these
pub close_why : (n : Node) (at : End) (e : Refusal) → e ≡ unwrap_or (close_refusal n at) refusals.OutOfMemory → IsCloseRefusal e
unfolding close_refusal
close_why n at e h = kept_why (holds_end n at) (terminal_of n at) e h

-- a parcel that is put somewhere fits
fits_by : (held many printable self peer each : Bool) (at : Option Refusal) →
    (if not held then Some refusals.Stranger else if many then Some refusals.TooMany else if not printable then Some refusals.BadData
    else if self then Some refusals.SelfAttach else if peer then Some refusals.PeerAttach else if not each then Some refusals.Stranger else at) ≡ None →
    (if many then Some refusals.TooMany else if not printable then Some refusals.BadData else if self then Some refusals.SelfAttach
    else if peer then Some refusals.PeerAttach else None) ≡ None
fits_by false many printable self peer each at e = cc
fits_by true true printable self peer each at e = cc
fits_by true false false self peer each at e = cc
fits_by true false true true peer each at e = cc
fits_by true false true false true each at e = cc
fits_by true false true false false each at e = refl

pub put_here : (profile : Profile) (n : Node) (at at' : End) (bytes : List ℕ) (ends ends' : List End) → at ≡ at' → ends ≡ ends' →
    put_refusal profile n at bytes ends ≡ put_refusal profile n at' bytes ends'
put_here profile n at at' bytes ends ends' same_at same_ends = λ j. put_refusal profile n (same_at j) bytes (same_ends j)

pub part_here : (p : Part) (at at' : End) (bytes : List ℕ) (ends ends' : List End) → at ≡ at' → ends ≡ ends' →
    put_part at bytes ends p ≡ put_part at' bytes ends' p
part_here p at at' bytes ends ends' same_at same_ends = λ j. put_part (same_at j) bytes (same_ends j) p

pub put_fits : (profile : Profile) (n : Node) (at : End) (bytes : List ℕ) (ends : List End) → put_refusal profile n at bytes ends ≡ None → parcel_refusal profile at bytes ends ≡ None
unfolding put_refusal
put_fits profile n at bytes ends e = fits_by (holds_end n at) (are_too_many profile bytes ends) (takes_bytes profile bytes) (has_end at ends) (has_end (opposite_end at) ends)
    (are_held_once n ends) (refusal_at (terminal_of n at) router_put_refusal) e

IsRouterRefusal : Refusal → Type 0
IsRouterRefusal why = (why ≡ refusals.OutOfMemory) ⊎ (why ≡ refusals.Stranger) ⊎ (why ≡ refusals.PeerClosed) ⊎ (why ≡ refusals.NumbersEnd)

numbers_why : (closed full : Bool) (e : Refusal) →
    e ≡ unwrap_or (if closed then Some refusals.PeerClosed else if full then Some refusals.NumbersEnd else None) refusals.OutOfMemory → IsRouterRefusal e
unfolding IsRouterRefusal
numbers_why true full e h = inr (inr (inl h))
numbers_why false true e h = inr (inr (inr h))
numbers_why false false e h = inl h

router_why : (t : Option Found) (e : Refusal) → e ≡ unwrap_or (refusal_at t router_put_refusal) refusals.OutOfMemory → IsRouterRefusal e
unfolding refusal_at IsRouterRefusal
router_why None e h = inr (inl h)
router_why (Some f) e h = numbers_why f.router.mark_seen (nat_le last_number (next_number f.router)) e h

PutRefusedFor : Option Refusal → Refusal → Type 0
PutRefusedFor parcel why = (why ≡ refusals.OutOfMemory) ⊎ (why ≡ refusals.Stranger) ⊎ (parcel ≡ Some why) ⊎
    ((parcel ≡ None) × ((why ≡ refusals.PeerClosed) ⊎ (why ≡ refusals.NumbersEnd)))

fitting_why : (e : Refusal) → IsRouterRefusal e → PutRefusedFor None e
unfolding IsRouterRefusal PutRefusedFor
fitting_why e (inl h) = inl h
fitting_why e (inr (inl h)) = inr (inl h)
fitting_why e (inr (inr h)) = inr (inr (inr (refl, h)))

put_why_by : (held many printable self peer each : Bool) (at : Option Refusal) (e : Refusal) → (e ≡ unwrap_or at refusals.OutOfMemory → IsRouterRefusal e) →
    e ≡ unwrap_or (if not held then Some refusals.Stranger else if many then Some refusals.TooMany else if not printable then Some refusals.BadData
    else if self then Some refusals.SelfAttach else if peer then Some refusals.PeerAttach else if not each then Some refusals.Stranger else at) refusals.OutOfMemory →
    PutRefusedFor (if many then Some refusals.TooMany else if not printable then Some refusals.BadData else if self then Some refusals.SelfAttach
    else if peer then Some refusals.PeerAttach else None) e
unfolding PutRefusedFor
put_why_by false many printable self peer each at e rest h = inr (inl h)
put_why_by true true printable self peer each at e rest h = inr (inr (inl (ap Some (sym h))))
put_why_by true false false self peer each at e rest h = inr (inr (inl (ap Some (sym h))))
put_why_by true false true true peer each at e rest h = inr (inr (inl (ap Some (sym h))))
put_why_by true false true false true each at e rest h = inr (inr (inl (ap Some (sym h))))
put_why_by true false true false false false at e rest h = inr (inl h)
put_why_by true false true false false true at e rest h = fitting_why e (rest h)

-- a put at a node is refused for one of these
put_why : (profile : Profile) (n : Node) (at : End) (bytes : List ℕ) (ends : List End) (e : Refusal) → e ≡ unwrap_or (put_refusal profile n at bytes ends) refusals.OutOfMemory →
    IsPutRefusal profile at bytes ends e
unfolding put_refusal PutRefusedFor
put_why profile n at bytes ends e h = put_why_by (holds_end n at) (are_too_many profile bytes ends) (takes_bytes profile bytes) (has_end at ends) (has_end (opposite_end at) ends)
    (are_held_once n ends) (refusal_at (terminal_of n at) router_put_refusal) e (router_why (terminal_of n at) e) h

pub put_refused : (profile : Profile) (n : Node) (at : End) (bytes : List ℕ) (ends : List End) (wants : Bool) (e : Refusal) → IsRefusedInOrder wants (put_refusal profile n at bytes ends) e →
    IsPutRefusal profile at bytes ends e
put_refused profile n at bytes ends wants e (inl h) = inl h.1
put_refused profile n at bytes ends wants e (inr h) = put_why profile n at bytes ends e h

-- a put that wants no list has no portals
pub wants_by : (portals : List PortalValue) → (length portals ≡ 0 → false ≡ true) → wants_list (ends_of portals) ≡ true
wants_by [] none = none refl
wants_by (p ∷ ps) none = refl

one_more : (node : ℕ) (e : End) (es : List End) → All (λ (p : PortalValue). p.node ≡ node) (portals_at node es) → (k : ℕ) (d : PortalValue) →
    k < length (portals_at node (e ∷ es)) → (slice_index_or (portals_at node (e ∷ es)) k d).node ≡ node
one_more node e es others zero d h = refl
one_more node e es others (suc k) d h = others k d (omega (arith, h))

all_there : (node : ℕ) (ends : List End) → All (λ (p : PortalValue). p.node ≡ node) (portals_at node ends)
all_there node [] = λ k d h. absurd (omega (arith, h))
all_there node (e ∷ es) = one_more node e es (all_there node es)

-- each portal of a get is of the node where it was got
pub are_there : (here : ℕ) (ends : List End) (portals : List PortalValue) → portals ≡ portals_at here (take 8 ends) → All (λ (p : PortalValue). p.node ≡ here) portals
are_there here ends portals is = subst (All (λ (p : PortalValue). p.node ≡ here)) (sym is) (all_there here (take 8 ends))

-- the ends of one portal more
pub ends_more : (portals : List PortalValue) (i : ℕ) (p : PortalValue) (ends after : List End) → i < length portals → p ≡ slice_index_or portals i p → ends ≡ ends_of (take i portals) →
    after ≡ ends ++ p.end ∷ [] → after ≡ ends_of (take (i + 1) portals)
ends_more portals i p ends after inside is so_far more = more ∙ (ap (λ (l : List End). l ++ p.end ∷ []) so_far
    ∙ (ap (λ (q : PortalValue). ends_of (take i portals) ++ q.end ∷ []) is ∙ sym (map_more (λ (q : PortalValue). q.end) portals i p inside)))

-- all ends are there
pub ends_all : (portals : List PortalValue) (i : ℕ) (ends : List End) → length portals ≤ i → i ≤ length portals → ends ≡ ends_of (take i portals) → ends ≡ ends_of portals
ends_all portals i ends up most so_far = let all : i ≡ length portals = omega (arith, up, most) in
    so_far ∙ (ap (λ (n : ℕ). ends_of (take n portals)) all ∙ ap ends_of (take-length portals))

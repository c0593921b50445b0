-- What gets at an end answer, one after the other, by the in queue of its terminal.
use Rattle.std.proofs.Common.{◌≡◌, ℕ, zero, suc, ◌+◌, ◌<◌, ◌≤◌, ◌||◌, Bool, true, false, not, cond, if◌then◌else◌, Option, Some, None}
use Rattle.std.proofs.Common.{refl, sym, ◌∙◌, ap, subst, arith, inl, inr}
use Rattle.std.specs.Prelude.{option_map}
use Rattle.std.specs.Cmp.{nat_cmp_total}
use Rattle.std.specs.FinMap.{get, get-remove}
use Rattle.ipcz_base.specs.declared.end.End.{End}
use Rattle.ipcz_base.specs.declared.item.Item.{Item}
use Rattle.ipcz_base.specs.declared.item.Item.TheVariants.{Parcel, Mark, Gone}
use Rattle.ipcz_base.specs.declared.refusal.Refusal.TheVariants.{Stranger}
use Rattle.ipcz_base.specs.declared.status.PortalStatus.{PortalStatus}
use Rattle.ipcz_base.specs.Items.{sizes_in, sizes_of}
use Rattle.ipcz_seq.specs.Queue.{Queue, current_item, item_at, pop_front}
use Rattle.ipcz_seq.proofs.Pairs.{one_or_two}
use Rattle.ipcz_router.specs.Router.{Router}
use Rattle.ipcz_router.specs.Calls.{item_refusal, router_get_refusal, sizes_found, take_item}
use Rattle.ipcz_router.specs.Status.{IsStatus}
use Rattle.ipcz_node.specs.Node.{Node, found, holds_end, is_terminal_of, on_found, router_in, terminal_of}
use Rattle.ipcz_node.specs.Calls.{ends_found, get_at_router, get_node, get_refusal, got_at_found, item_got, next_sizes, number_at, refusal_at}
use Rattle.ipcz_node.specs.Looking.{after_gets, get_number, IsStatusOf}
use Rattle.ipcz_node.proofs.Directories.{still_found}
use Rattle.ipcz_node.proofs.Held.{contains-with_ends}
use Rattle.ipcz_node.proofs.Written.{insert_here}

-- callers hold the end, and its terminal is this router
pub record IsOpenAt (n : Node) (at : End) (s : ℕ) (r : Router) : Type 0 where
  pub held : holds_end n at ≡ true
  pub here : router_in n s ≡ Some r
  pub found : terminal_of n at ≡ Some (found s r)

or_true : (a b : Bool) → b ≡ true → (a || b) ≡ true
or_true true b h = refl
or_true false b h = h

-- so it is after a get, with the router that has given its current item
got_node : (n : Node) (at : End) (s : ℕ) (r : Router) → IsOpenAt n at s r → get_node n at ≡ get_at_router n s r
unfolding on_found
got_node n at s r stands = ap (λ o. on_found n o (get_at_router n)) stands.found

open_after : (n : Node) (at : End) (s : ℕ) (r : Router) → IsOpenAt n at s r → IsOpenAt (get_node n at) at s (take_item r)
open_after n at s r stands = subst (λ m. IsOpenAt m at s (take_item r)) (sym (got_node n at s r stands)) (record {
  held = contains-with_ends n.held (ends_found (current_item r.in_queue)) at ∙ or_true _ _ stands.held;
  here = insert_here n.routers s (take_item r);
  found = still_found (is_terminal_of at) n.routers s r (take_item r) stands.here stands.found refl;
})

-- a router that has given so many items
abbrev given : Router → ℕ → Router
given r zero = r
given r (suc k) = take_item (given r k)

open_given : (n : Node) (at : End) (s : ℕ) (r : Router) (k : ℕ) → IsOpenAt n at s r → IsOpenAt (after_gets n at k) at s (given r k)
open_given n at s r zero stands = stands
open_given n at s r (suc k) stands = open_after (after_gets n at k) at s (given r k) (open_given n at s r k stands)

-- its current number, and the items from there on
current_given : (r : Router) (k : ℕ) → (given r k).in_queue.current ≡ r.in_queue.current + k
current_given r zero = omega arith
current_given r (suc k) = let before = current_given r k in omega (arith, before)

item_popped : (q : Queue Item) (m : ℕ) → q.current < m → item_at (pop_front q) m ≡ item_at q m
item_popped q m behind = get-remove nat_cmp_total q.items q.current m ∙ elim (one_or_two m q.current) [
  | inl t ↦ absurd (omega (arith, t.0, behind))
  | inr t ↦ ap (λ b. cond b None (get q.items m)) t.1
]

item_given : (r : Router) (k m : ℕ) → r.in_queue.current + k ≤ m → item_at (given r k).in_queue m ≡ item_at r.in_queue m
item_given r zero m from = refl
item_given r (suc k) m from =
    let before = current_given r k in
    item_popped (given r k).in_queue m (omega (arith, before, from)) ∙ item_given r k m (omega (arith, from))

next_given : (r : Router) (k : ℕ) → current_item (given r k).in_queue ≡ item_at r.in_queue (r.in_queue.current + k)
next_given r k = ap (item_at (given r k).in_queue) (current_given r k) ∙ item_given r k (r.in_queue.current + k) (omega arith)

-- what a get answers there
refusal_open : (n : Node) (at : End) (s : ℕ) (r : Router) → IsOpenAt n at s r → get_refusal n at ≡ router_get_refusal r
unfolding get_refusal refusal_at
refusal_open n at s r stands =
    ap (λ b. if not b then Some Stranger else refusal_at (terminal_of n at) router_get_refusal) stands.held ∙
    ap (λ o. refusal_at o router_get_refusal) stands.found

refusal_given : (n : Node) (at : End) (s : ℕ) (r : Router) (k : ℕ) → IsOpenAt n at s r →
    get_refusal (after_gets n at k) at ≡ item_refusal (item_at r.in_queue (r.in_queue.current + k))
refusal_given n at s r k stands =
    refusal_open (after_gets n at k) at s (given r k) (open_given n at s r k stands) ∙ ap item_refusal (next_given r k)

number_open : (n : Node) (at : End) (s : ℕ) (r : Router) → IsOpenAt n at s r → get_number n at ≡ r.in_queue.current
unfolding number_at
number_open n at s r stands = ap (λ o. number_at o (λ x. x.in_queue.current)) stands.found

sizes_got : (number : ℕ) (o : Option Item) → option_map (λ g. sizes_of g.1) (item_got number o) ≡ sizes_found o
unfolding item_got sizes_found sizes_in
sizes_got number None = refl
sizes_got number (Some (Parcel p)) = refl
sizes_got number (Some Mark) = refl
sizes_got number (Some Gone) = refl

sizes_open : (n : Node) (at : End) (s : ℕ) (r : Router) → IsOpenAt n at s r → next_sizes n at ≡ sizes_found (current_item r.in_queue)
unfolding got_at_found
sizes_open n at s r stands =
    ap (λ b. if b then option_map (λ g. sizes_of g.1) (got_at_found (terminal_of n at)) else None) stands.held ∙
    ap (λ o. option_map (λ g. sizes_of g.1) (got_at_found o)) stands.found ∙ sizes_got r.in_queue.current (current_item r.in_queue)

-- what a look at the terminal tells is what gets there would answer
pub status_open : (n : Node) (at : End) (s : ℕ) (r : Router) (status : PortalStatus) → IsOpenAt n at s r → IsStatus r.in_queue status →
    IsStatusOf n at status
status_open n at s r status stands tells = record {
  next = tells.next ∙ sym (number_open n at s r stands);
  sizes = tells.sizes ∙ sym (sizes_open n at s r stands);
  given = λ i low. refusal_given n at s r i stands ∙ tells.parcels.given i low;
  refused = refusal_given n at s r status.waiting stands ∙ tells.parcels.refused;
}

-- a get is refused as a stranger's at an end that callers don't hold
pub stranger_unheld : (n : Node) (at : End) → holds_end n at ≡ false → get_refusal n at ≡ Some Stranger
unfolding get_refusal
stranger_unheld n at away = ap (λ b. if not b then Some Stranger else refusal_at (terminal_of n at) router_get_refusal) away

-- or that has no terminal here
pub stranger_unfound : (n : Node) (at : End) → terminal_of n at ≡ None → get_refusal n at ≡ Some Stranger
unfolding get_refusal refusal_at
stranger_unfound n at none =
    ap (λ o. if not (holds_end n at) then Some Stranger else refusal_at o router_get_refusal) none ∙ either (holds_end n at)
  where
    either : (b : Bool) → (if not b then Some Stranger else Some Stranger) ≡ Some Stranger
    either true = refl
    either false = refl

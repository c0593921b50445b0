-- What a get would give is as large as what its node would give.
use Rattle.std.specs.Prelude.{◌≡◌, ◌<◌, ◌≤◌, ℕ, Bool, true, false, not, nat_lt, if◌then◌else◌, Option, Some, None, option_map}
use Rattle.std.proofs.Common.{arith, ap, refl, ◌∙◌}
use Rattle.std.proofs.lemmas.Bool.Decides.{nat_tests}
use Rattle.ipcz_world.proofs.Vocabulary.{End, Item, Found, current_item, terminal_of, World, node_at, unless, Mark, Gone, get_refusal, holds_end}
use Rattle.ipcz_base.specs.declared.item.Item.TheVariants.{Parcel as OfParcel}
use Rattle.ipcz_base.specs.declared.refusal.Refusal.TheVariants.{Stranger}
use Rattle.ipcz_base.specs.Items.{sizes_of}
use Rattle.ipcz_router.specs.Calls.{item_refusal, router_get_refusal}
use Rattle.ipcz_node.specs.Calls.{got_at_found, item_got, refusal_at, next_sizes as node_sizes}
use Rattle.ipcz_world.specs.Steps.{got_reply, get_reply, sizes_given, next_sizes}
use Rattle.ipcz_world.proofs.code.Calling.{here-node}

sizes-in-queue : (w v : World) (number : ℕ) (item : Option Item) →
    sizes_given (unless w (item_refusal item) (record { reply = got_reply number item; world = v })).reply
    ≡ option_map (λ g. sizes_of g.1) (item_got number item)
unfolding unless item_refusal got_reply item_got sizes_given
sizes-in-queue w v number None = refl
sizes-in-queue w v number (Some (OfParcel p)) = refl
sizes-in-queue w v number (Some Mark) = refl
sizes-in-queue w v number (Some Gone) = refl

sizes-found : (w v : World) (f : Option Found) →
    sizes_given (unless w (refusal_at f router_get_refusal) (record { reply = get_reply f; world = v })).reply
    ≡ option_map (λ g. sizes_of g.1) (got_at_found f)
unfolding unless refusal_at get_reply got_at_found sizes_given
sizes-found w v None = refl
sizes-found w v (Some f) = sizes-in-queue w v f.router.in_queue.current (current_item f.router.in_queue)

sizes-held : (w v : World) (held : Bool) (f : Option Found) →
    sizes_given (unless w (if not held then Some Stranger else refusal_at f router_get_refusal) (record { reply = get_reply f; world = v })).reply
    ≡ (if held then option_map (λ g. sizes_of g.1) (got_at_found f) else None)
unfolding unless sizes_given
sizes-held w v true f = sizes-found w v f
sizes-held w v false f = refl

-- at a node of the world
pub sizes-here : (w : World) (n : ℕ) (at : End) → n < w.count → next_sizes w n at ≡ node_sizes (node_at w n) at
unfolding get_refusal
sizes-here w n at l = ap (λ done. sizes_given done.reply) (here-node w n _ l)
    ∙ sizes-held w _ (holds_end (node_at w n) at) (terminal_of (node_at w n) at)

-- at none of its nodes
pub no-sizes : (w : World) (n : ℕ) (at : End) → w.count ≤ n → next_sizes w n at ≡ None
unfolding sizes_given
no-sizes w n at out = let h : nat_lt n w.count ≡ false = grind (arith, out, nat_tests) in rw h refl

-- If each node is settled by its part and no mailbox is full, each open pair of the shown world is direct of which an end isn't closed.
use Rattle.std.specs.Prelude.{◌≡◌, ◌<◌, ◌≤◌, ℕ, false, length, Option, Some, None, refl}
use Rattle.std.specs.FinMap.{get-empty}
use Rattle.std.specs.Ordering.{nat_cmp}
use Rattle.std.proofs.Common.{arith, ap, ◌∙◌, sym, ⊎_elim}
use Rattle.ipcz_router.specs.Router.{Router}
use Rattle.ipcz_node.specs.Node.{Node, router_in, bare_node}
use Rattle.ipcz_world.specs.World.{World, Key, node_at, router_at}
use Rattle.ipcz_world.specs.Owed.{IsWet}
use Rattle.ipcz_world.proofs.Whole.{lists_have_lengths, each_quiet_is_direct, closed_pairs_are_gone, quiet_has_no_proxy}
use Rattle.ipcz_rule.specs.RuleLaws.{SettledPartsAreDirect}
use Rattle.ipcz_rule.proofs.QuietParts.{place_beyond, below_or, quiet_parts_show_quiet}

node_beyond : (w : World) (n : ℕ) → length w.nodes ≤ n → node_at w n ≡ bare_node 0 0
unfolding node_at
node_beyond w n l = place_beyond (bare_node 0 0) w.nodes n l

at_node : (w : World) (k : Key) → router_at w k ≡ router_in (node_at w k.node) k.serial
unfolding router_at
at_node w k = refl

none_some : (o : Option Router) (r : Router) → o ≡ None → o ≡ Some r → ⊥
none_some None r h e = cc
none_some (Some q) r h e = cc

bare_has_none : (serial : ℕ) → router_in (bare_node 0 0) serial ≡ None
bare_has_none serial = get-empty nat_cmp serial

pub settled_parts_are_direct : SettledPartsAreDirect
settled_parts_are_direct count size s r each full =
    let quiet = quiet_parts_show_quiet count size s r (λ id v j p at there. (each id v j p at there).quiet) full in
    (quiet_has_no_proxy r.world r.books r.routes r.lawful quiet wet, closed_pairs_are_gone r.world r.books r.routes r.lawful quiet wet, λ pair side open_pair open_end. each_quiet_is_direct r.world r.books r.routes pair side r.lawful quiet wet open_pair open_end)
  where
    on_node : (k : Key) (q : Router) → router_at r.world k ≡ Some q → k.node < r.world.count → q.dry ≡ false
    on_node k q here l =
        let t = r.parts k.node (rw (← r.nodes) l) in
        let sp = (r.shows.parts t.id t.view t.place t.part t.seat t.there).1 in
        (each t.id t.view t.place t.part t.seat t.there).wet k.serial q
        (ap (λ (n : Node). router_in n k.serial) (sym sp.state ∙ ap (node_at r.world) t.node_is) ∙ (sym (at_node r.world k) ∙ here))

    wet : IsWet r.world
    wet k q here = ⊎_elim
        (λ (l : k.node < r.world.count). on_node k q here l)
        (λ (l : r.world.count ≤ k.node). let long = (lists_have_lengths r.world r.books r.routes r.lawful).nodes in
        let bare = node_beyond r.world k.node (omega (arith, long, l)) in
        absurd (none_some (router_at r.world k) q (at_node r.world k ∙ (ap (λ (n : Node). router_in n k.serial) bare ∙ bare_has_none k.serial)) here))
        (below_or k.node r.world.count)

-- Parcels that are put into a quiet world: how many acts they take until they stand where their readers are.
use Rattle.std.specs.Prelude.{◌≡◌, ◌≤◌, ◌<◌, ℕ, ◌+◌, ◌*◌, Bool, true, false, cond, nat_eq, None, List, [], ◌∷◌, length}
use Rattle.ipcz_base.specs.declared.profile.Profile.{Profile}
use Rattle.ipcz_base.specs.declared.end.End.{End}
use Rattle.ipcz_base.specs.declared.item.Item.TheVariants.{Parcel}
use Rattle.ipcz_base.specs.declared.parcel.Parcel as parcels
use Rattle.ipcz_base.specs.Ends.{has_end}
use Rattle.ipcz_base.specs.Totals.{total, total_list}
use Rattle.ipcz_router.specs.Router.{Router, is_terminal, is_proxy}
use Rattle.ipcz_router.specs.Calls.{next_number}
use Rattle.ipcz_router.specs.declared.act.RouterAct.TheVariants as acts
use Rattle.ipcz_node.specs.declared.act.Act.{Act}
use Rattle.ipcz_node.specs.declared.act.Act.TheVariants.{Router as OfRouter}
use Rattle.ipcz_node.specs.Node.{Node}
use Rattle.ipcz_node.specs.Calls.{put_refusal, put_node}
use Rattle.ipcz_world.specs.World.{World, node_at, set_node}
use Rattle.ipcz_world.specs.Books.{Books, add_put}
use Rattle.ipcz_world.specs.Routes.{Routes}
use Rattle.ipcz_world.specs.Settling.{IsQuiet}
use Rattle.ipcz_world.specs.Lawful.{Lawful}
use Rattle.ipcz_world.specs.Owed.{IsWet}
use Rattle.ipcz_world.specs.Ranks.{Rates, worth, worth_left, AreTurns, times_used, unlock_count}
use Rattle.ipcz_world.specs.SettleBounds.{CarryNone, plain_rates, plain_limit}

-- what stays with a terminal while no caller calls: the numbers that its end hasn't put yet, and those of the peer that it hasn't given out
unfoldable pub router_stays : Rates → Router → ℕ
router_stays c r = cond (is_terminal r) (worth_left c r.end (next_number r) r.in_queue.current) 0

-- the same of a node's routers, and of a world's
abbrev pub node_stays : Rates → Node → ℕ
node_stays c n = total (λ serial r. router_stays c r) n.routers

unfoldable pub stays : Rates → World → ℕ
stays c w = total_list (node_stays c) w.nodes

-- how many closes are pending
unfoldable pub pending_closes : World → ℕ
pending_closes w = total_list (λ n. length n.pending) w.nodes

-- whether an act is a discard: a sink drops an item
unfoldable pub is_discard : Act → Bool
is_discard (OfRouter serial acts.Discard) = true
is_discard other = false

-- how many of the turns are
abbrev pub discard_count : List (ℕ × Act) → ℕ
discard_count [] = 0
discard_count (t ∷ ts) = worth 1 (is_discard t.1) + discard_count ts

-- whether an act is a retire: a sink leaves, and sends Gone
unfoldable pub is_retire : Act → Bool
is_retire (OfRouter serial acts.Retire) = true
is_retire other = false

-- how many of the turns are
abbrev pub retire_count : List (ℕ × Act) → ℕ
retire_count [] = 0
retire_count (t ∷ ts) = worth 1 (is_retire t.1) + retire_count ts

-- law: what stays with the terminals is used by no turn, but for one act for each item that a sink drops, and six for each pending close and
-- for each sink that retires
abbrev pub StayingIsUnused : Type 0
StayingIsUnused =
    (w v : World) (b d : Books) (g h : Routes) (turns : List (ℕ × Act)) → Lawful w b g → CarryNone b → AreTurns w b g turns v d h →
    times_used w turns + stays (plain_rates b) w ≤
    plain_limit b w + (6 * pending_closes w + (6 * retire_count turns + (discard_count turns + 2 * unlock_count turns)))

-- a put of a parcel that carries no end: of which profile, at which node, at which end, and its bytes
pub record PlainPut : Type 0 where
  pub profile : Profile
  pub node : ℕ
  pub at : End
  pub bytes : List ℕ

-- its parcel
abbrev pub plain_parcel : PlainPut → parcels.Parcel
plain_parcel p = record { bytes = p.bytes; ends = [] }

-- the world after it
abbrev pub after_put : World → PlainPut → World
after_put w p = set_node w p.node (put_node (node_at w p.node) p.at (plain_parcel p))

-- the put is taken: it is at a node of the world, which doesn't refuse it
pub record IsTakenPut (w : World) (p : PlainPut) : Type 0 where
  pub node : p.node < w.count
  pub fine : put_refusal p.profile (node_at w p.node) p.at p.bytes [] ≡ None

-- only puts of such parcels, each of which is taken, in whatever order
abbrev pub ArePuts : World → Books → List PlainPut → World → Books → Type 0
ArePuts w b [] u d = (u ≡ w) × (d ≡ b)
ArePuts w b (p ∷ ps) u d = IsTakenPut w p × ArePuts (after_put w p) (add_put b p.at (Parcel (plain_parcel p))) ps u d

-- at how many ends they are put, apart from those that are known
abbrev pub ends_beside : List End → List PlainPut → ℕ
ends_beside known [] = 0
ends_beside known (p ∷ ps) = cond (has_end p.at known) (ends_beside known ps) (1 + ends_beside (p.at ∷ known) ps)

abbrev pub end_count : List PlainPut → ℕ
end_count ps = ends_beside [] ps

-- how many of them are put into a pair
abbrev pub puts_into : ℕ → List PlainPut → ℕ
puts_into pair [] = 0
puts_into pair (p ∷ ps) = worth 1 (nat_eq p.at.pair pair) + puts_into pair ps

-- acts enough for a proxy: six for each parcel that is put into its pair
unfoldable pub proxy_share : List PlainPut → Router → ℕ
proxy_share ps r = cond (is_proxy r) (6 * puts_into r.end.pair ps) 0

-- acts enough for the proxies of a world
unfoldable pub proxy_shares : List PlainPut → World → ℕ
proxy_shares ps w = total_list (λ n. total (λ serial r. proxy_share ps r) n.routers) w.nodes

-- law: if parcels without ends are put into a quiet world, no more of the turns that follow use something up than six for each parcel, one
-- for each end that they are put at, and the shares of the proxies that stand; with one for each item that a sink drops
abbrev pub PutsAreBounded : Type 0
PutsAreBounded =
    (w u v : World) (b d e : Books) (g h : Routes) (puts : List PlainPut) (turns : List (ℕ × Act)) → Lawful w b g → CarryNone b → IsQuiet w →
    ArePuts w b puts u d → AreTurns u d g turns v e h →
    times_used u turns ≤ 6 * length puts + (end_count puts + (proxy_shares puts w + discard_count turns))

-- law: if no router of the quiet world has found the words used up, there are no such shares, since no proxy stands
abbrev pub DirectPutsAreBounded : Type 0
DirectPutsAreBounded =
    (w u v : World) (b d e : Books) (g h : Routes) (puts : List PlainPut) (turns : List (ℕ × Act)) → Lawful w b g → CarryNone b → IsQuiet w →
    IsWet w → ArePuts w b puts u d → AreTurns u d g turns v e h → times_used u turns ≤ 6 * length puts + (end_count puts + discard_count turns)

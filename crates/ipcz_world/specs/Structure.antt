-- What always holds of counters, routers, links and words.
use Rattle.std.specs.Prelude.{◌≡◌, ◌<◌, ◌≤◌, ℕ, Bool, true, false, ◌&&◌, ◌||◌, nat_le, if◌then◌else◌, Option, Some, None, is_some, is_none}
use Rattle.std.specs.Prelude.{option_map}
use Rattle.ipcz_base.specs.declared.side.Side.{Side}
use Rattle.ipcz_base.specs.declared.side.Side.TheVariants.{A, B}
use Rattle.ipcz_base.specs.declared.link_id.LinkId.{LinkId}
use Rattle.ipcz_base.specs.declared.link_id.LinkId.TheVariants.{Central, Peripheral}
use Rattle.ipcz_base.specs.declared.link_end.LinkEnd.{LinkEnd}
use Rattle.ipcz_base.specs.declared.item.Item.{Item}
use Rattle.ipcz_base.specs.Sides.{opposite, same_side}
use Rattle.ipcz_word.specs.SideSets.{has}
use Rattle.ipcz_seq.specs.Queue.{item_at}
use Rattle.ipcz_word.specs.Word.{empty_word}
use Rattle.ipcz_router.specs.Router.{Router, is_proxy, is_terminal, inward_edge, decays, is_on_central, source_of, is_sink}
use Rattle.ipcz_router.specs.ActTable.{is_done}
use Rattle.ipcz_world.specs.World.{World, Key, node_at, word_at, mail_at, way, router_at}
use Rattle.ipcz_world.specs.Turns.{hand_message}
use Rattle.ipcz_world.specs.Each.{EachRouter}
use Rattle.ipcz_world.specs.Records.{Records, Spare, Opening, Fresh, is_linked, is_unclaimed, is_begun, is_recorded, inner_link, side_node}
use Rattle.ipcz_world.specs.Records.{is_left, side_router, side_end, bypass_of, proxy_side, across_side, known_from}
use Rattle.ipcz_world.specs.Standing.{key_passes, has_primary, has_inward_primary, spare_of}

-- nodes know their numbers, and counters are above what they have counted
pub record Counts (w : World) (g : Records) : Type 0 where
  pub node : (n : ℕ) → n < w.count → (node_at w n).number ≡ n
  pub nodes : (n : ℕ) → n < w.count → (node_at w n).count ≡ w.count
  pub claimed : w.claimed ≤ w.size
  pub unclaimed : (i : ℕ) → is_unclaimed (g.owner i) ≡ nat_le w.claimed i
  pub on_node : (k : Key) (r : Router) → router_at w k ≡ Some r → k.node < w.count
  pub serial : (k : Key) (r : Router) → router_at w k ≡ Some r → k.serial < (node_at w k.node).next_router
  pub side_serial : (link : LinkId) (s : Side) (k : Key) → is_recorded w g link ≡ true → side_router g link s ≡ Some k →
      k.serial < (node_at w k.node).next_router
  pub side_on_node : (link : LinkId) (s : Side) → is_recorded w g link ≡ true → side_node g link s < w.count
  pub hand : (n from : ℕ) → n < w.count → (node_at w n).hand ≡ Some from → is_some (hand_message (mail_at w (way w from n))) ≡ true
  pub hand_from : (n from : ℕ) → n < w.count → (node_at w n).hand ≡ Some from → from < w.count
  pub in_hand : (n from : ℕ) → n < w.count → from < w.count → is_some (hand_message (mail_at w (way w from n))) ≡ true →
      (node_at w n).hand ≡ Some from

-- no queue of a router has an item below its current number
pub record IsOrdered (r : Router) : Type 0 where
  pub out : (n : ℕ) (item : Item) → item_at r.out_queue n ≡ Some item → r.out_queue.current ≤ n
  pub inn : (n : ℕ) (item : Item) → item_at r.in_queue n ≡ Some item → r.in_queue.current ≤ n

abbrev pub Ordered : World → Type 0
Ordered w = EachRouter w (λ k r. IsOrdered r)

-- whether a router is a proxy that has begun its bypass
abbrev pub is_begun_router : Router → Bool
is_begun_router r = is_proxy r && is_none (inward_edge r).primary

-- whether a router is a terminal with a primary link, a proxy with both and no inward decaying one, or a proxy that has begun and has none
abbrev pub has_role : Router → Bool
has_role r =
    if is_terminal r then is_some r.outward.primary
    else if is_some (inward_edge r).primary then is_none (inward_edge r).decaying && is_some r.outward.primary
    else is_none r.outward.primary

-- what a router's links and flags have to do with each other
pub record HasShape (r : Router) : Type 0 where
  pub role : has_role r ≡ true
  pub marked_central : r.marked ≡ true → is_on_central r ≡ true
  pub marked_still : r.marked ≡ true → decays r ≡ false
  pub holds_marked : r.holds ≡ true → r.marked ≡ true
  -- who holds a lock is a proxy with a spare, or a sink that is done
  pub holds_fit : r.holds ≡ true → (is_proxy r || is_done r) ≡ true
  pub holds_spare : r.holds ≡ true → is_proxy r ≡ true → is_some r.spare ≡ true
  -- only a sink has dropped the mark, and only a proxy that hasn't begun has sent Gone inward
  pub dropped_sink : r.mark_dropped ≡ true → is_sink r ≡ true
  pub sent_proxy : r.gone_sent ≡ true → is_some (inward_edge r).primary ≡ true
  pub spare_proxy : (i : ℕ) → r.spare ≡ Some i → is_proxy r ≡ true
  -- whose outward link is central
  pub spare_central : (i : ℕ) → r.spare ≡ Some i → is_on_central r ≡ true

abbrev pub Shape : World → Type 0
Shape w = EachRouter w (λ k r. HasShape r)

-- a link end of a router is as the link's record says
pub record IsRecorded (w : World) (g : Records) (k : Key) (r : Router) (e : LinkEnd) : Type 0 where
  pub recorded : is_recorded w g e.link ≡ true
  pub other : e.other ≡ side_node g e.link (opposite e.side)
  pub router : side_router g e.link e.side ≡ Some k
  pub end : r.end ≡ side_end g e.link e.side

-- whether a link's side belongs outward
unfoldable pub is_outward : LinkId → Side → Bool
is_outward (Central i) s = true
is_outward (Peripheral n x) s = same_side s B

-- every link of a router is as its record says: central ones outward, of a peripheral one side A inward and side B outward
pub record HasLinks (w : World) (g : Records) (k : Key) (r : Router) : Type 0 where
  pub primary : (e : LinkEnd) → r.outward.primary ≡ Some e → IsRecorded w g k r e
  pub decaying : (e : LinkEnd) → r.outward.decaying ≡ Some e → IsRecorded w g k r e
  pub inward_primary : (e : LinkEnd) → (inward_edge r).primary ≡ Some e → IsRecorded w g k r e
  pub inward_decaying : (e : LinkEnd) → (inward_edge r).decaying ≡ Some e → IsRecorded w g k r e
  pub primary_outward : (e : LinkEnd) → r.outward.primary ≡ Some e → is_outward e.link e.side ≡ true
  pub decaying_outward : (e : LinkEnd) → r.outward.decaying ≡ Some e → is_outward e.link e.side ≡ true
  pub inward_primary_inward : (e : LinkEnd) → (inward_edge r).primary ≡ Some e → is_outward e.link e.side ≡ false
  pub inward_decaying_inward : (e : LinkEnd) → (inward_edge r).decaying ≡ Some e → is_outward e.link e.side ≡ false

abbrev pub Links : World → Records → Type 0
Links w g = EachRouter w (HasLinks w g)

-- the link of a link end, if there is one
abbrev pub link_in : Option LinkEnd → Option LinkId
link_in e = option_map (λ x. x.link) e

-- a router's link is primary or decaying as its bypass says, with the lengths that its stage tells
pub record HasPositions (g : Records) (k : Key) (r : Router) : Type 0 where
  pub inward_primary : (e : LinkEnd) → (inward_edge r).primary ≡ Some e → bypass_of g e.link ≡ None
  pub inward_decaying : (e : LinkEnd) → (inward_edge r).decaying ≡ Some e → bypass_of g e.link ≡ g.begun k
  pub inward_to : (e : LinkEnd) (o : ℕ) → (inward_edge r).decaying ≡ Some e → g.begun k ≡ Some o →
      (inward_edge r).length_to ≡ known_from 4 (g.bypass o).stage (g.bypass o).accepted_at
  pub inward_from : (e : LinkEnd) (o : ℕ) → (inward_edge r).decaying ≡ Some e → g.begun k ≡ Some o →
      (inward_edge r).length_from ≡ known_from 4 (g.bypass o).stage (g.bypass o).taken_at
  -- an outward primary link that is being bypassed: the old one at the router across before it accepts, the inner one before it is taken
  pub primary_old : (e : LinkEnd) (o : ℕ) → r.outward.primary ≡ Some e → e.link ≡ Central o → is_begun (g.bypass o) ≡ true →
      (g.bypass o).stage ≤ 2
  pub primary_across : (e : LinkEnd) (o : ℕ) → r.outward.primary ≡ Some e → e.link ≡ Central o → is_begun (g.bypass o) ≡ true →
      e.side ≡ across_side g o
  pub primary_inner : (e : LinkEnd) (p : Key) (o : ℕ) → r.outward.primary ≡ Some e → e.link ≡ inner_link p →
      (g.peripheral p).by ≡ Some o → (g.bypass o).stage ≡ 1
  -- an outward decaying link is being bypassed
  pub decaying : (e : LinkEnd) → r.outward.decaying ≡ Some e → is_some (bypass_of g e.link) ≡ true
  -- the inner one, at the router that has taken the fresh link
  pub inner_stage : (e : LinkEnd) (p : Key) (o : ℕ) → r.outward.decaying ≡ Some e → e.link ≡ inner_link p → (g.peripheral p).by ≡ Some o →
      2 ≤ (g.bypass o).stage
  pub inner_to : (e : LinkEnd) (p : Key) (o : ℕ) → r.outward.decaying ≡ Some e → e.link ≡ inner_link p → (g.peripheral p).by ≡ Some o →
      r.outward.length_to ≡ Some (g.bypass o).taken_at
  pub inner_from : (e : LinkEnd) (p : Key) (o : ℕ) → r.outward.decaying ≡ Some e → e.link ≡ inner_link p → (g.peripheral p).by ≡ Some o →
      r.outward.length_from ≡ known_from 5 (g.bypass o).stage (g.bypass o).accepted_at
  pub inner_fresh : (e : LinkEnd) (p : Key) (o : ℕ) → r.outward.decaying ≡ Some e → e.link ≡ inner_link p → (g.peripheral p).by ≡ Some o →
      link_in r.outward.primary ≡ Some (Central (g.bypass o).fresh)
  -- the old one, at the proxy
  pub own_proxy : (e : LinkEnd) (o : ℕ) → r.outward.decaying ≡ Some e → e.link ≡ Central o → e.side ≡ proxy_side g o →
      (g.bypass o).proxy ≡ k
  pub own_alone : (e : LinkEnd) (o : ℕ) → r.outward.decaying ≡ Some e → e.link ≡ Central o → e.side ≡ proxy_side g o →
      r.outward.primary ≡ None
  pub own_to : (e : LinkEnd) (o : ℕ) → r.outward.decaying ≡ Some e → e.link ≡ Central o → e.side ≡ proxy_side g o →
      r.outward.length_to ≡ known_from 4 (g.bypass o).stage (g.bypass o).taken_at
  pub own_from : (e : LinkEnd) (o : ℕ) → r.outward.decaying ≡ Some e → e.link ≡ Central o → e.side ≡ proxy_side g o →
      r.outward.length_from ≡ known_from 4 (g.bypass o).stage (g.bypass o).accepted_at
  -- the old one, at the router across
  pub across_stage : (e : LinkEnd) (o : ℕ) → r.outward.decaying ≡ Some e → e.link ≡ Central o → e.side ≡ across_side g o →
      3 ≤ (g.bypass o).stage
  pub across_to : (e : LinkEnd) (o : ℕ) → r.outward.decaying ≡ Some e → e.link ≡ Central o → e.side ≡ across_side g o →
      r.outward.length_to ≡ Some (g.bypass o).accepted_at
  pub across_from : (e : LinkEnd) (o : ℕ) → r.outward.decaying ≡ Some e → e.link ≡ Central o → e.side ≡ across_side g o →
      r.outward.length_from ≡ Some (g.bypass o).taken_at
  pub across_fresh : (e : LinkEnd) (o : ℕ) → r.outward.decaying ≡ Some e → e.link ≡ Central o → e.side ≡ across_side g o →
      link_in r.outward.primary ≡ Some (Central (g.bypass o).fresh)
  -- a router that has begun has a bypass
  pub begun : is_begun_router r ≡ true → is_some (g.begun k) ≡ true

-- the links of all routers stand so, and who has begun is the proxy of its bypass, and back
pub record Positions (w : World) (g : Records) : Type 0 where
  pub each : EachRouter w (HasPositions g)
  pub begun_proxy : (k : Key) (o : ℕ) → g.begun k ≡ Some o → (g.bypass o).proxy ≡ k
  pub begun_stage : (k : Key) (o : ℕ) → g.begun k ≡ Some o → is_begun (g.bypass o) ≡ true
  pub proxy_begun : (o : ℕ) → is_begun (g.bypass o) ≡ true → g.begun (g.bypass o).proxy ≡ Some o

-- who stands at the sides of a link that isn't being bypassed
pub record Stands (w : World) (g : Records) : Type 0 where
  pub central : (i : ℕ) (s : Side) (k : Key) → is_linked (g.owner i) ≡ true → is_begun (g.bypass i) ≡ false →
      is_left g (Central i) s ≡ false → side_router g (Central i) s ≡ Some k → key_passes w (Some k) (has_primary (Central i) s) ≡ true
  pub awaited : (i : ℕ) (s : Side) → is_linked (g.owner i) ≡ true → (g.central i).router s ≡ None → is_some (g.central i).born ≡ true
  pub awaited_stage : (i : ℕ) (s : Side) (o : ℕ) → is_linked (g.owner i) ≡ true → (g.central i).router s ≡ None →
      (g.central i).born ≡ Some o → (g.bypass o).stage ≡ 2
  pub awaited_side : (i : ℕ) (s : Side) (o : ℕ) → is_linked (g.owner i) ≡ true → (g.central i).router s ≡ None →
      (g.central i).born ≡ Some o → s ≡ across_side g o
  pub proxy : (p : Key) → is_recorded w g (inner_link p) ≡ true → (g.peripheral p).by ≡ None → is_left g (inner_link p) A ≡ false →
      key_passes w (side_router g (inner_link p) A) (has_inward_primary (inner_link p) A) ≡ true
  pub inner : (p : Key) (k : Key) → is_recorded w g (inner_link p) ≡ true → (g.peripheral p).by ≡ None →
      is_left g (inner_link p) B ≡ false → side_router g (inner_link p) B ≡ Some k → key_passes w (Some k) (has_primary (inner_link p) B) ≡ true
  pub by_begun : (p : Key) (o : ℕ) → (g.peripheral p).by ≡ Some o → is_begun (g.bypass o) ≡ true
  pub by_inner : (p : Key) (o : ℕ) → (g.peripheral p).by ≡ Some o → (g.bypass o).inner ≡ p
  -- a side that was left is that of a link that is recorded, whose router was known and has left, and which nobody bypasses
  pub left_recorded : (link : LinkId) (s : Side) → is_left g link s ≡ true → is_recorded w g link ≡ true
  pub left_known : (link : LinkId) (s : Side) → is_left g link s ≡ true → is_some (side_router g link s) ≡ true
  pub left_gone : (link : LinkId) (s : Side) → is_left g link s ≡ true → key_passes w (side_router g link s) (λ r. true) ≡ false
  pub left_live : (link : LinkId) (s : Side) → is_left g link s ≡ true → bypass_of g link ≡ None

-- each proxy that holds the lock of its link has the word name the node inward of it
abbrev pub AreSourced : World → Type 0
AreSourced w = (k : Key) (r : Router) (e : LinkEnd) (i : ℕ) → router_at w k ≡ Some r → r.holds ≡ true → r.outward.primary ≡ Some e →
    e.link ≡ Central i → (word_at w i).source ≡ source_of r

-- what the word of a link says; its source is the node inward of the proxy that holds the lock, until the router across has accepted
pub record HasWord (w : World) (g : Records) (i : ℕ) : Type 0 where
  pub unused : is_linked (g.owner i) ≡ false → word_at w i ≡ empty_word
  pub begun_stable : (s : Side) → is_begun (g.bypass i) ≡ true → has (word_at w i).stable s ≡ true
  pub begun_holder : (s : Side) → is_begun (g.bypass i) ≡ true → has (word_at w i).holder s ≡ same_side s (proxy_side g i)
  pub stable : (s : Side) → is_linked (g.owner i) ≡ true → is_begun (g.bypass i) ≡ false → is_left g (Central i) s ≡ false →
      has (word_at w i).stable s ≡ key_passes w (side_router g (Central i) s) (λ r. r.marked)
  pub holder : (s : Side) → is_linked (g.owner i) ≡ true → is_begun (g.bypass i) ≡ false → is_left g (Central i) s ≡ false →
      has (word_at w i).holder s ≡ key_passes w (side_router g (Central i) s) (λ r. r.holds)
  pub held_stable : (s t : Side) → has (word_at w i).holder s ≡ true → has (word_at w i).stable t ≡ true
  pub one_holder : (s t : Side) → has (word_at w i).holder s ≡ true → has (word_at w i).holder t ≡ true → s ≡ t
  -- the side that was left first holds the lock for good
  pub left_held : (s : Side) → is_left g (Central i) s ≡ true →
      ((is_left g (Central i) A && has (word_at w i).holder A) || (is_left g (Central i) B && has (word_at w i).holder B)) ≡ true
  pub begun_source : is_begun (g.bypass i) ≡ true → (g.bypass i).stage ≤ 2 →
      (word_at w i).source ≡ Some (side_node g (inner_link (g.bypass i).inner) B)

-- so does each word, and the word of a router that holds the lock names the node inward of it
pub record Words (w : World) (g : Records) : Type 0 where
  pub each : (i : ℕ) → HasWord w g i
  pub source : AreSourced w

-- whose the words are that aren't links yet
pub record Spares (w : World) (g : Records) : Type 0 where
  pub spare : (k : Key) (r : Router) (i : ℕ) → router_at w k ≡ Some r → r.spare ≡ Some i → g.owner i ≡ Spare k
  pub spare_back : (k : Key) (i : ℕ) → g.owner i ≡ Spare k → spare_of (router_at w k) ≡ Some i
  pub opening : (n i : ℕ) → (node_at w n).opening ≡ Some i → g.owner i ≡ Opening n
  pub opening_back : (n i : ℕ) → g.owner i ≡ Opening n → (node_at w n).opening ≡ Some i
  pub fresh : (o i : ℕ) → g.owner i ≡ Fresh o → (g.bypass o).stage ≡ 1
  pub fresh_back : (o i : ℕ) → g.owner i ≡ Fresh o → (g.bypass o).fresh ≡ i

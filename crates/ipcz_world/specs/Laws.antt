-- The laws of links, bypasses and words, in words of the world and its routes only.
-- (ipcz asks the same of its RouterLinkState and its RouteEdge; that it is said of whole worlds is this project's own.)
use Rattle.ipcz_router.specs.Router.{source_of}
use Rattle.ipcz_router.specs.Bypass.{is_source}
use Rattle.ipcz_world.specs.WordAnswers.{source_for}
use Rattle.std.specs.Prelude.{◌≡◌, ◌<◌, ◌≤◌, ◌⊎◌, ℕ, ◌+◌, Bool, true, false, cond, ◌||◌, nat_eq, Some, List, length, slice_get}
use Rattle.ipcz_base.specs.declared.side.Side.{Side}
use Rattle.ipcz_base.specs.declared.side.Side.TheVariants.{A}
use Rattle.ipcz_base.specs.declared.link_id.LinkId.{LinkId}
use Rattle.ipcz_base.specs.declared.link_id.LinkId.TheVariants.{Central}
use Rattle.ipcz_base.specs.declared.link_end.LinkEnd.{LinkEnd}
use Rattle.ipcz_base.specs.declared.descriptor.Descriptor.{Descriptor}
use Rattle.ipcz_base.specs.declared.item.Item.{Item}
use Rattle.ipcz_base.specs.declared.item.Item.TheVariants.{Mark, Gone}
use Rattle.ipcz_base.specs.declared.message.Message.{Message}
use Rattle.ipcz_base.specs.declared.message.Message.TheVariants as messages
use Rattle.ipcz_base.specs.Ends.{has_end}
use Rattle.ipcz_base.specs.Items.{ends_in}
use Rattle.ipcz_base.specs.Sides.{opposite}
use Rattle.ipcz_word.specs.SideSets.{has}
use Rattle.ipcz_base.specs.Links.{is_central, same_link}
use Rattle.ipcz_word.specs.Word.{empty_word, is_free}
use Rattle.ipcz_base.specs.declared.end.End.{End}
use Rattle.ipcz_router.specs.Router.{Router, decays, inward_edge, router_has, is_terminal}
use Rattle.ipcz_router.specs.Calls.{next_number}
use Rattle.ipcz_node.specs.Node.{is_named}
use Rattle.ipcz_node.specs.Hands.{link_asked, side_asked}
use Rattle.ipcz_world.specs.World.{World, Key, node_at, word_at, router_at}
use Rattle.ipcz_world.specs.Books.{Books, read, is_closed, is_retired}
use Rattle.ipcz_world.specs.Plain.{IsUnwritten}
use Rattle.ipcz_world.specs.Routes.{Routes, is_opened}
use Rattle.ipcz_world.specs.Places.{in_places, names_end}
use Rattle.ipcz_world.specs.Whereabouts.{times_held, times_closed}
use Rattle.ipcz_world.specs.Records.{Owner, Unclaimed, Spare, Opening, Fresh, Linked, is_linked, is_unclaimed, is_lost_owner}
use Rattle.ipcz_world.specs.Flows.{IsUnderWay, is_made_before, under_way, moves_of}
use Rattle.ipcz_world.specs.Standing.{has_primary, has_inward_primary, is_attached, spare_of, sending_queue, fed_queue}
use Rattle.ipcz_world.specs.Inv.{HasNoStrays}

-- a router has the word's link as outward primary at this side, and none of its edges decays
pub record There (w : World) (i : ℕ) (s : Side) : Type 0 where
  pub key : Key
  pub router : Router
  pub here : router_at w key ≡ Some router
  pub on : has_primary (Central i) s router ≡ true
  pub still : decays router ≡ false

-- a word has at most one holder, and only while both sides are stable; routers' flags are as the word says; a free word joins two routers
-- that don't decay
pub record LinkLaw (w : World) : Type 0 where
  pub one_holder : (i : ℕ) (s t : Side) → has (word_at w i).holder s ≡ true → has (word_at w i).holder t ≡ true → s ≡ t
  pub held_stable : (i : ℕ) (s t : Side) → has (word_at w i).holder s ≡ true → has (word_at w i).stable t ≡ true
  pub marked : (k : Key) (r : Router) (i : ℕ) (s : Side) → router_at w k ≡ Some r → has_primary (Central i) s r ≡ true →
      r.marked ≡ has (word_at w i).stable s
  pub holds : (k : Key) (r : Router) (i : ℕ) (s : Side) → router_at w k ≡ Some r → has_primary (Central i) s r ≡ true →
      r.holds ≡ has (word_at w i).holder s
  pub free : (i : ℕ) (s : Side) → is_free (word_at w i) ≡ true → There w i s
  pub one_each : (j k : Key) (q r : Router) (i : ℕ) (s : Side) → router_at w j ≡ Some q → router_at w k ≡ Some r →
      has_primary (Central i) s q ≡ true → has_primary (Central i) s r ≡ true → j ≡ k

-- a word has a holder at whose side no router has it as primary any more, outward or inward
pub record IsBypassed (w : World) (i : ℕ) : Type 0 where
  pub side : Side
  pub held : has (word_at w i).holder side ≡ true
  pub left : (k : Key) (r : Router) → router_at w k ≡ Some r → has_primary (Central i) side r ≡ false
  pub left_inward : (k : Key) (r : Router) → router_at w k ≡ Some r → has_inward_primary (Central i) side r ≡ false

-- whether a message names this word as the old one of its bypass
unfoldable pub names_old : ℕ → Message → Bool
names_old o (messages.BypassPeer link side old target fresh) = nat_eq old o
names_old o (messages.AcceptBypass old side fresh length) = nat_eq old o
names_old o (messages.StopProxying side old in_length out_length) = nat_eq old o
names_old o other = false

-- a central link that decays, or that a message names as old, is bypassed under the lock
pub record BypassLaw (w : World) : Type 0 where
  pub outward : (k : Key) (r : Router) (e : LinkEnd) (i : ℕ) → router_at w k ≡ Some r → r.outward.decaying ≡ Some e → e.link ≡ Central i →
      IsBypassed w i
  pub inward : (k : Key) (r : Router) (e : LinkEnd) (i : ℕ) → router_at w k ≡ Some r → (inward_edge r).decaying ≡ Some e →
      e.link ≡ Central i → IsBypassed w i
  pub message : (from to i : ℕ) (m : Message) (o : ℕ) → IsUnderWay w from to i m → names_old o m ≡ true → IsBypassed w o
  -- the word of a lock names the node inward of the proxy that holds it, and still does until the router across has accepted
  pub source : (k : Key) (r : Router) (e : LinkEnd) (i : ℕ) → router_at w k ≡ Some r → r.holds ≡ true → r.outward.primary ≡ Some e →
      e.link ≡ Central i → (word_at w i).source ≡ source_of r
  pub begun_source : (from to i : ℕ) (link : LinkId) (s : Side) (old target fresh : ℕ) →
      IsUnderWay w from to i (messages.BypassPeer link s old target fresh) → (word_at w old).source ≡ Some to
  pub taken_source : (from to i old : ℕ) (s : Side) (fresh length : ℕ) →
      IsUnderWay w from to i (messages.AcceptBypass old s fresh length) → (word_at w old).source ≡ Some from

-- whether a message names the word's link, other than as a fresh word that no router has taken yet
unfoldable pub names_link : ℕ → Message → Bool
names_link i (messages.Item link side n item moves) = same_link link (Central i)
names_link i (messages.BypassPeer link side old target fresh) = same_link link (Central i) || nat_eq old i
names_link i (messages.AcceptBypass old side fresh length) = nat_eq old i || nat_eq fresh i
names_link i (messages.StopProxying side old in_length out_length) = nat_eq old i
names_link i (messages.ProxyWillStop link side in_length) = same_link link (Central i)
names_link i (messages.Flush link side) = same_link link (Central i)

-- counts a BypassPeer that brings this word as the fresh one
unfoldable pub fresh_count : ℕ → Message → ℕ
fresh_count i (messages.BypassPeer link side old target fresh) = cond (nat_eq fresh i) 1 0
fresh_count i other = 0

-- a router has the word's link
pub record IsOnLink (w : World) (i : ℕ) : Type 0 where
  pub key : Key
  pub router : Router
  pub side : Side
  pub here : router_at w key ≡ Some router
  pub on : router_has router (Central i) side ≡ true

-- each claimed word is one of: the spare of one router, for one open under way, the fresh word of one BypassPeer, the spare that a proxy left
-- which Gone took away, each of these 0, or the link of one pair with at most one router a side. The others are 0 and named nowhere
pub record WordLaw (w : World) (g : Routes) : Type 0 where
  pub owner : ℕ → Owner
  pub unclaimed : (i : ℕ) → w.claimed ≤ i → owner i ≡ Unclaimed
  pub claimed : (i : ℕ) → i < w.claimed → is_unclaimed (owner i) ≡ false
  pub unused : (i : ℕ) → is_linked (owner i) ≡ false → word_at w i ≡ empty_word
  -- a spare, and for an open: the owner has it, and back
  pub spare : (k : Key) (r : Router) (i : ℕ) → router_at w k ≡ Some r → r.spare ≡ Some i → owner i ≡ Spare k
  pub spare_back : (k : Key) (i : ℕ) → owner i ≡ Spare k → spare_of (router_at w k) ≡ Some i
  pub opening : (n i : ℕ) → (node_at w n).opening ≡ Some i → owner i ≡ Opening n
  pub opening_back : (n i : ℕ) → owner i ≡ Opening n → (node_at w n).opening ≡ Some i
  -- fresh: the bypass of whose old word it is, and back, one BypassPeer brings it
  pub fresh : (from to j : ℕ) (link : LinkId) (s : Side) (old target i : ℕ) →
      IsUnderWay w from to j (messages.BypassPeer link s old target i) → owner i ≡ Fresh old
  pub fresh_back : (old i : ℕ) → owner i ≡ Fresh old → under_way (λ from to m. fresh_count i m) w ≡ 1
  -- lost: exactly the words that the run has seen go with a proxy
  pub is_lost : (i : ℕ) → is_lost_owner (owner i) ≡ g.lost i
  -- of a link: exactly the words that the run has made links of; each is or was in use; and only these are named
  pub is_link : (i : ℕ) → is_linked (owner i) ≡ g.is_link i
  pub linked_back : (i : ℕ) → owner i ≡ Linked → (has (word_at w i).stable A ≡ true) ⊎ IsOnLink w i
  pub linked : (k : Key) (r : Router) (i : ℕ) (s : Side) → router_at w k ≡ Some r → router_has r (Central i) s ≡ true → owner i ≡ Linked
  pub named : (from to j : ℕ) (m : Message) (i : ℕ) → IsUnderWay w from to j m → names_link i m ≡ true → owner i ≡ Linked
  -- what moves with a parcel names no word
  pub moving : (from to i j : ℕ) (m : Message) (d : Descriptor) → IsUnderWay w from to i m → slice_get (moves_of m) j ≡ Some d →
      is_central d.link ≡ false
  pub of_pair : (k : Key) (r : Router) (i : ℕ) (s : Side) → router_at w k ≡ Some r → router_has r (Central i) s ≡ true →
      r.end.pair ≡ g.pair i
  pub one_each : (j k : Key) (q r : Router) (i : ℕ) (s : Side) → router_at w j ≡ Some q → router_at w k ≡ Some r →
      router_has q (Central i) s ≡ true → router_has r (Central i) s ≡ true → j ≡ k

-- a word that is the word of a link stays that, and of the same pair
abbrev pub KeepsLinks : Routes → Routes → Type 0
KeepsLinks g h = (i : ℕ) → g.is_link i ≡ true → (h.is_link i ≡ true) × (h.pair i ≡ g.pair i)

-- a router or a message knows how many items a side of a link sends over it
pub data Knows (w : World) (link : LinkId) (s : Side) (n : ℕ) : Type 0 where
  OutwardTo : (k : Key) → (r : Router) → (e : LinkEnd) → router_at w k ≡ Some r → r.outward.decaying ≡ Some e →
      r.outward.length_to ≡ Some n → e.link ≡ link → e.side ≡ s → Knows w link s n
  OutwardFrom : (k : Key) → (r : Router) → (e : LinkEnd) → router_at w k ≡ Some r → r.outward.decaying ≡ Some e →
      r.outward.length_from ≡ Some n → e.link ≡ link → opposite e.side ≡ s → Knows w link s n
  InwardTo : (k : Key) → (r : Router) → (e : LinkEnd) → router_at w k ≡ Some r → (inward_edge r).decaying ≡ Some e →
      (inward_edge r).length_to ≡ Some n → e.link ≡ link → e.side ≡ s → Knows w link s n
  InwardFrom : (k : Key) → (r : Router) → (e : LinkEnd) → router_at w k ≡ Some r → (inward_edge r).decaying ≡ Some e →
      (inward_edge r).length_from ≡ Some n → e.link ≡ link → opposite e.side ≡ s → Knows w link s n
  Accepting : (from to i old : ℕ) → (side : Side) → (fresh : ℕ) → IsUnderWay w from to i (messages.AcceptBypass old side fresh n) →
      Central old ≡ link → opposite side ≡ s → Knows w link s n
  StoppingIn : (from to i old : ℕ) → (side : Side) → (out_length : ℕ) →
      IsUnderWay w from to i (messages.StopProxying side old n out_length) → Central old ≡ link → opposite side ≡ s → Knows w link s n
  StoppingOut : (from to i old : ℕ) → (side : Side) → (in_length : ℕ) →
      IsUnderWay w from to i (messages.StopProxying side old in_length n) → Central old ≡ link → side ≡ s → Knows w link s n
  -- the same lengths hold for the inner link of the proxy that they go to
  StoppingInner : (from to i old : ℕ) → (side : Side) → (out_length : ℕ) →
      IsUnderWay w from to i (messages.StopProxying side old n out_length) → (k : Key) → (r : Router) → (e : LinkEnd) →
      router_at w k ≡ Some r →
      k.node ≡ to → router_has r (Central old) side ≡ true → (inward_edge r).decaying ≡ Some e → e.link ≡ link → e.side ≡ s →
      Knows w link s n
  StoppingInnerOut : (from to i old : ℕ) → (side : Side) → (in_length : ℕ) →
      IsUnderWay w from to i (messages.StopProxying side old in_length n) → (k : Key) → (r : Router) → (e : LinkEnd) →
      router_at w k ≡ Some r →
      k.node ≡ to → router_has r (Central old) side ≡ true → (inward_edge r).decaying ≡ Some e → e.link ≡ link → opposite e.side ≡ s →
      Knows w link s n
  Ending : (from to i : ℕ) → (l : LinkId) → (side : Side) → IsUnderWay w from to i (messages.ProxyWillStop l side n) → l ≡ link →
      opposite side ≡ s → Knows w link s n

-- all that know a length know the same; items under way are below it, and not passed at the receiver; a receiver is ahead of the sender
-- only if the sender has come to it
pub record LengthLaw (w : World) : Type 0 where
  pub one : (link : LinkId) (s : Side) (m n : ℕ) → Knows w link s m → Knows w link s n → m ≡ n
  pub not_passed : (from to i : ℕ) (link : LinkId) (s : Side) (n : ℕ) (item : Item) (moves : List Descriptor) (k : Key) (r : Router) →
      IsUnderWay w from to i (messages.Item link s n item moves) →
      router_at w k ≡ Some r → k.node ≡ to → is_attached link s r ≡ true → (fed_queue link s r).current ≤ n
  pub below : (from to i : ℕ) (link : LinkId) (s : Side) (n : ℕ) (item : Item) (moves : List Descriptor) (length : ℕ) →
      IsUnderWay w from to i (messages.Item link s n item moves) → Knows w link (opposite s) length → n < length
  pub ahead : (link : LinkId) (s : Side) (j k : Key) (q r : Router) → router_at w j ≡ Some q → router_at w k ≡ Some r →
      is_attached link s q ≡ true → is_attached link (opposite s) r ≡ true →
      (sending_queue link (opposite s) r).current < (fed_queue link s q).current →
      Knows w link (opposite s) (sending_queue link (opposite s) r).current

-- whether a message is a Flush
unfoldable pub is_flush : Message → Bool
is_flush (messages.Flush link side) = true
is_flush other = false

-- no node has a stray, and each message under way, Flush aside, finds its router or follows what makes it, and none would be Forged
pub record StrayLaw (w : World) : Type 0 where
  pub none : HasNoStrays w
  pub finds : (from to i : ℕ) (m : Message) → IsUnderWay w from to i m → is_flush m ≡ false →
      (is_named (node_at w to) (link_asked m) (side_asked m) ≡ true) ⊎ (is_made_before w from to i (link_asked m) (side_asked m) ≡ true)
  pub sourced : (from to i old : ℕ) (s : Side) (fresh length : ℕ) → IsUnderWay w from to i (messages.AcceptBypass old s fresh length) →
      is_source from (source_for w (messages.AcceptBypass old s fresh length)) ≡ true

-- a terminal's numbers are those of its end's books, and so are those of a descriptor under way that will make one
pub record TerminalLaw (w : World) (b : Books) : Type 0 where
  -- its next number is how many items its end has put, and the current number of its in queue how many its end has read
  pub next : (k : Key) (r : Router) → router_at w k ≡ Some r → is_terminal r ≡ true → next_number r ≡ length (b.put r.end)
  pub current : (k : Key) (r : Router) → router_at w k ≡ Some r → is_terminal r ≡ true → r.in_queue.current ≡ read b r.end
  -- it is a sink exactly if its end was closed, and an open one has dropped nothing
  pub sink : (k : Key) (r : Router) → router_at w k ≡ Some r → is_terminal r ≡ true → r.closed ≡ is_closed b r.end
  pub open_drops_nothing : (k : Key) (r : Router) → router_at w k ≡ Some r → is_terminal r ≡ true → r.closed ≡ false → b.gone r.end ≡ 0
  -- the same of a descriptor
  pub moving_next : (from to i j : ℕ) (m : Message) (d : Descriptor) → IsUnderWay w from to i m → slice_get (moves_of m) j ≡ Some d →
      d.next_out ≡ length (b.put d.end)
  pub moving_current : (from to i j : ℕ) (m : Message) (d : Descriptor) → IsUnderWay w from to i m → slice_get (moves_of m) j ≡ Some d →
      d.next_in ≡ read b d.end
  pub moving_open : (from to i j : ℕ) (m : Message) (d : Descriptor) → IsUnderWay w from to i m → slice_get (moves_of m) j ≡ Some d →
      is_closed b d.end ≡ false
  -- and only a closed end drops items
  pub gone_closed : (e : End) → is_closed b e ≡ false → b.gone e ≡ 0

-- each end of an open pair is held by callers, in a parcel, pending or closed: one of these, once; another end is nowhere, and of it
-- nothing is written. What moves with a message is in its parcel; the mark that a close puts is its end's last item, or Gone comes right
-- after it and is last, if its sink has retired
pub record EndLaw (w : World) (b : Books) (g : Routes) : Type 0 where
  pub once : (e : End) → in_places (names_end e) g w + (times_held w e + times_closed b e) ≡ cond (is_opened g e.pair) 1 0
  pub unopened : (e : End) → is_opened g e.pair ≡ false → IsUnwritten b e
  pub moving : (from to i : ℕ) (link : LinkId) (s : Side) (n : ℕ) (item : Item) (moves : List Descriptor) (j : ℕ) (d : Descriptor) →
      IsUnderWay w from to i (messages.Item link s n item moves) → slice_get moves j ≡ Some d → has_end d.end (ends_in item) ≡ true
  pub mark_last : (e : End) (n : ℕ) → slice_get (b.put e) n ≡ Some Mark → n + 1 + cond (is_retired b e) 1 0 ≡ length (b.put e)
  pub gone_last : (e : End) (n : ℕ) → slice_get (b.put e) n ≡ Some Gone → n + 1 ≡ length (b.put e)
  pub retired_closed : (e : End) → is_retired b e ≡ true → is_closed b e ≡ true

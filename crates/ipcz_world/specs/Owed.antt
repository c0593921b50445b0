-- What is owed to a router that could act or that waits, how proxies are ranked, and when the route of a pair is direct.
-- (ipcz: that a flush is asked for wherever a router may have something to do, and that routes become direct in the end.)
use Rattle.std.specs.Prelude.{◌≡◌, ◌⊎◌, ◌<◌, ℕ, Bool, true, false, ◌||◌, Some, None, length}
use Rattle.ipcz_base.specs.declared.side.Side.{Side}
use Rattle.ipcz_base.specs.declared.side.Side.TheVariants.{A, B}
use Rattle.ipcz_base.specs.declared.link_id.LinkId.{LinkId}
use Rattle.ipcz_base.specs.declared.link_id.LinkId.TheVariants.{Central, Peripheral}
use Rattle.ipcz_base.specs.declared.link_end.LinkEnd.{LinkEnd}
use Rattle.ipcz_base.specs.declared.item.Item.{Item}
use Rattle.ipcz_base.specs.declared.message.Message.{Message}
use Rattle.ipcz_base.specs.declared.message.Message.TheVariants as messages
use Rattle.ipcz_base.specs.Ends.{end_at, opposite_end}
use Rattle.ipcz_base.specs.Links.{same_link}
use Rattle.ipcz_base.specs.Sides.{opposite}
use Rattle.ipcz_base.specs.Totals.{total}
use Rattle.ipcz_word.specs.SideSets.{has}
use Rattle.ipcz_word.specs.Word.{is_free}
use Rattle.ipcz_edge.specs.Edge.{Edge}
use Rattle.ipcz_router.specs.Router.{Router, outward_has, inward_has, inward_edge, is_terminal}
use Rattle.ipcz_router.specs.ActTable.{is_possible}
use Rattle.ipcz_router.specs.declared.act.RouterAct.{RouterAct}
use Rattle.ipcz_router.specs.declared.act.RouterAct.TheVariants.{Lock}
use Rattle.ipcz_world.specs.World.{World, Key, word_at, router_at}
use Rattle.ipcz_world.specs.Books.{Books, is_closed, is_retired}
use Rattle.ipcz_world.specs.Flows.{IsUnderWay}
use Rattle.ipcz_world.specs.Places.{unread_weight}
use Rattle.ipcz_world.specs.Standing.{has_primary}
use Rattle.ipcz_world.specs.Laws.{names_old}

-- each router with a possible act is flagged
abbrev pub AreFlagged : World → Type 0
AreFlagged w = (k : Key) (r : Router) (act : RouterAct) → router_at w k ≡ Some r → is_possible r act ≡ true → r.flagged ≡ true

-- the flags of each router agree: a dry one has no spare, one that owes a wake is marked, and one that has tried is marked and doesn't hold
-- the lock
pub record FlagsAgree (w : World) : Type 0 where
  pub dry : (k : Key) (r : Router) → router_at w k ≡ Some r → r.dry ≡ true → r.spare ≡ None
  pub wake : (k : Key) (r : Router) → router_at w k ≡ Some r → r.wake_owed ≡ true → r.marked ≡ true
  pub tried_marked : (k : Key) (r : Router) → router_at w k ≡ Some r → r.tried ≡ true → r.marked ≡ true
  pub tried_free : (k : Key) (r : Router) → router_at w k ≡ Some r → r.tried ≡ true → r.holds ≡ false

-- a Flush for this side of the word is under way to a node
pub record HasFlush (w : World) (i : ℕ) (s : Side) (to : ℕ) : Type 0 where
  pub from : ℕ
  pub place : ℕ
  pub under_way : IsUnderWay w from to place (messages.Flush (Central i) s)

-- a router has the word's link as its outward primary link at this side and passes a test
pub record PrimaryPasses (w : World) (i : ℕ) (s : Side) (test : Router → Bool) : Type 0 where
  pub key : Key
  pub router : Router
  pub here : router_at w key ≡ Some router
  pub on : has_primary (Central i) s router ≡ true
  pub passes : test router ≡ true

-- the side waits for one that isn't stable, or whose router owes it the wake
abbrev pub WaitsForOther : World → ℕ → Side → Type 0
WaitsForOther w i s =
    (has (word_at w i).waiting s ≡ true) × ((has (word_at w i).stable (opposite s) ≡ false) ⊎
    PrimaryPasses w i (opposite s) (λ r. r.wake_owed))

-- a side that has tried has a waker: the other side holds the lock, or a Flush is under way to it, or the router of the other side passes a
-- test, or it waits for the other
abbrev pub HasWakerBy : (Router → Bool) → World → ℕ → Side → ℕ → Type 0
HasWakerBy test w i s node =
    (has (word_at w i).holder (opposite s) ≡ true) ⊎ (HasFlush w i s node ⊎ (PrimaryPasses w i (opposite s) test ⊎ WaitsForOther w i s))

-- the test is whether a try for the lock is possible: this is what each step keeps
abbrev pub HasWaker : World → ℕ → Side → ℕ → Type 0
HasWaker = HasWakerBy (λ r. is_possible r Lock)

-- no wakeup is lost: each router that has tried has a waker on the word of its outward primary link
abbrev pub HaveWakers : World → Type 0
HaveWakers w = (i : ℕ) (k : Key) (r : Router) (s : Side) → router_at w k ≡ Some r → r.tried ≡ true → has_primary (Central i) s r ≡ true →
    HasWaker w i s k.node

-- routers have ranks, below a limit, that rise along each peripheral link from its proxy inward: no proxies stand in a ring
pub record IsRanked (w : World) : Type 0 where
  pub rank : Key → ℕ
  pub limit : ℕ
  pub below : (k : Key) (r : Router) → router_at w k ≡ Some r → rank k < limit
  pub rises : (j k : Key) (q r : Router) (n x : ℕ) → router_at w j ≡ Some q → router_at w k ≡ Some r →
      inward_has q (Peripheral n x) A ≡ true → outward_has r (Peripheral n x) B ≡ true → rank j < rank k

-- whether a message of a bypass names the link itself as the one that is taken away
unfoldable pub takes_link : LinkId → Message → Bool
takes_link link (messages.BypassPeer l side old target fresh) = same_link l link || same_link (Central old) link
takes_link link (messages.AcceptBypass old side fresh length) = same_link (Central old) link
takes_link link (messages.StopProxying side old in_length out_length) = same_link (Central old) link
takes_link link (messages.ProxyWillStop l side in_length) = same_link l link
takes_link link other = false

-- the link is the inner one of a proxy whose old link decays too
pub record IsInnerOf (w : World) (link : LinkId) (old : ℕ) : Type 0 where
  pub key : Key
  pub proxy : Router
  pub outer : LinkEnd
  pub inner : LinkEnd
  pub here : router_at w key ≡ Some proxy
  pub outward : proxy.outward.decaying ≡ Some outer
  pub outer_link : outer.link ≡ Central old
  pub inward : (inward_edge proxy).decaying ≡ Some inner
  pub inner_link : inner.link ≡ link

-- a message belongs to the bypass that takes a link away: it names the link, or the old link of the proxy whose inner link it is
abbrev pub TakesAway : World → Message → LinkId → Type 0
TakesAway w m link = (takes_link link m ≡ true) ⊎ ((old : ℕ) × (names_old old m ≡ true) × IsInnerOf w link old)

-- one of the four messages of the bypass that takes a link away is under way
pub record IsBypassing (w : World) (link : LinkId) : Type 0 where
  pub from : ℕ
  pub to : ℕ
  pub place : ℕ
  pub message : Message
  pub under_way : IsUnderWay w from to place message
  pub takes : TakesAway w message link

-- an edge is one of the router's
abbrev pub IsEdgeOf : Router → Edge → Type 0
IsEdgeOf r e = (e ≡ r.outward) ⊎ (r.inward ≡ Some e)

-- a router with a possible act is flagged; its flags agree; for one that has tried the other side holds the lock, or a Flush is under way,
-- or the other router is flagged, or it waits for the other; and if a length of a decaying link isn't known, outward or inward, its
-- bypass has a message under way
pub record Owed (w : World) : Type 0 where
  pub flagged : AreFlagged w
  pub agreed : FlagsAgree w
  pub tried : (k : Key) (r : Router) → router_at w k ≡ Some r → r.tried ≡ true →
      (i : ℕ) × (s : Side) × (has_primary (Central i) s r ≡ true) × HasWakerBy (λ q. q.flagged) w i s k.node
  pub length_to : (k : Key) (r : Router) (e : Edge) (d : LinkEnd) → router_at w k ≡ Some r → IsEdgeOf r e → e.decaying ≡ Some d →
      e.length_to ≡ None → IsBypassing w d.link
  pub length_from : (k : Key) (r : Router) (e : Edge) (d : LinkEnd) → router_at w k ≡ Some r → IsEdgeOf r e → e.decaying ≡ Some d →
      e.length_from ≡ None → IsBypassing w d.link

-- a terminal of a pair's side stands on the link of a word, and its edge doesn't decay
pub record IsTerminalOn (w : World) (pair word : ℕ) (s : Side) : Type 0 where
  pub key : Key
  pub router : Router
  pub here : router_at w key ≡ Some router
  pub end : router.end ≡ end_at pair s
  pub terminal : is_terminal router ≡ true
  pub on : has_primary (Central word) s router ≡ true
  pub still : router.outward.decaying ≡ None

-- the routers of a pair are two terminals, one for each side, on one central link, with nothing decaying
pub record IsDirectPair (w : World) (pair : ℕ) : Type 0 where
  pub word : ℕ
  pub stands : (s : Side) → IsTerminalOn w pair word s
  pub only : (k : Key) (r : Router) → router_at w k ≡ Some r → r.end.pair ≡ pair → k ≡ (stands r.end.side).key

-- a pair is direct: its link is stable on both sides and free, and each item of an end that its peer hasn't read stands in the in queue of
-- the peer's terminal
pub record IsDirect (w : World) (b : Books) (pair : ℕ) : Type 0 where
  pub route : IsDirectPair w pair
  pub free : is_free (word_at w route.word) ≡ true
  pub delivered : (s : Side) (h : ℕ → Item → ℕ) →
      total h (route.stands s).router.in_queue.items ≡ unread_weight h b (opposite_end (end_at pair s))

-- a terminal whose peer's sink has retired hasn't read Gone: it leaves when it does
abbrev pub GoneUnread : World → Books → Type 0
GoneUnread w b = (k : Key) (r : Router) → router_at w k ≡ Some r → is_terminal r ≡ true → is_retired b (opposite_end r.end) ≡ true →
    r.in_queue.current < length (b.put (opposite_end r.end))

-- no router has found the words used up
abbrev pub IsWet : World → Type 0
IsWet w = (k : Key) (r : Router) → router_at w k ≡ Some r → r.dry ≡ false

-- each router that stands is of a pair of which an end isn't closed
abbrev pub HasNoClosedPairs : World → Books → Type 0
HasNoClosedPairs w b =
    (k : Key) (r : Router) → router_at w k ≡ Some r → is_closed b r.end ≡ true → is_closed b (opposite_end r.end) ≡ false

-- no proxy stands
abbrev pub HasNoProxies : World → Type 0
HasNoProxies w = (k : Key) (r : Router) → router_at w k ≡ Some r → is_terminal r ≡ true

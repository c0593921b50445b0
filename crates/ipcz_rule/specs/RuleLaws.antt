-- What the rule says of the world that is shown and of each part, as functions promise it.
use Rattle.std.specs.Prelude.{◌≡◌, ◌≢◌, ◌≤◌, ◌<◌, ◌+◌, ◌*◌, ℕ, true, false, List, [], Some, slice_index}
use Rattle.std.specs.Int.{bit_at}
use mathlib.Core.Option.{some}
use lib.ListN.{get_elem?}
use Rattle.ipcz_base.specs.declared.side.Side.{Side}
use Rattle.ipcz_base.specs.declared.end.End.{End}
use Rattle.ipcz_base.specs.declared.item.Item.{Item}
use Rattle.ipcz_base.specs.declared.item.Item.TheVariants.{Parcel}
use Rattle.ipcz_base.specs.declared.parcel.Parcel as parcels
use Rattle.ipcz_base.specs.declared.message.Message.{Message}
use Rattle.ipcz_base.specs.Ends.{opposite_end, end_at}
use Rattle.ipcz_router.specs.Router.{Router}
use Rattle.ipcz_node.specs.declared.act.Act.{Act}
use Rattle.ipcz_node.specs.Node.{Node, router_in}
use Rattle.ipcz_node.specs.Acts.{is_quiet}
use Rattle.ipcz_node.specs.Hands.{is_unfit}
use Rattle.ipcz_world.specs.Laws.{LengthLaw, StrayLaw, is_flush}
use Rattle.ipcz_world.specs.Lawful.{Headline}
use Rattle.ipcz_world.specs.Owed.{Owed, IsDirect, HasNoProxies, HasNoClosedPairs}
use Rattle.ipcz_world.specs.Ranks.{Rates, IsRated, AreTurns, rank, times_used, unlock_count}
use Rattle.ipcz_world.specs.Books.{Books, is_closed}
use Rattle.ipcz_world.specs.Routes.{Routes, is_opened}
use Rattle.ipcz_world.specs.Coding.{IsLinkNumber}
use Rattle.ipcz_world.specs.World.{World}
use Rattle.ipcz_world.specs.Settling.{IsQuiet}
use Rattle.ipcz_world.specs.Soundness.{HasLengths, IsSound}
use Rattle.ipcz_rule.specs.declared.view.View.{View}
use Rattle.ipcz_rule.specs.declared.view.Part.{Part}
use Rattle.ipcz_rule.specs.Rule.{St, Rules, HaveParts, InParts, puts_of, gets_of}
use Rattle.ipcz_rule.specs.Steps.{old_word, trusted}

-- the sentence holds of the shown world with the joined books; its link lengths agree, and no message but a Flush finds its router gone
abbrev pub RuleGivesHeadline : Type 0
RuleGivesHeadline = (count size : ℕ) (s : St) (r : Rules count size s) → Headline r.world r.books r.routes × LengthLaw r.world ×
    StrayLaw r.world

-- a router of the shown world that could act is flagged, flags agree, and an unknown length is under way
abbrev pub RuleOwes : Type 0
RuleOwes = (count size : ℕ) (s : St) (r : Rules count size s) → Owed r.world

-- the shown world's lists are as long as its numbers say
abbrev pub ShownHasLengths : Type 0
ShownHasLengths = (count size : ℕ) (s : St) (r : Rules count size s) → HasLengths r.world

-- each part is that of a node of the table, which is sound and has no strays
abbrev pub PartsAreSound : Type 0
PartsAreSound = (count size : ℕ) (s : St) (r : Rules count size s) (id : ℕ) (v : View) (j : ℕ) (p : Part) → get_elem? s.views id ≡ some v →
    get_elem? v.parts j ≡ some p →
    (p.node < count) × IsSound count size p.node p.state × (p.state.strays ≡ [])

-- the message in a node's hand fits there, but a Flush may find its router gone
abbrev pub PartsHandsFit : Type 0
PartsHandsFit = (count size : ℕ) (s : St) (r : Rules count size s) (id : ℕ) (v : View) (j : ℕ) (p : Part) (from : ℕ) (x : Message) →
    get_elem? s.views id ≡ some v → get_elem? v.parts j ≡ some p →
    p.state.hand ≡ Some from → p.message ≡ Some x → is_unfit p.state from x (trusted from x) ≡ true → is_flush x ≡ true

-- what stands at a link is the number of a link word, of which bits 6 and 7 are none
abbrev pub LinksAreWords : Type 0
LinksAreWords = (count size : ℕ) (s : St) (r : Rules count size s) (i : ℕ) → i < size → IsLinkNumber (slice_index s.words i)

-- the old link that an AcceptBypass in hand names has a word of the table
abbrev pub OldLinksAreWords : Type 0
OldLinksAreWords = (count size : ℕ) (s : St) (r : Rules count size s) (id : ℕ) (v : View) (j : ℕ) (p : Part) (from old : ℕ) (x : Message) →
    get_elem? s.views id ≡ some v →
    get_elem? v.parts j ≡ some p → p.state.hand ≡ Some from → p.message ≡ Some x → old_word x ≡ Some old → old < size

-- a claim count that a view has seen is at most the one that stands in the table, and that is at most the number of link words
abbrev pub CountsWereReached : Type 0
CountsWereReached = (count size : ℕ) (s : St) → Rules count size s → (id : ℕ) (v : View) (k n : ℕ) → get_elem? s.views id ≡ some v →
    get_elem? v.seen k ≡ some (size, n) → (n ≤ slice_index s.words size) × (slice_index s.words size ≤ size)

-- a full mailbox has its sender's bit set in the inbox of the node that it is to; so who finds the bit not set knows that the mailbox isn't full
abbrev pub FullMailboxesAreAnnounced : Type 0
FullMailboxesAreAnnounced = (count size : ℕ) (s : St) → Rules count size s → (from to : ℕ) → from < count → to < count →
    slice_index s.words (size + 1 + count + (from * count + to)) ≡ 1 → bit_at (slice_index s.words (size + 1 + to)) from ≡ 1

-- the views say of each number that an end has put at most one item
abbrev pub PutsAreOnce : Type 0
PutsAreOnce = (count size : ℕ) (s : St) → Rules count size s → (e : End) (n : ℕ) (x y : Item) → InParts s.views puts_of ((e, n), x) →
    InParts s.views puts_of ((e, n), y) → x ≡ y

-- what a portal has got under a number is what its peer has put under it, and it has got all numbers before
abbrev pub GetsFollowPuts : Type 0
GetsFollowPuts = (count size : ℕ) (s : St) → Rules count size s → (e : End) (n : ℕ) (q : parcels.Parcel) →
    InParts s.views gets_of ((e, n), q) →
    InParts s.views puts_of ((opposite_end e, n), Parcel q) × ((k : ℕ) → k < n → (p : parcels.Parcel) × InParts s.views gets_of ((e, k), p))

-- this holds of each part in a view
abbrev pub EachPart : List View → (Part → Type 0) → Type 0
EachPart views P = (id : ℕ) (v : View) (j : ℕ) (p : Part) → get_elem? views id ≡ some v → get_elem? v.parts j ≡ some p → P p

-- each node of the table has a part in a view
abbrev pub NodesHaveParts : Type 0
NodesHaveParts = (count size : ℕ) (s : St) → Rules count size s → HaveParts s.views count

-- if each part is of a quiet node, and no mailbox is full, the shown world is quiet
abbrev pub QuietPartsShowQuiet : Type 0
QuietPartsShowQuiet = (count size : ℕ) (s : St) (r : Rules count size s) → EachPart s.views (λ p. is_quiet p.state ≡ true) →
    ((k : ℕ) → k < count * count → slice_index s.words (size + 1 + count + k) ≢ 1) → IsQuiet r.world

-- a node has nothing to do, and none of its routers has found the words used up
pub record IsSettled (n : Node) : Type 0 where
  pub quiet : is_quiet n ≡ true
  pub wet : (serial : ℕ) (r : Router) → router_in n serial ≡ Some r → r.dry ≡ false

-- if that holds of each node by its part, and no mailbox is full, the shown world has no proxy and no router of a pair with both ends
-- closed, and each open pair in it of which an end isn't closed is direct: two terminals on one free link, and all that was put has come
abbrev pub SettledPartsAreDirect : Type 0
SettledPartsAreDirect = (count size : ℕ) (s : St) (r : Rules count size s) → EachPart s.views (λ p. IsSettled p.state) →
    ((k : ℕ) → k < count * count → slice_index s.words (size + 1 + count + k) ≢ 1) →
    HasNoProxies r.world × HasNoClosedPairs r.world r.books ×
    ((pair : ℕ) (side : Side) → is_opened r.routes pair ≡ true → is_closed r.books (end_at pair side) ≡ false → IsDirect r.world r.books pair)

-- whatever turns the nodes take from the shown world, no more of them use something up than its rank, and two for each unlock, by all rates
-- that fit the joined books
abbrev pub RuleBoundsTurns : Type 0
RuleBoundsTurns = (count size : ℕ) (s : St) (r : Rules count size s) (c : Rates) (turns : List (ℕ × Act)) (v : World) (d : Books)
    (h : Routes) → IsRated c r.books →
    AreTurns r.world r.books r.routes turns v d h → times_used r.world turns + rank c v ≤ rank c r.world + 2 * unlock_count turns

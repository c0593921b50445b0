-- The table whose slots carry batches at its start, and what its rule says of the world that is shown and of each part: as specs/RuleLaws says it of a
-- table of single messages. What these say of the world alone holds of `rules`, as it is there.
use Rattle.std.specs.Prelude.{◌≡◌, ◌≢◌, ◌≤◌, ◌<◌, ◌+◌, ◌*◌, ℕ, Bool, true, false, List, [], Some, replicate, slice_index}
use Rattle.std.specs.Int.{bit_at}
use mathlib.Core.Option.{some}
use lib.ListN.{get_elem?}
use Rattle.atomic_table.specs.Table.{opening}
use Rattle.ipcz_base.specs.declared.side.Side.{Side}
use Rattle.ipcz_base.specs.declared.end.End.{End}
use Rattle.ipcz_base.specs.declared.item.Item.{Item}
use Rattle.ipcz_base.specs.declared.item.Item.TheVariants.{Parcel}
use Rattle.ipcz_base.specs.declared.parcel.Parcel as parcels
use Rattle.ipcz_base.specs.declared.message.Message.{Message}
use Rattle.ipcz_base.specs.Ends.{opposite_end, end_at}
use Rattle.ipcz_node.specs.Acts.{is_quiet}
use Rattle.ipcz_node.specs.Hands.{is_unfit}
use Rattle.ipcz_world.specs.Laws.{is_flush}
use Rattle.ipcz_world.specs.World.{new_world}
use Rattle.ipcz_world.specs.Books.{no_books, is_closed}
use Rattle.ipcz_world.specs.Routes.{first_routes, is_opened}
use Rattle.ipcz_world.specs.Owed.{IsDirect, HasNoProxies, HasNoClosedPairs}
use Rattle.ipcz_world.specs.Coding.{IsLinkNumber}
use Rattle.ipcz_world.specs.Settling.{IsQuiet}
use Rattle.ipcz_world.specs.Soundness.{IsSound}
use Rattle.ipcz_world.specs.Lawful.{IsWithinLimits}
use Rattle.ipcz_rule.specs.declared.view.View.{View}
use Rattle.ipcz_rule.specs.declared.view.Part.{Part}
use Rattle.ipcz_rule.specs.Rule.{HaveParts, InParts, puts_of, gets_of}
use Rattle.ipcz_rule.specs.RuleLaws.{EachPart, IsSettled}
use Rattle.ipcz_rule.specs.Start.{opening_words, opening_view}
use Rattle.ipcz_rule.specs.Steps.{old_word, trusted}
use Rattle.ipcz_rule.specs.Batches.{Batch, BatchSt, Batched, batch_from}

-- so many slots without a message
abbrev pub no_batches : ℕ → List Batch
no_batches n = replicate n []

-- the table at the start keeps the rule, and shows the world at the start
abbrev pub BatchesStart : Type 0
BatchesStart = (count size : ℕ) (alone : Bool) → IsWithinLimits count size →
    (b : Batched count size alone (opening (opening_words count size) (no_batches (count * count)) (opening_view count))) ×
    (b.rules.world ≡ new_world count size) × (b.rules.books ≡ no_books) × (b.rules.routes ≡ first_routes count)

-- each part is that of a node of the table, which is sound and has no strays
abbrev pub BatchPartsAreSound : Type 0
BatchPartsAreSound = (count size : ℕ) (alone : Bool) (s : BatchSt) → Batched count size alone s →
    EachPart s.views (λ p. (p.node < count) × IsSound count size p.node p.state × (p.state.strays ≡ []))

-- the message in a node's hand fits there, but a Flush may find its router gone
abbrev pub BatchPartsHandsFit : Type 0
BatchPartsHandsFit = (count size : ℕ) (alone : Bool) (s : BatchSt) → Batched count size alone s → EachPart s.views (λ p. (from : ℕ) (x : Message) →
    p.state.hand ≡ Some from → p.message ≡ Some x → is_unfit p.state from x (trusted from x) ≡ true → is_flush x ≡ true)

-- what stands at a link is the number of a link word, of which bits 6 and 7 are none
abbrev pub BatchLinksAreWords : Type 0
BatchLinksAreWords = (count size : ℕ) (alone : Bool) (s : BatchSt) → Batched count size alone s → (i : ℕ) → i < size → IsLinkNumber (slice_index s.words i)

-- the old link that an AcceptBypass in hand names has a word of the table
abbrev pub BatchOldLinksAreWords : Type 0
BatchOldLinksAreWords = (count size : ℕ) (alone : Bool) (s : BatchSt) → Batched count size alone s → EachPart s.views (λ p. (from old : ℕ) (x : Message) →
    p.state.hand ≡ Some from → p.message ≡ Some x → old_word x ≡ Some old → old < size)

-- a claim count that a view has seen is at most the one that stands in the table, and that is at most the number of link words
abbrev pub BatchCountsWereReached : Type 0
BatchCountsWereReached = (count size : ℕ) (alone : Bool) (s : BatchSt) → Batched count size alone s → (id : ℕ) (v : View) (k n : ℕ) → get_elem? s.views id ≡ some v →
    get_elem? v.seen k ≡ some (size, n) → (n ≤ slice_index s.words size) × (slice_index s.words size ≤ size)

-- a full mailbox has its sender's bit set in the inbox of the node that it is to, and so has one of whose batch the receiver's seat has something left
abbrev pub FullBatchesAreAnnounced : Type 0
FullBatchesAreAnnounced = (count size : ℕ) (alone : Bool) (s : BatchSt) → Batched count size alone s → (from to : ℕ) → from < count → to < count →
    (slice_index s.words (size + 1 + count + (from * count + to)) ≡ 1 → bit_at (slice_index s.words (size + 1 + to)) from ≡ 1) ×
    EachPart s.views (λ p. p.node ≡ to → batch_from p from ≢ [] → bit_at (slice_index s.words (size + 1 + to)) from ≡ 1)

-- the views say of each number that an end has put at most one item
abbrev pub BatchPutsAreOnce : Type 0
BatchPutsAreOnce = (count size : ℕ) (alone : Bool) (s : BatchSt) → Batched count size alone s → (e : End) (n : ℕ) (x y : Item) → InParts s.views puts_of ((e, n), x) →
    InParts s.views puts_of ((e, n), y) → x ≡ y

-- what a portal has got under a number is what its peer has put under it, and it has got all numbers before
abbrev pub BatchGetsFollowPuts : Type 0
BatchGetsFollowPuts = (count size : ℕ) (alone : Bool) (s : BatchSt) → Batched count size alone s → (e : End) (n : ℕ) (q : parcels.Parcel) →
    InParts s.views gets_of ((e, n), q) →
    InParts s.views puts_of ((opposite_end e, n), Parcel q) × ((k : ℕ) → k < n → (p : parcels.Parcel) × InParts s.views gets_of ((e, k), p))

-- each node of the table has a part in a view
abbrev pub BatchNodesHaveParts : Type 0
BatchNodesHaveParts = (count size : ℕ) (alone : Bool) (s : BatchSt) → Batched count size alone s → HaveParts s.views count

-- the part's seat has nothing left of any batch
abbrev pub HasNoBatch : ℕ → Part → Type 0
HasNoBatch count p = (from : ℕ) → from < count → batch_from p from ≡ []

-- if each part is of a quiet node and nothing is left of a batch, and no mailbox is full, the shown world is quiet
abbrev pub QuietBatchesShowQuiet : Type 0
QuietBatchesShowQuiet = (count size : ℕ) (alone : Bool) (s : BatchSt) (b : Batched count size alone s) →
    EachPart s.views (λ p. (is_quiet p.state ≡ true) × HasNoBatch count p) →
    ((k : ℕ) → k < count * count → slice_index s.words (size + 1 + count + k) ≢ 1) → IsQuiet b.rules.world

-- if each node is settled and nothing is left of a batch, and no mailbox is full, each open pair is direct, as SettledPartsAreDirect says it
abbrev pub SettledBatchesAreDirect : Type 0
SettledBatchesAreDirect = (count size : ℕ) (alone : Bool) (s : BatchSt) (b : Batched count size alone s) →
    EachPart s.views (λ p. IsSettled p.state × HasNoBatch count p) →
    ((k : ℕ) → k < count * count → slice_index s.words (size + 1 + count + k) ≢ 1) →
    HasNoProxies b.rules.world × HasNoClosedPairs b.rules.world b.rules.books ×
    ((pair : ℕ) (side : Side) → is_opened b.rules.routes pair ≡ true → is_closed b.rules.books (end_at pair side) ≡ false → IsDirect b.rules.world b.rules.books pair)

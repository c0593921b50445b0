-- The table whose slots carry batches: a post moves several messages of an outbox in one step. Its rule is that it folds a table of single messages
-- which keeps the rule: there the first message of a batch is in the mailbox, or in hand, and those behind it still wait in the sender's outbox, in
-- front of all else. So each step of this table is none, one or two steps of that.
use Rattle.std.specs.Prelude.{◌≡◌, ◌≢◌, ◌<◌, ◌⊎◌, ◌+◌, ◌*◌, ℕ, zero, suc, Bool, true, cond, nat_eq, List, [], ◌∷◌, map, length, slice_index}
use Rattle.std.specs.Prelude.{Some}
use Rattle.std.specs.Int.{bit_at}
use mathlib.Core.Option.{some}
use mathlib.Core.Option as maybe
use lib.ListN.{get_elem?}
use Rattle.atomic_table.specs.Table.{State, Me, Act as TableAct, Valid, stepped, carried_after}
use Rattle.ipcz_base.specs.Indexed.{place_at, put_place}
use Rattle.ipcz_base.specs.declared.message.Message.{Message}
use Rattle.ipcz_node.specs.Fronts.{behind}
use Rattle.ipcz_world.specs.Ranks.{AreTurns}
use Rattle.ipcz_world.specs.World.{World}
use Rattle.ipcz_world.specs.Books.{Books}
use Rattle.ipcz_world.specs.Routes.{Routes}
use Rattle.ipcz_rule.specs.declared.view.View.{View}
use Rattle.ipcz_rule.specs.declared.view.Part.{Part}
use Rattle.ipcz_rule.specs.Rule.{Slot, St, Rules, with_state}
use Rattle.ipcz_rule.specs.Kinds.{FormOf, DeedFormOf, Done, KeepsEnds}

-- what a slot has: the messages of a batch, none while its mailbox isn't full
abbrev pub Batch : Type 0
Batch = List Message

abbrev pub BatchSt : Type 0
BatchSt = State Batch View

abbrev pub BatchMine : Type 0
BatchMine = Me Batch View

-- the words before those of the mailboxes
abbrev pub plain_count : ℕ → ℕ → ℕ
plain_count count size = size + 1 + count

-- the part with other batches at its seat
abbrev pub with_batches : List Batch → Part → Part
with_batches bs p = record {
  node = p.node;
  state = p.state;
  message = p.message;
  probed = p.probed;
  batches = bs;
  put = p.put;
  got = p.got;
  gone = p.gone;
  history = p.history;
}

-- what the seat of a part still has of the batch of a sender
abbrev pub batch_from : Part → ℕ → Batch
batch_from p from = place_at [] p.batches from

-- the part whose seat has these messages of the batch of a sender
abbrev pub with_batch : ℕ → Batch → Part → Part
with_batch from xs p = with_batches (put_place [] p.batches from xs) p

-- the part as the single table has it, for messages in front of each node's outboxes: these are under way behind those in mailboxes and in hand
abbrev pub shown_part : (ℕ → List Batch) → Part → Part
shown_part fronts p = with_batches [] (with_state (behind (fronts p.node) p.state) p)

-- the numbers that were seen in a word
abbrev pub seen_at : ℕ → List (ℕ × ℕ) → List ℕ
seen_at i [] = []
seen_at i (e ∷ es) = cond (nat_eq e.0 i) (e.1 ∷ seen_at i es) (seen_at i es)

-- a view of this table, and the one that it is in the single table. These have seen the same numbers in each word before the mailboxes
pub record ViewFolds (count size : ℕ) (fronts : ℕ → List Batch) (v u : View) : Type 0 where
  pub parts : u.parts ≡ map (shown_part fronts) v.parts
  pub announced : u.announced ≡ v.announced
  pub caller : u.caller ≡ v.caller
  pub seen : (i : ℕ) → i < plain_count count size → seen_at i u.seen ≡ seen_at i v.seen

-- the word and the slot of a mailbox, those of the single table, what is under way behind the mailbox's message or the one in hand, and what the
-- receiver's seat has left of its batch: nothing is under way; or a batch is in the slot, its first message in the single mailbox; or a message of it
-- is in hand; or none is in hand, and the next is in the single mailbox; or the sender has the mailbox
abbrev pub MailFolds : (found : ℕ) → maybe.Option (maybe.Option Batch) → (single : ℕ) → maybe.Option (maybe.Option Slot) → (rest left : Batch) → Type 0
MailFolds zero home single one rest left = (home ≡ some (some [])) × (single ≡ 0) × (rest ≡ []) × (left ≡ [])
MailFolds (suc zero) home single one rest left =
    (x : Message) × (home ≡ some (some (x ∷ rest))) × (single ≡ 1) × (one ≡ some (some (Some x))) × (left ≡ [])
MailFolds (suc (suc zero)) home single one rest left =
    ((single ≡ 2) × (left ≡ rest)) ⊎ ((x : Message) × (single ≡ 1) × (one ≡ some (some (Some x))) × (left ≡ x ∷ rest))
MailFolds (suc (suc (suc zero))) home single one rest left = (single ≡ 3) × (rest ≡ []) × (left ≡ [])
MailFolds (suc (suc (suc (suc n)))) home single one rest left = ⊥

-- the mailbox from a node to another
abbrev pub MailboxFolds : (count size : ℕ) (s : BatchSt) (t : St) (fronts : ℕ → List Batch) (left : ℕ → ℕ → Batch) (from to : ℕ) → Type 0
MailboxFolds count size s t fronts left from to =
    MailFolds (slice_index s.words (plain_count count size + (from * count + to))) (get_elem? s.homes (from * count + to))
    (slice_index t.words (plain_count count size + (from * count + to))) (get_elem? t.homes (from * count + to)) (place_at [] (fronts from) to) (left from to)

-- a table of batches folds a single one: the words before the mailboxes are the same; mailboxes and views are as above. What each seat has left of a
-- batch is as said, by sender and receiver, and while that is something the sender's bit stands in the receiver's inbox. If batches are alone, each is
-- of one message, and nothing is behind it
pub record Folds (count size : ℕ) (alone : Bool) (s : BatchSt) (t : St) (fronts : ℕ → List Batch) (left : ℕ → ℕ → Batch) : Type 0 where
  pub wide : length s.words ≡ length t.words
  pub deep : length s.homes ≡ length t.homes
  pub many : length s.views ≡ length t.views
  pub words : (i : ℕ) → i < plain_count count size → slice_index s.words i ≡ slice_index t.words i
  pub mail : (from to : ℕ) → from < count → to < count → MailboxFolds count size s t fronts left from to
  pub views : (id : ℕ) (v : View) → get_elem? s.views id ≡ some v → (u : View) × (get_elem? t.views id ≡ some u) × ViewFolds count size fronts v u
  pub parts : (id : ℕ) (v : View) (j : ℕ) (p : Part) (from : ℕ) → get_elem? s.views id ≡ some v → get_elem? v.parts j ≡ some p → from < count →
      batch_from p from ≡ left from p.node
  pub announced : (from to : ℕ) → from < count → to < count → left from to ≢ [] → bit_at (slice_index s.words (size + 1 + to)) from ≡ 1
  pub none_behind : alone ≡ true → (from : ℕ) → fronts from ≡ []
  pub none_left : alone ≡ true → (from to : ℕ) → left from to ≡ []

-- the rule of a table of batches for so many nodes and words: the world that it shows is that of the single table
pub record Batched (count size : ℕ) (alone : Bool) (s : BatchSt) : Type 0 where
  pub single : St
  pub rules : Rules count size single
  pub fronts : ℕ → List Batch
  pub left : ℕ → ℕ → Batch
  pub folds : Folds count size alone s single fronts left

-- what is known of a step: of the worlds, books and routes before and after, by the number found
abbrev pub Between : Type 1
Between = ℕ → World → Books → Routes → World → Books → Routes → Type 0

-- that a step keeps the rule of a table of batches and is so, whatever world the rule shows before
abbrev pub BatchStep : (alone : Bool) → Between → (count size slots id : ℕ) → BatchMine → ℕ → (ℕ → ℕ) → (ℕ → BatchMine → Type 0) → Type 0
BatchStep alone is count size slots id me i f told =
    (s : BatchSt) (b : Batched count size alone s) → length s.homes ≡ slots → get_elem? s.views id ≡ some me.0 →
    slice_index s.words i < 18446744073709551616 →
    (v : View) × (a : TableAct Batch) × Valid s.homes me.1 a ×
    ((b' : Batched count size alone (stepped s i (f (slice_index s.words i)) id me.1 v a)) ×
    is (slice_index s.words i) b.rules.world b.rules.books b.rules.routes b'.rules.world b'.rules.books b'.rules.routes) ×
    told (slice_index s.words i) (v, carried_after me.1 a)

-- that it is these turns, as IsTurns says it of the single table
abbrev pub BatchTurns : (alone : Bool) → FormOf Batch
BatchTurns alone count size slots id me i f turns told =
    BatchStep alone (λ n w b g w' b' g'. AreTurns w b g (turns n) w' b' g') count size slots id me i f told

-- that it is these deeds, as IsDeeds says it
abbrev pub BatchDeeds : (alone : Bool) → DeedFormOf Batch
BatchDeeds alone count size slots id me i f deeds told =
    BatchStep alone (λ n w b g w' b' g'. Done w b g (deeds n) w' b' g') count size slots id me i f told

-- and which ends it keeps, as IsKept says it
abbrev pub BatchKept : (alone all : Bool) → FormOf Batch
BatchKept alone all count size slots id me i f turns told =
    BatchStep alone (λ n w b g w' b' g'. KeepsEnds all w w') count size slots id me i f told

-- The kinds of atomic step about mailboxes, on a table whose slots carry batches (specs/Batches). All other kinds are those of specs/Kinds, word for word.
use Rattle.std.specs.Prelude.{◌≡◌, ◌≢◌, ◌<◌, ◌⊎◌, ◌+◌, ◌*◌, ℕ, Bool, true, false, eqb, List, [], ◌∷◌, ◌++◌, Some, None, MatchBool, bit_and}
use Rattle.std.specs.Int.{bit_at}
use prog.Atomic.{either}
use Rattle.ipcz_base.specs.declared.message.Message.{Message}
use Rattle.ipcz_node.specs.declared.act.Act.TheVariants as acts
use Rattle.ipcz_node.specs.Node.{outbox, with_outbox}
use Rattle.ipcz_node.specs.Hands.{message_lacks_serials}
use Rattle.ipcz_rule.specs.declared.view.Part.{Part}
use Rattle.ipcz_rule.specs.Rule.{has_number, with_part, with_state, saw, forgetting}
use Rattle.ipcz_rule.specs.Steps.{probe_part, unprobe_part, look_part, trusted, hand_part}
use Rattle.ipcz_rule.specs.Kinds.{FormOf, DeedFormOf, turn_where, Loads, PendingCloses, Touches, TouchActs, Marks, Wakes, Unlocks, TriesLock, LoadsForLock, LoadsForClaim, Claims}
use Rattle.ipcz_rule.specs.Kinds.{Announces, LoadsForPost, LoadsForHand, Notes, Puts, Gets, Closes, Dries, Wets, ClaimsForOpen, Opens}
use Rattle.ipcz_rule.specs.Batches.{Batch, BatchMine, BatchTurns, BatchDeeds, batch_from, with_batch}

-- probe: the slot of an empty mailbox is taken, and its word is 3
abbrev pub BatchProbes : FormOf Batch → Type 0
BatchProbes F = (count size slots id i k to : ℕ) (m : BatchMine) (p : Part) → m.0.parts ≡ p ∷ [] → k ≡ p.node * count + to →
    i ≡ size + 1 + count + k → to < count →
    F count size slots id m i (λ n. either (eqb n 0) 3 n) (λ n. [])
    (λ n m'. MatchBool (eqb n 0) (m' ≡ (with_part (probe_part to p) (saw i n m.0), (k, []) ∷ m.1)) (m' ≡ (saw i n m.0, m.1)))

-- a probed mailbox is given back
abbrev pub BatchUnprobes : FormOf Batch → Type 0
BatchUnprobes F = (count size slots id i k to : ℕ) (m : BatchMine) (p : Part) (rest : List (ℕ × Batch)) → m.0.parts ≡ p ∷ [] →
    k ≡ p.node * count + to → i ≡ size + 1 + count + k → to < count →
    has_number p.probed to ≡ true → m.1 ≡ (k, []) ∷ rest →
    F count size slots id m i (λ n. 0) (λ n. []) (λ n m'. m' ≡ (with_part (unprobe_part to p) m.0, rest))

-- the part of a node that has posted a batch to another, and these messages wait there still
abbrev pub batch_post_part : ℕ → List Message → Part → Part
batch_post_part to ys p = unprobe_part to (with_state (with_outbox p.state to ys) p)

-- post: a batch leaves the outbox, from its first message on, and the slot goes home with it; it was announced by the step before
abbrev pub BatchPosts : (alone : Bool) → FormOf Batch → Type 0
BatchPosts alone F = (count size slots id i k to : ℕ) (m : BatchMine) (p : Part) (x : Message) (xs ys : List Message) (rest : List (ℕ × Batch)) →
    m.0.parts ≡ p ∷ [] → k ≡ p.node * count + to → i ≡ size + 1 + count + k → to < count →
    has_number p.probed to ≡ true → m.0.announced ≡ Some to → outbox p.state to ≡ x ∷ xs ++ ys → (alone ≡ true → xs ≡ []) → m.1 ≡ (k, x ∷ xs) ∷ rest →
    F count size slots id m i (λ n. 1) (λ n. (p.node, acts.Post to) ∷ []) (λ n m'. m' ≡ (with_part (batch_post_part to ys p) m.0, rest))

-- look: if the mailbox is full, the first message of its batch is taken into the hand, and the seat has the others
abbrev pub BatchLooks : (alone : Bool) → FormOf Batch → Type 0
BatchLooks alone F = (count size slots id i k from : ℕ) (m : BatchMine) (p : Part) → m.0.parts ≡ p ∷ [] → k ≡ from * count + p.node →
    i ≡ size + 1 + count + k → from < count → p.state.hand ≡ None →
    F count size slots id m i (λ n. either (eqb n 1) 2 n) (λ n. turn_where (eqb n 1) p.node (acts.Look from))
    (λ n m'. MatchBool (eqb n 1)
    ((x : Message) × (xs : List Message) × (alone ≡ true → xs ≡ []) × (m' ≡ (with_part (look_part from x (with_batch from xs p)) (saw i n m.0), (k, x ∷ xs) ∷ m.1)))
    (m' ≡ (saw i n m.0, m.1)))

-- touch, of a look where the seat still has messages of a batch: the next of them is taken into the hand
abbrev pub LooksOn : FormOf Batch → Type 0
LooksOn F = (count size slots id i from : ℕ) (m : BatchMine) (p : Part) (x : Message) (xs : List Message) → m.0.parts ≡ p ∷ [] → from < count →
    p.state.hand ≡ None → batch_from p from ≡ x ∷ xs →
    F count size slots id m i (λ n. n) (λ n. (p.node, acts.Look from) ∷ []) (λ n m'. m' ≡ (with_part (look_part from x (with_batch from xs p)) m.0, m.1))

-- handle: the last message of a batch is handled, and its slot goes home empty
abbrev pub BatchHands : FormOf Batch → Type 0
BatchHands F = (count size slots id i k from : ℕ) (m : BatchMine) (p : Part) (x : Message) (rest : List (ℕ × Batch)) → m.0.parts ≡ p ∷ [] →
    k ≡ from * count + p.node → i ≡ size + 1 + count + k → batch_from p from ≡ [] →
    p.state.hand ≡ Some from → p.message ≡ Some x → message_lacks_serials p.state from x (trusted from x) ≡ false → m.1 ≡ (k, []) ∷ rest →
    F count size slots id m i (λ n. 0) (λ n. (p.node, acts.Hand from) ∷ [])
    (λ n m'. m' ≡ (with_part (hand_part from (trusted from x) x p) m.0, rest))

-- touch, of a hand where the seat still has messages of the batch: behind it the next of them is in the mailbox, as if its sender had posted it
abbrev pub HandsOn : FormOf Batch → Type 0
HandsOn F = (count size slots id i from : ℕ) (m : BatchMine) (p : Part) (x y : Message) (ys : List Message) → m.0.parts ≡ p ∷ [] →
    batch_from p from ≡ y ∷ ys → p.state.hand ≡ Some from → p.message ≡ Some x → message_lacks_serials p.state from x (trusted from x) ≡ false →
    F count size slots id m i (λ n. n) (λ n. (p.node, acts.Hand from) ∷ (from, acts.Post p.node) ∷ [])
    (λ n m'. m' ≡ (with_part (hand_part from (trusted from x) x p) m.0, m.1))

-- a sender's bit is cleared in the own inbox, while the last message of its batch is in hand: all other bits are kept
abbrev pub BatchClears : FormOf Batch → Type 0
BatchClears F = (count size slots id i from kept : ℕ) (m : BatchMine) (p : Part) → m.0.parts ≡ p ∷ [] → i ≡ size + 1 + p.node → p.state.hand ≡ Some from →
    batch_from p from ≡ [] → ((j : ℕ) → j < 64 → j ≢ from → bit_at kept j ≡ 1) →
    F count size slots id m i (λ n. bit_and n kept) (λ n. []) (λ n m'. m' ≡ (forgetting m.0, m.1))

-- the slot of a batch is given back, while a message of it is in hand or left: a load
abbrev pub BatchGivesBack : FormOf Batch → Type 0
BatchGivesBack F = (count size slots id i k from : ℕ) (m : BatchMine) (p : Part) (xs : Batch) (rest : List (ℕ × Batch)) → m.0.parts ≡ p ∷ [] →
    k ≡ from * count + p.node → i ≡ size + 1 + count + k → from < count →
    (p.state.hand ≡ Some from) ⊎ (batch_from p from ≢ []) → m.1 ≡ (k, xs) ∷ rest →
    F count size slots id m i (λ n. n) (λ n. []) (λ n m'. m' ≡ (saw i n m.0, rest))

-- the kinds whose word is no mailbox's, word for word, with such a table in place of one of single messages: those of a turn
abbrev pub PlainTurnsOf : FormOf Batch → Type 0
PlainTurnsOf F =
    Loads F × PendingCloses F × Touches F × TouchActs F × Marks F × Wakes F × Unlocks F × TriesLock F × LoadsForLock F × LoadsForClaim F × Claims F × Announces F ×
    LoadsForPost F × LoadsForHand F × Notes F

-- and those of calls, and of what is neither
abbrev pub PlainDeedsOf : DeedFormOf Batch → Type 0
PlainDeedsOf F = Puts F × Gets F × Closes F × Dries F × Wets F × ClaimsForOpen F × Opens F

-- each of them keeps the rule, and is the turns and deeds that it says
abbrev pub PlainTurnsKeepBatches : Type 0
PlainTurnsKeepBatches = (alone : Bool) → PlainTurnsOf (BatchTurns alone)

abbrev pub PlainDeedsKeepBatches : Type 0
PlainDeedsKeepBatches = (alone : Bool) → PlainDeedsOf (BatchDeeds alone)

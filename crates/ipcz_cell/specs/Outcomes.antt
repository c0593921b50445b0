-- What each kind of step tells of its seat, which has had m and has m' now, if n was found.
use Rattle.std.specs.Prelude.{◌≡◌, ℕ, zero, suc, [], ◌∷◌, Bool, true, eqb, List, Option, Some, MatchBool, if◌then◌else◌}
use Rattle.std.specs.Int.{bit_at}
use Rattle.atomic_table.specs.Table.{rest, turned}
use Rattle.ipcz_base.specs.declared.side.Side.{Side}
use Rattle.ipcz_base.specs.declared.message.Message.{Message}
use Rattle.ipcz_router.specs.declared.act.RouterAct.{RouterAct}
use Rattle.ipcz_node.specs.declared.act.Act.TheVariants as acts
use Rattle.ipcz_word.specs.Laws.{HasNode}
use Rattle.ipcz_word.specs.Layout.{word_of_bits}
use Rattle.ipcz_word.specs.Word.{plan_of}
use Rattle.ipcz_world.specs.Coding.{IsLinkNumber}
use Rattle.ipcz_world.specs.WordAnswers.{word_answer}
use Rattle.ipcz_rule.specs.declared.history.Call.{Call}
use Rattle.ipcz_rule.specs.declared.history.CallerView.{CallerView}
use Rattle.ipcz_rule.specs.declared.view.View.{View}
use Rattle.ipcz_rule.specs.declared.view.Part.{Part}
use Rattle.ipcz_rule.specs.Rule.{saw, announcing, forgetting}
use Rattle.ipcz_rule.specs.Batches.{Batch, BatchMine}
use Rattle.ipcz_rule.specs.Kinds.{is_refusal}
use Rattle.ipcz_rule.specs.Histories.{IsNoted}
use Rattle.ipcz_rule.specs.Steps.{act_part, probe_part}
use Rattle.ipcz_cell.specs.CellStates.{change_part, part_in}
use Rattle.ipcz_cell.specs.Parts.{handed_part}
use Rattle.ipcz_cell.specs.Mails.{looked_part, posted_part}
use Rattle.ipcz_cell.specs.TableNames.{TableName}

-- what a step tells
abbrev pub Tells : Type 1
Tells = BatchMine → ℕ → BatchMine → Type 0

-- what a step tells is this, by another name
pub record IsPicked (t u : Tells) : Type 0 where
  pub says : (m : BatchMine) (n : ℕ) (m' : BatchMine) → t m n m' → u m n m'
  pub said : (m : BatchMine) (n : ℕ) (m' : BatchMine) → u m n m' → t m n m'

abbrev pub is_itself : (t : Tells) → IsPicked t t
is_itself t = record { says = λ m n m' h. h; said = λ m n m' h. h }

-- a step on the node's inbox that changes its part
abbrev pub touched : (Part → Part) → Tells
touched f m n m' = m' ≡ (change_part f m.0, m.1)

-- a load of the word i
abbrev pub loaded : ℕ → Tells
loaded i m n m' = m' ≡ (saw i n m.0, m.1)

-- an exchange 0 to 3 of the mailbox word i
abbrev pub probed : ℕ → ℕ → ℕ → Tells
probed i k to m n m' = MatchBool (eqb n 0) (m' ≡ (change_part (probe_part to) (saw i n m.0), (k, []) ∷ m.1)) (m' ≡ (saw i n m.0, m.1))

-- a load of a node's inbox before a post to it, and whether the sender's bit was found set there
abbrev pub peeked : ℕ → ℕ → Tells
peeked node to m n m' = m' ≡ (if eqb (bit_at n node) 1 then announcing to m.0 else forgetting m.0, m.1)

-- the sender's bit is set in a node's inbox
abbrev pub announced : ℕ → Tells
announced to m n m' = m' ≡ (announcing to m.0, m.1)

-- a call is written into the history, of the caller that has lent its view
abbrev pub noting : Call → Tells
noting call m n m' = (c : CallerView) × (m.0.caller ≡ Some c) × IsNoted m.0 (part_in m.0) c call m'.0 × (m'.1 ≡ m.1)

-- a sender's bit is cleared in the own inbox
abbrev pub cleared : Tells
cleared m n m' = m' ≡ (forgetting m.0, m.1)

-- a store 1 at a mailbox that was probed
abbrev pub posted : TableName → ℕ → Tells
posted t to m n m' = m' ≡ (change_part (posted_part t to) m.0, rest m.1)

-- an exchange 1 to 2 of the mailbox word i, in a table where each batch is of one message if `alone`
abbrev pub looked : (alone : Bool) → ℕ → ℕ → ℕ → Tells
looked alone i k from m n m' = MatchBool (eqb n 1) ((x : Message) × (xs : List Message) × (alone ≡ true → xs ≡ []) × (m' ≡ (change_part (looked_part from x xs) (saw i n m.0), (k, x ∷ xs) ∷ m.1)))
    (m' ≡ (saw i n m.0, m.1))

-- a load of the old link's word i before an AcceptBypass from a node is handled: it is the word of a link, and names this node
abbrev pub sourced : ℕ → ℕ → Tells
sourced i from m n m' = IsLinkNumber n × ((word_of_bits n).source ≡ Some from) × (m' ≡ (saw i n m.0, m.1))

-- a store 0 at the mailbox whose message is in hand, for which this source is known
abbrev pub handed : ℕ → Option ℕ → Tells
handed from source m n m' = m' ≡ (change_part (handed_part from source) m.0, rest m.1)

-- the view after an act of a router on the link word i, which was found at n; a lock names this source
abbrev pub act_view : ℕ → ℕ → Side → Option ℕ → RouterAct → ℕ → View → View
act_view i serial side source act n v =
    change_part (act_part (acts.Router serial act) (word_answer (word_of_bits n) side source act)) (saw i n v)

-- a step on the link word i that is an act if the test holds of what is found, and else a load
abbrev pub worded : ℕ → ℕ → Side → Option ℕ → RouterAct → (ℕ → Bool) → Tells
worded i serial side source act hit m n m' =
    IsLinkNumber n × HasNode source × MatchBool (hit n) (m' ≡ (act_view i serial side source act n m.0, m.1)) (m' ≡ (saw i n m.0, m.1))

-- whether a side's try for the lock of a word is refused
abbrev pub is_refused_at : Side → ℕ → Bool
is_refused_at side n = is_refusal (plan_of (word_of_bits n) side)

-- the test that holds of each number
abbrev pub always : ℕ → Bool
always n = true

-- a list with so many of its first elements behind the others
abbrev pub turned_by : ℕ → List (ℕ × Batch) → List (ℕ × Batch)
turned_by zero c = c
turned_by (suc n) c = turned_by n (turned c)

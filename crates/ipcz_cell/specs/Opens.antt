-- The claim count, a link word and an open at a cell: what the calls on them answer and leave.
use Rattle.std.specs.Prelude.{◌≡◌, ◌≢◌, ◌<◌, ◌≤◌, ◌⊎◌, ◌+◌, ℕ, zero, suc, [], ◌∷◌, ◌++◌, Bool, true, not, ◌&&◌, ◌||◌, ◌==◌, List, length, is_some, Option, Some}
use Rattle.std.specs.Prelude.{None}
use Rattle.std.specs.Prelude.{Result, Ok, Err, MatchBool, MatchOption, MatchResult, eqb, unwrap_or}
use Rattle.ipcz_base.specs.declared.end.End.{End}
use Rattle.ipcz_base.specs.declared.side.Side.TheVariants.{A, B}
use Rattle.ipcz_base.specs.declared.refusal.Refusal.{Refusal}
use Rattle.ipcz_base.specs.declared.refusal.Refusal.TheVariants.{NoWord, OutOfMemory, Raced}
use Rattle.ipcz_base.specs.Ends.{end_at}
use Rattle.ipcz_router.specs.declared.act.RouterAct.TheVariants as router_acts
use Rattle.ipcz_world.specs.Coding.{IsLinkNumber}
use Rattle.ipcz_node.specs.declared.act.Act.TheVariants as acts
use Rattle.ipcz_node.specs.Node.{Node}
use Rattle.ipcz_node.specs.Acts.{is_quiet}
use Rattle.ipcz_node.specs.Calls.{serials_refusal}
use Rattle.ipcz_node.specs.RoomyNodes.{CanOpen, IsPossibleAct}
use Rattle.ipcz_rule.specs.Rule.{saw}
use Rattle.ipcz_rule.specs.Steps.{claimed_part, open_part}
use Rattle.ipcz_cell.specs.TableNames.{TableName}
use Rattle.ipcz_rule.specs.declared.view.Part.{Part}
use Rattle.ipcz_cell.specs.CellStates.{CellState, change_part, roomy}
use Rattle.ipcz_cell.specs.Cells.{has_batch}
use Rattle.ipcz_cell.specs.Outcomes.{Tells, loaded}
use Rattle.ipcz_cell.specs.Mails.{mail_word, HasSeen}
use Rattle.ipcz_cell.specs.Claims.{AreReached, IsNumberAt, FindsNone, Answered}

-- a load of the claim count finds at most as many as there are, and at least each that was seen
abbrev pub count_loaded : ℕ → Tells
count_loaded size m n m' = (n ≤ size) × AreReached size m.0.seen n × loaded size m n m'

-- a load of a link's word finds a link word
abbrev pub word_loaded : ℕ → Tells
word_loaded i m n m' = IsLinkNumber n × loaded i m n m'

-- an exchange of the claim count c for the number behind the number n, for an open
abbrev pub open_claimed : ℕ → ℕ → ℕ → Tells
open_claimed size c n m k m' = MatchBool (eqb k c) (m' ≡ (change_part (claimed_part n) (saw size n m.0), m.1)) (m' ≡ (saw size k m.0, m.1))

-- an exchange of the word that was claimed for an open, which finds it empty
abbrev pub opened : ℕ → Tells
opened i m n m' = (n ≡ 0) × (m' ≡ (change_part (open_part i) (saw i n m.0), m.1))

-- what is read of the link word i: none from the loaded claim count on, which is at least each that was seen
abbrev pub ReadsWord : ℕ → ℕ → CellState → Option ℕ → CellState → Type 0
ReadsWord size i old answer new = (count : ℕ) × (count ≤ size) × AreReached size old.seen count × MatchOption answer ((count ≤ i) × HasSeen size count old new)
    (λ word. (i < count) × IsLinkNumber word × (new.part ≡ old.part) × (new.room ≡ old.room) ×
    (new.seen ≡ (old.seen ++ (size, count) ∷ []) ++ (i, word) ∷ []))

-- what a look at a link's word answers and leaves: if slots are used again there is none to show, and nothing has changed
abbrev pub ShowsWord : TableName → ℕ → CellState → Option ℕ → CellState → Type 0
ShowsWord t i old answer new = MatchBool t.reuses ((answer ≡ None) × (new ≡ old)) (ReadsWord t.size i old answer new)

-- a claim at a count that finds no number: where slots are used again
pub record FindsNoSlot (t : TableName) (c : ℕ) (old new : CellState) : Type 0 where
  pub reuses : t.reuses ≡ true
  pub part : new.part ≡ old.part
  pub seen : new.seen ≡ old.seen
  pub none : FindsNone t c old.looked new.looked

-- what an exchange of the claim count, which was found at c, answers and leaves
abbrev pub ClaimsAt : TableName → ℕ → CellState → Result ℕ Refusal → CellState → Type 0
ClaimsAt t c old answer new = MatchResult answer
    (λ n. IsNumberAt t c n × (new.part ≡ claimed_part n old.part) × (new.seen ≡ old.seen ++ (t.size, n) ∷ []))
    (λ why. ((why ≡ Raced) × ((found : ℕ) × (found ≢ c) × (new.part ≡ old.part) × (new.seen ≡ old.seen ++ (t.size, found) ∷ []))) ⊎ ((why ≡ NoWord) × FindsNoSlot t c old new))

-- the cell after the number n was claimed for an open: a load has found the claim count at c, and so has the exchange
abbrev pub claimed_for_open : ℕ → ℕ → ℕ → CellState → CellState
claimed_for_open size c n old = record {
  part = claimed_part n old.part;
  seen = (old.seen ++ (size, c) ∷ []) ++ (size, n) ∷ [];
  room = old.room;
  looked = old.looked;
}

-- what the claim of a number for an open answers and leaves: a number that no count that was seen has passed; NoWord only if the load found
-- that each number was claimed, or, where slots are used again, none was found (`FindsNone`); Raced only if the load and the exchange found
-- different counts
pub data ClaimsForOpen (t : TableName) (old new : CellState) (answer : Result ℕ Refusal) : Type 0 where
  Claimed : (c n : ℕ) → answer ≡ Ok n → IsNumberAt t c n → AreReached t.size old.seen c → new.part ≡ claimed_part n old.part →
      new.seen ≡ (old.seen ++ (t.size, c) ∷ []) ++ (t.size, n) ∷ [] → ClaimsForOpen t old new answer
  Exhausted : answer ≡ Err NoWord → HasSeen t.size t.size old new → ClaimsForOpen t old new answer
  Slotless : (c : ℕ) → answer ≡ Err NoWord → t.reuses ≡ true → c < t.size → new.part ≡ old.part → new.seen ≡ old.seen ++ (t.size, c) ∷ [] →
      FindsNone t c old.looked new.looked → ClaimsForOpen t old new answer
  Outrun : (n found : ℕ) → answer ≡ Err Raced → found ≢ n → new.part ≡ old.part →
      new.seen ≡ (old.seen ++ (t.size, n) ∷ []) ++ (t.size, found) ∷ [] → ClaimsForOpen t old new answer

-- who may claim a word: a proxy whose act it is, or the node for an open if none is under way
abbrev pub MayClaim : Node → Option ℕ → Type 0
MayClaim x None = x.opening ≡ None
MayClaim x (Some serial) = IsPossibleAct x (acts.Router serial router_acts.Claim)

-- what the claim of a word answers and leaves
abbrev pub ClaimsWord : TableName → Option ℕ → CellState → CellState → Result ℕ Refusal → Type 0
ClaimsWord t None old new answer = ClaimsForOpen t old new answer
ClaimsWord t (Some serial) old new answer = Answered t serial old new answer

-- what the open of a pair on the word of the open under way answers and leaves: the word was empty
pub record OpensWord (old : CellState) (ends : End × End) (new : CellState) : Type 0 where
  pub word : ℕ
  pub under_way : old.part.state.opening ≡ Some word
  pub ends_are : ends ≡ (end_at word A, end_at word B)
  pub part : new.part ≡ open_part word old.part
  pub seen : new.seen ≡ old.seen ++ (word, 0) ∷ []

-- an open for which there wasn't room, or there weren't serials: if one was under way it has seen nothing, and else that a number was left
pub record IsUnready (t : TableName) (old new : CellState) : Type 0 where
  pub lacks : CanOpen (roomy old) → ⊥
  pub seen : MatchBool (is_some old.part.state.opening) (new.seen ≡ old.seen) ((n : ℕ) × (n < t.size) × (new.seen ≡ old.seen ++ (t.size, n) ∷ []))

-- what the open of a pair answers and leaves: an open under way is used; else a word is claimed for it, which no count that was seen has
-- passed. NoWord only if the load found that each number was claimed, or, where slots are used again, none was found (`FindsNone`), with all else
-- ready; OutOfMemory only if there wasn't room (`IsUnready`); Raced only if the load and the exchange found different counts. A refused open
-- leaves the node's part
pub data OpensPair (t : TableName) (old new : CellState) (answer : Result (End × End) Refusal) : Type 0 where
  UnderWay : (ends : End × End) → answer ≡ Ok ends → ends.0.pair < t.size → OpensWord old ends new → OpensPair t old new answer
  Fresh : (c n : ℕ) (ends : End × End) → answer ≡ Ok ends → old.part.state.opening ≡ None → IsNumberAt t c n → AreReached t.size old.seen c →
      OpensWord (claimed_for_open t.size c n old) ends new →
      OpensPair t old new answer
  NoneLeft : answer ≡ Err NoWord → old.part.state.opening ≡ None → HasSeen t.size t.size old new → OpensPair t old new answer
  NoSlot : (c : ℕ) → answer ≡ Err NoWord → t.reuses ≡ true → old.part.state.opening ≡ None → serials_refusal old.part.state ≡ None →
      c < t.size → new.part ≡ old.part → new.seen ≡ old.seen ++ (t.size, c) ∷ [] → FindsNone t c old.looked new.looked → OpensPair t old new answer
  Unready : answer ≡ Err (unwrap_or (serials_refusal old.part.state) OutOfMemory) → new.part ≡ old.part → IsUnready t old new →
      OpensPair t old new answer
  Lost : (n found : ℕ) → answer ≡ Err Raced → old.part.state.opening ≡ None → serials_refusal old.part.state ≡ None → n < t.size → found ≢ n →
      new.part ≡ old.part → new.seen ≡ (old.seen ++ (t.size, n) ∷ []) ++ (t.size, found) ∷ [] → OpensPair t old new answer

-- loads of the mailboxes to a node, from a sender on
abbrev pub box_loads : TableName → ℕ → ℕ → List ℕ → List (ℕ × ℕ)
box_loads t node from [] = []
box_loads t node from (n ∷ ns) = (mail_word t from node, n) ∷ box_loads t node (from + 1) ns

-- whether each mailbox was found without a message: at 0, or at 3, which its sender has taken
abbrev pub are_free : List ℕ → Bool
are_free [] = true
are_free (n ∷ ns) = (n == 0 || n == 3) && are_free ns

-- the mailboxes to a node from each sender from one on were loaded: whether all are free, and what is left
pub record FindsFree (t : TableName) (from : ℕ) (old : CellState) (answer : Bool) (new : CellState) : Type 0 where
  pub found : List ℕ
  pub many : from + length found ≡ t.count
  pub answer_is : answer ≡ are_free found
  pub part : new.part ≡ old.part
  pub room : new.room ≡ old.room
  pub seen : new.seen ≡ old.seen ++ box_loads t old.part.node from found

-- whether nothing is left of the batches of the senders below a number
abbrev pub are_spent : Part → ℕ → Bool
are_spent p zero = true
are_spent p (suc n) = not (has_batch p n) && are_spent p n

-- whether a node is quiet by its own part and by what the loads of all mailboxes to it have found, and what is left
pub record FindsQuiet (t : TableName) (old : CellState) (answer : Bool) (new : CellState) : Type 0 where
  pub found : List ℕ
  pub many : length found ≡ t.count
  pub answer_is : answer ≡ (is_quiet old.part.state && are_spent old.part t.count && are_free found)
  pub part : new.part ≡ old.part
  pub room : new.room ≡ old.room
  pub seen : new.seen ≡ old.seen ++ box_loads t old.part.node 0 found

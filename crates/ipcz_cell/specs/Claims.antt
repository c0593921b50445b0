-- The claim count of a cell: what the calls on it require, answer and leave.
use Rattle.std.specs.Prelude.{◌≡◌, ◌≢◌, ◌<◌, ◌≤◌, ◌⊎◌, ◌%◌, ℕ, None, true, false, [], ◌∷◌, ◌++◌, List, Result, Ok, Err, MatchBool, eqb}
use mathlib.Core.Option.{some}
use lib.ListN.{get_elem?}
use Rattle.ipcz_base.specs.declared.refusal.Refusal.{Refusal}
use Rattle.ipcz_base.specs.declared.refusal.Refusal.TheVariants.{NoWord, Raced}
use Rattle.ipcz_router.specs.Router.{Router}
use Rattle.ipcz_router.specs.declared.act.Answer.TheVariants as answers
use Rattle.ipcz_router.specs.declared.act.RouterAct.TheVariants as router_acts
use Rattle.ipcz_node.specs.declared.act.Act.TheVariants as acts
use Rattle.ipcz_node.specs.Node.{Node}
use Rattle.ipcz_slots.specs.Slots.{has_number}
use Rattle.ipcz_slots.specs.Numbers.{IsNextNumber}
use Rattle.ipcz_rule.specs.Rule.{saw}
use Rattle.ipcz_rule.specs.Steps.{act_part, CanAct}
use Rattle.ipcz_cell.specs.TableNames.{TableName}
use Rattle.ipcz_cell.specs.CellStates.{CellState, change_part}
use Rattle.ipcz_cell.specs.Outcomes.{Tells}

-- the router of a serial may claim a word
abbrev pub CanClaim : Node → ℕ → Type 0
CanClaim x serial = (r : Router) × CanAct x serial r router_acts.Claim

-- each claim count that was seen is at most this one
abbrev pub AreReached : ℕ → List (ℕ × ℕ) → ℕ → Type 0
AreReached size seen n = (k earlier : ℕ) → get_elem? seen k ≡ some (size, earlier) → earlier ≤ n

-- the number that a claim at a count is for: the count itself, where slots aren't used again; else the least of its slot from the count on
pub record IsNumberAt (t : TableName) (count n : ℕ) : Type 0 where
  pub least : count ≤ n
  pub below : n < t.size
  pub order : t.reuses ≡ false → n ≡ count
  pub next : (m : ℕ) → count ≤ m → m % t.slots ≡ n % t.slots → n ≤ m

-- each slot was looked at, besides those that had been looked at before, and none was to be had
abbrev pub LooksAtEach : TableName → List ℕ → List ℕ → Type 0
LooksAtEach t old new = (more : List ℕ) × (new ≡ more ++ old) × ((p : ℕ) → p < t.slots → has_number more p ≡ true)

-- why there is no number for a claim at a count, where slots are used again, by the slots that had been looked at in vain before and that have
-- been since: each has been since, or of one slot no number is left from that count on
abbrev pub FindsNone : TableName → ℕ → List ℕ → List ℕ → Type 0
FindsNone t count old new = LooksAtEach t old new ⊎ ((p : ℕ) × (p < t.slots) × IsNextNumber count p t.slots t.size None)

-- a load of the claim count, which finds at most as many as there are, and at least each count that was seen: if it finds all of them,
-- it is the claim's NoWord
abbrev pub counted : ℕ → ℕ → Tells
counted size serial m n m' = (n ≤ size) × AreReached size m.0.seen n ×
    MatchBool (eqb n size) (m' ≡ (change_part (act_part (acts.Router serial router_acts.Claim) answers.NoWord) (saw size n m.0), m.1))
    (m' ≡ (saw size n m.0, m.1))

-- an exchange of the claim count c for the number behind the number n
abbrev pub claimed : ℕ → ℕ → ℕ → ℕ → Tells
claimed size serial c n m k m' = MatchBool (eqb k c)
    (m' ≡ (change_part (act_part (acts.Router serial router_acts.Claim) (answers.Claimed n)) (saw size n m.0), m.1))
    (m' ≡ (saw size k m.0, m.1))

-- what a proxy's claim answers and leaves: a number that no count that was seen has passed; NoWord only if the load found that each number
-- was claimed, or, where slots are used again, none was found (`FindsNone`), and then it is dry; Raced only if the load and the exchange found
-- different counts
pub data Answered (t : TableName) (serial : ℕ) (old new : CellState) (answer : Result ℕ Refusal) : Type 0 where
  Got : (c n : ℕ) → answer ≡ Ok n → IsNumberAt t c n → AreReached t.size old.seen c →
      new.part ≡ act_part (acts.Router serial router_acts.Claim) (answers.Claimed n) old.part →
      new.seen ≡ (old.seen ++ (t.size, c) ∷ []) ++ (t.size, n) ∷ [] → Answered t serial old new answer
  Dry : answer ≡ Err NoWord → new.part ≡ act_part (acts.Router serial router_acts.Claim) answers.NoWord old.part →
      new.seen ≡ old.seen ++ (t.size, t.size) ∷ [] → Answered t serial old new answer
  Slotless : (c : ℕ) → answer ≡ Err NoWord → t.reuses ≡ true → c < t.size →
      new.part ≡ act_part (acts.Router serial router_acts.Claim) answers.NoWord old.part →
      new.seen ≡ old.seen ++ (t.size, c) ∷ [] → FindsNone t c old.looked new.looked → Answered t serial old new answer
  Lost : (n found : ℕ) → answer ≡ Err Raced → found ≢ n → new.part ≡ old.part →
      new.seen ≡ (old.seen ++ (t.size, n) ∷ []) ++ (t.size, found) ∷ [] → Answered t serial old new answer

-- The table whose link words come back: its rule is that it folds a table which keeps the rule of one whose words don't, and each kind of step
-- of that is one of this.
use Rattle.std.specs.Prelude.{◌≡◌, ◌≤◌, ◌<◌, ◌⊎◌, ◌+◌, ◌*◌, ◌%◌, ℕ, Bool, true, false, not, List, [], ◌∷◌, Some, None, slice_index, MatchBool, bit_or, eqb}
use prog.Atomic.{either}
use Rattle.atomic_table.specs.Table.{State}
use Rattle.ipcz_base.specs.declared.side.Side.{Side}
use Rattle.ipcz_base.specs.declared.side.Side.TheVariants.{A, B}
use Rattle.ipcz_router.specs.Router.{Router}
use Rattle.ipcz_router.specs.declared.act.RouterAct.{RouterAct}
use Rattle.ipcz_router.specs.LettingGo.{let_go_end, let_go_spare}
use Rattle.ipcz_router.specs.declared.act.Answer.TheVariants as answers
use Rattle.ipcz_node.specs.declared.act.Act.{Act}
use Rattle.ipcz_node.specs.declared.act.Act.TheVariants as acts
use Rattle.ipcz_node.specs.Acts.{act_lacks_serials}
use Rattle.ipcz_node.specs.RoomyNodes.{IsPossibleAct}
use Rattle.ipcz_world.specs.Ranks.{AreTurns}
use Rattle.ipcz_world.specs.Wordless.{is_wordless}
use Rattle.ipcz_world.specs.HeldEnds.{IsEndHeld, TurnsHeldWereHeld, TurnsKeepHeld, LostAreNotHeld, LetGoAreNotHeld, LetGoAreGivenUp, ClaimedAreHeld, AcceptedAreHeld}
use Rattle.ipcz_rule.specs.declared.view.View.{View}
use Rattle.ipcz_rule.specs.declared.view.Part.{Part}
use Rattle.ipcz_rule.specs.Rule.{with_part}
use Rattle.ipcz_rule.specs.Batches.{Batch, BatchMine, Batched, BatchTurns}
use Rattle.ipcz_rule.specs.BatchKinds.{BatchProbes, BatchUnprobes, BatchPosts, BatchLooks, LooksOn, BatchHands, HandsOn, BatchClears, BatchGivesBack}
use Rattle.ipcz_rule.specs.RuleLaws.{LinksAreWords}
use Rattle.ipcz_rule.specs.GivenUp.{GivesEnd}
use Rattle.ipcz_rule.specs.Steps.{CanAct, act_part, is_touch_act}
use Rattle.ipcz_rule.specs.Kinds.{FormOf, Marks, Wakes, Unlocks, TriesLock, LoadsForLock, LoadsForClaim, LoadsForHand, Touches, TouchActs, Announces, LoadsForPost}
use Rattle.ipcz_slots.specs.declared.own.Own.{Own}
use Rattle.ipcz_slots.specs.Slots.{Virtual, Sizes, AreSizes, Lasting, NoSlotIsLost, has_number, without_number, let_go_word}
use Rattle.ipcz_slots.specs.SlotKinds.{Known, LastingSteps, same_own, side_bit}

-- a side by its bit
abbrev pub side_of : Bool → Side
side_of false = A
side_of true = B

-- the virtual table: that whose slots carry batches, with as many link words as there are numbers; an end is nowhere if nobody holds it. Where slots
-- aren't used again each batch is of one message
abbrev pub virtual : ℕ → ℕ → (reuses : Bool) → Virtual Batch View
virtual count limit reuses = record { holds = Batched count limit (not reuses); gone = λ t r b i. IsEndHeld r.rules.world i (side_of b) → ⊥ }

-- so many nodes, numbers and slots, and whether slots are used again
abbrev pub sizes : ℕ → ℕ → ℕ → Bool → Sizes
sizes count limit slots reuses = record { slots = slots; limit = limit; others = 1 + count + count * count; reuses = reuses }

-- the rule of a table for so many nodes and numbers, with so many slots for link words, which are used again or not
abbrev pub LastingRules : (count limit slots : ℕ) → Bool → State Batch (Own View) → Type 0
LastingRules count limit slots reuses = Lasting (virtual count limit reuses) (sizes count limit slots reuses)

-- the laws of worlds that this takes
pub record EndLaws : Type 0 where
  pub kept : TurnsHeldWereHeld
  pub stay : TurnsKeepHeld
  pub lost : LostAreNotHeld
  pub let_go : LetGoAreNotHeld
  pub given_up : LetGoAreGivenUp
  pub claimed : ClaimedAreHeld
  pub accepted : AcceptedAreHeld
  pub words : LinksAreWords

-- what is known of a step which is these turns of the shown world, by the number found in the word i
abbrev pub turns_of : (count limit : ℕ) (reuses : Bool) (i : ℕ) → (ℕ → List (ℕ × Act)) → Known (virtual count limit reuses)
turns_of count limit reuses i turns t r t' r' =
    AreTurns r.rules.world r.rules.books r.rules.routes (turns (slice_index t.words i)) r'.rules.world r'.rules.books r'.rules.routes

-- a seat's view with its slots
abbrev pub own_of : View → List ℕ → List ℕ → List ℕ → Own View
own_of v dirty free looked = record { view = v; dirty = dirty; free = free; looked = looked }

-- a step on the word of a number: here it is one on the number's slot
abbrev pub OnSlot : (k : ℕ) (reuses : Bool) (dirty free looked : List ℕ) → FormOf Batch
OnSlot k reuses dirty free looked count limit slots id m i f turns told = AreSizes (sizes count limit k reuses) →
    LastingSteps (virtual count limit reuses) (sizes count limit k reuses) (turns_of count limit reuses i turns) slots id (own_of m.0 dirty free looked, m.1) (i % k) f
    (same_own (own_of m.0 dirty free looked) told)

-- a step on a word behind the link words: here it is one as far behind the slots
abbrev pub Behind : (k : ℕ) (reuses : Bool) (dirty free looked : List ℕ) → FormOf Batch
Behind k reuses dirty free looked count limit slots id m i f turns told = AreSizes (sizes count limit k reuses) → (j : ℕ) → i ≡ limit + j →
    j < 1 + count + count * count →
    LastingSteps (virtual count limit reuses) (sizes count limit k reuses) (turns_of count limit reuses i turns) slots id (own_of m.0 dirty free looked, m.1) (k + j) f
    (same_own (own_of m.0 dirty free looked) told)

-- the kinds of step on a link word that a turn takes: the very statements of the rule, with the slot of the number in place of its word
abbrev pub SlotKindsLast : Type 0
SlotKindsLast = EndLaws → (k : ℕ) (reuses : Bool) (dirty free looked : List ℕ) →
    (Marks (BatchTurns (not reuses)) → Marks (OnSlot k reuses dirty free looked)) × (Wakes (BatchTurns (not reuses)) → Wakes (OnSlot k reuses dirty free looked)) ×
    (Unlocks (BatchTurns (not reuses)) → Unlocks (OnSlot k reuses dirty free looked)) × (TriesLock (BatchTurns (not reuses)) → TriesLock (OnSlot k reuses dirty free looked)) ×
    (LoadsForLock (BatchTurns (not reuses)) → LoadsForLock (OnSlot k reuses dirty free looked)) × (LoadsForHand (BatchTurns (not reuses)) → LoadsForHand (OnSlot k reuses dirty free looked))

-- touch, of any of these acts: where slots are used again it gives up no end of a link word
abbrev pub TouchActsLast : (k : ℕ) (reuses : Bool) (dirty free looked : List ℕ) → Type 0
TouchActsLast k reuses dirty free looked = (count size slots id i : ℕ) (m : BatchMine) (p : Part) (act : Act) → m.0.parts ≡ p ∷ [] → is_touch_act act ≡ true →
    IsPossibleAct p.state act → act_lacks_serials p.state act ≡ false → (reuses ≡ true → GivesEnd p.state act None) →
    Behind k reuses dirty free looked count size slots id m i (λ n. n) (λ n. (p.node, act) ∷ [])
    (λ n m'. m' ≡ (with_part (act_part act answers.Plain p) m.0, m.1))

-- the kinds of step behind the link words that a turn takes, but for claims
abbrev pub OtherKindsLast : Type 0
OtherKindsLast = EndLaws → (k : ℕ) (reuses : Bool) (dirty free looked : List ℕ) →
    (TouchActs (BatchTurns (not reuses)) → TouchActsLast k reuses dirty free looked) ×
    (LoadsForClaim (BatchTurns (not reuses)) → LoadsForClaim (Behind k reuses dirty free looked)) ×
    (BatchProbes (BatchTurns (not reuses)) → BatchProbes (Behind k reuses dirty free looked)) ×
    (BatchUnprobes (BatchTurns (not reuses)) → BatchUnprobes (Behind k reuses dirty free looked)) ×
    (Announces (BatchTurns (not reuses)) → Announces (Behind k reuses dirty free looked)) ×
    (LoadsForPost (BatchTurns (not reuses)) → LoadsForPost (Behind k reuses dirty free looked)) ×
    (BatchClears (BatchTurns (not reuses)) → BatchClears (Behind k reuses dirty free looked)) ×
    (BatchPosts (not reuses) (BatchTurns (not reuses)) → BatchPosts (not reuses) (Behind k reuses dirty free looked)) ×
    (BatchLooks (not reuses) (BatchTurns (not reuses)) → BatchLooks (not reuses) (Behind k reuses dirty free looked)) ×
    (BatchHands (BatchTurns (not reuses)) → BatchHands (Behind k reuses dirty free looked)) ×
    (BatchGivesBack (BatchTurns (not reuses)) → BatchGivesBack (Behind k reuses dirty free looked)) ×
    (LooksOn (BatchTurns (not reuses)) → LooksOn (Behind k reuses dirty free looked)) ×
    (HandsOn (BatchTurns (not reuses)) → HandsOn (Behind k reuses dirty free looked))

-- an act by which a router gives up its end of a number, and no spare: its step is on the let-go word of the number's slot, and sets the side's
-- bit
abbrev pub LetsGoOnSlots : Type 0
LetsGoOnSlots = (k : ℕ) (reuses : Bool) (dirty free looked : List ℕ) →
    (count limit slots id i : ℕ) (b : Bool) (m : BatchMine) (p : Part) (serial : ℕ) (r : Router) (act : RouterAct) → m.0.parts ≡ p ∷ [] →
    CanAct p.state serial r act → is_wordless act ≡ true → let_go_end r act ≡ Some (i, side_of b) → let_go_spare r act ≡ None →
    AreSizes (sizes count limit k reuses) →
    LastingSteps (virtual count limit reuses) (sizes count limit k reuses) (turns_of count limit reuses i (λ n. (p.node, acts.Router serial act) ∷ [])) slots id
    (own_of m.0 dirty free looked, m.1) (let_go_word (sizes count limit k reuses) (i % k)) (λ n. bit_or n (side_bit b))
    (same_own (own_of m.0 dirty free looked) (λ n m'. m' ≡ (with_part (act_part (acts.Router serial act) answers.Plain p) m.0, m.1)))

-- a slot that both sides have let go is taken, and emptied, or else the seat has looked at it in vain; and one that a seat has is given back: no turns
abbrev pub ReusingLasts : Type 0
ReusingLasts = (k : ℕ) (dirty free looked : List ℕ) → 1 ≤ k → (count limit slots id p : ℕ) (m : BatchMine) →
    (p < k → LastingSteps (virtual count limit true) (sizes count limit k true) (turns_of count limit true 0 (λ n. [])) slots id (own_of m.0 dirty free looked, m.1)
    (let_go_word (sizes count limit k true) p) (λ n. either (eqb n 3) 0 n)
    (λ n m'. MatchBool (eqb n 3) (m' ≡ (own_of m.0 (p ∷ dirty) free looked, m.1)) (m' ≡ (own_of m.0 dirty free (p ∷ looked), m.1)))) ×
    (has_number dirty p ≡ true → LastingSteps (virtual count limit true) (sizes count limit k true) (turns_of count limit true 0 (λ n. [])) slots id
    (own_of m.0 dirty free looked, m.1) p (λ n. 0) (λ n m'. m' ≡ (own_of m.0 (without_number dirty p) (p ∷ free) looked, m.1))) ×
    ((has_number dirty p ≡ true) ⊎ (has_number free p ≡ true) → LastingSteps (virtual count limit true) (sizes count limit k true)
    (turns_of count limit true 0 (λ n. [])) slots id (own_of m.0 dirty free looked, m.1) (let_go_word (sizes count limit k true) p) (λ n. 3)
    (λ n m'. m' ≡ (own_of m.0 (without_number dirty p) (without_number free p) looked, m.1)))

-- the same of an act by which the router gives up a spare too: the slot of that is the seat's, to be emptied
abbrev pub LeavesOnSlots : Type 0
LeavesOnSlots = (k : ℕ) (dirty free looked : List ℕ) → 1 ≤ k →
    (count limit slots id i j : ℕ) (b : Bool) (m : BatchMine) (p : Part) (serial : ℕ) (r : Router) (act : RouterAct) → m.0.parts ≡ p ∷ [] →
    CanAct p.state serial r act → is_wordless act ≡ true → let_go_end r act ≡ Some (i, side_of b) → let_go_spare r act ≡ Some j →
    LastingSteps (virtual count limit true) (sizes count limit k true) (turns_of count limit true i (λ n. (p.node, acts.Router serial act) ∷ [])) slots
    id (own_of m.0 dirty free looked, m.1) (let_go_word (sizes count limit k true) (i % k)) (λ n. bit_or n (side_bit b))
    (λ n m'. (◌≡◌ {A = BatchMine} (m'.0.view, m'.1) (with_part (act_part (acts.Router serial act) answers.Plain p) m.0, m.1)) ×
    (m'.0.dirty ≡ (j % k) ∷ dirty) × (m'.0.free ≡ free) × (m'.0.looked ≡ looked))

-- by these laws, and the kind of the virtual table
abbrev pub LettingGoLasts : Type 0
LettingGoLasts = EndLaws → ((reuses : Bool) → Touches (BatchTurns (not reuses))) → LetsGoOnSlots

abbrev pub LeavingLasts : Type 0
LeavingLasts = EndLaws → Touches (BatchTurns false) → LeavesOnSlots

-- no slot of such a table is lost: an end of its number is held, or both sides have let it go and it is to be had, or a seat has it
abbrev pub NoSlotOfItIsLost : Type 0
NoSlotOfItIsLost = (count limit k : ℕ) → NoSlotIsLost (virtual count limit true) (sizes count limit k true)

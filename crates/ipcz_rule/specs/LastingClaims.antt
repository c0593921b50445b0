-- A claim on a table whose link words come back takes a number whose slot is free, and passes over those before it.
use Rattle.std.specs.Prelude.{◌≡◌, ◌≤◌, ◌<◌, ◌+◌, ◌%◌, ℕ, Bool, true, false, List, [], ◌∷◌, slice_index, MatchBool, eqb}
use prog.Atomic.{either}
use Rattle.ipcz_router.specs.Router.{Router}
use Rattle.ipcz_router.specs.declared.act.RouterAct.TheVariants as router_acts
use Rattle.ipcz_router.specs.declared.act.Answer.TheVariants as answers
use Rattle.ipcz_node.specs.declared.act.Act.{Act}
use Rattle.ipcz_node.specs.declared.act.Act.TheVariants as acts
use Rattle.ipcz_world.specs.WorldLaws.{LawfulStraysNothing}
use Rattle.ipcz_world.specs.Ranks.{AreTurns}
use Rattle.ipcz_world.specs.HeldEnds.{PassingKeepsLawful, passed_over, lose_words}
use Rattle.ipcz_rule.specs.declared.view.Part.{Part}
use Rattle.ipcz_rule.specs.Rule.{with_part, saw}
use Rattle.ipcz_rule.specs.Batches.{BatchMine, BatchTurns}
use Rattle.ipcz_rule.specs.Steps.{CanAct, act_part}
use Rattle.ipcz_rule.specs.Kinds.{Loads, Claims, turn_where}
use Rattle.ipcz_slots.specs.Slots.{AreSizes, has_number, without_number}
use Rattle.ipcz_slots.specs.SlotKinds.{Known, LastingSteps, same_own}
use Rattle.ipcz_rule.specs.Lasting.{EndLaws, virtual, sizes, turns_of, own_of}

-- what is known of a claim that finds the count: the turns of the world that has passed over so many numbers
abbrev pub passing_turns : (count limit c skip : ℕ) → List (ℕ × Act) → Known (virtual count limit true)
passing_turns count limit c skip turns t r t' r' =
    (r.rules.world.claimed ≡ c) × (c + skip ≤ limit) ×
    AreTurns (passed_over r.rules.world skip) r.rules.books (lose_words r.rules.routes r.rules.world.claimed skip) turns r'.rules.world r'.rules.books r'.rules.routes

-- claim: the count is exchanged for the one behind a number whose slot is free at the seat, if it is what was found before; else the step was
-- a load. What is noted as seen is the number claimed
abbrev pub ClaimsOnSlots : Type 0
ClaimsOnSlots = (k : ℕ) (dirty free looked : List ℕ) → 1 ≤ k →
    (count limit slots id c skip : ℕ) (m : BatchMine) (p : Part) (serial : ℕ) (r : Router) → m.0.parts ≡ p ∷ [] →
    CanAct p.state serial r router_acts.Claim → c + skip < limit → limit < 18446744073709551616 → has_number free ((c + skip) % k) ≡ true →
    LastingSteps (virtual count limit true) (sizes count limit k true)
    (λ t r t' r'. MatchBool (eqb (slice_index t.words limit) c)
    (passing_turns count limit c skip ((p.node, acts.Router serial router_acts.Claim) ∷ []) t r t' r')
    (turns_of count limit true limit (λ n. []) t r t' r'))
    slots id (own_of m.0 dirty free looked, m.1) (k + 0) (λ n. either (eqb n c) (c + skip + 1) n)
    (λ n m'. (m'.0.dirty ≡ dirty) × (m'.0.looked ≡ looked) × MatchBool (eqb n c)
    ((◌≡◌ {A = BatchMine} (m'.0.view, m'.1) (with_part (act_part (acts.Router serial router_acts.Claim) (answers.Claimed (c + skip)) p) (saw limit (c + skip) m.0), m.1)) ×
    (m'.0.free ≡ without_number free ((c + skip) % k)))
    ((◌≡◌ {A = BatchMine} (m'.0.view, m'.1) (saw limit n m.0, m.1)) × (m'.0.free ≡ free)))

-- the same where slots aren't used again: the claim is the rule's own
abbrev pub ClaimsInTheirOrder : Type 0
ClaimsInTheirOrder = (k : ℕ) (dirty free looked : List ℕ) → (count limit slots id c : ℕ) (m : BatchMine) (p : Part) (serial : ℕ) (r : Router) → m.0.parts ≡ p ∷ [] →
    CanAct p.state serial r router_acts.Claim → c < limit → AreSizes (sizes count limit k false) →
    LastingSteps (virtual count limit false) (sizes count limit k false)
    (turns_of count limit false limit (λ n. turn_where (eqb n c) p.node (acts.Router serial router_acts.Claim)))
    slots id (own_of m.0 dirty free looked, m.1) (k + 0) (λ n. either (eqb n c) (c + 1) n)
    (same_own (own_of m.0 dirty free looked) (λ n m'. MatchBool (eqb n c)
    (m' ≡ (with_part (act_part (acts.Router serial router_acts.Claim) (answers.Claimed c) p) (saw limit n m.0), m.1))
    (m' ≡ (saw limit n m.0, m.1))))

-- by these laws and kinds
abbrev pub ClaimsLast : Type 0
ClaimsLast = EndLaws → PassingKeepsLawful → LawfulStraysNothing → ((alone : Bool) → Loads (BatchTurns alone)) → ((alone : Bool) → Claims (BatchTurns alone)) → ClaimsOnSlots × ClaimsInTheirOrder

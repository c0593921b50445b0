-- The calls on a table whose link words come back: each is the call of the shown world that it is on one whose words don't.
use Rattle.std.specs.Prelude.{◌≡◌, ◌≤◌, ◌<◌, ◌+◌, ◌*◌, ◌%◌, ℕ, eqb, List, [], ◌∷◌, slice_index, None, Bool, true, false, MatchBool}
use prog.Atomic.{either}
use Rattle.ipcz_base.specs.declared.side.Side.{Side}
use Rattle.ipcz_world.specs.HeldEnds.{IsEndHeld, passed_over}
use Rattle.ipcz_rule.specs.declared.view.Part.{Part}
use Rattle.ipcz_rule.specs.Rule.{with_part, saw}
use Rattle.ipcz_rule.specs.Batches.{Batch, BatchMine}
use Rattle.ipcz_rule.specs.Steps.{claimed_part}
use Rattle.ipcz_slots.specs.Slots.{AreSizes, has_number, without_number}
use Rattle.ipcz_rule.specs.Deeds.{Deed, Beside, ClaimsWord, Passes, AreDeeds, deed_where}
use Rattle.ipcz_rule.specs.Kinds.{DeedFormOf, Done, KeepsEnds, Puts, Gets, Closes, Opens, Dries, Wets}
use Rattle.ipcz_slots.specs.SlotKinds.{Known, LastingSteps, same_own}
use Rattle.ipcz_rule.specs.Lasting.{virtual, sizes, own_of}

-- what a cell knows of its step: ends that nobody held are held by nobody, and where slots are used again those that were held are
abbrev pub keeping : (reuses : Bool) (count limit : ℕ) → Known (virtual count limit reuses)
keeping reuses count limit t r t' r' = KeepsEnds reuses r.rules.world r'.rules.world

-- what is known of a step that is these deeds of the shown world, by the number found in the word i
abbrev pub deeds_of : (count limit : ℕ) (reuses : Bool) (i : ℕ) → (ℕ → List Deed) → Known (virtual count limit reuses)
deeds_of count limit reuses i deeds t r t' r' =
    Done r.rules.world r.rules.books r.rules.routes (deeds (slice_index t.words i)) r'.rules.world r'.rules.books r'.rules.routes

-- a call on a lasting table, by a step on a word behind the link words
abbrev pub CallBehind : (k : ℕ) (reuses : Bool) (dirty free looked : List ℕ) → DeedFormOf Batch
CallBehind k reuses dirty free looked count limit slots id m i f deeds told = AreSizes (sizes count limit k reuses) → (j : ℕ) → i ≡ limit + j →
    j < 1 + count + count * count →
    LastingSteps (virtual count limit reuses) (sizes count limit k reuses) (deeds_of count limit reuses i deeds) slots id (own_of m.0 dirty free looked, m.1) (k + j) f
    (same_own (own_of m.0 dirty free looked) told)

-- puts, gets and closes; and what routers are told of words
abbrev pub CallsLast : Type 0
CallsLast = (k : ℕ) (reuses : Bool) (dirty free looked : List ℕ) →
    Puts (CallBehind k reuses dirty free looked) × Gets (CallBehind k reuses dirty free looked) × Closes (CallBehind k reuses dirty free looked) ×
    Dries (CallBehind k reuses dirty free looked) × Wets (CallBehind k reuses dirty free looked)

-- a call on a lasting table, by a step on the word of a number
abbrev pub CallOnSlot : (k : ℕ) (reuses : Bool) (dirty free looked : List ℕ) → DeedFormOf Batch
CallOnSlot k reuses dirty free looked count limit slots id m i f deeds told = AreSizes (sizes count limit k reuses) →
    LastingSteps (virtual count limit reuses) (sizes count limit k reuses) (deeds_of count limit reuses i deeds) slots id (own_of m.0 dirty free looked, m.1) (i % k) f
    (same_own (own_of m.0 dirty free looked) told)

-- opens
abbrev pub OpensLast : Type 0
OpensLast = (k : ℕ) (reuses : Bool) (dirty free looked : List ℕ) → Opens (CallOnSlot k reuses dirty free looked)

-- what is known of such a claim of a node that finds the count: so many numbers are passed over, and then it claims; and both ends of the number that
-- it claims are held
abbrev pub passing_keeping : (count limit c skip node : ℕ) → Known (virtual count limit true)
passing_keeping count limit c skip node t r t' r' =
    (r.rules.world.claimed ≡ c) × (c + skip ≤ limit) × KeepsEnds true (passed_over r.rules.world skip) r'.rules.world × ((s : Side) → IsEndHeld r'.rules.world (c + skip) s) ×
    AreDeeds r.rules.world r.rules.books r.rules.routes (Beside (Passes skip) ∷ Beside (ClaimsWord node) ∷ []) r'.rules.world r'.rules.books r'.rules.routes

-- a claim for an open of a number whose slot is free at the seat
abbrev pub ClaimsForOpenLast : Type 0
ClaimsForOpenLast = (k : ℕ) (dirty free looked : List ℕ) → 1 ≤ k →
    (count limit slots id c skip : ℕ) (m : BatchMine) (p : Part) → m.0.parts ≡ p ∷ [] → p.state.opening ≡ None → c + skip < limit →
    limit < 18446744073709551616 → has_number free ((c + skip) % k) ≡ true →
    LastingSteps (virtual count limit true) (sizes count limit k true)
    (λ t r t' r'. MatchBool (eqb (slice_index t.words limit) c) (passing_keeping count limit c skip p.node t r t' r')
    (deeds_of count limit true limit (λ n. []) t r t' r'))
    slots id (own_of m.0 dirty free looked, m.1) (k + 0) (λ n. either (eqb n c) (c + skip + 1) n)
    (λ n m'. (m'.0.dirty ≡ dirty) × (m'.0.looked ≡ looked) × MatchBool (eqb n c)
    ((◌≡◌ {A = BatchMine} (m'.0.view, m'.1) (with_part (claimed_part (c + skip) p) (saw limit (c + skip) m.0), m.1)) ×
    (m'.0.free ≡ without_number free ((c + skip) % k)))
    ((◌≡◌ {A = BatchMine} (m'.0.view, m'.1) (saw limit n m.0, m.1)) × (m'.0.free ≡ free)))

-- the same where slots aren't used again
abbrev pub ClaimsForOpenInOrder : Type 0
ClaimsForOpenInOrder = (k : ℕ) (dirty free looked : List ℕ) → (count limit slots id c : ℕ) (m : BatchMine) (p : Part) → m.0.parts ≡ p ∷ [] →
    p.state.opening ≡ None → c < limit → AreSizes (sizes count limit k false) →
    LastingSteps (virtual count limit false) (sizes count limit k false)
    (deeds_of count limit false limit (λ n. deed_where (eqb n c) (Beside (ClaimsWord p.node))))
    slots id (own_of m.0 dirty free looked, m.1) (k + 0) (λ n. either (eqb n c) (c + 1) n)
    (same_own (own_of m.0 dirty free looked) (λ n m'. MatchBool (eqb n c) (m' ≡ (with_part (claimed_part c p) (saw limit n m.0), m.1)) (m' ≡ (saw limit n m.0, m.1))))

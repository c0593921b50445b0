-- Runs of a table with all that is done there: calls of callers, turns of nodes, and what is neither; steps of any seats, in whatever order, and what
-- they are for the world that is shown.
use Rattle.std.specs.Prelude.{◌≡◌, ◌⊎◌, ◌<◌, ◌≤◌, ◌+◌, ◌*◌, ◌%◌, ℕ, Bool, true, false, not, cond, eqb, List, [], ◌∷◌, ◌++◌, length, slice_index, None, refl}
use mathlib.Core.Option.{some}
use lib.ListN.{get_elem?}
use Rattle.atomic_table.specs.Table.{State, Me, stepped}
use Rattle.ipcz_node.specs.declared.act.Act.{Act}
use Rattle.ipcz_world.specs.World.{World}
use Rattle.ipcz_world.specs.Books.{Books}
use Rattle.ipcz_world.specs.Routes.{Routes}
use Rattle.ipcz_world.specs.Ranks.{AreTurns}
use Rattle.ipcz_world.specs.HeldEnds.{passed_over, lose_words}
use Rattle.ipcz_slots.specs.declared.own.Own.{Own}
use Rattle.ipcz_slots.specs.Slots.{AreSizes, has_number}
use Rattle.ipcz_slots.specs.SlotKinds.{Known, LastingSteps, same_own}
use Rattle.ipcz_rule.specs.declared.view.View.{View}
use Rattle.ipcz_rule.specs.declared.view.Part.{Part}
use Rattle.ipcz_rule.specs.Batches.{Batch, BatchSt, BatchMine, Batched}
use Rattle.ipcz_rule.specs.Deeds.{Deed, Beside, ClaimsWord, Passes, AreDeeds, deed_where, turn_deeds}
use Rattle.ipcz_rule.specs.Rule.{SingleRuled}
use Rattle.ipcz_rule.specs.Kinds.{DeedFormOf, Puts, Gets, Closes, Opens, Dries, Wets}
use Rattle.ipcz_rule.specs.Lasting.{LastingRules, virtual, sizes, own_of, turns_of}

-- a table that keeps the rule of one whose link words come back, or of one whose words don't, with what the rule says of it
abbrev pub LastingRuled : (count limit k : ℕ) → Bool → Type 0
LastingRuled count limit k reuses = (s : State Batch (Own View)) × LastingRules count limit k reuses s

-- the table that it folds, whose slots carry single messages, with what that shows
abbrev pub folded : {count limit k : ℕ} {reuses : Bool} → LastingRuled count limit k reuses → SingleRuled count limit
folded p = (p.1.1.single, p.1.1.rules)

-- deeds lead from the world that one table shows to the one that another shows
abbrev pub LeadTo : {count limit : ℕ} → SingleRuled count limit → List Deed → SingleRuled count limit → Type 0
LeadTo p deeds q = AreDeeds p.1.world p.1.books p.1.routes deeds q.1.world q.1.books q.1.routes

-- what is known of a step that is deeds, by what the table shows before it
abbrev pub leading : (count limit : ℕ) (reuses : Bool) → ((t : BatchSt) → Batched count limit (not reuses) t → List Deed) → Known (virtual count limit reuses)
leading count limit reuses deeds t r t' r' = LeadTo {count = count} {limit = limit} (r.single, r.rules) (deeds t r) (r'.single, r'.rules)

-- an atomic step of a seat on a word of the table, whatever it leaves of the seat: here it is these deeds
pub record DeedStep (count limit k : ℕ) (reuses : Bool) (p : LastingRuled count limit k reuses) (done : List Deed) : Type 0 where
  pub seat : ℕ
  pub me : Me Batch (Own View)
  pub word : ℕ
  pub change : ℕ → ℕ
  pub deeds : (t : BatchSt) → Batched count limit (not reuses) t → List Deed
  pub allowed : LastingSteps (virtual count limit reuses) (sizes count limit k reuses) (leading count limit reuses deeds) (length p.0.homes) seat me word change
      (λ n left. Unit {0})
  pub there : get_elem? p.0.views seat ≡ some me.0
  pub small : slice_index p.0.words word < 18446744073709551616
  pub is : deeds p.1.0 p.1.1 ≡ done

-- the table after it
abbrev pub after_deeds : (count limit k : ℕ) (reuses : Bool) (p : LastingRuled count limit k reuses) (done : List Deed) → DeedStep count limit k reuses p done →
    LastingRuled count limit k reuses
after_deeds count limit k reuses p done t =
    let h = t.allowed p.0 p.1 refl t.there t.small in
    (stepped p.0 t.word (t.change (slice_index p.0.words t.word)) t.seat t.me.1 h.0 h.1, h.3.0)

-- seats are dealt or joined, or come: words and messages stay, and what is shown
pub record SeatsMove (count limit k : ℕ) (reuses : Bool) (p q : LastingRuled count limit k reuses) : Type 0 where
  pub words : q.0.words ≡ p.0.words
  pub homes : q.0.homes ≡ p.0.homes
  pub shown : LeadTo (folded p) [] (folded q)

-- an atomic step that is these deeds, or a move of seats, which is none
abbrev pub Goes : (count limit k : ℕ) (reuses : Bool) (p : LastingRuled count limit k reuses) (done : List Deed) (q : LastingRuled count limit k reuses) → Type 0
Goes count limit k reuses p done q =
    ((t : DeedStep count limit k reuses p done) × (q ≡ after_deeds count limit k reuses p done t)) ⊎ ((done ≡ []) × SeatsMove count limit k reuses p q)

-- such steps one after the other, of any seats, each with the deeds that it is; and the table behind them
abbrev pub AreTableSteps : (count limit k : ℕ) (reuses : Bool) (p : LastingRuled count limit k reuses) → List (List Deed) → LastingRuled count limit k reuses → Type 0
AreTableSteps count limit k reuses p [] q = q ≡ p
AreTableSteps count limit k reuses p (done ∷ steps) q =
    (m : LastingRuled count limit k reuses) × Goes count limit k reuses p done m × AreTableSteps count limit k reuses m steps q

-- the deeds of all steps, in their order
abbrev pub all_deeds : List (List Deed) → List Deed
all_deeds [] = []
all_deeds (done ∷ steps) = done ++ all_deeds steps

-- law: steps of the table are a run of the world that is shown
abbrev pub TableStepsAreRuns : Type 0
TableStepsAreRuns =
    (count limit k : ℕ) (reuses : Bool) (p q : LastingRuled count limit k reuses) (steps : List (List Deed)) →
    AreTableSteps count limit k reuses p steps q → LeadTo (folded p) (all_deeds steps) (folded q)

-- a step of a kind is one of a run of tables, with these deeds, and it leaves of its seat what the kind says: it is on a word behind the link words, or on
-- the slot of a number
abbrev pub IsStepOn : (k : ℕ) (reuses : Bool) (dirty free looked : List ℕ) (word : ℕ) → DeedFormOf Batch
IsStepOn k reuses dirty free looked word count limit slots id m i f deeds told =
    (p : LastingRuled count limit k reuses) → length p.0.homes ≡ slots → get_elem? p.0.views id ≡ some (own_of m.0 dirty free looked) →
    slice_index p.0.words word < 18446744073709551616 →
    (q : LastingRuled count limit k reuses) × Goes count limit k reuses p (deeds (slice_index p.1.0.words i)) q ×
    ((left : Me Batch (Own View)) × (get_elem? q.0.views id ≡ some left.0) × same_own (own_of m.0 dirty free looked) told (slice_index p.0.words word) left)

abbrev pub IsStepBehind : (k : ℕ) (reuses : Bool) (dirty free looked : List ℕ) → DeedFormOf Batch
IsStepBehind k reuses dirty free looked count limit slots id m i f deeds told = AreSizes (sizes count limit k reuses) → (j : ℕ) → i ≡ limit + j →
    j < 1 + count + count * count → IsStepOn k reuses dirty free looked (k + j) count limit slots id m i f deeds told

abbrev pub IsStepOnSlot : (k : ℕ) (reuses : Bool) (dirty free looked : List ℕ) → DeedFormOf Batch
IsStepOnSlot k reuses dirty free looked count limit slots id m i f deeds told = AreSizes (sizes count limit k reuses) →
    IsStepOn k reuses dirty free looked (i % k) count limit slots id m i f deeds told

-- law: whenever a node doesn't refuse a call, its step on the table is a step of such runs, and its deed is the call with its answer. So are what routers
-- are told of words
abbrev pub CallsAreSteps : Type 0
CallsAreSteps = (k : ℕ) (reuses : Bool) (dirty free looked : List ℕ) →
    Puts (IsStepBehind k reuses dirty free looked) × Gets (IsStepBehind k reuses dirty free looked) × Closes (IsStepBehind k reuses dirty free looked) ×
    Opens (IsStepOnSlot k reuses dirty free looked) × Dries (IsStepBehind k reuses dirty free looked) × Wets (IsStepBehind k reuses dirty free looked)

-- law: so is a claim for an open: it passes over the numbers before its own, and claims that; and where another count stands, it is a load
pub record ClaimsForOpenAreSteps : Type 0 where
  pub again : (k : ℕ) (dirty free looked : List ℕ) → 1 ≤ k → (count limit slots id c skip : ℕ) (m : BatchMine) (p : Part) → m.0.parts ≡ p ∷ [] →
      p.state.opening ≡ None → c + skip < limit → limit < 18446744073709551616 → has_number free ((c + skip) % k) ≡ true →
      (s : LastingRuled count limit k true) → length s.0.homes ≡ slots → get_elem? s.0.views id ≡ some (own_of m.0 dirty free looked) →
      slice_index s.0.words (k + 0) < 18446744073709551616 →
      (q : LastingRuled count limit k true) ×
      Goes count limit k true s (cond (eqb (slice_index s.1.0.words limit) c) (Beside (Passes skip) ∷ Beside (ClaimsWord p.node) ∷ []) []) q
  pub order : (k : ℕ) (dirty free looked : List ℕ) (count limit slots id c : ℕ) (m : BatchMine) (p : Part) → m.0.parts ≡ p ∷ [] →
      p.state.opening ≡ None → c < limit → AreSizes (sizes count limit k false) →
      (s : LastingRuled count limit k false) → length s.0.homes ≡ slots → get_elem? s.0.views id ≡ some (own_of m.0 dirty free looked) →
      slice_index s.0.words (k + 0) < 18446744073709551616 →
      (q : LastingRuled count limit k false) ×
      Goes count limit k false s (deed_where (eqb (slice_index s.1.0.words limit) c) (Beside (ClaimsWord p.node))) q

-- law: a step of whichever kind of which turns are known is a step of such runs, and its deeds are these turns
abbrev pub TurnsAreSteps : Type 0
TurnsAreSteps =
    (count limit k : ℕ) (reuses : Bool) (turns : ℕ → List (ℕ × Act)) (slots id i word : ℕ) (me : Me Batch (Own View)) (f : ℕ → ℕ) →
    LastingSteps (virtual count limit reuses) (sizes count limit k reuses) (turns_of count limit reuses i turns) slots id me word f (λ n left. Unit {0}) →
    (p : LastingRuled count limit k reuses) → length p.0.homes ≡ slots → get_elem? p.0.views id ≡ some me.0 →
    slice_index p.0.words word < 18446744073709551616 →
    (q : LastingRuled count limit k reuses) × Goes count limit k reuses p (turn_deeds p.1.1.rules.world (turns (slice_index p.1.0.words i))) q

-- law: what kinds of turns are known to be, turns of the shown world, behind numbers that are passed over or not, is deeds
pub record TurnsAreDeeds : Type 0 where
  pub turns : (w v : World) (b c : Books) (g h : Routes) (turns : List (ℕ × Act)) → AreTurns w b g turns v c h → AreDeeds w b g (turn_deeds w turns) v c h
  pub claims : (w v : World) (b c : Books) (g h : Routes) (skip : ℕ) (turns : List (ℕ × Act)) → w.claimed + skip ≤ w.size →
      AreTurns (passed_over w skip) b (lose_words g w.claimed skip) turns v c h →
      AreDeeds w b g (Beside (Passes skip) ∷ turn_deeds (passed_over w skip) turns) v c h

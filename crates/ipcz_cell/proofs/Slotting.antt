-- A step on the table that is folded, as one on the table with slots.
use Rattle.std.specs.Prelude.{◌≡◌, ◌<◌, ◌⊎◌, ◌+◌, ◌*◌, ◌%◌, ℕ, Bool, true, false, [], ◌∷◌, Option, Some, None, IfNone, MatchBool, eqb, List, slice_index, refl}
use prog.Atomic.{either}
use mathlib.Core.Option.{some}
use lib.ListN.{get_elem?}
use Rattle.std.proofs.Common.{arith, ◌∙◌, sym, subst, inl, inr}
use Rattle.std.proofs.lemmas.Bool.Decides.{nat_tests}
use Rattle.atomic_table.specs.Table.{State, Me, Allows, stepped}
use Rattle.atomic_table.proofs.Lists.{set_here}
use Rattle.ipcz_base.specs.declared.message.Message.{Message}
use Rattle.ipcz_slots.specs.declared.own.Own.{Own}
use Rattle.ipcz_slots.specs.Slots.{Virtual, Sizes, AreSizes, Lasting, let_go_word, has_number}
use Rattle.ipcz_slots.specs.SlotKinds.{Known, LastingSteps, same_own}
use Rattle.ipcz_slots.proofs.Folding.{view_at}
use Rattle.ipcz_base.specs.declared.side.Side.{Side}
use Rattle.ipcz_router.specs.declared.act.RouterAct.{RouterAct}
use Rattle.ipcz_rule.specs.declared.view.View.{View}
use Rattle.ipcz_rule.specs.Batches.{Batch, BatchMine}
use Rattle.ipcz_rule.specs.Steps.{old_word}
use Rattle.ipcz_rule.specs.Lasting.{LastingRules, virtual}
use Rattle.ipcz_rule.specs.LastingCalls.{keeping}
use Rattle.ipcz_rule.proofs.Lasts.{router_lives, old_lives, reusing}
use Rattle.ipcz_rule.proofs.LastsAll.{ends}
use Rattle.ipcz_rule.proofs.LastsCalls.{slot_kept, behind_kept, opening_lives}
use Rattle.ipcz_cell.specs.TableNames.{TableName, IsLaidOut}
use Rattle.ipcz_cell.specs.CellStates.{part_in}
use Rattle.ipcz_cell.specs.Cells.{AreSound}
use Rattle.ipcz_cell.specs.Words.{CanWord}
use Rattle.ipcz_cell.specs.Seats.{mine_of, sizes_of, Keeps, IsSlotted, Taken, Emptied, Returned}
use Rattle.ipcz_cell.proofs.Telling.{tells, at_inside, sound_at}

-- what a step tells of a seat, and that its slots stay
abbrev pub Told : TableName → (ℕ → BatchMine → Type 0) → Me Batch (Own View) → ℕ → Me Batch (Own View) → Type 0
Told t told m n m' = told n (mine_of m') × AreSound t.count t.size m'.0.view × (m'.0.dirty ≡ m.0.dirty) × (m'.0.free ≡ m.0.free) × (m'.0.looked ≡ m.0.looked)

pub are_sizes : (t : TableName) → IsLaidOut t → AreSizes (sizes_of t)
are_sizes t laid = record { some_slot = laid.some_slot; whole = laid.whole; count = omega arith }

-- what else is known of a step needn't be told
pub allowed : {S V : Type 0} (x : Virtual S V) (z : Sizes) (g : Known x) (slots id : ℕ) (me : Me S (Own V)) (i : ℕ) (f : ℕ → ℕ) (told : ℕ → Me S (Own V) → Type 0) →
    LastingSteps x z g slots id me i f told → Allows (Lasting x z) slots id me i f told
allowed x z g slots id me i f told steps s l deep at small = let h = steps s l deep at small in (h.0, h.1, h.2, h.3.0, h.4)

-- the same at the table's own numbers
pub at_own : (n w k : ℕ) (r : Bool) (slots : ℕ) (t : TableName) (id : ℕ) (m : Me Batch (Own View)) (i : ℕ) (f : ℕ → ℕ) (then : ℕ → Me Batch (Own View) → Type 0) →
    n ≡ t.count → w ≡ t.size → k ≡ t.slots → r ≡ t.reuses → slots ≡ t.id.slots → Allows (LastingRules t.count t.size t.slots t.reuses) t.id.slots id m i f then →
    Allows (LastingRules n w k r) slots id m i f then
at_own n w k r slots t id m i f then en ew ek er es may =
    subst (λ (z : ℕ). Allows (LastingRules z w k r) slots id m i f then) (sym en)
    (subst (λ (z : ℕ). Allows (LastingRules t.count z k r) slots id m i f then) (sym ew)
    (subst (λ (z : ℕ). Allows (LastingRules t.count t.size z r) slots id m i f then) (sym ek)
    (subst (λ (z : Bool). Allows (LastingRules t.count t.size t.slots z) slots id m i f then) (sym er)
    (subst (λ (z : ℕ). Allows (LastingRules t.count t.size t.slots t.reuses) z id m i f then) (sym es) may))))

-- a step on the word of a number that has a slot
pub link_may : (n w k : ℕ) (r : Bool) (slots word : ℕ) (t : TableName) (id : ℕ) (m : Me Batch (Own View)) (i : ℕ) (f : ℕ → ℕ) (told : ℕ → BatchMine → Type 0) →
    n ≡ t.count → w ≡ t.size → k ≡ t.slots → r ≡ t.reuses → slots ≡ t.id.slots → word ≡ i % t.slots → IsLaidOut t → IsSlotted t id m.0.view i →
    Keeps t.reuses t.count t.size t.id.slots id (mine_of m) i f told → Allows (LastingRules n w k r) slots id m word f (Told t told m)
link_may n w k r slots word t id m i f told en ew ek er es at laid has may =
    at_own n w k r slots t id m word f (Told t told m) en ew ek er es
    (subst (λ (z : ℕ). Allows (LastingRules t.count t.size t.slots t.reuses) t.id.slots id m z f (Told t told m)) (sym at)
    (λ s l deep there small.
    let h = allowed (virtual t.count t.size t.reuses) (sizes_of t) (keeping t.reuses t.count t.size) t.id.slots id m (i % t.slots) f (same_own m.0 (λ j m'. told j m' × AreSound t.count t.size m'.0))
    (slot_kept t.slots t.reuses m.0.dirty m.0.free m.0.looked t.count t.size t.id.slots id (mine_of m) i f (λ j. []) (λ j m'. told j m' × AreSound t.count t.size m'.0) has (tells t.reuses t.count t.size t.id.slots id i (mine_of m) f told may) (are_sizes t laid)) s l deep there small in
    (h.0, h.1, h.2, h.3, (h.4.0.0, h.4.0.1, h.4.1, h.4.2, h.4.3))))

-- a step on a word behind the link words, which leaves the claim count
pub other_may : (n w k : ℕ) (r : Bool) (slots word : ℕ) (t : TableName) (id : ℕ) (m : Me Batch (Own View)) (j : ℕ) (f : ℕ → ℕ) (told : ℕ → BatchMine → Type 0) →
    n ≡ t.count → w ≡ t.size → k ≡ t.slots → r ≡ t.reuses → slots ≡ t.id.slots → word ≡ t.slots + j → IsLaidOut t → j < 1 + t.count + t.count * t.count →
    (j ≡ 0 → (i : ℕ) → f i ≡ i) → Keeps t.reuses t.count t.size t.id.slots id (mine_of m) (t.size + j) f told → Allows (LastingRules n w k r) slots id m word f (Told t told m)
other_may n w k r slots word t id m j f told en ew ek er es at laid inside leaves may =
    at_own n w k r slots t id m word f (Told t told m) en ew ek er es
    (subst (λ (z : ℕ). Allows (LastingRules t.count t.size t.slots t.reuses) t.id.slots id m z f (Told t told m)) (sym at)
    (λ s l deep there small.
    let h = allowed (virtual t.count t.size t.reuses) (sizes_of t) (keeping t.reuses t.count t.size) t.id.slots id m (t.slots + j) f (same_own m.0 (λ i m'. told i m' × AreSound t.count t.size m'.0))
    (behind_kept t.slots t.reuses m.0.dirty m.0.free m.0.looked t.count t.size t.id.slots id (mine_of m) (t.size + j) f (λ i. []) (λ i m'. told i m' × AreSound t.count t.size m'.0) (λ e. leaves (omega (arith, e)))
    (tells t.reuses t.count t.size t.id.slots id (t.size + j) (mine_of m) f told may) (are_sizes t laid) j (omega arith) inside) s l deep there small in
    (h.0, h.1, h.2, h.3, (h.4.0.0, h.4.0.1, h.4.1, h.4.2, h.4.3))))

-- the word of a router's outward primary link lives, if it may do an act on it
pub router_slotted : (t : TableName) (id i serial : ℕ) (side : Side) (act : RouterAct) (v : View) → v.parts ≡ part_in v ∷ [] → CanWord (part_in v).state serial side act i → IsSlotted t id v i
router_slotted t id i serial side act v whole can = inl (router_lives ends t.count t.size t.slots t.reuses id i v (part_in v) serial can.router act whole can.can can.primary)

-- so does that of the old link of an AcceptBypass in hand
pub source_slotted : (t : TableName) (id from old : ℕ) (v : View) (x : Message) → v.parts ≡ part_in v ∷ [] → (part_in v).state.hand ≡ Some from → (part_in v).message ≡ Some x → old_word x ≡ Some old →
    IsSlotted t id v old
source_slotted t id from old v x whole hand message named = inl (old_lives ends t.count t.size t.slots t.reuses id from old v (part_in v) x whole hand message named)

-- and that of an open under way
pub opening_slotted : (t : TableName) (id i : ℕ) (v : View) → v.parts ≡ part_in v ∷ [] → (part_in v).state.opening ≡ Some i → IsSlotted t id v i
opening_slotted t id i v whole opening = inl (opening_lives t.count t.size t.slots t.reuses id i v (part_in v) whole opening)

-- where slots aren't used again each number has its slot
pub whole_slotted : (t : TableName) (id i : ℕ) (v : View) → t.reuses ≡ false → i < t.size → IsSlotted t id v i
whole_slotted t id i v order below = inr (order, below)

-- a slot that both sides have let go may be taken
pub take_may : (n w k : ℕ) (r : Bool) (slots word : ℕ) (t : TableName) (id : ℕ) (m : Me Batch (Own View)) (p : ℕ) →
    n ≡ t.count → w ≡ t.size → k ≡ t.slots → r ≡ t.reuses → slots ≡ t.id.slots → word ≡ let_go_word (sizes_of t) p → t.reuses ≡ true → p < t.slots →
    Allows (LastingRules n w k r) slots id m word (λ j. either (eqb j 3) 0 j) (Taken t word m)
take_may n w k r slots word t id m p en ew ek er es at again low =
    at_own n w k r slots t id m word (λ j. either (eqb j 3) 0 j) (Taken t word m) en ew ek er es
    (subst (λ (z : ℕ). Allows (LastingRules t.count t.size t.slots t.reuses) t.id.slots id m z (λ j. either (eqb j 3) 0 j) (Taken t z m)) (sym at)
    (subst (λ (b : Bool). Allows (LastingRules t.count t.size t.slots b) t.id.slots id m (let_go_word (sizes_of t) p) (λ j. either (eqb j 3) 0 j) (Taken t (let_go_word (sizes_of t) p) m)) (sym again)
    (λ s l deep there small.
    let h = (reusing t.slots m.0.dirty m.0.free m.0.looked (omega (arith, low)) t.count t.size t.id.slots id p (mine_of m)).0 low s l deep there small in
    (h.0, h.1, h.2, h.3.0, (p, refl, h.4)))))

-- the word of a slot that was taken may be emptied
pub empty_may : (n w k : ℕ) (r : Bool) (slots : ℕ) (t : TableName) (id : ℕ) (m : Me Batch (Own View)) (p : ℕ) →
    n ≡ t.count → w ≡ t.size → k ≡ t.slots → r ≡ t.reuses → slots ≡ t.id.slots → t.reuses ≡ true → p < t.slots → has_number m.0.dirty p ≡ true →
    Allows (LastingRules n w k r) slots id m p (λ j. 0) (λ j m'. Emptied p m m')
empty_may n w k r slots t id m p en ew ek er es again low has =
    at_own n w k r slots t id m p (λ j. 0) (λ j m'. Emptied p m m') en ew ek er es
    (subst (λ (b : Bool). Allows (LastingRules t.count t.size t.slots b) t.id.slots id m p (λ j. 0) (λ j m'. Emptied p m m')) (sym again)
    (λ s l deep there small.
    let h = (reusing t.slots m.0.dirty m.0.free m.0.looked (omega (arith, low)) t.count t.size t.id.slots id p (mine_of m)).1 has s l deep there small in
    (h.0, h.1, h.2, h.3.0, h.4)))

-- a slot that is the seat's may be given back
pub return_may : (n w k : ℕ) (r : Bool) (slots word : ℕ) (t : TableName) (id : ℕ) (m : Me Batch (Own View)) (p : ℕ) →
    n ≡ t.count → w ≡ t.size → k ≡ t.slots → r ≡ t.reuses → slots ≡ t.id.slots → word ≡ let_go_word (sizes_of t) p → t.reuses ≡ true → p < t.slots →
    (has_number m.0.dirty p ≡ true) ⊎ (has_number m.0.free p ≡ true) → Allows (LastingRules n w k r) slots id m word (λ j. 3) (λ j m'. Returned t word m m')
return_may n w k r slots word t id m p en ew ek er es at again low had =
    at_own n w k r slots t id m word (λ j. 3) (λ j m'. Returned t word m m') en ew ek er es
    (subst (λ (z : ℕ). Allows (LastingRules t.count t.size t.slots t.reuses) t.id.slots id m z (λ j. 3) (λ j m'. Returned t z m m')) (sym at)
    (subst (λ (b : Bool). Allows (LastingRules t.count t.size t.slots b) t.id.slots id m (let_go_word (sizes_of t) p) (λ j. 3) (λ j m'. Returned t (let_go_word (sizes_of t) p) m m')) (sym again)
    (λ s l deep there small.
    let h = (reusing t.slots m.0.dirty m.0.free m.0.looked (omega (arith, low)) t.count t.size t.id.slots id p (mine_of m)).2 had s l deep there small in
    (h.0, h.1, h.2, h.3.0, (p, refl, h.4)))))

-- a step on the word z tells that the seat's nodes are sound
pub seat_may : (n w k : ℕ) (r : Bool) (slots word z : ℕ) (t : TableName) (id : ℕ) (m : Me Batch (Own View)) (f : ℕ → ℕ) (told Kept : ℕ → Me Batch (Own View) → Type 0) →
    n ≡ t.count → w ≡ t.size → k ≡ t.slots → r ≡ t.reuses → slots ≡ t.id.slots → word ≡ z →
    Allows (LastingRules t.count t.size t.slots t.reuses) t.id.slots id m z f (λ j m'. told j m' × Kept j m') →
    Allows (LastingRules n w k r) slots id m word f (λ j m'. told j m' × AreSound t.count t.size m'.0.view × Kept j m')
seat_may n w k r slots word z t id m f told Kept en ew ek er es at may =
    at_own n w k r slots t id m word f (λ j m'. told j m' × AreSound t.count t.size m'.0.view × Kept j m') en ew ek er es
    (subst (λ (y : ℕ). Allows (LastingRules t.count t.size t.slots t.reuses) t.id.slots id m y f (λ j m'. told j m' × AreSound t.count t.size m'.0.view × Kept j m')) (sym at)
    (λ s l deep there small.
    let h = may s l deep there small in
    let s' : State Batch (Own View) = stepped s z (f (slice_index s.words z)) id m.1 h.0 h.1 in
    let here : get_elem? s'.views id ≡ some h.0 = set_here s.views id h.0 (at_inside s.views id m.0 there) in
    (h.0, h.1, h.2, h.3, (h.4.0, sound_at t.count t.size h.3.0 h.3.1 id h.0.view (view_at (virtual t.count t.size t.reuses) (sizes_of t) s' h.3.0 h.3.1 h.3.2 id h.0 here), h.4.1))))

-- a step on the word z that leaves the seat these slots
pub slots_are : (n w k : ℕ) (r : Bool) (slots word z : ℕ) (t : TableName) (id : ℕ) (m : Me Batch (Own View)) (f : ℕ → ℕ) (told : ℕ → BatchMine → Type 0) (dirty free looked : List ℕ) →
    n ≡ t.count → w ≡ t.size → k ≡ t.slots → r ≡ t.reuses → slots ≡ t.id.slots → word ≡ z →
    Allows (LastingRules t.count t.size t.slots t.reuses) t.id.slots id m z f (λ j m'. told j (mine_of m') × (m'.0.dirty ≡ dirty) × (m'.0.free ≡ free) × (m'.0.looked ≡ looked)) →
    Allows (LastingRules n w k r) slots id m word f (λ j m'. told j (mine_of m') × AreSound t.count t.size m'.0.view × (m'.0.dirty ≡ dirty) × (m'.0.free ≡ free) × (m'.0.looked ≡ looked))
slots_are n w k r slots word z t id m f told dirty free looked en ew ek er es at may s l deep there small =
    let h = seat_may n w k r slots word z t id m f (λ j m'. told j (mine_of m')) (λ j m'. (◌≡◌ {A = List ℕ} m'.0.dirty dirty) × (◌≡◌ {A = List ℕ} m'.0.free free) × (◌≡◌ {A = List ℕ} m'.0.looked looked)) en ew ek er es at
    (λ s l deep there small. let q = may s l deep there small in (q.0, q.1, q.2, q.3, (q.4.0, (q.4.1, q.4.2, q.4.3)))) s l deep there small in
    (h.0, h.1, h.2, h.3, (h.4.0, h.4.1, h.4.2.0, h.4.2.1, h.4.2.2))

-- a seat that has no slot has none where its slots stay
pub none_then : {d f l d' f' l' : List ℕ} → (d' ≡ d) × (f' ≡ f) × (l' ≡ l) → (d ≡ []) × (f ≡ []) → (d' ≡ []) × (f' ≡ [])
none_then stay none = (stay.0 ∙ none.0, stay.1 ∙ none.1)

-- nor behind a claim that found its count
pub none_claimed : (k count : ℕ) (A B : Type 0) → k ≡ count → MatchBool (eqb k count) A B → A
none_claimed k count A B e h = let t : eqb k count ≡ true = grind (arith, nat_tests, e) in subst (λ (b : Bool). MatchBool b A B) t h

-- what is so if there is none
pub if_none : {A : Type 0} (o : Option A) (P : Type 0) → o ≡ None → IfNone o P → P
if_none o P e h = subst (λ q. IfNone q P) e h

-- A claim of the number that it is for: of one whose slot is free at the seat, or, where slots aren't used again, of the next.
use Rattle.std.specs.Prelude.{◌≡◌, ◌≤◌, ◌<◌, ◌+◌, ◌-◌, ◌%◌, ℕ, Bool, true, false, cond, ◌||◌, nat_eq, List, [], ◌∷◌, Option, None, MatchBool, eqb, slice_index, refl}
use Rattle.std.proofs.Common.{arith, ap, sym, subst, ◌∙◌, eqb-true}
use prog.Atomic.{either}
use Rattle.std.proofs.lemmas.Bool.Decides.{nat_tests}
use Rattle.atomic_table.specs.Table.{Me, Allows, carried_after}
use Rattle.ipcz_slots.specs.declared.own.Own.{Own}
use Rattle.ipcz_slots.specs.Slots.{has_number, without_number}
use Rattle.ipcz_router.specs.declared.act.Answer.TheVariants as answers
use Rattle.ipcz_router.specs.declared.act.RouterAct.TheVariants as router_acts
use Rattle.ipcz_node.specs.declared.act.Act.TheVariants as acts
use Rattle.ipcz_rule.specs.declared.view.View.{View}
use Rattle.ipcz_rule.specs.Rule.{with_part, saw}
use Rattle.ipcz_rule.specs.Batches.{Batch, BatchMine}
use Rattle.ipcz_rule.specs.Steps.{act_part, claimed_part}
use Rattle.ipcz_rule.specs.Lasting.{LastingRules}
use Rattle.ipcz_rule.proofs.LastsAll.{turns_last}
use Rattle.ipcz_rule.proofs.LastsOpenClaims.{claims_for_open_last, claims_for_open_in_order}
use Rattle.ipcz_cell.specs.TableNames.{TableName, IsLaidOut}
use Rattle.ipcz_cell.specs.CellStates.{part_in}
use Rattle.atomic_table.specs.Seated.{TableId}
use Rattle.ipcz_base.specs.declared.message.Message.{Message}
use Rattle.ipcz_node.specs.Node.{Node}
use Rattle.ipcz_cell.specs.Cells.{IsCell}
use Rattle.ipcz_cell.specs.Claims.{CanClaim, IsNumberAt, claimed}
use Rattle.ipcz_cell.specs.Opens.{open_claimed}
use Rattle.ipcz_cell.specs.Seats.{mine_of, HasNoSlots, HasSlotFor, SlotsStay, MayClaim}
use Rattle.ipcz_cell.specs.Outcomes.{Tells, IsPicked}

firsts : (b : Bool) (A B X Y : Type 0) → MatchBool b (A × X) (B × Y) → MatchBool b A B
firsts true A B X Y h = h.0
firsts false A B X Y h = h.0

-- a list of one number without it, and where there is none
pub alone : (p : ℕ) (l : List ℕ) → l ≡ p ∷ [] → without_number l p ≡ []
alone p l e = ap (λ (k : List ℕ). without_number k p) e ∙ (let t : nat_eq p p ≡ true = grind (arith, nat_tests) in ap (λ (c : Bool). cond c (without_number [] p) (p ∷ without_number [] p)) t)

pub alone_has : (p : ℕ) (l : List ℕ) → l ≡ p ∷ [] → has_number l p ≡ true
alone_has p l e = ap (λ (k : List ℕ). has_number k p) e ∙ (let t : nat_eq p p ≡ true = grind (arith, nat_tests) in ap (λ (c : Bool). c || has_number [] p) t)

-- the slot that a seat has for a number, if slots are used again
slot_for : (t : TableName) (n : ℕ) (o : Own View) → HasSlotFor t n o → t.reuses ≡ true → o.free ≡ n % t.slots ∷ []
slot_for t n o has again = has.1 ∙ ap (λ (b : Bool). cond b (n % t.slots ∷ []) []) again

none_for : (t : TableName) (n : ℕ) (o : Own View) → HasSlotFor t n o → t.reuses ≡ false → o.free ≡ []
none_for t n o has order = has.1 ∙ ap (λ (b : Bool). cond b (n % t.slots ∷ []) []) order

-- the slots behind a claim: none if the count was found, and else those that there were
left_by : (b : Bool) (m m' : Me Batch (Own View)) (p : ℕ) (A B : Type 0) → m.0.dirty ≡ [] → m.0.free ≡ p ∷ [] → m'.0.dirty ≡ m.0.dirty → m'.0.looked ≡ m.0.looked →
    MatchBool b (A × (m'.0.free ≡ without_number m.0.free p)) (B × (m'.0.free ≡ m.0.free)) → MatchBool b (HasNoSlots m'.0) (SlotsStay m m')
left_by true m m' p A B dirty free same looked h = (same ∙ dirty, h.1 ∙ alone p m.0.free free)
left_by false m m' p A B dirty free same looked h = (same, h.1, looked)

stays_by : (b : Bool) (m m' : Me Batch (Own View)) → m.0.dirty ≡ [] → m.0.free ≡ [] → m'.0.dirty ≡ m.0.dirty → m'.0.free ≡ m.0.free → m'.0.looked ≡ m.0.looked → MatchBool b (HasNoSlots m'.0) (SlotsStay m m')
stays_by true m m' dirty free same left looked = (same ∙ dirty, left ∙ free)
stays_by false m m' dirty free same left looked = (same, left, looked)

-- if the count was found, what is noted of it is the count
noted : (b : Bool) (k c : ℕ) (left : ℕ → BatchMine) (other m' : BatchMine) → eqb k c ≡ b → MatchBool b (m' ≡ left k) (m' ≡ other) → MatchBool b (m' ≡ left c) (m' ≡ other)
noted true k c left other m' e h = h ∙ ap left (eqb-true k c e)
noted false k c left other m' e h = h

some_slots : (t : TableName) → IsLaidOut t → (n : ℕ) → n < t.size → 1 ≤ t.slots
some_slots t laid n below = laid.some_slot (omega (arith, below))

-- what is left of a seat if the count was found, by the number claimed, and if another was
abbrev Exchanged : BatchMine → (ℕ → BatchMine) → ℕ → ℕ → ℕ → ℕ → BatchMine → Type 0
Exchanged m left size c n k m' = MatchBool (eqb k c) (m' ≡ left n) (m' ≡ (saw size k m.0, m.1))

abbrev Claims : TableName → Bool → ℕ → Me Batch (Own View) → (ℕ → BatchMine) → ℕ → ℕ → Type 0
Claims t b id m left c n =
    Allows (LastingRules t.count t.size t.slots b) t.id.slots id m (t.slots + 0) (λ k. either (eqb k c) (n + 1) k) (λ k m'. Exchanged (mine_of m) left t.size c n k (mine_of m') × MatchBool (eqb k c) (HasNoSlots m'.0) (SlotsStay m m'))

-- either way of claiming
by_use : (t : TableName) (id c n : ℕ) (m : Me Batch (Own View)) (left : ℕ → BatchMine) → IsNumberAt t c n → (t.reuses ≡ true → (skip : ℕ) → c + skip ≡ n → Claims t true id m left c (c + skip)) →
    (t.reuses ≡ false → Claims t false id m left c c) → Claims t t.reuses id m left c n
by_use t id c n m left number again order = go t.reuses refl
  where
    go : (b : Bool) → t.reuses ≡ b → Claims t t.reuses id m left c n
    go true e = subst (λ (b : Bool). Claims t b id m left c n) (sym e)
        (let skip : ℕ = n - c in let at : c + skip ≡ n = (let h = number.least in omega (arith, h)) in subst (λ (k : ℕ). Claims t true id m left c k) at (again e skip at))
    go false e = subst (λ (b : Bool). Claims t b id m left c n) (sym e) (subst (λ (k : ℕ). Claims t false id m left c k) (sym (number.order e)) (order e))

-- of a proxy
pub claim_may : (t : TableName) (id c n serial : ℕ) (m : Me Batch (Own View)) (told : Tells) → IsPicked told (claimed t.size serial c n) → IsLaidOut t → t.size < 18446744073709551616 →
    m.0.view.parts ≡ part_in m.0.view ∷ [] → CanClaim (part_in m.0.view).state serial → IsNumberAt t c n → HasSlotFor t n m.0 → MayClaim t id m c n told
claim_may t id c n serial m told picked laid tiny whole can number slot =
    let left : ℕ → BatchMine = λ j. (with_part (act_part (acts.Router serial router_acts.Claim) (answers.Claimed j) (part_in m.0.view)) (saw t.size j m.0.view), m.1) in
    let may : Claims t t.reuses id m left c n = by_use t id c n m left number
    (λ again skip at s l deep there small.
    let h = turns_last.4 t.slots m.0.dirty m.0.free m.0.looked (some_slots t laid n number.below) t.count t.size t.id.slots id c skip (mine_of m) (part_in m.0.view) serial can.0 whole can.1
    (let b = number.below in omega (arith, at, b)) tiny (subst (λ (k : ℕ). has_number m.0.free (k % t.slots) ≡ true) (sym at) (alone_has (n % t.slots) m.0.free (slot_for t n m.0 slot again))) s l deep there small in (
      h.0,
      h.1,
      h.2,
      h.3.0,
      (
        firsts (eqb (slice_index s.words (t.slots + 0)) c) _ _ _ _ h.4.2,
        left_by (eqb (slice_index s.words (t.slots + 0)) c) m (h.0, carried_after m.1 h.1) ((c + skip) % t.slots) _ _ slot.0 (slot_for t n m.0 slot again ∙ ap (λ (k : ℕ). k % t.slots ∷ []) (sym at)) h.4.0 h.4.1 h.4.2,
      ),
    ))
    (λ order s l deep there small.
    let below : c < t.size = (let b = number.below in let o = number.order order in omega (arith, b, o)) in
    let h = turns_last.5 t.slots m.0.dirty m.0.free m.0.looked t.count t.size t.id.slots id c (mine_of m) (part_in m.0.view) serial can.0 whole can.1 below
    (record { some_slot = laid.some_slot; whole = λ e. laid.whole order; count = omega arith }) s l deep there small in (
      h.0,
      h.1,
      h.2,
      h.3.0,
      (
        noted (eqb (slice_index s.words (t.slots + 0)) c) (slice_index s.words (t.slots + 0)) c
            (λ j. (with_part (act_part (acts.Router serial router_acts.Claim) (answers.Claimed c) (part_in m.0.view)) (saw t.size j m.0.view), m.1)) _ _ refl h.4.0,
        stays_by (eqb (slice_index s.words (t.slots + 0)) c) m (h.0, carried_after m.1 h.1) slot.0 (none_for t n m.0 slot order) h.4.1 h.4.2 h.4.3,
      ),
    )) in
    λ s l deep there small. let h = may s l deep there small in (h.0, h.1, h.2, h.3, (picked.said (mine_of m) _ _ h.4.0, h.4.1))

-- for an open
pub open_claim_may : (t : TableName) (id c n : ℕ) (m : Me Batch (Own View)) → IsLaidOut t → t.size < 18446744073709551616 →
    m.0.view.parts ≡ part_in m.0.view ∷ [] → (part_in m.0.view).state.opening ≡ None → IsNumberAt t c n → HasSlotFor t n m.0 → MayClaim t id m c n (open_claimed t.size c n)
open_claim_may t id c n m laid tiny whole idle number slot =
    let left : ℕ → BatchMine = λ j. (with_part (claimed_part j (part_in m.0.view)) (saw t.size j m.0.view), m.1) in
    by_use t id c n m left number
    (λ again skip at s l deep there small.
    let h = claims_for_open_last t.slots m.0.dirty m.0.free m.0.looked (some_slots t laid n number.below) t.count t.size t.id.slots id c skip (mine_of m) (part_in m.0.view) whole idle
    (let b = number.below in omega (arith, at, b)) tiny (subst (λ (k : ℕ). has_number m.0.free (k % t.slots) ≡ true) (sym at) (alone_has (n % t.slots) m.0.free (slot_for t n m.0 slot again))) s l deep there small in (
      h.0,
      h.1,
      h.2,
      h.3.0,
      (
        firsts (eqb (slice_index s.words (t.slots + 0)) c) _ _ _ _ h.4.2,
        left_by (eqb (slice_index s.words (t.slots + 0)) c) m (h.0, carried_after m.1 h.1) ((c + skip) % t.slots) _ _ slot.0 (slot_for t n m.0 slot again ∙ ap (λ (k : ℕ). k % t.slots ∷ []) (sym at)) h.4.0 h.4.1 h.4.2,
      ),
    ))
    (λ order s l deep there small.
    let below : c < t.size = (let b = number.below in let o = number.order order in omega (arith, b, o)) in
    let h = claims_for_open_in_order t.slots m.0.dirty m.0.free m.0.looked t.count t.size t.id.slots id c (mine_of m) (part_in m.0.view) whole idle below
    (record { some_slot = laid.some_slot; whole = λ e. laid.whole order; count = omega arith }) s l deep there small in (
      h.0,
      h.1,
      h.2,
      h.3.0,
      (
        noted (eqb (slice_index s.words (t.slots + 0)) c) (slice_index s.words (t.slots + 0)) c
            (λ j. (with_part (claimed_part c (part_in m.0.view)) (saw t.size j m.0.view), m.1)) _ _ refl h.4.0,
        stays_by (eqb (slice_index s.words (t.slots + 0)) c) m (h.0, carried_after m.1 h.1) slot.0 (none_for t n m.0 slot order) h.4.1 h.4.2 h.4.3,
      ),
    ))

-- slots are used again if there may be no number
pub reuses_if : (b : Bool) → (b ≡ false → false ≡ true) → b ≡ true
reuses_if true h = refl
reuses_if false h = absurd (let bad = h refl in cc)

-- a cell whose seat has changed nothing but its slots
pub kept_cell : (t : TableName) (n : Node) (hand : Option Message) (tos senders : List ℕ) (id : TableId) (me : BatchMine) → IsCell t n hand tos senders id me → (id' : TableId) (me' : BatchMine) → id' ≡ id → me' ≡ me → IsCell t n hand tos senders id' me'
kept_cell t n hand tos senders id me was id' me' same kept = subst (λ (z : TableId). IsCell t n hand tos senders z me') (sym same) (subst (λ (m : BatchMine). IsCell t n hand tos senders id m) (sym kept) was)

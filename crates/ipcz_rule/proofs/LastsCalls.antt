-- Puts, gets and closes on a table whose link words come back.
use Rattle.std.specs.Prelude.{◌≡◌, ◌<◌, ◌+◌, ◌*◌, ◌%◌, eqb, ℕ, Bool, not, List, [], ◌∷◌, Some, refl}
use Rattle.std.proofs.Common.{arith, ap, ◌∙◌, subst, inl, ⊎_elim}
use prog.Atomic.{either}
use Rattle.ipcz_base.specs.declared.side.Side.TheVariants.{A}
use Rattle.ipcz_word.specs.Word.{open_word}
use Rattle.ipcz_word.specs.Layout.{bits_of}
use Rattle.ipcz_node.specs.Node.{Node}
use Rattle.ipcz_world.specs.HeldEnds.{ByOpen}
use Rattle.ipcz_node.specs.declared.act.Act.{Act}
use Rattle.ipcz_rule.specs.declared.view.View.{View}
use Rattle.ipcz_rule.specs.declared.view.Part.{Part}
use Rattle.ipcz_rule.specs.Rule.{with_part, saw}
use Rattle.ipcz_rule.specs.Batches.{Batch, BatchMine, BatchDeeds, BatchKept}
use Rattle.ipcz_rule.specs.Steps.{act_part, put_part, get_part, close_part, open_part, wet_part}
use Rattle.ipcz_slots.specs.Slots.{AreSizes}
use Rattle.ipcz_slots.specs.SlotKinds.{Steps, LastingSteps, same_own, Keeps, LosesNone, Lives, HasSlot}
use Rattle.ipcz_rule.specs.Lasting.{virtual, sizes, side_of, own_of}
use Rattle.ipcz_router.specs.declared.act.RouterAct.TheVariants as router_acts
use Rattle.ipcz_router.specs.declared.act.Answer.TheVariants as answers
use Rattle.ipcz_node.specs.declared.act.Act.TheVariants as acts
use Rattle.ipcz_node.specs.Calls.{put_number}
use Rattle.ipcz_world.specs.Steps.{put_of, opened_reply}
use Rattle.ipcz_world.specs.declared.step.Step.TheVariants.{Open, Get, Close}
use Rattle.ipcz_world.specs.declared.step.Reply.TheVariants as replies
use Rattle.ipcz_rule.specs.Deeds.{Deed, Does, Beside, Dries, Wets}
use Rattle.ipcz_rule.specs.Kinds.{FormOf}
use Rattle.ipcz_rule.specs.LastingCalls.{CallBehind, CallOnSlot, deeds_of, keeping, CallsLast, OpensLast}
use Rattle.ipcz_slots.proofs.Folding.{other_steps, link_steps}
use Rattle.ipcz_rule.proofs.BatchesAll.{plain_deeds}
use Rattle.ipcz_rule.proofs.Lasts.{count_is, laws_of, lives_by, node_here}
use Rattle.ipcz_rule.proofs.LastsAll.{ends}

pub ends_kept : (count limit k : ℕ) (reuses : Bool) → Keeps (virtual count limit reuses) (sizes count limit k reuses) (keeping reuses count limit)
ends_kept count limit k reuses t r t' r' g b i l gone held = ⊎_elim gone (λ far. let e = count_is count limit t r in omega (arith, e, far, l)) (g.0 i (side_of b) held)

-- and where slots are used again they keep each end that is held
pub ends_held : (count limit k : ℕ) (reuses : Bool) (id : ℕ) (v : View) → LosesNone (virtual count limit reuses) (sizes count limit k reuses) id v (keeping reuses count limit)
ends_held count limit k reuses id v again t r t' r' at g b i l gone held = gone (g.1 again i (side_of b) held)

-- deeds keep ends likewise
pub ends_done : (count limit k i : ℕ) (reuses : Bool) (deeds : ℕ → List Deed) → Keeps (virtual count limit reuses) (sizes count limit k reuses) (deeds_of count limit reuses i deeds)
ends_done count limit k i reuses deeds t r t' r' g b j l gone held = ⊎_elim gone (λ far. let e = count_is count limit t r in omega (arith, e, far, l)) (g.1.0 j (side_of b) held)

pub ends_stay : (count limit k i : ℕ) (reuses : Bool) (deeds : ℕ → List Deed) (id : ℕ) (v : View) → LosesNone (virtual count limit reuses) (sizes count limit k reuses) id v (deeds_of count limit reuses i deeds)
ends_stay count limit k i reuses deeds id v again t r t' r' at g b j l gone held = gone (g.1.1 refl j (side_of b) held)

-- a step behind the link words which leaves the claim count, and is deeds
pub behind_deeds : (k : ℕ) (reuses : Bool) (dirty free looked : List ℕ) (count limit slots id : ℕ) (m : BatchMine) (i : ℕ) (f : ℕ → ℕ) (deeds : ℕ → List Deed) (told : ℕ → BatchMine → Type 0) →
    (i ≡ limit → (n : ℕ) → f n ≡ n) → BatchDeeds (not reuses) count limit slots id m i f deeds told → CallBehind k reuses dirty free looked count limit slots id m i f deeds told
behind_deeds k reuses dirty free looked count limit slots id m i f deeds told leaves steps areas j e inside =
    let x = virtual count limit reuses in
    let z = sizes count limit k reuses in
    let P : ℕ → Type 0 = λ q. Steps x (deeds_of count limit reuses i deeds) slots id m q f told in
    other_steps x z (laws_of ends count limit k reuses) areas (deeds_of count limit reuses i deeds) slots id (own_of m.0 dirty free looked) m.1 j f told
    (ends_done count limit k i reuses deeds) (ends_stay count limit k i reuses deeds id m.0) inside (λ n h. leaves (omega (arith, e, h)) n) (subst P e steps)

-- one on the word of a number that has a slot
pub slot_deeds : (k : ℕ) (reuses : Bool) (dirty free looked : List ℕ) (count limit slots id : ℕ) (m : BatchMine) (i : ℕ) (f : ℕ → ℕ) (deeds : ℕ → List Deed) (told : ℕ → BatchMine → Type 0) →
    HasSlot (virtual count limit reuses) (sizes count limit k reuses) id m.0 i → BatchDeeds (not reuses) count limit slots id m i f deeds told → CallOnSlot k reuses dirty free looked count limit slots id m i f deeds told
slot_deeds k reuses dirty free looked count limit slots id m i f deeds told has steps areas =
    link_steps (virtual count limit reuses) (sizes count limit k reuses) (laws_of ends count limit k reuses) areas (deeds_of count limit reuses i deeds) slots id (own_of m.0 dirty free looked) m.1 i f told
    (ends_done count limit k i reuses deeds) (ends_stay count limit k i reuses deeds id m.0) has steps

-- a step of which only that is known that it keeps the rule and ends
abbrev pub KeptBehind : (k : ℕ) (reuses : Bool) (dirty free looked : List ℕ) → FormOf Batch
KeptBehind k reuses dirty free looked count limit slots id m i f turns told = AreSizes (sizes count limit k reuses) → (j : ℕ) → i ≡ limit + j →
    j < 1 + count + count * count →
    LastingSteps (virtual count limit reuses) (sizes count limit k reuses) (keeping reuses count limit) slots id (own_of m.0 dirty free looked, m.1) (k + j) f
    (same_own (own_of m.0 dirty free looked) told)

abbrev pub KeptOnSlot : (k : ℕ) (reuses : Bool) (dirty free looked : List ℕ) → FormOf Batch
KeptOnSlot k reuses dirty free looked count limit slots id m i f turns told = AreSizes (sizes count limit k reuses) →
    LastingSteps (virtual count limit reuses) (sizes count limit k reuses) (keeping reuses count limit) slots id (own_of m.0 dirty free looked, m.1) (i % k) f
    (same_own (own_of m.0 dirty free looked) told)

pub behind_kept : (k : ℕ) (reuses : Bool) (dirty free looked : List ℕ) (count limit slots id : ℕ) (m : BatchMine) (i : ℕ) (f : ℕ → ℕ) (turns : ℕ → List (ℕ × Act)) (told : ℕ → BatchMine → Type 0) →
    (i ≡ limit → (n : ℕ) → f n ≡ n) → BatchKept (not reuses) reuses count limit slots id m i f turns told → KeptBehind k reuses dirty free looked count limit slots id m i f turns told
behind_kept k reuses dirty free looked count limit slots id m i f turns told leaves steps areas j e inside =
    let x = virtual count limit reuses in
    let z = sizes count limit k reuses in
    other_steps x z (laws_of ends count limit k reuses) areas (keeping reuses count limit) slots id (own_of m.0 dirty free looked) m.1 j f told
    (ends_kept count limit k reuses) (ends_held count limit k reuses id m.0) inside (λ n h. leaves (omega (arith, e, h)) n) (subst (λ (q : ℕ). BatchKept (not reuses) reuses count limit slots id m q f turns told) e steps)

-- a step on the word of a number that has a slot
pub slot_kept : (k : ℕ) (reuses : Bool) (dirty free looked : List ℕ) (count limit slots id : ℕ) (m : BatchMine) (i : ℕ) (f : ℕ → ℕ) (turns : ℕ → List (ℕ × Act)) (told : ℕ → BatchMine → Type 0) →
    HasSlot (virtual count limit reuses) (sizes count limit k reuses) id m.0 i → BatchKept (not reuses) reuses count limit slots id m i f turns told → KeptOnSlot k reuses dirty free looked count limit slots id m i f turns told
slot_kept k reuses dirty free looked count limit slots id m i f turns told has steps areas =
    link_steps (virtual count limit reuses) (sizes count limit k reuses) (laws_of ends count limit k reuses) areas (keeping reuses count limit) slots id (own_of m.0 dirty free looked) m.1 i f told
    (ends_kept count limit k reuses) (ends_held count limit k reuses id m.0) has steps

pub calls_last : CallsLast
calls_last k reuses dirty free looked = (
  (λ profile count limit slots id i m p at bytes ends is fine. behind_deeds k reuses dirty free looked count limit slots id m i (λ n. n)
      (λ n. Does (put_of profile p.node at bytes ends) (replies.Put (put_number p.state at)) ∷ []) (λ n m'. m' ≡ (with_part (put_part at bytes ends p) m.0, m.1)) (λ e n. refl)
      ((plain_deeds (not reuses)).0 profile count limit slots id i m p at bytes ends is fine)),
  (λ count limit slots id i m p at number q is fine got. behind_deeds k reuses dirty free looked count limit slots id m i (λ n. n)
      (λ n. Does (Get p.node at) (replies.Got number q) ∷ []) (λ n m'. m' ≡ (with_part (get_part at number q p) m.0, m.1)) (λ e n. refl)
      ((plain_deeds (not reuses)).1 count limit slots id i m p at number q is fine got)),
  (λ count limit slots id i m p at is fine. behind_deeds k reuses dirty free looked count limit slots id m i (λ n. n)
      (λ n. Does (Close p.node at) (replies.Closed (put_number p.state at)) ∷ []) (λ n m'. m' ≡ (with_part (close_part at p) m.0, m.1)) (λ e n. refl)
      ((plain_deeds (not reuses)).2 count limit slots id i m p at is fine)),
  (λ count limit slots id i m p serial r is can. behind_deeds k reuses dirty free looked count limit slots id m i (λ n. n) (λ n. Beside (Dries p.node serial) ∷ [])
      (λ n m'. m' ≡ (with_part (act_part (acts.Router serial router_acts.Claim) answers.NoWord p) m.0, m.1)) (λ e n. refl) ((plain_deeds (not reuses)).3 count limit slots id i m p serial r is can)),
  (λ count limit slots id i m p serial is has. behind_deeds k reuses dirty free looked count limit slots id m i (λ n. n) (λ n. Beside (Wets p.node serial) ∷ [])
      (λ n m'. m' ≡ (with_part (wet_part serial p) m.0, m.1)) (λ e n. refl) ((plain_deeds (not reuses)).4 count limit slots id i m p serial is has)),
)

-- the word of an open under way lives
pub opening_lives : (count limit k : ℕ) (reuses : Bool) (id i : ℕ) (v : View) (p : Part) → v.parts ≡ p ∷ [] → p.state.opening ≡ Some i → Lives (virtual count limit reuses) (sizes count limit k reuses) id v i
opening_lives count limit k reuses id i v p is opening = lives_by ends count limit k reuses id i v (λ t r at.
    (A, ByOpen p.node (ap (λ (y : Node). y.opening) (node_here count limit id v p is t r at) ∙ opening)))

pub opens_last : OpensLast
opens_last k reuses dirty free looked count limit slots id i m p is opening fine =
    slot_deeds k reuses dirty free looked count limit slots id m i (λ n. either (eqb n 0) (bits_of open_word) n) (λ n. Does (Open p.node) (opened_reply i) ∷ [])
    (λ n m'. (n ≡ 0) × (m' ≡ (with_part (open_part i p) (saw i n m.0), m.1))) (inl (opening_lives count limit k reuses id i m.0 p is opening))
    ((plain_deeds (not reuses)).6 count limit slots id i m p is opening fine)

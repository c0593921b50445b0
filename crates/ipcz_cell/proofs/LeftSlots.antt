-- The slots that a cell holds behind a message in hand that was handled: that of its batch goes home if nothing is left of it, and else stays. And what is in
-- the slot that a seat took last.
use Rattle.std.specs.Prelude.{◌≡◌, ◌+◌, ◌-◌, ◌*◌, ◌++◌, ◌||◌, ℕ, suc, Bool, true, false, not, List, [], ◌∷◌, length, Option, Some, nat_eq, if◌then◌else◌, option_to_list}
use Rattle.std.proofs.Common.{ap, sym, subst, ◌∙◌, refl, arith}
use Rattle.std.proofs.lemmas.Bool.Decides.{nat_tests}
use Rattle.ipcz_base.specs.declared.message.Message.{Message}
use Rattle.ipcz_node.specs.Acts.{first_of, rest_of}
use Rattle.ipcz_node.specs.Node.{Node, outbox, with_outbox}
use Rattle.ipcz_rule.specs.declared.view.Part.{Part}
use Rattle.ipcz_rule.specs.Rule.{has_number, without_number}
use Rattle.ipcz_rule.specs.Batches.{Batch, BatchMine, batch_from}
use Rattle.ipcz_rule.specs.Steps.{hand_part}
use Rattle.ipcz_rule.proofs.Posting.{without_itself, without_other}
use Rattle.ipcz_cell.specs.CellStates.{part_in, change_part}
use Rattle.ipcz_cell.specs.Cells.{AreOnce, batch_slots, has_batch, held_slots, probed_slots}
use Rattle.ipcz_cell.specs.Mails.{posted_batch, posted_rest}
use Rattle.ipcz_cell.specs.Outcomes.{turned_by}
use Rattle.ipcz_cell.specs.Parts.{handed_part, part_handed}
use Rattle.ipcz_cell.specs.TableNames.{TableName}
use Rattle.ipcz_cell.proofs.Onces.{without_split}
use Rattle.ipcz_cell.proofs.Seating.{same_batches}
use Rattle.ipcz_cell.proofs.Turning.{append_length, batch_brought, batch_left, batch_restored, probed_length}
use mathlib.Core.Logic.{dite}
use native.Mathlib.Decide.{ℕ_discrete}
use Rattle.atomic_table.specs.Table.{rest}

or_given : (a b : Bool) → (a ≡ true → b ≡ true) → (a || b) ≡ b
or_given true b f = sym (f refl)
or_given false b f = refl

or_false : (a b : Bool) → a ≡ false → (a || b) ≡ b
or_false true b e = cc
or_false false b e = refl

self_is : (n : ℕ) → nat_eq n n ≡ true
self_is n = grind (arith, nat_tests)

-- a sender whose message is in hand has its slot held
pub is_held : (senders : List ℕ) (from : ℕ) (b : Bool) → has_number senders from ≡ (nat_eq from from || b) → has_number senders from ≡ true
is_held senders from b e = e ∙ ap (λ (c : Bool). c || b) (self_is from)

module _ (count : ℕ) (m0 : BatchMine) (node from : ℕ) (senders before after : List ℕ) (p : Part) (part : part_in m0.0 ≡ p) (is : p.node ≡ node) (slots : m0.1 ≡ held_slots count p senders)
    (split : senders ≡ before ++ from ∷ after) (held : (s : ℕ) → has_number senders s ≡ (nat_eq s from || has_batch p s)) where
  abbrev P : List (ℕ × Batch)
  P = probed_slots count p.node p.probed

  -- brought to the front
  pub first_slot : (m1 : BatchMine) (n k : ℕ) → n ≡ length p.probed + length before → k ≡ from * count + node → m1 ≡ (m0.0, turned_by n m0.1) →
      m1.1 ≡ (k, batch_from p from) ∷ (batch_slots count p after ++ (P ++ batch_slots count p before))
  first_slot m1 n k at word e =
      ap (λ (m : BatchMine). m.1) e ∙ (ap (turned_by n) slots ∙ (batch_brought count p P senders before after from n split (at ∙ ap (λ (z : ℕ). z + length before) (sym (probed_length count p.node p.probed)))
      ∙ ap (λ (z : ℕ). (z, batch_from p from) ∷ (batch_slots count p after ++ (P ++ batch_slots count p before))) (ap (λ (z : ℕ). from * count + z) is ∙ sym word)))

  -- the slots are those of the part behind it
  module _ (x : Message) (source : Option ℕ) (message : p.message ≡ Some x) where
    handed : (m : BatchMine) → m.0 ≡ change_part (handed_part from source) m0.0 → part_in m.0 ≡ hand_part from source x p
    handed m done = ap part_in done ∙ (ap (handed_part from source) part ∙ ap (λ o. part_handed from source o p) message)

    later : (m : BatchMine) (left : List ℕ) → m.0 ≡ change_part (handed_part from source) m0.0 → m.1 ≡ P ++ batch_slots count p left → m.1 ≡ held_slots count (part_in m.0) left
    later m left done at = at ∙ (ap (λ (l : List (ℕ × Batch)). P ++ l) (same_batches count p (hand_part from source x p) left refl refl) ∙ ap (λ (q : Part). held_slots count q left) (sym (handed m done)))

    -- nothing is left: the slot is the sender's again
    pub home_slots : (m1 m2 m3 : BatchMine) (n k : ℕ) (left : List ℕ) → AreOnce senders → left ≡ without_number senders from → k ≡ from * count + node → n ≡ length after →
        m1.0 ≡ m0.0 → m1.1 ≡ (k, batch_from p from) ∷ (batch_slots count p after ++ (P ++ batch_slots count p before)) → m2 ≡ (change_part (handed_part from source) m1.0, rest m1.1) → m3 ≡ (m2.0, turned_by n m2.1) →
        (m3.0 ≡ change_part (handed_part from source) m0.0) × (m3.1 ≡ held_slots count (part_in m3.0) left)
    home_slots m1 m2 m3 n k left once without word at same first e2 e3 =
        let done : m3.0 ≡ change_part (handed_part from source) m0.0 = ap (λ (m : BatchMine). m.0) e3 ∙ (ap (λ (m : BatchMine). m.0) e2 ∙ ap (change_part (handed_part from source)) same) in
        let joined : left ≡ before ++ after = without ∙ (ap (λ (l : List ℕ). without_number l from) split ∙ without_split before after from (subst AreOnce split once)) in (
          done,
          later m3 left done (ap (λ (m : BatchMine). m.1) e3 ∙ (ap (λ (m : BatchMine). turned_by n m.1) e2 ∙ (ap (λ (l : List (ℕ × Batch)). turned_by n (rest l)) first
              ∙ (batch_left count p P before after n at ∙ ap (λ (l : List ℕ). P ++ batch_slots count p l) (sym joined))))),
        )

    -- something is left: the slot stays the seat's
    pub kept_slots : (m1 m2 m3 : BatchMine) (n k : ℕ) → k ≡ from * count + node → n ≡ suc (length after) →
        m1.0 ≡ m0.0 → m1.1 ≡ (k, batch_from p from) ∷ (batch_slots count p after ++ (P ++ batch_slots count p before)) → m2 ≡ (change_part (handed_part from source) m1.0, m1.1) → m3 ≡ (m2.0, turned_by n m2.1) →
        (m3.0 ≡ change_part (handed_part from source) m0.0) × (m3.1 ≡ held_slots count (part_in m3.0) senders)
    kept_slots m1 m2 m3 n k word at same first e2 e3 =
        let done : m3.0 ≡ change_part (handed_part from source) m0.0 = ap (λ (m : BatchMine). m.0) e3 ∙ (ap (λ (m : BatchMine). m.0) e2 ∙ ap (change_part (handed_part from source)) same) in
        let here : k ≡ from * count + p.node = word ∙ ap (λ (z : ℕ). from * count + z) (sym is) in (
          done,
          later m3 senders done (ap (λ (m : BatchMine). m.1) e3 ∙ (ap (λ (m : BatchMine). turned_by n m.1) e2
              ∙ (ap (turned_by n) (first ∙ ap (λ (z : ℕ). (z, batch_from p from) ∷ (batch_slots count p after ++ (P ++ batch_slots count p before))) here)
              ∙ (batch_restored count p P before after from n at ∙ ap (λ (l : List ℕ). P ++ batch_slots count p l) (sym split))))),
        )

  -- then the senders whose slots are held are those of whose batches something is left
  pub home_held : (left : List ℕ) → left ≡ without_number senders from → has_batch p from ≡ false → (s : ℕ) → has_number left s ≡ has_batch p s
  home_held left without spent s = ap (λ (l : List ℕ). has_number l s) without ∙ dite (ℕ_discrete s from)
      (λ same. ap (has_number (without_number senders from)) same ∙ (without_itself senders from ∙ (sym spent ∙ ap (has_batch p) (sym same))))
      (λ other. without_other senders from s other ∙ (held s ∙ or_false (nat_eq s from) (has_batch p s) (grind (arith, nat_tests, other))))

  pub kept_held : has_batch p from ≡ true → (s : ℕ) → has_number senders s ≡ has_batch p s
  kept_held left s = held s ∙ or_given (nat_eq s from) (has_batch p s) (λ e. let same : s ≡ from = grind (arith, nat_tests, e) in ap (has_batch p) same ∙ left)

-- what the test of a slot says of the batch
pub spent_batch : (p : Part) (from : ℕ) (r : Bool) → r ≡ nat_eq (length (batch_from p from)) 0 → has_batch p from ≡ not r
spent_batch p from r e = ap not (sym e)

-- how many stand behind a number
pub stand_behind : (senders before after : List ℕ) (from many place : ℕ) → senders ≡ before ++ from ∷ after → many ≡ length senders → place ≡ length before →
    (many - 1 - place ≡ length after) × (many - place ≡ suc (length after))
stand_behind senders before after from many place split len at =
    let all = ap length split in let both = append_length before (from ∷ after) in (omega (arith, len, at, all, both), omega (arith, len, at, all, both))

-- the slot that a seat took last has one batch
first_batch : List (ℕ × Batch) → Batch
first_batch [] = []
first_batch (x ∷ xs) = x.1

pub same_slot : (k : ℕ) (a b : Batch) (c r : List (ℕ × Batch)) → c ≡ (k, a) ∷ r → c ≡ (k, b) ∷ r → a ≡ b
unfolding first_batch
same_slot k a b c r e f = sym (ap first_batch e) ∙ ap first_batch f

-- where slots aren't used again a post takes the first message alone
pub alone_node : (t : TableName) (to : ℕ) (n n' : Node) → t.reuses ≡ false → n' ≡ with_outbox n to (rest_of (outbox n to)) → n' ≡ with_outbox n to (posted_rest t to n)
alone_node t to n n' e done = done ∙ ap (λ (b : Bool). with_outbox n to (if b then [] else rest_of (outbox n to))) (sym e)

pub alone_batch : (t : TableName) (to : ℕ) (n : Node) (batch : Batch) → t.reuses ≡ false → batch ≡ option_to_list (first_of (outbox n to)) → batch ≡ posted_batch t to n
alone_batch t to n batch e is = is ∙ ap (λ (b : Bool). if b then outbox n to else option_to_list (first_of (outbox n to))) (sym e)

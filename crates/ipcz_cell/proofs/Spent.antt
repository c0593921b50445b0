-- The cell of a quiet node holds no slot if nothing is left of any batch.
use Rattle.std.specs.Prelude.{◌≡◌, ◌<◌, ◌||◌, ◌&&◌, ℕ, zero, suc, Bool, true, false, not, nat_eq, List, [], ◌∷◌, length, Option, Some, None, is_none}
use Rattle.std.proofs.Common.{ap, sym, ◌∙◌, refl, arith}
use Rattle.std.proofs.lemmas.Bool.Decides.{nat_tests}
use mathlib.Core.Logic.{dite}
use native.Mathlib.Decide.{ℕ_discrete}
use Rattle.atomic_table.specs.Seated.{TableId}
use Rattle.ipcz_base.specs.declared.message.Message.{Message}
use Rattle.ipcz_node.specs.Node.{Node, flagged_router}
use Rattle.ipcz_node.specs.Acts.{are_empty, is_quiet}
use Rattle.ipcz_rule.specs.declared.view.Part.{Part}
use Rattle.ipcz_rule.specs.Rule.{has_number}
use Rattle.ipcz_rule.specs.Batches.{BatchMine}
use Rattle.ipcz_cell.specs.TableNames.{TableName}
use Rattle.ipcz_cell.specs.CellStates.{part_in}
use Rattle.ipcz_cell.specs.Cells.{AreBelow, IsCell, has_batch}
use Rattle.ipcz_cell.specs.Opens.{are_spent}
use Rattle.ipcz_cell.proofs.Posting.{left_of}

all_spent : (p : Part) (n : ℕ) → ((s : ℕ) → has_batch p s ≡ false) → are_spent p n ≡ true
all_spent p zero none = refl
all_spent p (suc n) none = (λ j. not (none n j) && are_spent p n) ∙ all_spent p n none

one_left : (p : Part) (n s : ℕ) → s < n → has_batch p s ≡ true → are_spent p n ≡ false
one_left p zero s low left = absurd (omega (arith, low))
one_left p (suc n) s low left = dite (ℕ_discrete s n)
    (λ same. λ j. not ((ap (has_batch p) (sym same) ∙ left) j) && are_spent p n)
    (λ other. (λ j. not (has_batch p n) && one_left p n s (omega (arith, low, other)) left j) ∙ and_false (not (has_batch p n)))
  where
    and_false : (b : Bool) → (b && false) ≡ false
    and_false true = refl
    and_false false = refl

third : (a b c d : Bool) → (a && (b && (c && d))) ≡ true → c ≡ true
third true true true d h = refl
third true true false d h = cc
third true false c d h = cc
third false b c d h = cc

quiet_hand : (n : Node) → is_quiet n ≡ true → n.hand ≡ None
unfolding is_quiet
quiet_hand n h = none_is n.hand (third (are_empty n.outboxes) (nat_eq (length n.pending) 0) (is_none n.hand) (is_none (flagged_router n)) h)
  where
    none_is : (o : Option ℕ) → is_none o ≡ true → o ≡ None
    none_is None e = refl
    none_is (Some x) e = cc

pub quiet_spent : (t : TableName) (n : Node) (hand : Option Message) (tos senders : List ℕ) (id : TableId) (me : BatchMine) → IsCell t n hand tos senders id me → is_quiet n ≡ true →
    nat_eq (length senders) 0 ≡ are_spent (part_in me.0) t.count
quiet_spent t n hand tos senders id me was quiet = go senders was.within left
  where
    left : (s : ℕ) → has_number senders s ≡ has_batch (part_in me.0) s
    left s = sym (left_of t n hand tos senders id me was s (has_number senders s) (ap (λ (z : Node). z.hand) was.seated.state ∙ quiet_hand n quiet) refl)

    go : (l : List ℕ) → AreBelow t.count l → ((s : ℕ) → has_number l s ≡ has_batch (part_in me.0) s) → nat_eq (length l) 0 ≡ are_spent (part_in me.0) t.count
    go [] low has = sym (all_spent (part_in me.0) t.count (λ s. sym (has s)))
    go (x ∷ l) low has = let some : nat_eq (suc (length l)) 0 ≡ false = grind (arith, nat_tests) in some ∙ sym (one_left (part_in me.0) t.count x low.0 (sym (has x) ∙ (let self : nat_eq x x ≡ true = grind (arith, nat_tests) in ap (λ (b : Bool). b || has_number l x) self)))

-- so whether it holds one is whether the node rests
pub rests_is : (t : TableName) (n : Node) (hand : Option Message) (tos senders : List ℕ) (id : TableId) (me : BatchMine) → IsCell t n hand tos senders id me → is_quiet n ≡ true → (p : Part) → part_in me.0 ≡ p →
    nat_eq (length senders) 0 ≡ (is_quiet p.state && are_spent p t.count)
rests_is t n hand tos senders id me was quiet p part =
    quiet_spent t n hand tos senders id me was quiet ∙ λ j. sym (ap (λ (q : Part). is_quiet q.state) (sym part) ∙ (ap is_quiet was.seated.state ∙ quiet)) j && are_spent (part j) t.count

-- The slots that a cell holds, brought behind one another.
use Rattle.std.specs.Prelude.{◌≡◌, ◌+◌, ◌*◌, ◌++◌, ℕ, suc, false, List, [], ◌∷◌, length}
use Rattle.std.proofs.Common.{ap, sym, ◌∙◌, refl, arith}
use Rattle.std.proofs.Common.{append_assoc, append-nil}
use Rattle.ipcz_rule.specs.Batches.{Batch, batch_from, with_batch}
use Rattle.std.proofs.lemmas.Bool.Decides.{nat_tests}
use Rattle.ipcz_rule.specs.declared.view.Part.{Part}
use Rattle.ipcz_rule.specs.Rule.{has_number}
use Rattle.ipcz_rule.proofs.BatchMail.{place_else}
use Rattle.ipcz_cell.specs.Cells.{probed_slots, batch_slots}
use Rattle.ipcz_cell.specs.Outcomes.{turned_by}

abbrev Slots : Type 0
Slots = List (ℕ × Batch)

pub turns : (xs ys : Slots) → turned_by (length xs) (xs ++ ys) ≡ ys ++ xs
turns [] ys = sym (append-nil ys)
turns (x ∷ xs) ys = ap (turned_by (length xs)) (append_assoc xs ys (x ∷ [])) ∙ (turns xs (ys ++ x ∷ []) ∙ append_assoc ys (x ∷ []) xs)

-- so many of the first
pub turns_by : (n : ℕ) (xs ys : Slots) → n ≡ length xs → turned_by n (xs ++ ys) ≡ ys ++ xs
turns_by n xs ys e = ap (λ (k : ℕ). turned_by k (xs ++ ys)) e ∙ turns xs ys

pub probed_append : (count node : ℕ) (xs ys : List ℕ) → probed_slots count node (xs ++ ys) ≡ probed_slots count node xs ++ probed_slots count node ys
probed_append count node [] ys = refl
probed_append count node (x ∷ xs) ys = ap (λ (l : Slots). (node * count + x, []) ∷ l) (probed_append count node xs ys)

pub probed_length : (count node : ℕ) (xs : List ℕ) → length (probed_slots count node xs) ≡ length xs
probed_length count node [] = refl
probed_length count node (x ∷ xs) = ap suc (probed_length count node xs)

pub length_append : (xs ys : Slots) → length (xs ++ ys) ≡ length xs + length ys
length_append [] ys = omega arith
length_append (x ∷ xs) ys = let h = length_append xs ys in omega (arith, h)

pub batch_append : (count : ℕ) (p : Part) (xs ys : List ℕ) → batch_slots count p (xs ++ ys) ≡ batch_slots count p xs ++ batch_slots count p ys
batch_append count p [] ys = refl
batch_append count p (x ∷ xs) ys = ap (λ (l : Slots). (x * count + p.node, batch_from p x) ∷ l) (batch_append count p xs ys)

pub batch_length : (count : ℕ) (p : Part) (xs : List ℕ) → length (batch_slots count p xs) ≡ length xs
batch_length count p [] = refl
batch_length count p (x ∷ xs) = ap suc (batch_length count p xs)

-- first the slots behind one that was probed, then those before it
pub brought : (count node : ℕ) (tos before after : List ℕ) (to n : ℕ) (hand : Slots) → tos ≡ before ++ to ∷ after → n ≡ length before →
    turned_by n (probed_slots count node tos ++ hand) ≡ (node * count + to, []) ∷ ((probed_slots count node after ++ hand) ++ probed_slots count node before)
brought count node tos before after to n hand is at =
    let P = probed_slots count node in
    ap (λ (l : List ℕ). turned_by n (P l ++ hand)) is ∙
    (ap (λ (l : Slots). turned_by n (l ++ hand)) (probed_append count node before (to ∷ after)) ∙
    (ap (turned_by n) (append_assoc (P before) (P (to ∷ after)) hand) ∙
    turns_by n (P before) (P (to ∷ after) ++ hand) (at ∙ sym (probed_length count node before))))

-- and those before it again behind the others
pub restored : (count node : ℕ) (before after : List ℕ) (n : ℕ) (hand : Slots) → n ≡ length after + length hand →
    turned_by n ((probed_slots count node after ++ hand) ++ probed_slots count node before) ≡ probed_slots count node (before ++ after) ++ hand
restored count node before after n hand at =
    let P = probed_slots count node in
    turns_by n (P after ++ hand) (P before) (let a = length_append (P after) hand in let b = probed_length count node after in omega (arith, at, a, b)) ∙
    (sym (append_assoc (P before) (P after) hand) ∙ ap (λ (l : Slots). l ++ hand) (sym (probed_append count node before after)))

pub append_length : (xs ys : List ℕ) → length (xs ++ ys) ≡ length xs + length ys
append_length [] ys = omega arith
append_length (x ∷ xs) ys = let h = append_length xs ys in omega (arith, h)

-- the slots of a sender and of those behind it, and then those before it
pub batch_brought : (count : ℕ) (p : Part) (probed : Slots) (senders before after : List ℕ) (from n : ℕ) → senders ≡ before ++ from ∷ after → n ≡ length probed + length before →
    turned_by n (probed ++ batch_slots count p senders) ≡ (from * count + p.node, batch_from p from) ∷ (batch_slots count p after ++ (probed ++ batch_slots count p before))
batch_brought count p probed senders before after from n is at =
    let B = batch_slots count p in
    ap (λ (l : List ℕ). turned_by n (probed ++ B l)) is ∙
    (ap (λ (l : Slots). turned_by n (probed ++ l)) (batch_append count p before (from ∷ after)) ∙
    (ap (turned_by n) (sym (append_assoc probed (B before) (B (from ∷ after)))) ∙
    turns_by n (probed ++ B before) (B (from ∷ after)) (let a = length_append probed (B before) in let b = batch_length count p before in omega (arith, at, a, b))))

-- and the others again in front of them
pub batch_restored : (count : ℕ) (p : Part) (probed : Slots) (before after : List ℕ) (from n : ℕ) → n ≡ suc (length after) →
    turned_by n ((from * count + p.node, batch_from p from) ∷ (batch_slots count p after ++ (probed ++ batch_slots count p before))) ≡ probed ++ batch_slots count p (before ++ from ∷ after)
batch_restored count p probed before after from n at =
    let B = batch_slots count p in
    turns_by n (B (from ∷ after)) (probed ++ B before) (let b = batch_length count p after in omega (arith, at, b)) ∙
    (append_assoc probed (B before) (B (from ∷ after)) ∙ ap (λ (l : Slots). probed ++ l) (sym (batch_append count p before (from ∷ after))))

-- or without the first of them
pub batch_left : (count : ℕ) (p : Part) (probed : Slots) (before after : List ℕ) (n : ℕ) → n ≡ length after →
    turned_by n (batch_slots count p after ++ (probed ++ batch_slots count p before)) ≡ probed ++ batch_slots count p (before ++ after)
batch_left count p probed before after n at =
    let B = batch_slots count p in
    turns_by n (B after) (probed ++ B before) (at ∙ sym (batch_length count p after)) ∙
    (append_assoc probed (B before) (B after) ∙ ap (λ (l : Slots). probed ++ l) (sym (batch_append count p before after)))

-- the slots of other senders are as they were
pub batch_else : (count from : ℕ) (xs : Batch) (p : Part) (senders : List ℕ) → has_number senders from ≡ false → batch_slots count (with_batch from xs p) senders ≡ batch_slots count p senders
batch_else count from xs p [] none = refl
batch_else count from xs p (s ∷ senders) none = λ j. (s * count + p.node, place_else p.batches from xs s (λ e. absurd (grind (arith, nat_tests, none, e))) j) ∷ batch_else count from xs p senders (grind (arith, nat_tests, none)) j

-- The cells of a table that is made, one after the other.
use Rattle.std.specs.Prelude.{◌≡◌, ◌<◌, ◌+◌, ◌-◌, ◌||◌, ℕ, zero, suc, false, nat_eq, not, List, [], ◌∷◌, ◌++◌, map, length, replicate, Option, Some, None, is_some, option_to_list, refl}
use Rattle.std.proofs.Common.{arith, ap, ◌∙◌, sym, subst}
use Rattle.std.proofs.lemmas.List.{map-append, length-map, replicate_more}
use mathlib.Core.Option.{some, some-injective, some-ne-none}
use lib.ListN.{get_elem?}
use Rattle.atomic_table.specs.Seated.{TableId}
use Rattle.ipcz_node.specs.Node.{Node}
use Rattle.ipcz_node.specs.FirstPairs.{new_node}
use Rattle.ipcz_world.specs.World.{numbers_from}
use Rattle.ipcz_world.specs.Soundness.{IsSound}
use Rattle.ipcz_rule.specs.declared.view.View.{View}
use Rattle.ipcz_rule.specs.declared.view.Part.{Part}
use Rattle.ipcz_rule.specs.Rule.{has_number}
use Rattle.ipcz_rule.specs.Batches.{Batch, BatchMine}
use Rattle.ipcz_rule.specs.Start.{opening_part, opening_parts, dealt}
use Rattle.ipcz_rule.proofs.BatchedStart.{nothing_from}
use Rattle.ipcz_rule.proofs.Starting.{new_hand, starts_sound}
use Rattle.ipcz_rule.proofs.Dealing.{dealt_opening}
use Rattle.ipcz_cell.specs.TableNames.{TableName, IsLaidOut}
use Rattle.ipcz_cell.specs.CellStates.{CellState, first_part, part_in}
use Rattle.ipcz_cell.specs.Cells.{IsCell, AreBelow, has_batch, held_slots, is_hand_of}
use Rattle.ipcz_cell.specs.Making.{BodyValue, opening_body, AreBodies, AreFirst}

-- so many numbers and one more
numbers-more : (i n : ℕ) → numbers_from i (n + 1) ≡ numbers_from i n ++ (i + n) ∷ []
numbers-more i zero = let e : i ≡ i + zero = omega arith in ap (λ j. j ∷ []) e
numbers-more i (suc n) = let e : (i + 1) + n ≡ i + suc n = omega arith in let more : suc n + 1 ≡ suc (n + 1) = omega arith in
    ap (numbers_from i) more ∙ ap (λ l. i ∷ l) (numbers-more (i + 1) n ∙ ap (λ j. numbers_from (i + 1) n ++ j ∷ []) e)

-- their images
images-more : {X : Type 0} (f : ℕ → X) (n : ℕ) → map f (numbers_from 0 (n + 1)) ≡ map f (numbers_from 0 n) ++ f n ∷ []
images-more f n = let e : 0 + n ≡ n = omega arith in
    ap (map f) (numbers-more 0 n) ∙ (map-append f (numbers_from 0 n) ((0 + n) ∷ []) ∙ ap (λ j. map f (numbers_from 0 n) ++ f j ∷ []) e)

-- one body more
pub bodies-more : (count n : ℕ) (bodies new : List BodyValue) (b : BodyValue) → AreBodies count n bodies → b ≡ opening_body count n →
    new ≡ bodies ++ b ∷ [] → AreBodies count (n + 1) new
bodies-more count n bodies new b are is more =
    more ∙ (ap (λ l. l ++ b ∷ []) are ∙ (ap (λ x. map (opening_body count) (numbers_from 0 n) ++ x ∷ []) is ∙ sym (images-more (opening_body count) n)))

-- the bodies that are left
pub bodies-left : (count n : ℕ) → n < count →
    map (opening_body count) (numbers_from n (count - n)) ≡ opening_body count n ∷ map (opening_body count) (numbers_from (n + 1) (count - (n + 1)))
bodies-left count n below = let more : count - n ≡ suc (count - (n + 1)) = omega (arith, below) in
    ap (λ k. map (opening_body count) (numbers_from n k)) more

-- one cell more
pub cells-more : (count n : ℕ) (cells new : List CellState) (c : CellState) → AreFirst count n cells → c.part ≡ opening_part count n → c.seen ≡ [] →
    new ≡ cells ++ c ∷ [] → AreFirst count (n + 1) new
cells-more count n cells new c are part seen more = record {
  parts = ap (map (λ (x : CellState). x.part)) more ∙ (map-append (λ (x : CellState). x.part) cells (c ∷ []) ∙ (ap (λ l. l ++ c.part ∷ []) are.parts
      ∙ (ap (λ x. opening_parts count 0 n ++ x ∷ []) part ∙ sym (images-more (opening_part count) n))));
  seen = ap (map (λ (x : CellState). x.seen)) more ∙ (map-append (λ (x : CellState). x.seen) cells (c ∷ []) ∙ (ap (λ l. l ++ c.seen ∷ []) are.seen
      ∙ (ap (λ x. replicate n [] ++ x ∷ []) seen ∙ replicate_more n [])));
}

numbers-many : (i n : ℕ) → length (numbers_from i n) ≡ n
numbers-many i zero = refl
numbers-many i (suc n) = ap suc (numbers-many (i + 1) n)

-- as many bodies as nodes
pub bodies-many : (count n : ℕ) (bodies : List BodyValue) → AreBodies count n bodies → length bodies ≡ n
bodies-many count n bodies are = ap length are ∙ (length-map (numbers_from 0 n) (opening_body count) ∙ numbers-many 0 n)

abbrev head_or : {X : Type 0} → X → List X → X
head_or d [] = d
head_or d (x ∷ xs) = x

abbrev tail_of : {X : Type 0} → List X → List X
tail_of [] = []
tail_of (x ∷ xs) = xs

-- the next body is taken out
pub body-taken : (count n : ℕ) (old new : List BodyValue) (r : Option BodyValue) (b : BodyValue) → n < count →
    old ≡ map (opening_body count) (numbers_from n (count - n)) → old ≡ option_to_list r ++ new → r ≡ Some b →
    (b ≡ opening_body count n) × (new ≡ map (opening_body count) (numbers_from (n + 1) (count - (n + 1))))
body-taken count n old new r b below left taken is =
    let both : b ∷ new ≡ opening_body count n ∷ map (opening_body count) (numbers_from (n + 1) (count - (n + 1))) =
    sym (taken ∙ ap (λ (o : Option BodyValue). option_to_list o ++ new) is) ∙ (left ∙ bodies-left count n below) in
    (ap (head_or b) both, ap tail_of both)

-- a node's first cell keeps what a cell keeps
pub first-cell : (t : TableName) → IsLaidOut t → (n : ℕ) → n < t.count → (node : Node) (probed held : List ℕ) (id : TableId) (me : BatchMine) (v : View) → id ≡ t.id →
    me ≡ (dealt v, []) → v.parts ≡ opening_parts t.count n (t.count - n) → node ≡ new_node n t.count → probed ≡ [] → held ≡ [] → IsCell t node None probed held id me
first-cell t out n below node probed held id me v own at is fresh empty none = record {
  seated = record {
    named = own;
    whole = alone ∙ ap (λ (p : Part). p ∷ []) (sym part);
    state = ap (λ (p : Part). p.state) part ∙ sym fresh;
    sound = λ k p e. one k p (ap (λ (ps : List Part). get_elem? ps k) (sym alone) ∙ e);
  };
  message = ap (λ (p : Part). p.message) part;
  probed = ap (λ (p : Part). p.probed) part ∙ sym empty;
  slots = ap (λ (m : BatchMine). m.1) at ∙ sym (λ j. held_slots t.count (part j) (none j));
  holding = ap is_some (sym (new_hand n t.count)) ∙ ap (λ (x : Node). is_some x.hand) (sym fresh);
  below = subst (AreBelow t.count) (sym empty) tt;
  held = λ s. ap (λ (l : List ℕ). has_number l s) none ∙ sym ((λ j. is_hand_of (idle j) s || has_batch (part j) s) ∙ nothing_left s);
  within = subst (AreBelow t.count) (sym none) tt;
  alone = λ e s. ap (λ (q : Part). has_batch q s) part ∙ nothing_left s;
}
  where
    alone : me.0.parts ≡ opening_part t.count n ∷ []
    alone = ap (λ (m : BatchMine). m.0.parts) at ∙ dealt_opening t.count v n below is

    part : part_in me.0 ≡ opening_part t.count n
    part = ap first_part alone

    idle : node.hand ≡ None
    idle = ap (λ (x : Node). x.hand) fresh ∙ new_hand n t.count

    nothing_left : (s : ℕ) → has_batch (opening_part t.count n) s ≡ false
    nothing_left s = ap (λ (xs : Batch). not (nat_eq (length xs) 0)) (nothing_from s)

    one : (k : ℕ) (p : Part) → get_elem? (opening_part t.count n ∷ []) k ≡ some p → (p.node < t.count) × IsSound t.count t.size p.node p.state
    one zero p e = subst (λ (q : Part). (q.node < t.count) × IsSound t.count t.size q.node q.state) (some-injective (opening_part t.count n) p e)
        (below, starts_sound t.count t.size out.limits n below)
    one (suc k) p e = absurd (some-ne-none p (sym e))

-- A cell that gives its slots back.
use Rattle.std.specs.Prelude.{not, ◌≡◌, ◌≢◌, ◌<◌, ◌+◌, ◌*◌, ℕ, Bool, true, false, ◌||◌, nat_eq, List, [], ◌∷◌, ◌++◌, length, ◌≤◌, Option, Some, None, cond, refl}
use Rattle.std.proofs.Common.{arith, ap, ◌∙◌, sym, subst, inl, inr}
use Rattle.std.proofs.lemmas.Bool.Decides.{nat_tests}
use Rattle.std.proofs.lemmas.List.{nil_from_length}
use Rattle.atomic_table.specs.Seated.{TableId}
use Rattle.atomic_table.specs.Table.{rest}
use lib.ListN.{get_elem?}
use Rattle.ipcz_base.specs.declared.message.Message.{Message}
use Rattle.ipcz_node.specs.Node.{Node}
use Rattle.ipcz_world.specs.Soundness.{IsSound}
use Rattle.ipcz_rule.specs.declared.view.Part.{Part}
use Rattle.ipcz_rule.specs.Rule.{has_number, without_number}
use Rattle.ipcz_rule.specs.Batches.{Batch, BatchMine, batch_from}
use Rattle.ipcz_rule.specs.Steps.{unprobe_part}
use Rattle.ipcz_rule.proofs.BatchMailKinds.{unprobes, gives_back}
use Rattle.ipcz_cell.specs.TableNames.{TableName}
use Rattle.ipcz_cell.specs.CellStates.{first_part, part_in, change_part}
use Rattle.ipcz_cell.specs.Cells.{AreOnce, AreBelow, IsCell, batch_slots, has_batch, is_hand_of, probed_slots}
use Rattle.ipcz_cell.proofs.Seating.{same_batches}
use Rattle.ipcz_cell.specs.Mails.{mail_word}
use Rattle.ipcz_cell.specs.Outcomes.{Tells, IsPicked}
use Rattle.ipcz_rule.specs.End.{rested}
use Rattle.ipcz_cell.specs.Seats.{Keeps}
use Rattle.ipcz_cell.specs.Ending.{unprobed, given_back, HasSlotOf}

-- a number stands in a list that begins with it
pub has_first : (to : ℕ) (tos : List ℕ) → has_number (to ∷ tos) to ≡ true
has_first to tos = let same : nat_eq to to ≡ true = grind (arith, nat_tests) in ap (λ (b : Bool). b || has_number tos to) same

without_by : (j : ℕ) (tos : List ℕ) (i : ℕ) (a b : Bool) → nat_eq i j ≡ a → nat_eq j i ≡ b → (a || has_number tos i) ≡ false →
    (has_number tos i ≡ false → without_number tos i ≡ tos) → cond b (without_number tos i) (j ∷ without_number tos i) ≡ j ∷ tos
without_by j tos i true b f h e rec = absurd cc
without_by j tos i false true f h e rec = absurd (grind (arith, nat_tests, f, h))
without_by j tos i false false f h e rec = ap (λ l. j ∷ l) (rec e)

without_none : (tos : List ℕ) (i : ℕ) → has_number tos i ≡ false → without_number tos i ≡ tos
without_none [] i e = refl
without_none (j ∷ tos) i e = without_by j tos i (nat_eq i j) (nat_eq j i) refl refl e (λ h. without_none tos i h)

-- a list without its first number, which stands nowhere else
pub without_first : (to : ℕ) (tos : List ℕ) → AreOnce (to ∷ tos) → without_number (to ∷ tos) to ≡ tos
without_first to tos once = let same : nat_eq to to ≡ true = grind (arith, nat_tests) in
    ap (λ (b : Bool). cond b (without_number tos to) (to ∷ without_number tos to)) same ∙ without_none tos to once.0

-- what a step may, told by another name
picked-may : (all : Bool) (count size slots id i : ℕ) (m : BatchMine) (f : ℕ → ℕ) (t u : Tells) → IsPicked t u → Keeps all count size slots id m i f (u m) → Keeps all count size slots id m i f (t m)
picked-may all count size slots id i m f t u p may s r deep at small = let a = may s r deep at small in (a.0, a.1, a.2, a.3, p.said m _ _ a.4)

-- the first mailbox that was probed may be given back
pub unprobe-may : (t : TableName) (slots id : ℕ) (m : BatchMine) (node to i : ℕ) (x : Tells) → IsPicked x (unprobed to) → m.0.parts ≡ part_in m.0 ∷ [] →
    (part_in m.0).node ≡ node → to < t.count → has_number (part_in m.0).probed to ≡ true → m.1 ≡ (node * t.count + to, []) ∷ rest m.1 → i ≡ mail_word t node to →
    Keeps t.reuses t.count t.size slots id m i (λ n. 0) (λ n. x m 0)
unprobe-may t slots id m node to i x p whole is below has slot at s r deep here small =
    let a = unprobes (not t.reuses) t.reuses t.count t.size slots id i (node * t.count + to) to m (part_in m.0) (rest m.1) whole (ap (λ (n : ℕ). n * t.count + to) (sym is)) at below has slot s r deep here small in
    (a.0, a.1, a.2, a.3, p.said m 0 _ a.4)

-- the slot of a sender's batch may be given back
pub give_back-may : (t : TableName) (slots id : ℕ) (m : BatchMine) (node from i : ℕ) (b : Batch) (x : Tells) → IsPicked x (given_back (mail_word t from node)) → m.0.parts ≡ part_in m.0 ∷ [] →
    (part_in m.0).node ≡ node → from < t.count → HasSlotOf (part_in m.0) from → m.1 ≡ (from * t.count + node, b) ∷ rest m.1 → i ≡ mail_word t from node →
    Keeps t.reuses t.count t.size slots id m i (λ n. n) (x m)
give_back-may t slots id m node from i b x p whole is below has slot at =
    subst (λ (j : ℕ). Keeps t.reuses t.count t.size slots id m j (λ n. n) (x m)) (sym at)
    (picked-may t.reuses t.count t.size slots id (mail_word t from node) m (λ n. n) x (given_back (mail_word t from node)) p
    (gives_back (not t.reuses) t.reuses t.count t.size slots id (mail_word t from node) (from * t.count + node) from m (part_in m.0) b (rest m.1) whole (ap (λ (n : ℕ). from * t.count + n) (sym is)) refl below has slot))

-- what a seat is that has given so many of its mailboxes back, and holds these slots in addition to those of the others
pub record IsLeft (t : TableName) (node count : ℕ) (old : BatchMine) (held : List (ℕ × Batch)) (id : TableId) (me : BatchMine) (tos : List ℕ) (done : ℕ) : Type 0 where
  pub own : id ≡ t.id
  pub whole : me.0.parts ≡ part_in me.0 ∷ []
  pub number : (part_in me.0).node ≡ node
  pub same : rested (part_in me.0) ≡ rested (part_in old.0)
  pub probed : (part_in me.0).probed ≡ tos
  pub below : AreBelow t.count tos
  pub slots : me.1 ≡ probed_slots t.count node tos ++ held
  pub many : length tos + done ≡ count

-- one mailbox more
pub left_more : (t : TableName) (node count : ℕ) (old : BatchMine) (held : List (ℕ × Batch)) (id id' : TableId) (me me' : BatchMine) (tos left : List ℕ) (done to : ℕ) → IsLeft t node count old held id me tos done →
    tos ≡ to ∷ left → AreOnce tos → id' ≡ t.id → me' ≡ (change_part (unprobe_part to) me.0, rest me.1) → IsLeft t node count old held id' me' left (done + 1)
left_more t node count old held id id' me me' tos left done to was is once own at =
    let once' = subst AreOnce is once in
    let below = subst (AreBelow t.count) is was.below in
    let part : part_in me'.0 ≡ unprobe_part to (part_in me.0) = ap (λ (m : BatchMine). part_in m.0) at in
    let many = was.many in
    let len = ap length is in record {
      own = own;
      whole = ap (λ (m : BatchMine). m.0.parts) at ∙ ap (λ (p : Part). p ∷ []) (sym part);
      number = ap (λ (p : Part). p.node) part ∙ was.number;
      same = ap rested part ∙ was.same;
      probed = ap (λ (p : Part). p.probed) part ∙ (ap (λ (l : List ℕ). without_number l to) (was.probed ∙ is) ∙ without_first to left once');
      below = below.1;
      slots = ap (λ (m : BatchMine). m.1) at ∙ ap rest (was.slots ∙ ap (λ (l : List ℕ). probed_slots t.count node l ++ held) is);
      many = omega (arith, many, len);
    }

-- none is left
pub left_none : (t : TableName) (node count : ℕ) (old : BatchMine) (held : List (ℕ × Batch)) (id : TableId) (me : BatchMine) (tos : List ℕ) (done : ℕ) → IsLeft t node count old held id me tos done → count ≤ done →
    (me.0.parts ≡ rested (part_in old.0) ∷ []) × (me.1 ≡ held)
left_none t node count old held id me tos done was all =
    let many = was.many in
    let none_left : tos ≡ [] = nil_from_length tos (omega (arith, many, all)) in
    let empty : (part_in me.0).probed ≡ [] = was.probed ∙ none_left in
    let same : part_in me.0 ≡ rested (part_in me.0) = λ j. record {
      node = (part_in me.0).node;
      state = (part_in me.0).state;
      message = (part_in me.0).message;
      probed = empty j;
      batches = (part_in me.0).batches;
      put = (part_in me.0).put;
      got = (part_in me.0).got;
      gone = (part_in me.0).gone;
      history = (part_in me.0).history;
    } in (
      was.whole ∙ ap (λ (p : Part). p ∷ []) (same ∙ was.same),
      was.slots ∙ ap (λ (l : List ℕ). probed_slots t.count node l ++ held) none_left,
    )

-- the first that is left
pub left_first : (t : TableName) (node count : ℕ) (old : BatchMine) (held : List (ℕ × Batch)) (id : TableId) (me : BatchMine) (tos left : List ℕ) (done to : ℕ) → IsLeft t node count old held id me tos done → tos ≡ to ∷ left →
    ((to < t.count) × (has_number (part_in me.0).probed to ≡ true)) × (me.1 ≡ (node * t.count + to, []) ∷ rest me.1)
left_first t node count old held id me tos left done to was is =
    let below = subst (AreBelow t.count) is was.below in
    let at = was.slots ∙ ap (λ (l : List ℕ). probed_slots t.count node l ++ held) is in (
      (below.0, ap (λ (l : List ℕ). has_number l to) (was.probed ∙ is) ∙ has_first to left),
      at ∙ ap (λ (c : List (ℕ × Batch)). (node * t.count + to, []) ∷ c) (ap rest (sym at)),
    )

-- what a seat is that has given the slots of so many batches back
pub record IsBack (t : TableName) (count : ℕ) (p : Part) (id : TableId) (me : BatchMine) (senders : List ℕ) (done : ℕ) : Type 0 where
  pub own : id ≡ t.id
  pub parts : me.0.parts ≡ p ∷ []
  pub below : AreBelow t.count senders
  pub held : (s : ℕ) → has_number senders s ≡ true → HasSlotOf p s
  pub slots : me.1 ≡ batch_slots t.count p senders
  pub many : length senders + done ≡ count

module _ (t : TableName) (count : ℕ) (p : Part) (id : TableId) (me : BatchMine) (senders : List ℕ) (done : ℕ) (was : IsBack t count p id me senders done) where
  -- its part
  pub back_whole : me.0.parts ≡ part_in me.0 ∷ []
  back_whole = was.parts ∙ ap (λ (ps : List Part). first_part ps ∷ []) (sym was.parts)

  pub back_part : part_in me.0 ≡ p
  back_part = ap first_part was.parts

  -- the first that is left
  pub back_first : (sender node : ℕ) (left : List ℕ) → senders ≡ sender ∷ left → p.node ≡ node →
      ((sender < t.count) × HasSlotOf (part_in me.0) sender) × ((b : Batch) × (me.1 ≡ (sender * t.count + node, b) ∷ rest me.1))
  back_first sender node left is number =
      let below = subst (AreBelow t.count) is was.below in
      let at = was.slots ∙ (ap (λ (l : List ℕ). batch_slots t.count p l) is ∙ ap (λ (k : ℕ). (sender * t.count + k, batch_from p sender) ∷ batch_slots t.count p left) number) in (
        (below.0, subst (λ (q : Part). HasSlotOf q sender) (sym (ap first_part was.parts)) (was.held sender (ap (λ (l : List ℕ). has_number l sender) is ∙ has_first sender left))),
        (batch_from p sender, at ∙ ap (λ (c : List (ℕ × Batch)). (sender * t.count + node, batch_from p sender) ∷ c) (ap rest (sym at))),
      )

  -- one slot more
  pub back_more : (id' : TableId) (me' : BatchMine) (sender : ℕ) (left : List ℕ) → senders ≡ sender ∷ left → id' ≡ t.id → me'.0.parts ≡ me.0.parts → me'.1 ≡ rest me.1 → IsBack t count p id' me' left (done + 1)
  back_more id' me' sender left is own parts slots = record {
    own = own;
    parts = parts ∙ was.parts;
    below = (subst (AreBelow t.count) is was.below).1;
    held = λ s h. was.held s (ap (λ (l : List ℕ). has_number l s) is ∙ or_true (nat_eq s sender) (has_number left s) h);
    slots = slots ∙ (ap rest was.slots ∙ ap (λ (l : List ℕ). rest (batch_slots t.count p l)) is);
    many = let many = was.many in let len = ap length is in omega (arith, many, len);
  }
    where
      or_true : (a b : Bool) → b ≡ true → (a || b) ≡ true
      or_true true b e = refl
      or_true false b e = e

  -- none is left
  pub back_none : count ≤ done → me.1 ≡ []
  back_none all =
      let many = was.many in
      was.slots ∙ ap (λ (l : List ℕ). batch_slots t.count p l) (nil_from_length senders (omega (arith, many, all)))

-- something is left of a batch that isn't empty
some_left : (b : Batch) → not (nat_eq (length b) 0) ≡ true → b ≢ []
some_left b k e = let z : false ≡ true = ap (λ (x : Batch). not (nat_eq (length x) 0)) (sym e) ∙ k in cc

module _ (t : TableName) (n : Node) (hand : Option Message) (tos senders : List ℕ) (id : TableId) (me : BatchMine) (was : IsCell t n hand tos senders id me) where
  abbrev own : Part
  own = part_in me.0

  sound : (own.node < t.count) × IsSound t.count t.size own.node own.state
  sound = was.seated.sound 0 own (ap (λ (l : List Part). get_elem? l 0) was.seated.whole)

  -- the number that the state knows is the node's
  pub own_number : (k : ℕ) → k ≡ n.number → (own.node ≡ k) × (k < t.count)
  own_number k e = let is = e ∙ (ap (λ (x : Node). x.number) (sym was.seated.state) ∙ sound.1.number_is) in (sym is, subst (λ (i : ℕ). i < t.count) (sym is) sound.0)

  -- the slots that the seat holds
  pub own_slots : (k : ℕ) → k ≡ n.number → me.1 ≡ probed_slots t.count k tos ++ batch_slots t.count own senders
  own_slots k e = was.slots ∙ λ j. probed_slots t.count ((own_number k e).0 j) (was.probed j) ++ batch_slots t.count own senders

  -- once the mailboxes are given back
  pub rested_number : (k : ℕ) → k ≡ n.number → (me' : BatchMine) → me'.0.parts ≡ rested own ∷ [] → ((part_in me'.0).node ≡ k) × (k < t.count)
  rested_number k e me' at = (ap (λ (l : List Part). (first_part l).node) at ∙ (own_number k e).0, (own_number k e).1)

  -- and the slots that it holds then are those of the batches
  has_slot : (s : ℕ) → has_number senders s ≡ true → HasSlotOf own s
  has_slot s h = go n.hand (ap (λ (x : Node). x.hand) was.seated.state) (sym (was.held s) ∙ h)
    where
      go : (o : Option ℕ) → own.state.hand ≡ o → (is_hand_of o s || has_batch own s) ≡ true → HasSlotOf own s
      go None e k = inr (some_left (batch_from own s) k)
      go (Some sender) e k = by (nat_eq s sender) refl k
        where
          by : (b : Bool) → nat_eq s sender ≡ b → (b || has_batch own s) ≡ true → HasSlotOf own s
          by true q k = let same : sender ≡ s = grind (arith, nat_tests, q) in inl (e ∙ ap (λ (i : ℕ). Some i) same)
          by false q k = inr (some_left (batch_from own s) k)

  pub rested_held : (me' : BatchMine) → me'.0.parts ≡ rested own ∷ [] → AreBelow t.count senders × ((s : ℕ) → has_number senders s ≡ true → HasSlotOf (part_in me'.0) s)
  rested_held me' at = (was.within, λ s h. subst (λ (q : Part). HasSlotOf q s) (sym (ap first_part at)) (has_slot s h))

  pub rested_slots : (me' : BatchMine) → me'.0.parts ≡ rested own ∷ [] → me'.1 ≡ batch_slots t.count own senders → me'.1 ≡ batch_slots t.count (part_in me'.0) senders
  rested_slots me' at e = e ∙ (same_batches t.count own (rested own) senders refl refl ∙ ap (λ (q : Part). batch_slots t.count q senders) (sym (ap first_part at)))

-- What a cell keeps, after a step of its seat and a change of its state.
use Rattle.std.specs.Prelude.{◌*◌, ◌+◌, ◌||◌, false, not, nat_eq, length, ◌≡◌, ◌<◌, ℕ, List, [], ◌∷◌, ◌++◌, Option, is_some, Result, Ok, Err, OnOk, OnErr, Bool}
use Rattle.std.proofs.Common.{refl, ap, sym, subst, ◌∙◌, arith}
use lib.ListN.{get_elem?}
use Rattle.atomic_table.specs.Seated.{TableId}
use Rattle.ipcz_base.specs.declared.message.Message.{Message}
use Rattle.ipcz_node.specs.Node.{Node}
use Rattle.ipcz_world.specs.Soundness.{IsSound}
use Rattle.ipcz_rule.specs.declared.view.View.{View}
use Rattle.ipcz_rule.specs.declared.view.Part.{Part}
use Rattle.ipcz_base.specs.Indexed.{place_at}
use Rattle.ipcz_rule.specs.Rule.{has_number}
use Rattle.ipcz_rule.specs.Batches.{Batch, BatchMine}
use Rattle.ipcz_cell.specs.Outcomes.{Tells, IsPicked}
use Rattle.ipcz_cell.specs.TableNames.{TableName}
use Rattle.ipcz_cell.specs.CellStates.{CellState, part_in, first_part}
use Rattle.ipcz_cell.specs.Cells.{AreBelow, AreSound, IsSeated, IsCell, IsSoundCell, batch_slots, has_batch, held_slots, is_hand_of, probed_slots}
use Rattle.ipcz_cell.specs.Seats.{Keeps}

-- what a touch leaves of a part
pub record KeepsHands (p p' : Part) : Type 0 where
  pub node : p'.node ≡ p.node
  pub hand : p'.state.hand ≡ p.state.hand
  pub message : p'.message ≡ p.message
  pub probed : p'.probed ≡ p.probed
  pub batches : p'.batches ≡ p.batches

module _ (t : TableName) (n : Node) (id : TableId) (me : BatchMine) (was : IsSeated t n id me) where
  -- the node of a seat is sound
  pub own_sound : IsSound t.count t.size (part_in me.0).node (part_in me.0).state
  own_sound = (was.sound 0 (part_in me.0) (ap (λ (l : List Part). get_elem? l 0) was.whole)).1

  pub own_inside : (part_in me.0).node < t.count
  own_inside = (was.sound 0 (part_in me.0) (ap (λ (l : List Part). get_elem? l 0) was.whole)).0

  pub number_is : n.number ≡ (part_in me.0).node
  number_is = ap (λ (z : Node). z.number) (sym was.state) ∙ own_sound.number_is

  pub number_inside : n.number < t.count
  number_inside = let e = number_is in let h = own_inside in omega arith

  -- the seat after a step that changes its part
  pub reseated : (n' : Node) (id' : TableId) (me' : BatchMine) (p' : Part) (v' : View) (c' : List (ℕ × Batch)) → id' ≡ id → me' ≡ (v', c') → v'.parts ≡ p' ∷ [] → p'.state ≡ n' → AreSound t.count t.size me'.0 → IsSeated t n' id' me'
  reseated n' id' me' p' v' c' same done is state sound =
      let parts : me'.0.parts ≡ p' ∷ [] = ap (λ (m : BatchMine). m.0.parts) done ∙ is in record {
        named = same ∙ was.named;
        whole = parts ∙ ap (λ (l : List Part). first_part l ∷ []) (sym parts);
        state = ap (λ (l : List Part). (first_part l).state) parts ∙ state;
        sound = sound;
      }

-- a cell is sound
pub cell_sound : (t : TableName) (n : Node) (hand : Option Message) (tos senders : List ℕ) (id : TableId) (me : BatchMine) (c : CellState) → IsCell t n hand tos senders id me → part_in me.0 ≡ c.part → IsSoundCell t c
cell_sound t n hand tos senders id me c was is = record {
  inside = subst (λ (p : Part). p.node < t.count) is (own_inside t n id me was.seated);
  sound = subst (λ (p : Part). IsSound t.count t.size p.node p.state) is (own_sound t n id me was.seated);
  holding = ap (λ (p : Part). is_some p.message) (sym is) ∙ (ap is_some was.message ∙ (was.holding ∙ (ap (λ (z : Node). is_some z.hand) (sym was.seated.state)
      ∙ ap (λ (p : Part). is_some p.state.hand) is)));
  below = subst (AreBelow t.count) (sym was.probed ∙ ap (λ (p : Part). p.probed) is) was.below;
}

abbrev has_in : List Batch → ℕ → Bool
has_in bs sender = not (nat_eq (length (place_at [] bs sender)) 0)

-- the slots of senders are as they were if their batches are
pub same_batches : (count : ℕ) (p p' : Part) (senders : List ℕ) → p'.node ≡ p.node → p'.batches ≡ p.batches → batch_slots count p senders ≡ batch_slots count p' senders
same_batches count p p' [] node batches = refl
same_batches count p p' (s ∷ senders) node batches = λ j. (s * count + sym node j, place_at [] (sym batches j) s) ∷ same_batches count p p' senders node batches j

-- a cell of this part
pub cell_of : (t : TableName) (n : Node) (hand : Option Message) (tos senders : List ℕ) (id : TableId) (me : BatchMine) (p : Part) → IsSeated t n id me → part_in me.0 ≡ p → p.message ≡ hand → p.probed ≡ tos →
    me.1 ≡ held_slots t.count p senders → is_some hand ≡ is_some n.hand → AreBelow t.count tos → ((sender : ℕ) → has_number senders sender ≡ (is_hand_of n.hand sender || has_batch p sender)) →
    AreBelow t.count senders → (t.reuses ≡ false → (sender : ℕ) → has_batch p sender ≡ false) → IsCell t n hand tos senders id me
cell_of t n hand tos senders id me p seated part message probed slots holding below held within alone = record {
  seated = seated;
  message = ap (λ (q : Part). q.message) part ∙ message;
  probed = ap (λ (q : Part). q.probed) part ∙ probed;
  slots = slots ∙ ap (λ (q : Part). held_slots t.count q senders) (sym part);
  holding = holding;
  below = below;
  held = λ s. held s ∙ ap (λ (q : Part). is_hand_of n.hand s || has_batch q s) (sym part);
  within = within;
  alone = λ e s. ap (λ (q : Part). has_batch q s) part ∙ alone e s;
}

-- a cell after a touch
pub touched_cell : (t : TableName) (n n' : Node) (hand : Option Message) (tos senders : List ℕ) (id id' : TableId) (me me' : BatchMine) (p' : Part) (v' : View) → IsCell t n hand tos senders id me → IsSeated t n' id' me' →
    me' ≡ (v', me.1) → v'.parts ≡ p' ∷ [] → KeepsHands (part_in me.0) p' → IsCell t n' hand tos senders id' me'
touched_cell t n n' hand tos senders id id' me me' p' v' was seated done is keeps =
    let p = part_in me.0 in
    let part : part_in me'.0 ≡ p' = ap (λ (m : BatchMine). part_in m.0) done ∙ ap first_part is in
    let hands : n'.hand ≡ n.hand = ap (λ (z : Node). z.hand) (sym seated.state) ∙ (ap (λ (q : Part). q.state.hand) part ∙ (keeps.hand ∙ ap (λ (z : Node). z.hand) was.seated.state)) in
    let slots : held_slots t.count p senders ≡ held_slots t.count p' senders = λ i. probed_slots t.count (sym keeps.node i) (sym keeps.probed i) ++ same_batches t.count p p' senders keeps.node keeps.batches i in
    cell_of t n' hand tos senders id' me' p' seated part (keeps.message ∙ was.message) (keeps.probed ∙ was.probed) (ap (λ (m : BatchMine). m.1) done ∙ (was.slots ∙ slots)) (was.holding ∙ ap is_some (sym hands))
    was.below (λ s. was.held s ∙ (λ j. is_hand_of (sym hands j) s || has_in (sym keeps.batches j) s)) was.within (λ e s. ap (λ (bs : List Batch). has_in bs s) keeps.batches ∙ was.alone e s)

-- a cell whose seat and state are as they were
pub same_cell : (t : TableName) (n n' : Node) (hand : Option Message) (tos senders : List ℕ) (id id' : TableId) (me me' : BatchMine) → IsCell t n hand tos senders id me → IsSeated t n' id' me' → me' ≡ me → IsCell t n' hand tos senders id' me'
same_cell t n n' hand tos senders id id' me me' was seated same =
    touched_cell t n n' hand tos senders id id' me me' (part_in me.0) me.0 was seated same was.seated.whole (record { node = refl; hand = refl; message = refl; probed = refl; batches = refl })

-- a cell after a touch, or as it was
pub touched_or_same : {X E : Type 0} (r : Result X E) (t : TableName) (n n' : Node) (hand : Option Message) (tos senders : List ℕ) (id id' : TableId) (me me' : BatchMine) (p' : Part) (v' : View) (Same : Type 0) → IsCell t n hand tos senders id me → IsSeated t n' id' me' →
    OnOk r (me' ≡ (v', me.1)) → OnErr r (Same × (me' ≡ me)) → v'.parts ≡ p' ∷ [] → KeepsHands (part_in me.0) p' → IsCell t n' hand tos senders id' me'
touched_or_same (Ok x) t n n' hand tos senders id id' me me' p' v' Same was seated done same is keeps = touched_cell t n n' hand tos senders id id' me me' p' v' was seated done is keeps
touched_or_same (Err x) t n n' hand tos senders id id' me me' p' v' Same was seated done same is keeps = same_cell t n n' hand tos senders id id' me me' was seated same.1

-- what may be told by a name of it
pub may_by : (all : Bool) (count size slots id : ℕ) (m : BatchMine) (i : ℕ) (f : ℕ → ℕ) (t u : Tells) → IsPicked t u → Keeps all count size slots id m i f (u m) → Keeps all count size slots id m i f (t m)
may_by all count size slots id m i f t u e may s r deep at small = let h = may s r deep at small in (h.0, h.1, h.2, h.3, e.said m _ _ h.4)

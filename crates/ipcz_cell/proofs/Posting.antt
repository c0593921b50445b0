-- What a cell keeps after a look, a post and a hand.
use Rattle.std.specs.Prelude.{◌≡◌, ◌<◌, ◌+◌, ◌*◌, ◌++◌, ◌||◌, ℕ, suc, Bool, true, false, not, List, [], ◌∷◌, length, Option, Some, None, is_some, nat_eq, if◌then◌else◌}
use Rattle.std.proofs.Common.{ap, sym, subst, ◌∙◌, refl, arith, append_assoc}
use Rattle.std.proofs.lemmas.Bool.Decides.{nat_tests}
use Rattle.atomic_table.specs.Seated.{TableId}
use Rattle.atomic_table.specs.Table.{rest}
use Rattle.ipcz_base.specs.Indexed.{place_at, put_place}
use Rattle.ipcz_base.specs.declared.message.Message.{Message}
use Rattle.ipcz_router.specs.declared.act.Answer.TheVariants as answers
use Rattle.ipcz_node.specs.declared.act.Act.TheVariants as acts
use Rattle.ipcz_node.specs.Node.{Node, with_outbox}
use Rattle.ipcz_node.specs.Acts.{commit, first_of, rest_of}
use Rattle.ipcz_node.specs.Hands.{deliver}
use Rattle.ipcz_rule.specs.declared.view.View.{View}
use Rattle.ipcz_rule.specs.declared.view.Part.{Part}
use Rattle.ipcz_rule.specs.Rule.{has_number, saw, without_number}
use Rattle.ipcz_rule.specs.Batches.{Batch, BatchMine, batch_from, with_batch}
use Rattle.ipcz_rule.specs.Steps.{hand_part}
use Rattle.ipcz_rule.proofs.BatchMail.{place_here, place_else}
use Rattle.ipcz_rule.proofs.Handling.{deliver_hand}
use Rattle.ipcz_cell.specs.TableNames.{TableName}
use Rattle.ipcz_cell.specs.CellStates.{first_part, part_in, change_part}
use Rattle.ipcz_cell.specs.Cells.{AreSound, AreBelow, AreOnce, IsCell, batch_slots, has_batch, held_slots, is_hand_of, probed_slots}
use Rattle.ipcz_cell.specs.Mails.{looked_on_part, looked_part, part_looked_on, posted_batch, posted_part, posted_rest}
use Rattle.ipcz_cell.specs.Outcomes.{turned_by}
use Rattle.ipcz_cell.specs.Parts.{handed_part, part_handed}
use Rattle.ipcz_cell.proofs.Mailing.{has_more}
use Rattle.ipcz_cell.proofs.Onces.{below_last, below_split, has_last, once_before, once_after}
use Rattle.ipcz_cell.proofs.Seating.{cell_of, reseated, same_batches}
use Rattle.ipcz_cell.proofs.Turning.{batch_append, batch_brought, batch_else, batch_restored, brought, probed_length, batch_length, restored}

abbrev Slots : Type 0
Slots = List (ℕ × Batch)

abbrev is_some_left : Batch → Bool
is_some_left b = not (nat_eq (length b) 0)

abbrev has_in : List Batch → ℕ → Bool
has_in bs s = is_some_left (place_at [] bs s)

-- whether something is left of a sender's batch, once it is another one
has_put : (bs : List Batch) (from : ℕ) (xs : Batch) (s : ℕ) (b : Bool) → nat_eq s from ≡ b → has_in (put_place [] bs from xs) s ≡ (if b then is_some_left xs else has_in bs s)
has_put bs sender xs s true e = ap (λ (k : ℕ). has_in (put_place [] bs sender xs) k) (let same : s ≡ sender = grind (arith, nat_tests, e) in same) ∙ ap is_some_left (place_here bs sender xs)
has_put bs sender xs s false e = ap is_some_left (place_else bs sender xs s (λ h. absurd (grind (arith, nat_tests, e, h))))

-- the senders whose slots are held after a look
held_looked : (bs : List Batch) (from : ℕ) (xs : Batch) (s : ℕ) (h h' : Bool) → h ≡ has_in bs s → h' ≡ (nat_eq s from || h) → h' ≡ (nat_eq s from || has_in (put_place [] bs from xs) s)
held_looked bs sender xs s h h' was is = is ∙ by (nat_eq s sender) refl
  where
    by : (b : Bool) → nat_eq s sender ≡ b → (b || h) ≡ (b || has_in (put_place [] bs sender xs) s)
    by true e = refl
    by false e = was ∙ sym (has_put bs sender xs s false e)

has_already : (xs : List ℕ) (y s : ℕ) → has_number xs y ≡ true → has_number xs s ≡ (nat_eq s y || has_number xs s)
has_already xs y s has = by (nat_eq s y) refl
  where
    by : (b : Bool) → nat_eq s y ≡ b → has_number xs s ≡ (b || has_number xs s)
    by true e = ap (has_number xs) (let same : s ≡ y = grind (arith, nat_tests, e) in same) ∙ has
    by false e = refl

or_right : (a b : Bool) → b ≡ true → (a || b) ≡ true
or_right true b e = refl
or_right false b e = e

pub below_has : (n : ℕ) (xs : List ℕ) (s : ℕ) → AreBelow n xs → has_number xs s ≡ true → s < n
below_has n [] s h has = absurd cc
below_has n (x ∷ xs) s h has = by (nat_eq s x) refl has (λ k. below_has n xs s h.1 k)
  where
    by : (b : Bool) → nat_eq s x ≡ b → (b || has_number xs s) ≡ true → (has_number xs s ≡ true → s < n) → s < n
    by true e k more = let same : s ≡ x = grind (arith, nat_tests, e) in let low = h.0 in omega (arith, same, low)
    by false e k more = more k

below_all : (n : ℕ) (xs : List ℕ) → ((s : ℕ) → has_number xs s ≡ true → s < n) → AreBelow n xs
below_all n [] f = tt
below_all n (x ∷ xs) f = (f x (let same : nat_eq x x ≡ true = grind (arith, nat_tests) in ap (λ (b : Bool). b || has_number xs x) same), below_all n xs (λ s has. f s (or_right (nat_eq s x) (has_number xs s) has)))

-- nobody's message is in hand
none_held : (h : Option ℕ) (s : ℕ) (b c : Bool) → h ≡ None → b ≡ (is_hand_of h s || c) → b ≡ c
none_held None s b c none e = e
none_held (Some x) s b c none e = absurd cc

-- the first of some slots, by its number
pub front : (c r : Slots) (k k' : ℕ) (b : Batch) → c ≡ (k, b) ∷ r → k' ≡ k → c ≡ (k', b) ∷ rest c
front c r k k' b e at = e ∙ (λ j. (sym at j, b) ∷ sym (ap rest e) j)

-- the slot that is filled with what is posted
pub post_slot : (t : TableName) (m0 m1 m2 : BatchMine) (n : Node) (k k' to : ℕ) (c1 : Slots) → m1 ≡ (m0.0, c1) → m2 ≡ (m1.0, (k', posted_batch t to n) ∷ rest m1.1) → (part_in m0.0).state ≡ n → k' ≡ k →
    m2.1 ≡ (k, posted_batch t to (part_in m2.0).state) ∷ rest m2.1
post_slot t m0 m1 m2 n k k' to c1 e1 e2 is at =
    let view : m2.0 ≡ m0.0 = ap (λ (m : BatchMine). m.0) e2 ∙ ap (λ (m : BatchMine). m.0) e1 in
    let state : n ≡ (part_in m2.0).state = sym is ∙ ap (λ (v : View). (part_in v).state) (sym view) in
    let slots : m2.1 ≡ (k', posted_batch t to n) ∷ rest m1.1 = ap (λ (m : BatchMine). m.1) e2 in
    slots ∙ ((λ j. (at j, posted_batch t to (state j)) ∷ rest m1.1) ∙ ap (λ (l : Slots). (k, posted_batch t to (part_in m2.0).state) ∷ l) (sym (ap rest slots)))

module _ (t : TableName) (n : Node) (hand : Option Message) (tos senders : List ℕ) (id : TableId) (me : BatchMine) (was : IsCell t n hand tos senders id me) where
  held_idle : (part_in me.0).state.hand ≡ None → (s : ℕ) → has_number senders s ≡ has_batch (part_in me.0) s
  held_idle idle s = none_held n.hand s (has_number senders s) (has_batch (part_in me.0) s) (ap (λ (z : Node). z.hand) (sym was.seated.state) ∙ idle) (was.held s)

  -- something of a sender's batch is left if its slot is held portals of the is in hand
  pub left_of : (s : ℕ) (b : Bool) → (part_in me.0).state.hand ≡ None → has_number senders s ≡ b → has_batch (part_in me.0) s ≡ b
  left_of s b idle e = sym (held_idle idle s) ∙ e

  -- and its slot is held if something is left
  pub held_of : (s : ℕ) → has_batch (part_in me.0) s ≡ true → has_number senders s ≡ true
  held_of s e = was.held s ∙ or_right (is_hand_of n.hand s) (has_batch (part_in me.0) s) e

module _ (t : TableName) (n n' : Node) (hand : Option Message) (tos senders : List ℕ) (id id' : TableId) (me : BatchMine) (was : IsCell t n hand tos senders id me) (same : id' ≡ id) where
  abbrev p : Part
  p = part_in me.0

  -- a cell of a node that has looked, and what its seat holds then
  looked_as : (m : BatchMine) (v : View) (sender : ℕ) (x : Message) (xs : List Message) (senders' : List ℕ) → m.0 ≡ v → v.parts ≡ looked_part sender x xs p ∷ [] → AreSound t.count t.size m.0 → p.state.hand ≡ None →
      n' ≡ commit n (acts.Look sender) answers.Plain → m.1 ≡ probed_slots t.count p.node p.probed ++ batch_slots t.count (with_batch sender xs p) senders' →
      ((s : ℕ) → has_number senders' s ≡ (nat_eq s sender || has_number senders s)) → AreBelow t.count senders' → (t.reuses ≡ false → xs ≡ []) → IsCell t n' (Some x) tos senders' id' m
  unfolding commit
  looked_as m v sender x xs senders' at whole sound idle e slots has within alone =
      let p' = looked_part sender x xs p in
      cell_of t n' (Some x) tos senders' id' m p'
      (reseated t n id me was.seated n' id' m p' v m.1 same (λ j. (at j, m.1)) whole (ap (λ (z : Node). commit z (acts.Look sender) answers.Plain) was.seated.state ∙ sym e) sound)
      (ap part_in at ∙ ap first_part whole) refl was.probed
      (slots ∙ ap (λ (l : Slots). probed_slots t.count p.node p.probed ++ l) (same_batches t.count (with_batch sender xs p) p' senders' refl refl))
      (ap (λ (z : Node). is_some z.hand) (sym e)) was.below
      (λ s. held_looked p.batches sender xs s (has_number senders s) (has_number senders' s) (held_idle t n hand tos senders id me was idle s) (has s) ∙ ap (λ (z : Node). is_hand_of z.hand s || has_in (put_place [] p.batches sender xs) s) (sym e))
      within
      (λ one s. by s (nat_eq s sender) refl one)
    where
      by : (s : ℕ) (b : Bool) → nat_eq s sender ≡ b → t.reuses ≡ false → has_in (put_place [] p.batches sender xs) s ≡ false
      by s true h one = has_put p.batches sender xs s true h ∙ ap is_some_left (alone one)
      by s false h one = has_put p.batches sender xs s false h ∙ was.alone one s

  pub looked_cell : (m1 m2 m3 : BatchMine) (sender i found k k' : ℕ) (x : Message) (xs : List Message) (now : Option Message) (senders' : List ℕ) → AreSound t.count t.size m1.0 → k' ≡ sender * t.count + p.node → p.state.hand ≡ None →
      sender < t.count → has_number senders sender ≡ false → (not t.reuses ≡ true → xs ≡ []) →
      m1 ≡ (change_part (looked_part sender x xs) (saw i found me.0), (k, x ∷ xs) ∷ me.1) → now ≡ first_of (x ∷ xs) → m2 ≡ (m1.0, (k', rest_of (x ∷ xs)) ∷ rest m1.1) → m3 ≡ (m2.0, turned_by 1 m2.1) →
      senders' ≡ senders ++ sender ∷ [] → n' ≡ commit n (acts.Look sender) answers.Plain → IsCell t n' now tos senders' id' m3
  unfolding first_of rest_of
  looked_cell m1 m2 m3 sender i found k k' x xs now senders' sound at idle low absent alone e1 e2 e3 e4 more e =
      let v' = change_part (looked_part sender x xs) (saw i found me.0) in
      let view1 : m1.0 ≡ v' = ap (λ (m : BatchMine). m.0) e1 in
      let view3 : m3.0 ≡ v' = ap (λ (m : BatchMine). m.0) e4 ∙ (ap (λ (m : BatchMine). m.0) e3 ∙ view1) in
      let P = probed_slots t.count p.node p.probed in
      let q = with_batch sender xs p in
      let last : batch_slots t.count p senders ++ (sender * t.count + p.node, xs) ∷ [] ≡ batch_slots t.count q (senders ++ sender ∷ []) =
      (λ j. sym (batch_else t.count sender xs p senders absent) j ++ (sender * t.count + p.node, sym (place_here p.batches sender xs) j) ∷ []) ∙ sym (batch_append t.count q senders (sender ∷ [])) in
      let slots : m3.1 ≡ P ++ batch_slots t.count q (senders ++ sender ∷ []) =
      ap (λ (m : BatchMine). m.1) e4 ∙ (ap (λ (m : BatchMine). turned_by 1 m.1) e3 ∙ ((λ j. (ap (λ (m : BatchMine). rest m.1) e1 ∙ was.slots) j ++ (at j, xs) ∷ []) ∙
      (append_assoc P (batch_slots t.count p senders) ((sender * t.count + p.node, xs) ∷ []) ∙ ap (λ (l : Slots). P ++ l) last))) in
      subst (λ (l : List ℕ). IsCell t n' now tos l id' m3) (sym more) (subst (λ (o : Option Message). IsCell t n' o tos (senders ++ sender ∷ []) id' m3) (sym e2)
      (looked_as m3 v' sender x xs (senders ++ sender ∷ []) view3 refl (subst (AreSound t.count t.size) (view1 ∙ sym view3) sound) idle e slots (has_last senders sender) (below_last t.count senders sender was.within low)
      (λ one. alone (ap not one))))

  -- the slot of a sender, brought to the front
  pub held_first : (m1 : BatchMine) (sender len k : ℕ) (before after : List ℕ) → senders ≡ before ++ sender ∷ after → len ≡ length tos + length before → k ≡ sender * t.count + p.node → m1 ≡ (me.0, turned_by len me.1) →
      m1.1 ≡ (k, batch_from p sender) ∷ (batch_slots t.count p after ++ (probed_slots t.count p.node p.probed ++ batch_slots t.count p before))
  held_first m1 sender len k before after is many at e1 =
      let P = probed_slots t.count p.node p.probed in
      let B = batch_slots t.count p in
      ap (λ (m : BatchMine). m.1) e1 ∙ (ap (turned_by len) was.slots ∙ (batch_brought t.count p P senders before after sender len is
      (many ∙ ap (λ (z : ℕ). z + length before) (ap length (sym was.probed) ∙ sym (probed_length t.count p.node p.probed))) ∙ ap (λ (z : ℕ). (z, batch_from p sender) ∷ (B after ++ (P ++ B before))) (sym at)))

  pub looked_on_cell : (m1 m2 m3 m4 : BatchMine) (sender len q k : ℕ) (now : Option Message) (before after : List ℕ) → AreSound t.count t.size m3.0 → p.state.hand ≡ None → has_batch p sender ≡ true → AreOnce senders → has_number senders sender ≡ true →
      senders ≡ before ++ sender ∷ after → len ≡ length tos + length before → q ≡ suc (length after) → k ≡ sender * t.count + p.node →
      m1 ≡ (me.0, turned_by len me.1) → now ≡ first_of (batch_from p sender) → m2 ≡ (m1.0, (k, rest_of (batch_from p sender)) ∷ rest m1.1) → m3 ≡ (change_part (looked_on_part sender) m2.0, m2.1) → m4 ≡ (m3.0, turned_by q m3.1) →
      n' ≡ commit n (acts.Look sender) answers.Plain → IsCell t n' now tos senders id' m4
  unfolding first_of rest_of
  looked_on_cell m1 m2 m3 m4 sender len q k now before after sound idle left once has is many turn at e1 e2 e3 e4 e5 e =
      let w = has_more (batch_from p sender) left in
      let x = w.0 in
      let xs = w.1 in
      let p1 = with_batch sender xs p in
      let P = probed_slots t.count p.node p.probed in
      let B = batch_slots t.count p in
      let v' = change_part (λ r. part_looked_on sender (x ∷ xs) r) me.0 in
      let view2 : m2.0 ≡ me.0 = ap (λ (m : BatchMine). m.0) e3 ∙ ap (λ (m : BatchMine). m.0) e1 in
      let view3 : m3.0 ≡ v' = ap (λ (m : BatchMine). m.0) e4 ∙ (ap (change_part (looked_on_part sender)) view2 ∙ ap (λ (b : Batch). change_part (λ r. part_looked_on sender b r) me.0) w.2) in
      let view4 : m4.0 ≡ v' = ap (λ (m : BatchMine). m.0) e5 ∙ view3 in
      let once' = subst AreOnce is once in
      let first = held_first m1 sender len k before after is many at e1 in
      let taken : m3.1 ≡ (k, xs) ∷ (B after ++ (P ++ B before)) = ap (λ (m : BatchMine). m.1) e4 ∙ (ap (λ (m : BatchMine). m.1) e3 ∙ (λ j. (k, rest_of (w.2 j)) ∷ rest (first j))) in
      let moved : (k, xs) ∷ (B after ++ (P ++ B before)) ≡ (sender * t.count + p.node, batch_from p1 sender) ∷ (batch_slots t.count p1 after ++ (P ++ batch_slots t.count p1 before)) =
      λ j. (at j, sym (place_here p.batches sender xs) j) ∷ (sym (batch_else t.count sender xs p after (once_after before after sender once')) j ++ (P ++ sym (batch_else t.count sender xs p before (once_before before after sender once')) j)) in
      let slots : m4.1 ≡ P ++ batch_slots t.count p1 senders = ap (λ (m : BatchMine). m.1) e5 ∙ (ap (turned_by q) (taken ∙ moved) ∙ (batch_restored t.count p1 P before after sender q turn ∙ ap (λ (l : List ℕ). P ++ batch_slots t.count p1 l) (sym is))) in
      subst (λ (o : Option Message). IsCell t n' o tos senders id' m4) (sym (e2 ∙ ap first_of w.2))
      (looked_as m4 v' sender x xs senders view4 refl (subst (AreSound t.count t.size) (view3 ∙ sym view4) sound) idle e slots (λ s. has_already senders sender s has) was.within
      (λ one. let none = was.alone one sender in absurd cc))

  pub posted_cell : (m1 m2 m3 m4 : BatchMine) (to place q k' : ℕ) (now : Batch) (before after tos' : List ℕ) → AreSound t.count t.size m3.0 →
      tos ≡ before ++ to ∷ after → tos' ≡ before ++ after → tos' ≡ without_number tos to → place ≡ length before → q ≡ length after + length senders →
      m1 ≡ (me.0, turned_by place me.1) → m2 ≡ (m1.0, (k', now) ∷ rest m1.1) → m3 ≡ (change_part (posted_part t to) m2.0, rest m2.1) → m4 ≡ (m3.0, turned_by q m3.1) →
      n' ≡ with_outbox n to (posted_rest t to n) → IsCell t n' hand tos' senders id' m4
  posted_cell m1 m2 m3 m4 to place q k' now before after tos' sound is is' without at left e1 e2 e3 e4 e =
      let p' = posted_part t to p in
      let v' = change_part (posted_part t to) me.0 in
      let view2 : m2.0 ≡ me.0 = ap (λ (m : BatchMine). m.0) e2 ∙ ap (λ (m : BatchMine). m.0) e1 in
      let view3 : m3.0 ≡ v' = ap (λ (m : BatchMine). m.0) e3 ∙ ap (change_part (posted_part t to)) view2 in
      let view4 : m4.0 ≡ v' = ap (λ (m : BatchMine). m.0) e4 ∙ view3 in
      let B = batch_slots t.count p senders in
      let P = probed_slots t.count p.node in
      let hands : n'.hand ≡ n.hand = ap (λ (z : Node). z.hand) e in
      let first : m1.1 ≡ (p.node * t.count + to, []) ∷ ((P after ++ B) ++ P before) =
      ap (λ (m : BatchMine). m.1) e1 ∙ (ap (turned_by place) was.slots ∙ brought t.count p.node p.probed before after to place B (was.probed ∙ is) at) in
      let behind : m3.1 ≡ (P after ++ B) ++ P before = ap (λ (m : BatchMine). m.1) e3 ∙ (ap (λ (m : BatchMine). rest m.1) e2 ∙ ap rest first) in
      let slots : m4.1 ≡ P (before ++ after) ++ B = ap (λ (m : BatchMine). m.1) e4 ∙ (ap (turned_by q) behind ∙ restored t.count p.node before after q B (left ∙ ap (λ (k : ℕ). length after + k) (sym (batch_length t.count p senders)))) in
      let probed : p'.probed ≡ tos' = ap (λ (l : List ℕ). without_number l to) was.probed ∙ sym without in
      cell_of t n' hand tos' senders id' m4 p'
      (reseated t n id me was.seated n' id' m4 p' v' m4.1 same (λ j. (view4 j, m4.1)) refl (ap (λ (z : Node). with_outbox z to (posted_rest t to z)) was.seated.state ∙ sym e) (subst (AreSound t.count t.size) (view3 ∙ sym view4) sound))
      (ap part_in view4) was.message probed
      (slots ∙ (λ j. P ((sym is' ∙ sym probed) j) ++ same_batches t.count p p' senders refl refl j))
      (was.holding ∙ ap is_some (sym hands)) (subst (AreBelow t.count) (sym is') (below_split t.count before after to (subst (AreBelow t.count) is was.below)))
      (λ s. was.held s ∙ ap (λ (o : Option ℕ). is_hand_of o s || has_batch p s) (sym hands)) was.within was.alone

  pub handed_cell : (m2 : BatchMine) (sender : ℕ) (source : Option ℕ) (x : Message) (senders' : List ℕ) → AreSound t.count t.size m2.0 → p.state.hand ≡ Some sender → p.message ≡ Some x →
      m2.0 ≡ change_part (handed_part sender source) me.0 → m2.1 ≡ held_slots t.count (part_in m2.0) senders' → ((s : ℕ) → has_number senders' s ≡ has_batch p s) → n' ≡ deliver n sender x source → IsCell t n' None tos senders' id' m2
  handed_cell m2 sender source x senders' sound holds message done slots has e =
      let p' = hand_part sender source x p in
      let v' = change_part (hand_part sender source x) me.0 in
      let view2 : m2.0 ≡ v' = done ∙ ap (λ (o : Option Message). change_part (part_handed sender source o) me.0) message in
      let part : part_in m2.0 ≡ p' = ap part_in view2 in
      let state : p'.state ≡ n' = ap (λ (z : Node). deliver z sender x source) was.seated.state ∙ sym e in
      let empty : n'.hand ≡ None = ap (λ (z : Node). z.hand) (sym state) ∙ deliver_hand p.state sender x source holds in
      cell_of t n' None tos senders' id' m2 p' (reseated t n id me was.seated n' id' m2 p' v' m2.1 same (λ j. (view2 j, m2.1)) refl state sound)
      part refl was.probed (slots ∙ ap (λ (r : Part). held_slots t.count r senders') part) (ap is_some (sym empty)) was.below
      (λ s. has s ∙ ap (λ (o : Option ℕ). is_hand_of o s || has_batch p s) (sym empty))
      (below_all t.count senders' (λ s h. below_has t.count senders s was.within (held_of t n hand tos senders id me was s (sym (has s) ∙ h))))
      was.alone

  -- the slot of a mailbox that was probed, brought to the front
  pub probed_first : (m1 : BatchMine) (to place k : ℕ) (before after : List ℕ) → tos ≡ before ++ to ∷ after → place ≡ length before → k ≡ p.node * t.count + to → m1 ≡ (me.0, turned_by place me.1) → m1.1 ≡ (k, []) ∷ rest m1.1
  probed_first m1 to place k before after is at slot e1 =
      let B = batch_slots t.count p senders in
      let P = probed_slots t.count p.node in
      front m1.1 ((P after ++ B) ++ P before) (p.node * t.count + to) k [] (ap (λ (m : BatchMine). m.1) e1 ∙ (ap (turned_by place) was.slots ∙ brought t.count p.node p.probed before after to place B (was.probed ∙ is) at)) slot

-- a place for a message that holds none
pub nothing_held : (place : Option Message) → is_some place ≡ false → place ≡ None
nothing_held None e = refl
nothing_held (Some x) e = absurd cc

-- The steps on mailboxes, and what a cell keeps after them.
use Rattle.std.specs.Prelude.{suc, if◌then◌else◌, option_to_list, length, nat_eq, not, ◌≡◌, ◌≢◌, ◌<◌, ◌+◌, ◌*◌, ◌++◌, ℕ, Bool, true, false, List, [], ◌∷◌, Option, Some, None, IfSome, MatchBool, eqb}
use Rattle.std.proofs.Common.{append-nil, arith, ap, sym, subst, ◌∙◌, refl, eq-eqb, ne_eqb}
use prog.Atomic.{either}
use mathlib.Core.Option.{some}
use lib.ListN.{get_elem?}
use Rattle.std.proofs.lemmas.Bool.Decides.{nat_tests}
use Rattle.atomic_table.specs.Seated.{TableId}
use Rattle.atomic_table.specs.Table.{rest}
use Rattle.ipcz_base.specs.declared.message.Message.{Message}
use Rattle.ipcz_node.specs.Node.{Node, outbox}
use Rattle.ipcz_rule.specs.declared.view.View.{View}
use Rattle.ipcz_rule.specs.declared.view.Part.{Part}
use Rattle.ipcz_rule.specs.Rule.{saw, has_number, with_part}
use Rattle.ipcz_rule.specs.Batches.{Batch, BatchMine, BatchSt, Batched, batch_from}
use Rattle.ipcz_rule.specs.Steps.{probe_part, old_word, trusted, hand_part}
use Rattle.ipcz_rule.proofs.BatchMailKinds.{probes, posts, looks, looks_at_what_is_left, hands, hands_with_more_left}
use Rattle.ipcz_rule.proofs.BatchedLaws.{links_words, old_links_words}
use Rattle.ipcz_rule.proofs.BatchPlainKinds.{loads_for_hand}
use Rattle.ipcz_node.specs.Acts.{has_mail_for, first_of, rest_of}
use Rattle.ipcz_node.specs.Hands.{message_lacks_serials}
use Rattle.ipcz_cell.specs.Parts.{handed_part, part_handed}
use Rattle.ipcz_cell.specs.TableNames.{TableName}
use Rattle.ipcz_node.specs.RoomyNodes.{NodeRoom}
use Rattle.ipcz_cell.specs.CellStates.{CellState, part_in, change_part}
use Rattle.ipcz_cell.specs.Cells.{AreSound, IsCell, has_batch, probed_slots}
use Rattle.ipcz_cell.specs.Mails.{slot_of, mail_word, IsKnown, IsProbed, HasSeen, HasTaken, looked_part, looked_on_part, part_looked_on, posted_batch, posted_part, posted_rest}
use Rattle.ipcz_cell.specs.Outcomes.{Tells, IsPicked, probed, posted, looked, sourced, handed, touched}
use Rattle.ipcz_cell.proofs.Seating.{may_by, reseated, touched_cell, cell_of, same_batches}
use Rattle.ipcz_cell.specs.Seats.{Keeps}

-- the step of a probe
pub probe_may : (t : TableName) (id word : ℕ) (m : BatchMine) (node to : ℕ) (told : Tells) → IsPicked told (probed (mail_word t node to) (slot_of t node to) to) → m.0.parts ≡ part_in m.0 ∷ [] → (part_in m.0).node ≡ node → to < t.count →
    mail_word t node to ≡ word → Keeps t.reuses t.count t.size t.id.slots id m word (λ n. either (eqb n 0) 3 n) (told m)
probe_may t id word m node to told picked whole is small at =
    may_by t.reuses t.count t.size t.id.slots id m word (λ n. either (eqb n 0) 3 n) told (probed (mail_word t node to) (slot_of t node to) to) picked
    (subst (λ (i : ℕ). Keeps t.reuses t.count t.size t.id.slots id m i (λ n. either (eqb n 0) 3 n) (probed (mail_word t node to) (slot_of t node to) to m)) at
    (probes (not t.reuses) t.reuses t.count t.size t.id.slots id (mail_word t node to) (slot_of t node to) to m (part_in m.0) whole (ap (λ (k : ℕ). k * t.count + to) (sym is)) refl small))

-- what is told if the test holds, and if it doesn't
pub told_hit : (n k : ℕ) (P Q : Type 0) → n ≡ k → MatchBool (eqb n k) P Q → P
told_hit n k P Q e h = subst (λ (b : Bool). MatchBool b P Q) (eq-eqb n k e) h

pub told_miss : (n k : ℕ) (P Q : Type 0) → n ≢ k → MatchBool (eqb n k) P Q → Q
told_miss n k P Q e h = subst (λ (b : Bool). MatchBool b P Q) (ne_eqb n k e) h

module _ (t : TableName) (n : Node) (hand : Option Message) (tos senders : List ℕ) (id : TableId) (me : BatchMine) (was : IsCell t n hand tos senders id me) (id' : TableId) (me' : BatchMine) (same : id' ≡ id) (sound : AreSound t.count t.size me'.0) where
  abbrev p : Part
  p = part_in me.0

  -- a load, or an exchange that found another value
  pub seen_cell : (i found : ℕ) → me' ≡ (saw i found me.0, me.1) → IsCell t n hand tos senders id' me'
  seen_cell i found done =
      touched_cell t n n hand tos senders id id' me me' p (saw i found me.0) was
      (reseated t n id me was.seated n id' me' p (saw i found me.0) me.1 same done was.seated.whole was.seated.state sound) done was.seated.whole (record { node = refl; hand = refl; message = refl; probed = refl; batches = refl })

  pub probed_cell : (i k to found : ℕ) → to < t.count → k ≡ p.node * t.count + to → me' ≡ (change_part (probe_part to) (saw i found me.0), (k, []) ∷ me.1) → IsCell t n hand (to ∷ tos) senders id' me'
  probed_cell i k to found small at done =
      let p' = probe_part to p in
      cell_of t n hand (to ∷ tos) senders id' me' p' (reseated t n id me was.seated n id' me' p' (change_part (probe_part to) (saw i found me.0)) ((k, []) ∷ me.1) same done refl was.seated.state sound)
      (ap (λ (m : BatchMine). part_in m.0) done) was.message (ap (λ (l : List ℕ). to ∷ l) was.probed)
      (ap (λ (m : BatchMine). m.1) done ∙ ((λ j. (at j, []) ∷ was.slots j) ∙ ap (λ (l : List (ℕ × Batch)). (p.node * t.count + to, []) ∷ probed_slots t.count p.node p.probed ++ l) (same_batches t.count p p' senders refl refl)))
      was.holding (small, was.below) was.held was.within was.alone

-- what a cell's clauses see of a seat
abbrev pub shown : BatchMine → NodeRoom → List ℕ → CellState
shown m room looked = record { part = part_in m.0; seen = m.0.seen; room = room; looked = looked }

-- what a probe tells
pub probe_tells : {l : List ℕ} (i i' k to found : ℕ) (me me' : BatchMine) (room room' : NodeRoom) (old : CellState) → shown me room l ≡ old → has_number (part_in me.0).probed to ≡ false → found ≡ 0 → i' ≡ i →
    me' ≡ (change_part (probe_part to) (saw i' found me.0), (k, []) ∷ me.1) → IsProbed i to old (shown me' room' l)
probe_tells {l} i i' k to found me me' room room' old view absent zero_found at done =
    let new = shown me' room' l in
    let is : IsProbed i to (shown me room l) new = subst (λ (b : Bool). MatchBool b ((new.part ≡ part_in me.0) × (new.seen ≡ me.0.seen)) ((new.part ≡ probe_part to (part_in me.0)) × (new.seen ≡ me.0.seen ++ (i, 0) ∷ []))) (sym absent)
    (ap (λ (m : BatchMine). part_in m.0) done, ap (λ (m : BatchMine). m.0.seen) done ∙ (λ j. me.0.seen ++ (at j, zero_found j) ∷ [])) in
    subst (λ (o : CellState). IsProbed i to o new) view is

-- what a load tells
pub load_tells : {l l' : List ℕ} (i i' found : ℕ) (me me' : BatchMine) (room room' : NodeRoom) (old : CellState) → shown me room l ≡ old → room' ≡ room → l' ≡ l → i' ≡ i → me' ≡ (saw i' found me.0, me.1) → HasSeen i found old (shown me' room' l')
load_tells {l} {l'} i i' found me me' room room' old view kept still at done =
    subst (λ (o : CellState). HasSeen i found o (shown me' room' l')) view (record {
      part = ap (λ (m : BatchMine). part_in m.0) done;
      room = kept;
      looked = still;
      seen = ap (λ (m : BatchMine). m.0.seen) done ∙ ap (λ (z : ℕ). me.0.seen ++ (z, found) ∷ []) at;
    })

-- messages that wait, as a post takes them
post_split : (r : Bool) (box : List Message) → not (nat_eq (length box) 0) ≡ true →
    (x : Message) × (xs : List Message) × ((if r then box else option_to_list (first_of box)) ≡ x ∷ xs) × (box ≡ x ∷ xs ++ (if r then [] else rest_of box)) × (not r ≡ true → xs ≡ [])
unfolding first_of rest_of
post_split r [] e = absurd cc
post_split true (x ∷ xs) e = (x, xs, refl, sym (append-nil (x ∷ xs)), λ h. absurd cc)
post_split false (x ∷ xs) e = (x, [], refl, refl, λ h. refl)

-- the step of a post
pub post_may : (t : TableName) (id word : ℕ) (m : BatchMine) (node to : ℕ) (told : Tells) → IsPicked told (posted t to) → m.0.parts ≡ part_in m.0 ∷ [] → (part_in m.0).node ≡ node → to < t.count →
    has_number (part_in m.0).probed to ≡ true → m.0.announced ≡ Some to → has_mail_for (part_in m.0).state to ≡ true → m.1 ≡ (slot_of t node to, posted_batch t to (part_in m.0).state) ∷ rest m.1 →
    mail_word t node to ≡ word → Keeps t.reuses t.count t.size t.id.slots id m word (λ _. 1) (λ _. told m 1)
post_may t id word m node to told picked whole is small has announced mail slot at s r deep there low =
    let p = part_in m.0 in
    let w = post_split t.reuses (outbox p.state to) mail in
    let may = posts (not t.reuses) t.reuses t.count t.size t.id.slots id (mail_word t node to) (slot_of t node to) to m p w.0 w.1 (posted_rest t to p.state) (rest m.1) whole (ap (λ (k : ℕ). k * t.count + to) (sym is)) refl small has announced w.3 w.4
    (slot ∙ ap (λ (b : Batch). (slot_of t node to, b) ∷ rest m.1) w.2) in
    let h = subst (λ (i : ℕ). Keeps t.reuses t.count t.size t.id.slots id m i (λ _. 1) (λ n m'. m' ≡ (change_part (posted_part t to) m.0, rest m.1))) at may s r deep there low in
    (h.0, h.1, h.2, h.3, picked.said m 1 _ h.4)

-- the step of a look
pub look_may : (t : TableName) (id word : ℕ) (m : BatchMine) (node from : ℕ) (told : Tells) → IsPicked told (looked (not t.reuses) (mail_word t from node) (slot_of t from node) from) → m.0.parts ≡ part_in m.0 ∷ [] → (part_in m.0).node ≡ node → from < t.count →
    (part_in m.0).state.hand ≡ None → mail_word t from node ≡ word → Keeps t.reuses t.count t.size t.id.slots id m word (λ n. either (eqb n 1) 2 n) (told m)
look_may t id word m node sender told picked whole is small idle at =
    let tells = looked (not t.reuses) (mail_word t sender node) (slot_of t sender node) sender in
    may_by t.reuses t.count t.size t.id.slots id m word (λ n. either (eqb n 1) 2 n) told tells picked
    (subst (λ (i : ℕ). Keeps t.reuses t.count t.size t.id.slots id m i (λ n. either (eqb n 1) 2 n) (tells m)) at
    (looks (not t.reuses) t.reuses t.count t.size t.id.slots id (mail_word t sender node) (slot_of t sender node) sender m (part_in m.0) whole (ap (λ (k : ℕ). sender * t.count + k) (sym is)) refl small idle))

-- a batch of which something is left, and one of which nothing is
pub has_more : (b : Batch) → not (nat_eq (length b) 0) ≡ true → (x : Message) × (xs : List Message) × (b ≡ x ∷ xs)
has_more [] e = absurd cc
has_more (x ∷ xs) e = (x, xs, refl)

pub has_none : (b : Batch) → not (nat_eq (length b) 0) ≡ false → b ≡ []
has_none [] e = refl
has_none (x ∷ xs) e = absurd (let more : nat_eq (suc (length xs)) 0 ≡ false = grind (arith, nat_tests) in let both = sym (ap not more) ∙ e in cc)

-- the step of a look at what is left of a batch
pub look_on_may : (t : TableName) (id word : ℕ) (m : BatchMine) (from : ℕ) (told : Tells) → IsPicked told (touched (looked_on_part from)) → m.0.parts ≡ part_in m.0 ∷ [] → from < t.count →
    (part_in m.0).state.hand ≡ None → has_batch (part_in m.0) from ≡ true → Keeps t.reuses t.count t.size t.id.slots id m word (λ n. n) (told m)
look_on_may t id word m sender told picked whole small idle left =
    let p = part_in m.0 in
    let w = has_more (batch_from p sender) left in
    may_by t.reuses t.count t.size t.id.slots id m word (λ n. n) told (touched (looked_on_part sender)) picked
    (subst (λ (b : Batch). Keeps t.reuses t.count t.size t.id.slots id m word (λ n. n) (λ n m'. m' ≡ (with_part (part_looked_on sender b p) m.0, m.1))) (sym w.2)
    (looks_at_what_is_left (not t.reuses) t.reuses t.count t.size t.id.slots id word sender m p w.0 w.1 whole small idle w.2))

-- the source that is known of a message in hand is the one that it has by the rule
source_known : (t : TableName) (id : ℕ) (m : BatchMine) (from : ℕ) (source : Option ℕ) (x : Message) → m.0.parts ≡ part_in m.0 ∷ [] → (part_in m.0).state.hand ≡ Some from → (part_in m.0).message ≡ Some x → IsKnown t.size from x source →
    (s : BatchSt) → Batched t.count t.size (not t.reuses) s → get_elem? s.views id ≡ some m.0 → source ≡ trusted from x
source_known t id m sender source x whole hand message known s r there = known (inside (old_word x) refl)
  where
    inside : (o : Option ℕ) → old_word x ≡ o → IfSome o (λ old. old < t.size)
    inside None e = tt
    inside (Some old) e = old_links_words t.count t.size (not t.reuses) s r id m.0 0 (part_in m.0) there (ap (λ (l : List Part). get_elem? l 0) whole) sender old x hand message e

-- the part once it is handled
handed_as : (from : ℕ) (source : Option ℕ) (x : Message) (p : Part) → source ≡ trusted from x → p.message ≡ Some x → hand_part from (trusted from x) x p ≡ handed_part from source p
handed_as sender source x p trust message = ap (λ (o : Option ℕ). hand_part sender o x p) (sym trust) ∙ ap (λ (o : Option Message). part_handed sender source o p) (sym message)

-- the step of a hand of the last message of a batch
pub hand_may : (t : TableName) (id word : ℕ) (m : BatchMine) (node from : ℕ) (source : Option ℕ) (told : Tells) → IsPicked told (handed from source) → m.0.parts ≡ part_in m.0 ∷ [] → (part_in m.0).node ≡ node →
    (part_in m.0).state.hand ≡ Some from → (x : Message) → (part_in m.0).message ≡ Some x → message_lacks_serials (part_in m.0).state from x source ≡ false → IsKnown t.size from x source → has_batch (part_in m.0) from ≡ false →
    m.1 ≡ (slot_of t from node, []) ∷ rest m.1 → mail_word t from node ≡ word → Keeps t.reuses t.count t.size t.id.slots id m word (λ _. 0) (λ _. told m 0)
hand_may t id word m node sender source told picked whole is hand x message serials known spent slot at s r deep there low =
    let p = part_in m.0 in
    let trust = source_known t id m sender source x whole hand message known s r there in
    let lacks = subst (λ (o : Option ℕ). message_lacks_serials p.state sender x o ≡ false) trust serials in
    let may = hands (not t.reuses) t.reuses t.count t.size t.id.slots id (mail_word t sender node) (slot_of t sender node) sender m p x (rest m.1) whole (ap (λ (k : ℕ). sender * t.count + k) (sym is)) refl (has_none (batch_from p sender) spent) hand message lacks slot in
    let h = subst (λ (i : ℕ). Keeps t.reuses t.count t.size t.id.slots id m i (λ _. 0) (λ n m'. m' ≡ (change_part (hand_part sender (trusted sender x) x) m.0, rest m.1))) at may s r deep there low in
    (h.0, h.1, h.2, h.3, picked.said m 0 _ (h.4 ∙ ap (λ (q : Part). (with_part q m.0, rest m.1)) (handed_as sender source x p trust message)))

-- and of one behind which others stand
pub hand_on_may : (t : TableName) (id word : ℕ) (m : BatchMine) (from : ℕ) (source : Option ℕ) (told : Tells) → IsPicked told (touched (handed_part from source)) → m.0.parts ≡ part_in m.0 ∷ [] →
    (part_in m.0).state.hand ≡ Some from → (x : Message) → (part_in m.0).message ≡ Some x → message_lacks_serials (part_in m.0).state from x source ≡ false → IsKnown t.size from x source → has_batch (part_in m.0) from ≡ true →
    Keeps t.reuses t.count t.size t.id.slots id m word (λ n. n) (told m)
hand_on_may t id word m sender source told picked whole hand x message serials known left s r deep there low =
    let p = part_in m.0 in
    let trust = source_known t id m sender source x whole hand message known s r there in
    let lacks = subst (λ (o : Option ℕ). message_lacks_serials p.state sender x o ≡ false) trust serials in
    let w = has_more (batch_from p sender) left in
    let h = hands_with_more_left (not t.reuses) t.reuses t.count t.size t.id.slots id word sender m p x w.0 w.1 whole w.2 hand message lacks s r deep there low in
    (h.0, h.1, h.2, h.3, picked.said m _ _ (h.4 ∙ ap (λ (q : Part). (with_part q m.0, m.1)) (handed_as sender source x p trust message)))

-- the same where the seat may have forgotten what it has announced
pub hand_may_after : (t : TableName) (id word : ℕ) (m m' : BatchMine) (node from : ℕ) (source : Option ℕ) (told : Tells) → IsPicked told (handed from source) → m'.0.parts ≡ m.0.parts → m'.1 ≡ m.1 → m.0.parts ≡ part_in m.0 ∷ [] → (part_in m.0).node ≡ node →
    (part_in m.0).state.hand ≡ Some from → (x : Message) → (part_in m.0).message ≡ Some x → message_lacks_serials (part_in m.0).state from x source ≡ false → IsKnown t.size from x source → has_batch (part_in m.0) from ≡ false →
    m.1 ≡ (slot_of t from node, []) ∷ rest m.1 → mail_word t from node ≡ word → Keeps t.reuses t.count t.size t.id.slots id m' word (λ _. 0) (λ _. told m' 0)
hand_may_after t id word m m' node sender source told picked parts held whole is hand x message serials known spent slot at =
    let v : List Part → View = λ ps. record { parts = ps; seen = m'.0.seen; announced = m'.0.announced; caller = m'.0.caller } in
    subst (λ (h : List (ℕ × Batch)). Keeps t.reuses t.count t.size t.id.slots id (m'.0, h) word (λ _. 0) (λ _. told (m'.0, h) 0)) (sym held)
    (subst (λ (ps : List Part). Keeps t.reuses t.count t.size t.id.slots id (v ps, m.1) word (λ _. 0) (λ _. told (v ps, m.1) 0)) (sym parts)
    (hand_may t id word (v m.0.parts, m.1) node sender source told picked whole is hand x message serials known spent slot at))

-- the step of a load before a hand
pub source_may : (t : TableName) (id old : ℕ) (m : BatchMine) (from : ℕ) (told : Tells) → IsPicked told (sourced old from) → m.0.parts ≡ part_in m.0 ∷ [] → (part_in m.0).state.hand ≡ Some from →
    (x : Message) → (part_in m.0).message ≡ Some x → old_word x ≡ Some old → old < t.size → Keeps t.reuses t.count t.size t.id.slots id m old (λ n. n) (told m)
source_may t id old m sender told picked whole hand x message named small =
    may_by t.reuses t.count t.size t.id.slots id m old (λ n. n) told (sourced old sender) picked
    (λ s r deep there low.
    let h = loads_for_hand (not t.reuses) t.reuses t.count t.size t.id.slots id sender old m (part_in m.0) x whole hand message named s r deep there low in
    (h.0, h.1, h.2, h.3, (links_words t.count t.size (not t.reuses) s r old small, h.4.0, h.4.1)))

-- what a look tells that found a full mailbox
pub look_tells : {l : List ℕ} (i i' k sender found : ℕ) (x : Message) (xs : List Message) (me m1 m3 : BatchMine) (room room' : NodeRoom) (old : CellState) → shown me room l ≡ old → found ≡ 1 → i' ≡ i → has_batch (part_in me.0) sender ≡ false →
    m1 ≡ (change_part (looked_part sender x xs) (saw i' found me.0), (k, x ∷ xs) ∷ me.1) → m3.0 ≡ m1.0 → HasTaken i sender old (shown m3 room' l)
look_tells {l} i i' k sender found x xs me m1 m3 room room' old view one at none done same =
    let new = shown m3 room' l in
    let here : HasTaken i sender (shown me room l) new = (
      x,
      xs,
      ap part_in same ∙ ap (λ (m : BatchMine). part_in m.0) done,
      subst (λ (b : Bool). MatchBool b ((batch_from (part_in me.0) sender ≡ x ∷ xs) × (new.seen ≡ me.0.seen)) (new.seen ≡ me.0.seen ++ (i, 1) ∷ [])) (sym none)
          (ap (λ (v : View). v.seen) same ∙ (ap (λ (m : BatchMine). m.0.seen) done ∙ (λ j. me.0.seen ++ (at j, one j) ∷ []))),
    ) in
    subst (λ (o : CellState). HasTaken i sender o new) view here

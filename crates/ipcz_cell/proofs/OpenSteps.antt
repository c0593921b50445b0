-- The loads of the claim count and of link words, and the steps of an open.
use Rattle.std.specs.Prelude.{not, ◌≡◌, ◌<◌, ◌+◌, ℕ, Bool, true, false, List, [], ◌∷◌, ◌++◌, Option, Some, None, Result, Ok, Err, eqb, is_some, ◌==◌, ◌||◌, ◌&&◌}
use Rattle.std.proofs.Common.{ap, sym, subst, ◌∙◌, refl, arith, append_assoc, ⊎_elim}
use Rattle.std.proofs.lemmas.Bool.Decides.{nat_tests}
use prog.Atomic.{either}
use Rattle.atomic_table.specs.Seated.{TableId}
use Rattle.ipcz_base.specs.declared.end.End.{End}
use Rattle.ipcz_base.specs.declared.message.Message.{Message}
use Rattle.ipcz_base.specs.declared.refusal.Refusal.{Refusal}
use Rattle.ipcz_base.specs.Limits.{has_serials}
use Rattle.ipcz_word.specs.Word.{open_word}
use Rattle.ipcz_word.specs.Layout.{bits_of, sets_bits, source_bits}
use Rattle.ipcz_word.specs.SideSets.{has, both, none as no_sides}
use Rattle.ipcz_node.specs.Node.{Node}
use Rattle.ipcz_node.specs.Calls.{serials_refusal}
use Rattle.ipcz_node.specs.RoomyNodes.{CanOpen, RoomyNode, NodeRoom}
use Rattle.ipcz_rule.specs.declared.view.Part.{Part}
use Rattle.ipcz_rule.specs.Batches.{BatchMine}
use Rattle.ipcz_rule.specs.Steps.{claimed_part, open_part}
use Rattle.ipcz_rule.proofs.BatchPlainKinds.{loads, opens}
use Rattle.ipcz_cell.specs.TableNames.{TableName}
use Rattle.ipcz_cell.specs.CellStates.{CellState, part_in, change_part, roomy}
use Rattle.ipcz_cell.specs.Cells.{AreSound, IsCell}
use Rattle.ipcz_cell.specs.Outcomes.{loaded}
use Rattle.ipcz_cell.specs.Mails.{HasSeen, mail_word}
use Rattle.ipcz_cell.specs.Claims.{AreReached, FindsNone}
use Rattle.ipcz_cell.specs.Opens.{count_loaded, word_loaded, opened, ClaimsAt, ClaimsForOpen, Claimed, Slotless, Outrun, OpensWord, claimed_for_open}
use Rattle.ipcz_cell.specs.Opens.{box_loads, FindsFree}
use Rattle.ipcz_cell.proofs.Seating.{KeepsHands, reseated, touched_cell}
use Rattle.ipcz_cell.proofs.Counting.{counts_told}
use Rattle.ipcz_cell.proofs.Wording.{words_told}
use Rattle.ipcz_cell.specs.Seats.{Keeps}

pub count_load_may : (t : TableName) (id word : ℕ) (m : BatchMine) → m.0.parts ≡ part_in m.0 ∷ [] → t.size ≡ word →
    Keeps t.reuses t.count t.size t.id.slots id m word (λ n. n) (count_loaded t.size m)
count_load_may t id word m whole at =
    subst (λ (i : ℕ). Keeps t.reuses t.count t.size t.id.slots id m i (λ n. n) (count_loaded t.size m)) at
    (counts_told t.reuses t.count t.size t.id.slots id m (λ n. n) (loaded t.size m) (loads (not t.reuses) t.reuses t.count t.size t.id.slots id t.size m (part_in m.0) whole))

pub word_load_may : (t : TableName) (id i : ℕ) (m : BatchMine) → m.0.parts ≡ part_in m.0 ∷ [] → i < t.size →
    Keeps t.reuses t.count t.size t.id.slots id m i (λ n. n) (word_loaded i m)
word_load_may t id i m whole inside =
    let told = words_told t.reuses t.count t.size t.id.slots id i None m (λ n. n) (loaded i m) inside (λ s r at. tt) (loads (not t.reuses) t.reuses t.count t.size t.id.slots id i m (part_in m.0) whole) in
    λ s r deep at small. let h = told s r deep at small in (h.0, h.1, h.2, h.3, (h.4.0, h.4.2))

open_bits : bits_of open_word ≡ 3
unfolding open_word bits_of sets_bits source_bits has both no_sides
open_bits = refl

pub open_may : (t : TableName) (id i : ℕ) (m : BatchMine) → m.0.parts ≡ part_in m.0 ∷ [] → (part_in m.0).state.opening ≡ Some i → serials_refusal (part_in m.0).state ≡ None →
    Keeps t.reuses t.count t.size t.id.slots id m i (λ n. either (eqb n 0) 3 n) (opened i m)
open_may t id i m whole is fine =
    subst (λ (w : ℕ). Keeps t.reuses t.count t.size t.id.slots id m i (λ n. either (eqb n 0) w n) (opened i m)) open_bits
    (opens (not t.reuses) t.reuses t.count t.size t.id.slots id i m (part_in m.0) whole is fine)

-- a node with room for a pair has the serials for it
pub serials_left : (k : RoomyNode) → CanOpen k → serials_refusal k.node ≡ None
serials_left k can = let yes : has_serials k.node.next_router 2 ≡ true = grind (arith, nat_tests, can.1) in rw yes refl

module _ (t : TableName) (n : Node) (hand : Option Message) (tos senders : List ℕ) (id : TableId) (me : BatchMine) (was : IsCell t n hand tos senders id me) (id' : TableId) (me' : BatchMine) (same : id' ≡ id) (sound : AreSound t.count t.size me'.0) where
  -- a cell after a change of its part that leaves the hand, and steps that have seen something
  pub changed_cell : (f : Part → Part) (seen : List (ℕ × ℕ)) (n' : Node) → me' ≡ (change_part f (record { parts = me.0.parts; seen = seen; announced = None; caller = me.0.caller }), me.1) →
      (f (part_in me.0)).state ≡ n' → KeepsHands (part_in me.0) (f (part_in me.0)) → IsCell t n' hand tos senders id' me'
  changed_cell f seen n' done state keeps =
      let v' = change_part f (record { parts = me.0.parts; seen = seen; announced = None; caller = me.0.caller }) in
      touched_cell t n n' hand tos senders id id' me me' (f (part_in me.0)) v' was
      (reseated t n id me was.seated n' id' me' (f (part_in me.0)) v' me.1 same done refl state sound) done refl keeps

-- a claim for an open leaves the hand, and so does an open
pub claim_keeps : (c : ℕ) (p : Part) → KeepsHands p (claimed_part c p)
claim_keeps c p = record { node = refl; hand = refl; message = refl; probed = refl; batches = refl }

pub open_keeps : (i : ℕ) (p : Part) → KeepsHands p (open_part i p)
open_keeps i p = record { node = refl; hand = refl; message = refl; probed = refl; batches = refl }

-- a load of the claim count, and then an exchange of it
pub for_open : (t : TableName) (c : ℕ) (s0 s1 s2 : CellState) (answer : Result ℕ Refusal) → c < t.size → AreReached t.size s0.seen c → HasSeen t.size c s0 s1 → ClaimsAt t c s1 answer s2 → ClaimsForOpen t s0 s2 answer
for_open t c s0 s1 s2 (Ok w) few reached load at =
    Claimed c w refl at.0 reached (at.1 ∙ ap (claimed_part w) load.part) (at.2 ∙ ap (λ l. l ++ (t.size, w) ∷ []) load.seen)
for_open t c s0 s1 s2 (Err e) few reached load at = ⊎_elim
    (λ lost. Outrun c lost.1.0 (ap Err lost.0) lost.1.1 (lost.1.2 ∙ load.part) (lost.1.3 ∙ ap (λ l. l ++ (t.size, lost.1.0) ∷ []) load.seen))
    (λ none. Slotless c (ap Err none.0) none.1.reuses few (none.1.part ∙ load.part) (none.1.seen ∙ load.seen) (subst (λ (l : List ℕ). FindsNone t c l s2.looked) load.looked none.1.none))
    at

-- a load of one mailbox, and then of the others
pub one_more : (t : TableName) (from n : ℕ) (s0 s1 s2 : CellState) (rest : Bool) → HasSeen (mail_word t from s0.part.node) n s0 s1 → FindsFree t (from + 1) s1 rest s2 →
    FindsFree t from s0 ((n == 0 || n == 3) && rest) s2
one_more t from n s0 s1 s2 rest load more = record {
  found = n ∷ more.found;
  many = let others = more.many in omega (arith, others);
  answer_is = ap (λ (b : Bool). (n == 0 || n == 3) && b) more.answer_is;
  part = more.part ∙ load.part;
  room = more.room ∙ load.room;
  seen = more.seen ∙ ((λ j. load.seen j ++ box_loads t (load.part j).node (from + 1) more.found) ∙
      append_assoc s0.seen ((mail_word t from s0.part.node, n) ∷ []) (box_loads t s0.part.node (from + 1) more.found));
}

-- the room of a cell, at its own state
pub ready_here : {l : List ℕ} (n : Node) (room : NodeRoom) (me : BatchMine) (old : CellState) → record { part = part_in me.0; seen = me.0.seen; room = room; looked = l } ≡ old → (part_in me.0).state ≡ n → CanOpen (roomy old) →
    CanOpen (record { node = n; room = room })
ready_here {l} n room me old view state can =
    subst (λ (z : Node). CanOpen (record { node = z; room = room })) state (subst (λ (o : CellState). CanOpen (roomy o)) (sym view) can)

-- no open is under way
pub no_open : (o : Option ℕ) → is_some o ≡ false → o ≡ None
no_open None e = refl
no_open (Some i) e = cc

-- an open, from a cell of the same part that has seen the same
pub same_open : (s0 s1 s2 : CellState) (ends : End × End) → s1.part ≡ s0.part → s1.seen ≡ s0.seen → OpensWord s1 ends s2 → OpensWord s0 ends s2
same_open s0 s1 s2 ends part seen how = record {
  word = how.word;
  under_way = ap (λ (p : Part). p.state.opening) (sym part) ∙ how.under_way;
  ends_are = how.ends_are;
  part = how.part ∙ ap (open_part how.word) part;
  seen = how.seen ∙ ap (λ l. l ++ (how.word, 0) ∷ []) seen;
}

-- a load of the claim count, an exchange of it, and an open
pub fresh_open : (t : TableName) (c n : ℕ) (s0 s1 s2 s3 s4 : CellState) (ends : End × End) → HasSeen t.size c s0 s1 → s2.part ≡ s1.part → s2.seen ≡ s1.seen →
    ClaimsAt t c s2 (Ok n) s3 → OpensWord s3 ends s4 → OpensWord (claimed_for_open t.size c n s0) ends s4
fresh_open t c n s0 s1 s2 s3 s4 ends load part seen claim how =
    same_open (claimed_for_open t.size c n s0) s3 s4 ends (claim.1 ∙ ap (claimed_part n) (part ∙ load.part))
    (claim.2 ∙ ap (λ l. l ++ (t.size, n) ∷ []) (seen ∙ load.seen)) how

-- a cell that may open a pair still may, with a number claimed for it
pub still_ready : (t : TableName) (c n : ℕ) (s2 s3 : CellState) → CanOpen (roomy s2) → ClaimsAt t c s2 (Ok n) s3 → s3.room ≡ s2.room → CanOpen (roomy s3)
still_ready t c n s2 s3 can claim room =
    subst (λ (p : Part). CanOpen (record { node = p.state; room = s3.room })) (sym claim.1)
    (subst (λ (m : NodeRoom). CanOpen (record { node = (claimed_part n s2.part).state; room = m })) (sym room) can)

-- The kinds of step on a table whose link words come back: each out of the rule's own kind, by what is known of who holds which end.
use Rattle.std.specs.Prelude.{◌≡◌, ◌≢◌, ◌⊎◌, ◌≤◌, ◌<◌, ◌+◌, ◌-◌, ℕ, eqb, bit_and, bit_or, Bool, true, false, not, ◌&&◌, ◌||◌, nat_eq, if◌then◌else◌, List, [], ◌∷◌, map, slice_index, Option, Some, None, refl, MatchBool}
use Rattle.std.specs.Int.{bit_at}
use Rattle.std.proofs.Common.{arith, ap, ◌∙◌, sym, subst, inl, ⊎_elim, inr}
use Rattle.std.proofs.lemmas.Bool.Decides.{nat_tests}
use mathlib.Core.Option.{some}
use mathlib.Core.Logic.{dite}
use native.Mathlib.Decide.{dec_lt}
use lib.ListN.{get_elem?}
use Rattle.ipcz_base.specs.declared.side.Side.{Side}
use Rattle.ipcz_base.specs.declared.side.Side.TheVariants.{A, B}
use Rattle.ipcz_base.specs.declared.link_id.LinkId.{LinkId}
use Rattle.ipcz_base.specs.declared.link_id.LinkId.TheVariants.{Central, Peripheral}
use Rattle.ipcz_base.specs.declared.link_end.LinkEnd.{LinkEnd}
use Rattle.ipcz_base.specs.declared.message.Message.{Message}
use Rattle.ipcz_base.specs.declared.message.Message.TheVariants as messages
use Rattle.ipcz_base.specs.Links.{word_of, has_link}
use Rattle.ipcz_base.specs.Sides.{same_side, opposite}
use Rattle.ipcz_word.specs.Word.{empty_word, plan_of}
use Rattle.ipcz_word.specs.SideSets.{has, none as no_sides}
use Rattle.ipcz_word.specs.Layout.{bits_of, sets_bits, source_bits, word_of_bits, stable_bit, waiting_bit, locked_bit}
use Rattle.ipcz_world.specs.WordAnswers.{word_after}
use Rattle.ipcz_router.specs.declared.act.Answer.TheVariants as answers
use prog.Atomic.{either}
use Rattle.ipcz_router.specs.Router.{Router, primary_word, router_has, source_of}
use Rattle.ipcz_router.specs.ActEffects.{leaves_by}
use Rattle.ipcz_router.specs.LettingGo.{word_end, first_of, edge_end, let_go_end, let_go_spare}
use Rattle.ipcz_router.specs.declared.act.RouterAct.{RouterAct}
use Rattle.ipcz_router.specs.declared.act.RouterAct.TheVariants as router_acts
use Rattle.ipcz_node.specs.declared.act.Act.{Act}
use Rattle.ipcz_node.specs.declared.act.Act.TheVariants as acts
use Rattle.ipcz_node.specs.Node.{Node, router_in}
use Rattle.ipcz_node.specs.Fronts.{behind as in_front}
use Rattle.ipcz_world.specs.World.{World, node_at, word_at, router_at}
use Rattle.ipcz_world.specs.Turns.{message_in_hand}
use Rattle.ipcz_world.specs.Books.{Books}
use Rattle.ipcz_world.specs.Routes.{Routes, hand_of}
use Rattle.ipcz_world.specs.Lawful.{Lawful}
use Rattle.ipcz_world.specs.Records.{Owner, Unclaimed, Linked, is_unclaimed, is_linked}
use Rattle.ipcz_world.specs.Ranks.{AreTurns}
use Rattle.ipcz_world.specs.HeldEnds.{IsEndHeld, ByRouter, router_holds, is_spare, lets_go, OneLetsGo}
use Rattle.ipcz_rule.specs.declared.view.View.{View}
use Rattle.ipcz_rule.specs.declared.view.Part.{Part}
use Rattle.ipcz_rule.specs.Rule.{Spells, with_part, saw, announcing, forgetting}
use Rattle.ipcz_rule.specs.GivenUp.{GivesEnd}
use Rattle.ipcz_rule.specs.Batches.{Batch, BatchSt, BatchMine, Batched, BatchTurns, shown_part, with_batch}
use Rattle.ipcz_rule.specs.BatchKinds.{batch_post_part}
use Rattle.ipcz_rule.specs.Steps.{CanAct, old_word, acted_view, act_part, probe_part, unprobe_part, look_part, hand_part, trusted}
use Rattle.ipcz_rule.specs.Kinds.{Acted, turn_where, is_refusal}
use Rattle.ipcz_slots.specs.Slots.{AreSizes, Laws, Unused}
use Rattle.ipcz_slots.specs.SlotKinds.{Known, LastingSteps, same_own, Keeps, LosesNone, LosesBut, Lives}
use Rattle.ipcz_rule.specs.Lasting.{LeavingLasts, EndLaws, virtual, sizes, side_of, turns_of, own_of, OnSlot, Behind, SlotKindsLast, OtherKindsLast, LettingGoLasts, ReusingLasts}
use Rattle.ipcz_rule.proofs.KeptEnds.{one_keeps, two_keep, where_keeps, mark_keeps, wake_keeps, lock_keeps, unlock_keeps, claim_keeps, gone_is, gives_none}
use Rattle.ipcz_slots.proofs.Folding.{link_steps, other_steps}
use Rattle.ipcz_slots.proofs.Letting.{lets_go as letting}
use Rattle.ipcz_slots.proofs.Reusing.{reclaims, empties}
use Rattle.ipcz_slots.proofs.Returning.{returns_slots}
use Rattle.ipcz_slots.proofs.Discarding.{lets_go_whole as whole}

pub are_sizes : (count limit k : ℕ) → 1 ≤ k → AreSizes (sizes count limit k true)
are_sizes count limit k one = record { some_slot = λ l. one; whole = λ e. absurd (cc); count = omega arith }

-- the claim count that stands in the table is the world's
pub count_is : {alone : Bool} (count limit : ℕ) (t : BatchSt) (r : Batched count limit alone t) → slice_index t.words limit ≡ r.rules.world.claimed
count_is count limit t r = r.folds.words limit (omega arith) ∙ (ap (slice_index r.single.words) (sym r.rules.words) ∙ r.rules.shows.claims)

-- a link word is that of the single table
pub link_same : {alone : Bool} (count limit i : ℕ) (t : BatchSt) (r : Batched count limit alone t) → i < limit → slice_index t.words i ≡ slice_index r.single.words i
link_same count limit i t r l = r.folds.words i (omega (arith, l))

-- an end that is held is of a number that was claimed
pub held_claimed : EndLaws → (w : World) (b : Books) (g : Routes) → Lawful w b g → (i : ℕ) (s : Side) → IsEndHeld w i s → i < w.claimed
held_claimed ends w b g law i s held = dite (dec_lt i w.claimed) (λ l. l) (λ far. absurd (ends.lost w b g i s law (inl (omega (arith, far))) held))

empty_bits : bits_of empty_word ≡ 0
unfolding bits_of sets_bits empty_word has no_sides source_bits
empty_bits = refl

not_linked : (o : Owner) → is_unclaimed o ≡ true → is_linked o ≡ false
unfolding is_unclaimed is_linked
not_linked Unclaimed h = refl
not_linked Linked h = absurd (cc)
not_linked other h = refl

unused_word : (w : World) (b : Books) (g : Routes) → Lawful w b g → (i : ℕ) → w.claimed ≤ i → word_at w i ≡ empty_word
unused_word w b g law i far = (law.inv.words.each i).unused (not_linked (law.records.owner i) (law.inv.counts.unclaimed i ∙ grind (arith, nat_tests, far)))

pub laws_of : EndLaws → (count limit k : ℕ) (reuses : Bool) → Laws (virtual count limit reuses) (sizes count limit k reuses)
laws_of ends count limit k reuses = record {
  fits = λ t r i l. let h = (ends.words count limit r.single r.rules i l).word.small in let e = link_same count limit i t r l in omega (arith, h, e);
  empty = λ t r i far l. let e = count_is count limit t r in link_same count limit i t r l ∙ (r.rules.shows.links i (let z = r.rules.words in omega (arith, z, l)) ∙ (ap bits_of (unused_word r.rules.world r.rules.books r.rules.routes r.rules.lawful i (omega (arith, e, far))) ∙ empty_bits));
  unclaimed = λ t r b i far. let e = count_is count limit t r in ends.lost r.rules.world r.rules.books r.rules.routes i (side_of b) r.rules.lawful (inl (omega (arith, e, far)));
}

-- turns keep an end nowhere
pub kept_by : EndLaws → (count limit k : ℕ) (reuses : Bool) (i : ℕ) (turns : ℕ → List (ℕ × Act)) → Keeps (virtual count limit reuses) (sizes count limit k reuses) (turns_of count limit reuses i turns)
kept_by ends count limit k reuses i turns t r t' r' g b j l gone held =
    ⊎_elim gone (λ far. let e = count_is count limit t r in omega (arith, e, far, l))
    (ends.kept r.rules.world r'.rules.world r.rules.books r'.rules.books r.rules.routes r'.rules.routes (turns (slice_index t.words i)) j (side_of b) r.rules.lawful g held)

-- and where slots are used again they keep an end somewhere, if none of them lets one go
pub loses_none : EndLaws → (count limit k : ℕ) (reuses : Bool) (id i : ℕ) (v : View) (turns : ℕ → List (ℕ × Act)) →
    (reuses ≡ true → (t : BatchSt) (r : Batched count limit (not reuses) t) (t' : BatchSt) (r' : Batched count limit (not reuses) t') → get_elem? t.views id ≡ some v → turns_of count limit reuses i turns t r t' r' →
    (j : ℕ) (s : Side) → OneLetsGo r.rules.world (turns (slice_index t.words i)) j s → ⊥) →
    LosesNone (virtual count limit reuses) (sizes count limit k reuses) id v (turns_of count limit reuses i turns)
loses_none ends count limit k reuses id i v turns none again t r t' r' at g b j l gone held =
    ⊎_elim gone (λ go. none again t r t' r' at g j (side_of b) go)
    (ends.stay r.rules.world r'.rules.world r.rules.books r'.rules.books r.rules.routes r'.rules.routes (turns (slice_index t.words i)) j (side_of b) r.rules.lawful g held)

-- who is held at a side isn't unused
not_unused : (count limit i : ℕ) (reuses : Bool) (t : BatchSt) (r : Batched count limit (not reuses) t) (s : Side) → IsEndHeld r.rules.world i s → Unused (virtual count limit reuses) t r i → ⊥
not_unused count limit i reuses t r A held u = u.0 held
not_unused count limit i reuses t r B held u = u.1 held

-- a number lives if the rule says that one of its ends is held
pub lives_by : EndLaws → (count limit k : ℕ) (reuses : Bool) (id i : ℕ) (v : View) → ((t : BatchSt) (r : Batched count limit (not reuses) t) → get_elem? t.views id ≡ some v → (s : Side) × IsEndHeld r.rules.world i s) →
    Lives (virtual count limit reuses) (sizes count limit k reuses) id v i
lives_by ends count limit k reuses id i v held t r at =
    let h = held t r at in
    let below = held_claimed ends r.rules.world r.rules.books r.rules.routes r.rules.lawful i h.0 h.1 in
    let most = r.rules.lawful.inv.counts.claimed in
    let z = r.rules.words in
    let e = count_is count limit t r in
    (omega (arith, e, below), omega (arith, below, most, z), not_unused count limit i reuses t r h.0 h.1)

same_side_self : (s : Side) → same_side s s ≡ true
same_side_self A = refl
same_side_self B = refl

-- what has a word has its link at some side
link_is : (l : LinkId) (s : Side) (o i : ℕ) → word_of (Some (record { link = l; side = s; other = o })) ≡ Some i → has_link (Some (record { link = l; side = s; other = o })) (Central i) s ≡ true
unfolding word_of has_link
link_is (Central j) s o i h = let e : j ≡ i = cc in let t : nat_eq j i ≡ true = grind (arith, nat_tests, e) in rw t (same_side_self s)
link_is (Peripheral n x) s o i h = absurd (cc)

has_word : (o : Option LinkEnd) (i : ℕ) → word_of o ≡ Some i → (s : Side) × (has_link o (Central i) s ≡ true)
unfolding word_of
has_word None i h = absurd (cc)
has_word (Some e) i h = (e.side, link_is e.link e.side e.other i h)

or_first : (x y : Bool) → x ≡ true → (x || y) ≡ true
or_first true y h = refl
or_first false y h = absurd (cc)

or_second : (x y : Bool) → y ≡ true → (x || y) ≡ true
or_second true y h = refl
or_second false y h = h

and_second : (x y : Bool) → (x && y) ≡ true → y ≡ true
and_second true y h = h
and_second false y h = absurd (cc)

-- the own part stands in the single table behind what is under way of its batches, at the same seat
part_known : {alone : Bool} (count limit id : ℕ) (v : View) (p : Part) → v.parts ≡ p ∷ [] → (t : BatchSt) (r : Batched count limit alone t) → get_elem? t.views id ≡ some v →
    (r.rules.owner p.node ≡ id) × Spells r.single.words r.rules.world (shown_part r.fronts p)
part_known count limit id v p is t r at =
    let h = r.folds.views id v at in
    r.rules.shows.parts id h.0 0 (shown_part r.fronts p) h.1 (ap (λ (l : List Part). get_elem? l 0) (h.2.parts ∙ ap (map (shown_part r.fronts)) is))

pub part_owner : {alone : Bool} (count limit id : ℕ) (v : View) (p : Part) → v.parts ≡ p ∷ [] → (t : BatchSt) (r : Batched count limit alone t) → get_elem? t.views id ≡ some v → r.rules.owner p.node ≡ id
part_owner count limit id v p is t r at = (part_known count limit id v p is t r at).0

pub own_part : {alone : Bool} (count limit id : ℕ) (v : View) (p : Part) → v.parts ≡ p ∷ [] → (t : BatchSt) (r : Batched count limit alone t) → get_elem? t.views id ≡ some v →
    Spells r.single.words r.rules.world (shown_part r.fronts p)
own_part count limit id v p is t r at = (part_known count limit id v p is t r at).1

-- so does the own node
pub node_here : {alone : Bool} (count limit id : ℕ) (v : View) (p : Part) → v.parts ≡ p ∷ [] → (t : BatchSt) (r : Batched count limit alone t) → get_elem? t.views id ≡ some v →
    node_at r.rules.world p.node ≡ in_front (r.fronts p.node) p.state
node_here count limit id v p is t r at = (own_part count limit id v p is t r at).state

-- there an act gives up the same
gives_behind : (fs : List Batch) (x : Node) (act : Act) → GivesEnd x act None → GivesEnd (in_front fs x) act None
gives_behind fs x (acts.Router serial act) h = h
gives_behind fs x other h = h

-- a router of the own node holds the end
pub router_here : {alone : Bool} (count limit id : ℕ) (v : View) (p : Part) (serial : ℕ) (rt : Router) → v.parts ≡ p ∷ [] → router_in p.state serial ≡ Some rt →
    (t : BatchSt) (r : Batched count limit alone t) → get_elem? t.views id ≡ some v → router_at r.rules.world (record { node = p.node; serial = serial }) ≡ Some rt
unfolding router_at
router_here count limit id v p serial rt is there t r at =
    ap (λ (y : Node). router_in y serial) (own_part count limit id v p is t r at).state ∙ there

pub router_lives : EndLaws → (count limit k : ℕ) (reuses : Bool) (id i : ℕ) (v : View) (p : Part) (serial : ℕ) (rt : Router) (act : RouterAct) → v.parts ≡ p ∷ [] → CanAct p.state serial rt act → primary_word rt ≡ Some i →
    Lives (virtual count limit reuses) (sizes count limit k reuses) id v i
router_lives ends count limit k reuses id i v p serial rt act is can primary = lives_by ends count limit k reuses id i v (λ t r at.
    let h = has_word rt.outward.primary i primary in
    let has : router_has rt (Central i) h.0 ≡ true = or_first _ _ (or_first _ _ h.1) in
    (h.0, ByRouter (record { node = p.node; serial = serial }) rt (router_here count limit id v p serial rt is can.there t r at) (or_first _ _ has)))

hand_opens : (w : World) (n from : ℕ) (h : Option ℕ) → h ≡ Some from → message_in_hand w n from ≡ hand_of w n h
unfolding hand_of
hand_opens w n from h e = ap (hand_of w n) (sym e)

-- an AcceptBypass in hand: its old link is held
pub old_lives : EndLaws → (count limit k : ℕ) (reuses : Bool) (id from old : ℕ) (v : View) (p : Part) (x : Message) → v.parts ≡ p ∷ [] → p.state.hand ≡ Some from → p.message ≡ Some x → old_word x ≡ Some old →
    Lives (virtual count limit reuses) (sizes count limit k reuses) id v old
old_lives ends count limit k reuses id from old v p x is hand message named = lives_by ends count limit k reuses id old v (λ t r at. by x message named t r at)
  where
    by : (x : Message) → p.message ≡ Some x → old_word x ≡ Some old → (t : BatchSt) (r : Batched count limit (not reuses) t) → get_elem? t.views id ≡ some v → (s : Side) × IsEndHeld r.rules.world old s
    by (messages.AcceptBypass o side fresh length) message named t r at =
        let sp = own_part count limit id v p is t r at in
        let e : o ≡ old = cc in
        let in_hand : (node_at r.rules.world p.node).hand ≡ Some from = ap (λ (y : Node). y.hand) sp.state ∙ hand in
        let there : message_in_hand r.rules.world p.node from ≡ Some (messages.AcceptBypass o side fresh length) = hand_opens r.rules.world p.node from p.state.hand hand ∙ (sp.message ∙ message) in
        (side, subst (λ (q : ℕ). IsEndHeld r.rules.world q side) e (ends.accepted r.rules.world r.rules.books r.rules.routes p.node from o side fresh length r.rules.lawful sp.inside (r.rules.lawful.inv.counts.hand_from p.node from sp.inside in_hand) there))
    by other message named t r at = absurd (cc)

-- a step on the word of a number that lives
on_slot : EndLaws → (k : ℕ) (reuses : Bool) (dirty free looked : List ℕ) → (count limit slots id : ℕ) (m : BatchMine) (i : ℕ) (f : ℕ → ℕ) (turns : ℕ → List (ℕ × Act)) (told : ℕ → BatchMine → Type 0) →
    ((w : World) (n j : ℕ) (s : Side) → OneLetsGo w (turns n) j s → ⊥) →
    Lives (virtual count limit reuses) (sizes count limit k reuses) id m.0 i → BatchTurns (not reuses) count limit slots id m i f turns told → OnSlot k reuses dirty free looked count limit slots id m i f turns told
on_slot ends k reuses dirty free looked count limit slots id m i f turns told none lives steps areas =
    link_steps (virtual count limit reuses) (sizes count limit k reuses) (laws_of ends count limit k reuses) areas (turns_of count limit reuses i turns) slots id (own_of m.0 dirty free looked) m.1 i f told
    (kept_by ends count limit k reuses i turns) (loses_none ends count limit k reuses id i m.0 turns (λ again t r t' r' at g. none r.rules.world (slice_index t.words i))) (inl lives) steps

-- a step behind the link words, which leaves the claim count
pub behind : EndLaws → (k : ℕ) (reuses : Bool) (dirty free looked : List ℕ) → (count limit slots id : ℕ) (m : BatchMine) (i : ℕ) (f : ℕ → ℕ) (turns : ℕ → List (ℕ × Act)) (told : ℕ → BatchMine → Type 0) →
    (reuses ≡ true → (t : BatchSt) (r : Batched count limit (not reuses) t) (t' : BatchSt) (r' : Batched count limit (not reuses) t') → get_elem? t.views id ≡ some m.0 → (n : ℕ) →
    AreTurns r.rules.world r.rules.books r.rules.routes (turns n) r'.rules.world r'.rules.books r'.rules.routes → (j : ℕ) (s : Side) → OneLetsGo r.rules.world (turns n) j s → ⊥) →
    (i ≡ limit → (n : ℕ) → f n ≡ n) → BatchTurns (not reuses) count limit slots id m i f turns told → Behind k reuses dirty free looked count limit slots id m i f turns told
behind ends k reuses dirty free looked count limit slots id m i f turns told none leaves steps areas j e inside =
    let x = virtual count limit reuses in
    let z = sizes count limit k reuses in
    subst (λ (q : ℕ). LastingSteps x z (turns_of count limit reuses q turns) slots id (own_of m.0 dirty free looked, m.1) (k + j) f (same_own (own_of m.0 dirty free looked) told)) (sym e)
    (other_steps x z (laws_of ends count limit k reuses) areas (turns_of count limit reuses (limit + j) turns) slots id (own_of m.0 dirty free looked) m.1 j f told
    (kept_by ends count limit k reuses (limit + j) turns)
    (loses_none ends count limit k reuses id (limit + j) m.0 turns (λ again t r t' r' at g. none again t r t' r' at (slice_index t.words (limit + j)) g)) inside (λ n h. leaves (omega (arith, e, h)) n) (subst (λ (q : ℕ). BatchTurns (not reuses) count limit slots id m q f turns told) e steps))

far : (f : ℕ → ℕ) (i limit count b : ℕ) → i ≡ limit + 1 + count + b → i ≡ limit → (n : ℕ) → f n ≡ n
far f i limit count b word e n = absurd (omega (arith, e, word))

behind_count : (f : ℕ → ℕ) (i limit to : ℕ) → i ≡ limit + 1 + to → i ≡ limit → (n : ℕ) → f n ≡ n
behind_count f i limit to word e n = absurd (omega (arith, e, word))

pub slot_kinds : SlotKindsLast
slot_kinds ends k reuses dirty free looked = (
  (λ old count limit slots id i m p serial rt is can primary. on_slot ends k reuses dirty free looked count limit slots id m i (λ n. bit_or n (stable_bit rt.end.side)) (λ n. (p.node, acts.Router serial router_acts.Mark) ∷ []) (λ n m'. m' ≡ (acted_view i n serial rt.end.side (source_of rt) router_acts.Mark p m.0, m.1)) (λ w n. one_keeps w p.node (acts.Router serial router_acts.Mark) (mark_keeps serial)) (router_lives ends count limit k reuses id i m.0 p serial rt router_acts.Mark is can primary) (old count limit slots id i m p serial rt is can primary)),
  (λ old count limit slots id i m p serial rt is can primary. on_slot ends k reuses dirty free looked count limit slots id m i (λ n. bit_and n (18446744073709551615 - waiting_bit (opposite rt.end.side))) (λ n. (p.node, acts.Router serial router_acts.Wake) ∷ []) (λ n m'. m' ≡ (acted_view i n serial rt.end.side (source_of rt) router_acts.Wake p m.0, m.1)) (λ w n. one_keeps w p.node (acts.Router serial router_acts.Wake) (wake_keeps serial)) (router_lives ends count limit k reuses id i m.0 p serial rt router_acts.Wake is can primary) (old count limit slots id i m p serial rt is can primary)),
  (λ old count limit slots id i m p serial rt is can primary. on_slot ends k reuses dirty free looked count limit slots id m i (λ n. bit_and n (18446744073709486335 - locked_bit rt.end.side)) (λ n. (p.node, acts.Router serial router_acts.Unlock) ∷ []) (λ n m'. m' ≡ (acted_view i n serial rt.end.side (source_of rt) router_acts.Unlock p m.0, m.1)) (λ w n. one_keeps w p.node (acts.Router serial router_acts.Unlock) (unlock_keeps serial)) (router_lives ends count limit k reuses id i m.0 p serial rt router_acts.Unlock is can primary) (old count limit slots id i m p serial rt is can primary)),
  (λ old count limit slots id i o m p serial rt is can primary. on_slot ends k reuses dirty free looked count limit slots id m i (λ n. either (eqb n o) (bits_of (word_after (word_of_bits o) rt.end.side (source_of rt) router_acts.Lock)) n) (λ n. turn_where (eqb n o) p.node (acts.Router serial router_acts.Lock)) (Acted i serial rt router_acts.Lock (λ n. eqb n o) m p) (λ w n. where_keeps (eqb n o) w p.node (acts.Router serial router_acts.Lock) (lock_keeps serial)) (router_lives ends count limit k reuses id i m.0 p serial rt router_acts.Lock is can primary) (old count limit slots id i o m p serial rt is can primary)),
  (λ old count limit slots id i m p serial rt is can primary. on_slot ends k reuses dirty free looked count limit slots id m i (λ n. n) (λ n. turn_where (is_refusal (plan_of (word_of_bits n) rt.end.side)) p.node (acts.Router serial router_acts.Lock)) (Acted i serial rt router_acts.Lock (λ n. is_refusal (plan_of (word_of_bits n) rt.end.side)) m p) (λ w n. where_keeps (is_refusal (plan_of (word_of_bits n) rt.end.side)) w p.node (acts.Router serial router_acts.Lock) (lock_keeps serial)) (router_lives ends count limit k reuses id i m.0 p serial rt router_acts.Lock is can primary) (old count limit slots id i m p serial rt is can primary)),
  (λ old count limit slots id from o m p x is hand message named. on_slot ends k reuses dirty free looked count limit slots id m o (λ n. n) (λ n. []) (λ n m'. ((word_of_bits n).source ≡ Some from) × (m' ≡ (saw o n m.0, m.1))) (λ w n j s g. g) (old_lives ends count limit k reuses id from o m.0 p x is hand message named) (old count limit slots id from o m p x is hand message named)),
)

pub other_kinds : OtherKindsLast
other_kinds ends k reuses dirty free looked = (
  (λ old count limit slots id i m p act is touch possible serials none. behind ends k reuses dirty free looked count limit slots id m i (λ n. n) (λ n. (p.node, act) ∷ []) (λ n m'. m' ≡ (with_part (act_part act answers.Plain p) m.0, m.1)) (λ again t r t' r' at n g. gives_none r.rules.world r.rules.books r.rules.routes p.node act (in_front (r.fronts p.node) p.state) r.rules.lawful (node_here count limit id m.0 p is t r at) g.0.may (gives_behind (r.fronts p.node) p.state act (none again))) (λ e n. refl) (old count limit slots id i m p act is touch possible serials)),
  (λ old count limit slots id m p serial rt is can. behind ends k reuses dirty free looked count limit slots id m limit (λ n. n) (λ n. turn_where (eqb n limit) p.node (acts.Router serial router_acts.Claim)) (λ n m'. MatchBool (eqb n limit) (m' ≡ (with_part (act_part (acts.Router serial router_acts.Claim) answers.NoWord p) (saw limit n m.0), m.1)) (m' ≡ (saw limit n m.0, m.1))) (λ again t r t' r' at n g. where_keeps (eqb n limit) r.rules.world p.node (acts.Router serial router_acts.Claim) (claim_keeps serial)) (λ e n. refl) (old count limit slots id m p serial rt is can)),
  (λ old count limit slots id i b to m p is at word low. behind ends k reuses dirty free looked count limit slots id m i (λ n. either (eqb n 0) 3 n) (λ n. []) (λ n m'. MatchBool (eqb n 0) (m' ≡ (with_part (probe_part to p) (saw i n m.0), (b, []) ∷ m.1)) (m' ≡ (saw i n m.0, m.1))) (λ again t r t' r' at n g j s h. h) (far (λ n. either (eqb n 0) 3 n) i limit count b word) (old count limit slots id i b to m p is at word low)),
  (λ old count limit slots id i b to m p rest is at word low has held. behind ends k reuses dirty free looked count limit slots id m i (λ n. 0) (λ n. []) (λ n m'. m' ≡ (with_part (unprobe_part to p) m.0, rest)) (λ again t r t' r' at n g j s h. h) (far (λ n. 0) i limit count b word) (old count limit slots id i b to m p rest is at word low has held)),
  (λ old count limit slots id i to bits m p is word low own. behind ends k reuses dirty free looked count limit slots id m i (λ n. bit_or n bits) (λ n. []) (λ n m'. m' ≡ (announcing to m.0, m.1)) (λ again t r t' r' at n g j s h. h) (behind_count (λ n. bit_or n bits) i limit to word) (old count limit slots id i to bits m p is word low own)),
  (λ old count limit slots id i to m p is word low. behind ends k reuses dirty free looked count limit slots id m i (λ n. n) (λ n. []) (λ n m'. m' ≡ (if eqb (bit_at n p.node) 1 then announcing to m.0 else forgetting m.0, m.1)) (λ again t r t' r' at n g j s h. h) (λ e n. refl) (old count limit slots id i to m p is word low)),
  (λ old count limit slots id i from kept m p is word hand none others. behind ends k reuses dirty free looked count limit slots id m i (λ n. bit_and n kept) (λ n. []) (λ n m'. m' ≡ (forgetting m.0, m.1)) (λ again t r t' r' at n g j s h. h) (behind_count (λ n. bit_and n kept) i limit p.node word) (old count limit slots id i from kept m p is word hand none others)),
  (λ old count limit slots id i b to m p y xs ys rest is at word low has told mail one held. behind ends k reuses dirty free looked count limit slots id m i (λ n. 1) (λ n. (p.node, acts.Post to) ∷ []) (λ n m'. m' ≡ (with_part (batch_post_part to ys p) m.0, rest)) (λ again t r t' r' at n g. one_keeps r.rules.world p.node (acts.Post to) tt) (far (λ n. 1) i limit count b word) (old count limit slots id i b to m p y xs ys rest is at word low has told mail one held)),
  (λ old count limit slots id i b from m p is at word low idle. behind ends k reuses dirty free looked count limit slots id m i (λ n. either (eqb n 1) 2 n) (λ n. turn_where (eqb n 1) p.node (acts.Look from)) (λ n m'. MatchBool (eqb n 1) ((y : Message) × (xs : List Message) × (not reuses ≡ true → xs ≡ []) × (m' ≡ (with_part (look_part from y (with_batch from xs p)) (saw i n m.0), (b, y ∷ xs) ∷ m.1))) (m' ≡ (saw i n m.0, m.1))) (λ again t r t' r' at n g. where_keeps (eqb n 1) r.rules.world p.node (acts.Look from) tt) (far (λ n. either (eqb n 1) 2 n) i limit count b word) (old count limit slots id i b from m p is at word low idle)),
  (λ old count limit slots id i b from m p y rest is at word none hand message serials held. behind ends k reuses dirty free looked count limit slots id m i (λ n. 0) (λ n. (p.node, acts.Hand from) ∷ []) (λ n m'. m' ≡ (with_part (hand_part from (trusted from y) y p) m.0, rest)) (λ again t r t' r' at n g. one_keeps r.rules.world p.node (acts.Hand from) tt) (far (λ n. 0) i limit count b word) (old count limit slots id i b from m p y rest is at word none hand message serials held)),
  (λ old count limit slots id i b from m p xs rest is at word low has held. behind ends k reuses dirty free looked count limit slots id m i (λ n. n) (λ n. []) (λ n m'. m' ≡ (saw i n m.0, rest)) (λ again t r t' r' at n g j s h. h) (far (λ n. n) i limit count b word) (old count limit slots id i b from m p xs rest is at word low has held)),
  (λ old count limit slots id i from m p y xs is low idle left. behind ends k reuses dirty free looked count limit slots id m i (λ n. n) (λ n. (p.node, acts.Look from) ∷ []) (λ n m'. m' ≡ (with_part (look_part from y (with_batch from xs p)) m.0, m.1)) (λ again t r t' r' at n g. one_keeps r.rules.world p.node (acts.Look from) tt) (λ e n. refl) (old count limit slots id i from m p y xs is low idle left)),
  (λ old count limit slots id i from m p y z ys is left hand message serials. behind ends k reuses dirty free looked count limit slots id m i (λ n. n) (λ n. (p.node, acts.Hand from) ∷ (from, acts.Post p.node) ∷ []) (λ n m'. m' ≡ (with_part (hand_part from (trusted from y) y p) m.0, m.1)) (λ again t r t' r' at n g. two_keep r.rules.world p.node from (acts.Hand from) (acts.Post p.node) tt tt) (λ e n. refl) (old count limit slots id i from m p y z ys is left hand message serials)),
)

-- an end that a router gives up by an act is let go
pair_is : (p q : ℕ × Side) → Some p ≡ Some q → p ≡ q
pair_is p q h = cc

link_end : (l : LinkId) (t : Side) (o i : ℕ) (s : Side) → word_end (Some (record { link = l; side = t; other = o })) ≡ Some (i, s) →
    has_link (Some (record { link = l; side = t; other = o })) (Central i) s ≡ true
unfolding word_end word_of has_link
link_end (Central j) t o i s h =
    let p = pair_is (j, t) (i, s) h in
    let e : j ≡ i = ap (λ (q : ℕ × Side). q.0) p in
    let f : t ≡ s = ap (λ (q : ℕ × Side). q.1) p in
    let n : nat_eq j i ≡ true = grind (arith, nat_tests, e) in
    rw n (subst (λ (z : Side). same_side t z ≡ true) f (same_side_self t))
link_end (Peripheral n x) t o i s h = absurd (cc)

end_has : (o : Option LinkEnd) (i : ℕ) (s : Side) → word_end o ≡ Some (i, s) → has_link o (Central i) s ≡ true
unfolding word_end
end_has None i s h = absurd (cc)
end_has (Some e) i s h = link_end e.link e.side e.other i s h

edge_by : (x y : Option LinkEnd) (a : Option (ℕ × Side)) (i : ℕ) (s : Side) → word_end x ≡ a → first_of a (word_end y) ≡ Some (i, s) →
    (has_link x (Central i) s || has_link y (Central i) s) ≡ true
unfolding first_of
edge_by x y None i s e h = or_second _ _ (end_has y i s h)
edge_by x y (Some p) i s e h = or_first _ _ (end_has x i s (e ∙ h))

leaver_holds : (b : Bool) (r : Router) (i : ℕ) (s : Side) → (if b then edge_end r.outward else None) ≡ Some (i, s) → (b && router_holds i s r) ≡ true
leaver_holds true r i s h = or_first _ _ (or_first _ _ (edge_by r.outward.primary r.outward.decaying _ i s refl h))
leaver_holds false r i s h = absurd (cc)

end_goes : (r : Router) (act : RouterAct) (i : ℕ) (s : Side) → let_go_end r act ≡ Some (i, s) → lets_go i s r act ≡ true
unfolding let_go_end lets_go
end_goes r router_acts.FinishOut i s h = end_has r.outward.decaying i s h
end_goes r act i s h = leaver_holds (leaves_by r act) r i s h

-- and so are both of a spare
spare_goes : (r : Router) (act : RouterAct) (j : ℕ) (s : Side) → let_go_spare r act ≡ Some j → lets_go j s r act ≡ true
unfolding lets_go leaves_by is_spare
spare_goes r router_acts.FinishOut j s h = absurd (cc)
spare_goes r act j s h = by (leaves_by r act) r.spare refl refl h
  where
    by : (c : Bool) (o : Option ℕ) → leaves_by r act ≡ c → r.spare ≡ o → (if c then r.spare else None) ≡ Some j → (leaves_by r act && (router_has r (Central j) s || is_spare j r.spare)) ≡ true
    by true o e f h = grind (arith, e, f, h, nat_tests)
    by false o e f h = absurd (cc)

-- what is let go was held
lets_holds : (act : RouterAct) (i : ℕ) (s : Side) (rt : Router) → lets_go i s rt act ≡ true → router_holds i s rt ≡ true
unfolding lets_go
lets_holds router_acts.FinishOut i s rt h = or_first _ _ (or_first _ _ (or_second _ _ h))
lets_holds other i s rt h = and_second _ _ h

-- by their bits
side_is : (d b : Bool) → side_of d ≡ side_of b → d ≡ b
side_is false false e = refl
side_is true true e = refl
side_is false true e = absurd (cc)
side_is true false e = absurd (cc)

same_end : (i k : ℕ) (b d : Bool) (o : Option (ℕ × Side)) → o ≡ Some (i, side_of b) → o ≡ Some (k, side_of d) → (d ≡ b) × (k ≡ i)
same_end i k b d o e f =
    let same = pair_is (k, side_of d) (i, side_of b) (sym f ∙ e) in
    (side_is d b (ap (λ (q : ℕ × Side). q.1) same), ap (λ (q : ℕ × Side). q.0) same)

-- an act of a router by which it gives up its end of a number, as a step of the table that is folded
module _ (ends : EndLaws) (count limit k : ℕ) (reuses : Bool) (id i : ℕ) (b : Bool) (v : View) (p : Part) (serial : ℕ) (rt : Router) (act : RouterAct) (is : v.parts ≡ p ∷ [])
    (can : CanAct p.state serial rt act) (gives : let_go_end rt act ≡ Some (i, side_of b)) where
  abbrev g9 : Known (virtual count limit reuses)
  g9 = turns_of count limit reuses i (λ n. (p.node, acts.Router serial act) ∷ [])

  here9 : (t : BatchSt) (r : Batched count limit (not reuses) t) → get_elem? t.views id ≡ some v → router_at r.rules.world (record { node = p.node; serial = serial }) ≡ Some rt
  here9 t r at = router_here count limit id v p serial rt is can.there t r at

  -- it lets nothing else go but a spare
  pub loses_but : (but : ℕ → Type 0) → ((j : ℕ) → let_go_spare rt act ≡ Some j → but j) →
      LosesBut (virtual count limit reuses) (sizes count limit k reuses) id v (λ d j. ((d ≡ b) × (j ≡ i)) ⊎ but j) g9
  unfolding router_at
  loses_but but spare again t r t' r' at g d j l out gone held = ⊎_elim gone
      (λ lets. ⊎_elim (λ e. out (inl (same_end i j b d (let_go_end rt act) gives e))) (λ e. out (inr (spare j e)))
      (gone_is r.rules.world r.rules.books r.rules.routes p.node serial act rt j (side_of d) r.rules.lawful (here9 t r at) g.0.may lets))
      (ends.stay r.rules.world r'.rules.world r.rules.books r'.rules.books r.rules.routes r'.rules.routes ((p.node, acts.Router serial act) ∷ []) j (side_of d) r.rules.lawful g held)

  pub lives9 : Lives (virtual count limit reuses) (sizes count limit k reuses) id v i
  lives9 = lives_by ends count limit k reuses id i v (λ t r at. (side_of b, ByRouter (record { node = p.node; serial = serial }) rt (here9 t r at) (lets_holds act i (side_of b) rt (end_goes rt act i (side_of b) gives))))

  -- a spare that it gives up is another word
  pub other_word : (j : ℕ) → let_go_spare rt act ≡ Some j → (t : BatchSt) (r : Batched count limit (not reuses) t) → get_elem? t.views id ≡ some v → j ≢ i
  unfolding router_at
  other_word j spare t r at same =
      let q = ends.given_up.spares r.rules.world r.rules.books r.rules.routes p.node serial rt act j r.rules.lawful (here9 t r at) spare in
      q.3 (same ∙ sym (ap (λ (e : ℕ × Side). e.0) (pair_is (q.0, q.1) (i, side_of b) (sym q.2 ∙ gives))))

  -- what it lets go is held by nobody then
  pub goes9 : (t : BatchSt) (r : Batched count limit (not reuses) t) (t' : BatchSt) (r' : Batched count limit (not reuses) t') → get_elem? t.views id ≡ some v → g9 t r t' r' → (j : ℕ) (s : Side) → lets_go j s rt act ≡ true →
      IsEndHeld r'.rules.world j s → ⊥
  goes9 t r t' r' at g j s lets held = ends.let_go r.rules.world r.rules.books r.rules.routes p.node serial rt act j s r.rules.lawful g.0.node (here9 t r at) g.0.may lets (subst (λ (u : World). IsEndHeld u j s) g.1.0 held)

pub letting_go : LettingGoLasts
letting_go ends touches k reuses dirty free looked count limit slots id i b m p serial rt act is can plain gives none areas =
    let x = virtual count limit reuses in
    let z = sizes count limit k reuses in
    letting x z (laws_of ends count limit k reuses) areas (turns_of count limit reuses i (λ n. (p.node, acts.Router serial act) ∷ [])) slots id (own_of m.0 dirty free looked) m.1 i b
    (λ m'. m' ≡ (with_part (act_part (acts.Router serial act) answers.Plain p) m.0, m.1))
    (kept_by ends count limit k reuses i (λ n. (p.node, acts.Router serial act) ∷ []))
    (λ again t r t' r' at g d j l out. loses_but ends count limit k reuses id i b m.0 p serial rt act is can gives (λ q. ⊥) (λ q e. let f = sym none ∙ e in cc) again t r t' r' at g d j l (λ h. ⊎_elim out (λ q. q) h))
    (lives9 ends count limit k reuses id i b m.0 p serial rt act is can gives)
    (λ t r t' r' at g held. goes9 ends count limit k reuses id i b m.0 p serial rt act is can gives t r t' r' at g i (side_of b) (end_goes rt act i (side_of b) gives) held)
    (touches reuses count limit slots id i m p serial rt act is can plain)

pub reusing : ReusingLasts
reusing k dirty free looked one count limit slots id p m = (
  (λ low. reclaims (virtual count limit true) (sizes count limit k true) (are_sizes count limit k one) (turns_of count limit true 0 (λ n. [])) slots id p (own_of m.0 dirty free looked) m.1 (λ t r. (refl, refl, refl)) refl low),
  (λ has. empties (virtual count limit true) (sizes count limit k true) (are_sizes count limit k one) (turns_of count limit true 0 (λ n. [])) slots id p (own_of m.0 dirty free looked) m.1 (λ t r. (refl, refl, refl)) has),
  (λ has. returns_slots (virtual count limit true) (sizes count limit k true) (turns_of count limit true 0 (λ n. [])) slots id p (own_of m.0 dirty free looked) m.1 (λ t r. (refl, refl, refl)) has),
)

same_number : (q j : ℕ) → Some q ≡ Some j → q ≡ j
same_number q j e = cc

pub leaving : LeavingLasts
leaving ends touches k dirty free looked one count limit slots id i j b m p serial rt act is can plain gives spare =
    let x = virtual count limit true in
    let z = sizes count limit k true in
    let goes : (s : Side) → lets_go j s rt act ≡ true = λ s. spare_goes rt act j s spare in
    whole x z (laws_of ends count limit k true) (are_sizes count limit k one) (turns_of count limit true i (λ n. (p.node, acts.Router serial act) ∷ [])) slots id (own_of m.0 dirty free looked) m.1 i j b
    (λ m'. m' ≡ (with_part (act_part (acts.Router serial act) answers.Plain p) m.0, m.1))
    (kept_by ends count limit k true i (λ n. (p.node, acts.Router serial act) ∷ []))
    (loses_but ends count limit k true id i b m.0 p serial rt act is can gives (λ q. q ≡ j) (λ q e. same_number q j (sym e ∙ spare)))
    refl
    (lives9 ends count limit k true id i b m.0 p serial rt act is can gives)
    (λ t r at.
    let held : (s : Side) → IsEndHeld r.rules.world j s = λ s. ByRouter (record { node = p.node; serial = serial }) rt (here9 ends count limit k true id i b m.0 p serial rt act is can gives t r at) (lets_holds act j s rt (goes s)) in
    ((let below = held_claimed ends r.rules.world r.rules.books r.rules.routes r.rules.lawful j A (held A) in let e = count_is count limit t r in omega (arith, e, below)), (λ d gone. gone (held (side_of d)))))
    (other_word ends count limit k true id i b m.0 p serial rt act is can gives j spare)
    (λ t r t' r' at g.
    let gone : (q : ℕ) (s : Side) → lets_go q s rt act ≡ true → IsEndHeld r'.rules.world q s → ⊥ = λ q s. goes9 ends count limit k true id i b m.0 p serial rt act is can gives t r t' r' at g q s in
    (gone i (side_of b) (end_goes rt act i (side_of b) gives), (gone j A (goes A), gone j B (goes B))))
    (touches count limit slots id i m p serial rt act is can plain)

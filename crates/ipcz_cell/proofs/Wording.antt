-- The steps on link words.
use Rattle.std.specs.Prelude.{◌≡◌, ◌≢◌, ◌<◌, ◌++◌, ℕ, Bool, true, false, not, ◌&&◌, ◌||◌, List, [], ◌∷◌, Option, Some, None, is_some, option_map, MatchBool, Ok, Err, eqb, bit_and, bit_or, ◌-◌}
use Rattle.std.proofs.Common.{ap, sym, subst, ◌∙◌, refl}
use prog.Atomic.{either}
use mathlib.Core.Option.{some}
use lib.ListN.{get_elem?}
use Rattle.atomic_table.specs.Seated.{TableId}
use Rattle.ipcz_base.specs.declared.side.Side.{Side}
use Rattle.ipcz_base.specs.declared.message.Message.{Message}
use Rattle.ipcz_word.specs.Laws.{HasNode}
use Rattle.ipcz_word.specs.Layout.{word_of_bits, bits_of, stable_bit, waiting_bit, locked_bit}
use Rattle.ipcz_base.specs.Sides.{opposite}
use Rattle.ipcz_word.specs.Word.{Word, Plan, Locks, Waits, Refuses, plan_of}
use Rattle.ipcz_word.specs.Layout.{plan_bits}
use Rattle.ipcz_word.specs.declared.lock_plan.LockPlan.{LockPlan}
use Rattle.ipcz_word.specs.declared.lock_plan.LockPlan.TheVariants.{Lock, Wait, Refused}
use Rattle.ipcz_base.specs.declared.refusal.Refusal.TheVariants.{Raced}
use Rattle.ipcz_cell.proofs.Mailing.{shown}
use Rattle.ipcz_router.specs.ActEffects.{IsAnswerOf}
use Rattle.ipcz_rule.specs.Kinds.{is_refusal}
use Rattle.ipcz_router.specs.Router.{Router, primary_word, is_on_central, is_proxy, source_of}
use Rattle.ipcz_router.specs.ActTable.{may_take, is_possible, is_ready, is_done, is_leaving, can_begin, can_retire, is_rest}
use Rattle.ipcz_router.specs.declared.act.RouterAct.{RouterAct}
use Rattle.ipcz_router.specs.declared.act.RouterAct.TheVariants as router_acts
use Rattle.ipcz_router.specs.declared.act.Answer.{Answer}
use Rattle.ipcz_node.specs.declared.act.Act.TheVariants as acts
use Rattle.ipcz_node.specs.Node.{Node, router_in, word_side, word_at, source_in, source_at}
use Rattle.ipcz_node.specs.Acts.{commit, act_lacks_serials}
use Rattle.ipcz_node.specs.RoomyNodes.{IsPossibleAct, NodeRoom}
use Rattle.ipcz_world.specs.Coding.{IsLinkNumber}
use Rattle.ipcz_world.specs.WordAnswers.{word_answer, word_after, try_answer}
use Rattle.ipcz_rule.specs.declared.view.View.{View}
use Rattle.ipcz_rule.specs.Rule.{saw}
use Rattle.ipcz_rule.specs.Batches.{BatchMine, BatchSt, Batched}
use Rattle.ipcz_rule.specs.Steps.{act_part, is_on_word}
use Rattle.ipcz_rule.proofs.FromLaws.{source_is_node}
use Rattle.ipcz_rule.proofs.Lasts.{own_part}
use Rattle.ipcz_rule.proofs.BatchedLaws.{links_words}
use Rattle.ipcz_rule.proofs.BatchPlainKinds.{tries_lock, loads_for_lock, marks, unlocks, wakes}
use Rattle.ipcz_cell.specs.TableNames.{TableName}
use Rattle.ipcz_cell.specs.CellStates.{CellState, part_in}
use Rattle.ipcz_cell.specs.Cells.{AreSound, IsCell}
use Rattle.ipcz_cell.specs.Outcomes.{Tells, IsPicked, worded, act_view, is_refused_at, always}
use Rattle.ipcz_cell.specs.Words.{CanWord, Tried, lock_seen, is_refused_plan}
use Rattle.ipcz_cell.proofs.Forms.{actor}
use Rattle.ipcz_cell.proofs.Keeping.{router_act_keeps, act_state}
use Rattle.ipcz_cell.proofs.Seating.{may_by, reseated, touched_cell}
use Rattle.ipcz_cell.specs.Seats.{Keeps}

-- a step at a link tells that what it finds is a link word, and that the source which a lock names is a node
pub words_told : (all : Bool) (count size slots id i : ℕ) (source : Option ℕ) (m : BatchMine) (f : ℕ → ℕ) (then : ℕ → BatchMine → Type 0) → i < size →
    ((s : BatchSt) → Batched count size (not all) s → get_elem? s.views id ≡ some m.0 → HasNode source) → Keeps all count size slots id m i f then →
    Keeps all count size slots id m i f (λ n m'. IsLinkNumber n × HasNode source × then n m')
words_told all count size slots id i source m f then inside names may s r deep at small =
    let h = may s r deep at small in
    (h.0, h.1, h.2, h.3, (links_words count size (not all) s r i inside, names s r at, h.4))

-- what names none names no other than a node
names_none : {alone : Bool} (count size id : ℕ) (m : BatchMine) (s : BatchSt) → Batched count size alone s → get_elem? s.views id ≡ some m.0 → HasNode None
names_none count size id m s r at = tt

-- the source that the router of an act would name
source_is : (x : Node) (serial i : ℕ) (side : Side) (act : RouterAct) (source : Option ℕ) (can : CanWord x serial side act i) → source ≡ source_in x serial → source_of can.router ≡ source
source_is x serial i side act source can named = sym (named ∙ ap source_at can.can.there)

-- it is a node
names_node : (t : TableName) (id serial i : ℕ) (side : Side) (act : RouterAct) (source : Option ℕ) (m : BatchMine) → m.0.parts ≡ part_in m.0 ∷ [] → CanWord (part_in m.0).state serial side act i →
    source ≡ source_in (part_in m.0).state serial → {alone : Bool} (s : BatchSt) → Batched t.count t.size alone s → get_elem? s.views id ≡ some m.0 → HasNode source
names_node t id serial i side act source m whole can named s b at =
    let p = part_in m.0 in
    let sp = own_part t.count t.size id m.0 p whole s b at in
    subst HasNode (source_is p.state serial i side act source can named) (source_is_node b.rules.world b.rules.books b.rules.routes p.node serial can.router b.rules.lawful sp.inside (ap (λ (x : Node). router_in x serial) sp.state ∙ can.can.there))

pub status_may : (t : TableName) (id i serial : ℕ) (side : Side) (source : Option ℕ) (m : BatchMine) (told : Tells) → IsPicked told (worded i serial side source router_acts.Lock (is_refused_at side)) → m.0.parts ≡ part_in m.0 ∷ [] →
    CanWord (part_in m.0).state serial side router_acts.Lock i → source ≡ source_in (part_in m.0).state serial → i < t.size → Keeps t.reuses t.count t.size t.id.slots id m i (λ n. n) (told m)
status_may t id i serial side source m told picked whole can named inside =
    may_by t.reuses t.count t.size t.id.slots id m i (λ n. n) told (worded i serial side source router_acts.Lock (is_refused_at side)) picked
    (words_told t.reuses t.count t.size t.id.slots id i source m (λ n. n) (λ n m'. MatchBool (is_refused_at side n) (m' ≡ (act_view i serial side source router_acts.Lock n m.0, m.1)) (m' ≡ (saw i n m.0, m.1))) inside
    (names_node t id serial i side router_acts.Lock source m whole can named)
    (subst (λ (o : Option ℕ). Keeps t.reuses t.count t.size t.id.slots id m i (λ n. n) (λ n m'. MatchBool (is_refused_at side n) (m' ≡ (act_view i serial side o router_acts.Lock n m.0, m.1)) (m' ≡ (saw i n m.0, m.1)))) (source_is (part_in m.0).state serial i side router_acts.Lock source can named)
    (subst (λ (z : Side). Keeps t.reuses t.count t.size t.id.slots id m i (λ n. n) (λ n m'. MatchBool (is_refused_at z n) (m' ≡ (act_view i serial z (source_of can.router) router_acts.Lock n m.0, m.1)) (m' ≡ (saw i n m.0, m.1)))) can.sides
    (loads_for_lock (not t.reuses) t.reuses t.count t.size t.id.slots id i m (part_in m.0) serial can.router whole can.can can.primary))))

pub lock_may : (t : TableName) (id i serial found new : ℕ) (side : Side) (source : Option ℕ) (m : BatchMine) (told : Tells) → IsPicked told (worded i serial side source router_acts.Lock (λ n. eqb n found)) → m.0.parts ≡ part_in m.0 ∷ [] →
    CanWord (part_in m.0).state serial side router_acts.Lock i → source ≡ source_in (part_in m.0).state serial → i < t.size → bits_of (word_after (word_of_bits found) side source router_acts.Lock) ≡ new →
    Keeps t.reuses t.count t.size t.id.slots id m i (λ n. either (eqb n found) new n) (told m)
lock_may t id i serial found new side source m told picked whole can named inside is =
    may_by t.reuses t.count t.size t.id.slots id m i (λ n. either (eqb n found) new n) told (worded i serial side source router_acts.Lock (λ n. eqb n found)) picked
    (words_told t.reuses t.count t.size t.id.slots id i source m (λ n. either (eqb n found) new n) (λ n m'. MatchBool (eqb n found) (m' ≡ (act_view i serial side source router_acts.Lock n m.0, m.1)) (m' ≡ (saw i n m.0, m.1))) inside
    (names_node t id serial i side router_acts.Lock source m whole can named)
    (subst (λ (z : ℕ). Keeps t.reuses t.count t.size t.id.slots id m i (λ n. either (eqb n found) z n) (λ n m'. MatchBool (eqb n found) (m' ≡ (act_view i serial side source router_acts.Lock n m.0, m.1)) (m' ≡ (saw i n m.0, m.1)))) is
    (subst (λ (o : Option ℕ). Keeps t.reuses t.count t.size t.id.slots id m i (λ n. either (eqb n found) (bits_of (word_after (word_of_bits found) side o router_acts.Lock)) n) (λ n m'. MatchBool (eqb n found) (m' ≡ (act_view i serial side o router_acts.Lock n m.0, m.1)) (m' ≡ (saw i n m.0, m.1)))) (source_is (part_in m.0).state serial i side router_acts.Lock source can named)
    (subst (λ (z : Side). Keeps t.reuses t.count t.size t.id.slots id m i (λ n. either (eqb n found) (bits_of (word_after (word_of_bits found) z (source_of can.router) router_acts.Lock)) n) (λ n m'. MatchBool (eqb n found) (m' ≡ (act_view i serial z (source_of can.router) router_acts.Lock n m.0, m.1)) (m' ≡ (saw i n m.0, m.1)))) can.sides
    (tries_lock (not t.reuses) t.reuses t.count t.size t.id.slots id i found m (part_in m.0) serial can.router whole can.can can.primary)))))

abbrev word_or : Option (ℕ × Side) → Option ℕ
word_or None = None
word_or (Some y) = Some y.0

abbrev side_or : Side → Option (ℕ × Side) → Side
side_or s None = s
side_or s (Some y) = y.1

abbrev with_side : Side → Option ℕ → Option (ℕ × Side)
with_side s o = option_map {U = ℕ × Side} (λ word. (word, s)) o

side_of : (s : Side) (o : Option ℕ) (i : ℕ) (side : Side) (named : Option (ℕ × Side)) → with_side s o ≡ named → named ≡ Some (i, side) → (o ≡ Some i) × (s ≡ side)
side_of s None i side named e f = absurd (let bad : None ≡ Some i = ap word_or (e ∙ f) in cc)
side_of s (Some j) i side named e f = (ap word_or (e ∙ f), ap (side_or s) (e ∙ f))

first_true : (a b : Bool) → (a && b) ≡ true → a ≡ true
first_true true b e = refl
first_true false b e = cc

second_true : (a b : Bool) → (a && b) ≡ true → b ≡ true
second_true true b e = e
second_true false b e = cc

or_true : (a b : Bool) → b ≡ false → (a || b) ≡ true → a ≡ true
or_true true b f e = refl
or_true false b f e = absurd (let bad = sym f ∙ e in cc)

-- a try or an unlock is that of a proxy or of a sink: either way this holds
either_true : (a b c : Bool) → (a ≡ true → c ≡ true) → (b ≡ true → c ≡ true) → (a || b) ≡ true → c ≡ true
either_true true b c one other e = one refl
either_true false b c one other e = other e

-- a router that may do an act on a word has one
has_word : (r : Router) (act : RouterAct) → is_on_word act ≡ true → may_take r act ≡ true → is_some (primary_word r) ≡ true
unfolding is_possible is_rest
has_word r router_acts.Mark w e = first_true _ _ (or_true _ false refl e)
has_word r router_acts.Wake w e = second_true _ _ (or_true _ false refl e)
has_word r router_acts.Lock w e = either_true (is_ready r && (is_some r.spare && not r.holds)) (is_leaving r && not r.holds) (is_on_central r)
    (λ h. first_true _ _ (second_true (is_proxy r) _ (first_true (is_ready r) _ h)))
    (λ h. first_true _ _ (second_true (is_done r) _ (first_true (is_leaving r) _ h))) (or_true _ false refl e)
has_word r router_acts.Unlock w e = either_true (can_begin r) (can_retire r) (is_on_central r)
    (λ h. first_true _ _ (second_true r.holds _ (second_true (is_proxy r) _ h)))
    (λ h. first_true _ _ (second_true r.holds _ (second_true (is_done r) _ h))) (or_true _ false refl e)
has_word r other w e = cc

none_mapped : (s : Side) (o : Option ℕ) (named : Option (ℕ × Side)) → is_some o ≡ true → with_side s o ≡ named → named ≡ None → ⊥
none_mapped s None named has e f = cc
none_mapped s (Some j) named has e f = let bad : Some j ≡ None = ap word_or (e ∙ f) in cc

-- so it isn't without one
pub word_there : (x : Node) (serial : ℕ) (act : RouterAct) → is_on_word act ≡ true → IsPossibleAct x (acts.Router serial act) → act_lacks_serials x (acts.Router serial act) ≡ false → word_side x serial ≡ None → ⊥
word_there x serial act on may serials none =
    let a = actor x serial act may serials in
    none_mapped a.0.end.side (primary_word a.0) (word_side x serial) (has_word a.0 act on a.1.may) (ap word_at (sym a.1.there)) none

-- a mark, an unlock and a wake name no source, whatever source their router has
mark_view : (i serial : ℕ) (side : Side) (source : Option ℕ) → ◌≡◌ {A = ℕ → View → View} (act_view i serial side source router_acts.Mark) (act_view i serial side None router_acts.Mark)
unfolding word_answer
mark_view i serial side source = refl

unlock_view : (i serial : ℕ) (side : Side) (source : Option ℕ) → ◌≡◌ {A = ℕ → View → View} (act_view i serial side source router_acts.Unlock) (act_view i serial side None router_acts.Unlock)
unfolding word_answer
unlock_view i serial side source = refl

wake_view : (i serial : ℕ) (side : Side) (source : Option ℕ) → ◌≡◌ {A = ℕ → View → View} (act_view i serial side source router_acts.Wake) (act_view i serial side None router_acts.Wake)
unfolding word_answer
wake_view i serial side source = refl

pub mark_may : (t : TableName) (id i serial bits : ℕ) (side : Side) (m : BatchMine) (told : Tells) → IsPicked told (worded i serial side None router_acts.Mark always) → m.0.parts ≡ part_in m.0 ∷ [] →
    CanWord (part_in m.0).state serial side router_acts.Mark i → i < t.size → bits ≡ stable_bit side → Keeps t.reuses t.count t.size t.id.slots id m i (λ n. bit_or n bits) (told m)
mark_may t id i serial bits side m told picked whole can inside is =
    may_by t.reuses t.count t.size t.id.slots id m i (λ n. bit_or n bits) told (worded i serial side None router_acts.Mark always) picked
    (words_told t.reuses t.count t.size t.id.slots id i None m (λ n. bit_or n bits) (λ n m'. m' ≡ (act_view i serial side None router_acts.Mark n m.0, m.1)) inside (names_none t.count t.size id m)
    (subst (λ (z : ℕ). Keeps t.reuses t.count t.size t.id.slots id m i (λ n. bit_or n z) (λ n m'. m' ≡ (act_view i serial side None router_acts.Mark n m.0, m.1))) (sym is)
    (subst (λ (z : Side). Keeps t.reuses t.count t.size t.id.slots id m i (λ n. bit_or n (stable_bit z)) (λ n m'. m' ≡ (act_view i serial z None router_acts.Mark n m.0, m.1))) can.sides
    (subst (λ (V : ℕ → View → View). Keeps t.reuses t.count t.size t.id.slots id m i (λ n. bit_or n (stable_bit can.router.end.side)) (λ n m'. m' ≡ (V n m.0, m.1))) (mark_view i serial can.router.end.side (source_of can.router))
    (marks (not t.reuses) t.reuses t.count t.size t.id.slots id i m (part_in m.0) serial can.router whole can.can can.primary)))))

pub unlock_may : (t : TableName) (id i serial bits : ℕ) (side : Side) (m : BatchMine) (told : Tells) → IsPicked told (worded i serial side None router_acts.Unlock always) → m.0.parts ≡ part_in m.0 ∷ [] →
    CanWord (part_in m.0).state serial side router_acts.Unlock i → i < t.size → bits ≡ 18446744073709486335 - locked_bit side → Keeps t.reuses t.count t.size t.id.slots id m i (λ n. bit_and n bits) (told m)
unlock_may t id i serial bits side m told picked whole can inside is =
    may_by t.reuses t.count t.size t.id.slots id m i (λ n. bit_and n bits) told (worded i serial side None router_acts.Unlock always) picked
    (words_told t.reuses t.count t.size t.id.slots id i None m (λ n. bit_and n bits) (λ n m'. m' ≡ (act_view i serial side None router_acts.Unlock n m.0, m.1)) inside (names_none t.count t.size id m)
    (subst (λ (z : ℕ). Keeps t.reuses t.count t.size t.id.slots id m i (λ n. bit_and n z) (λ n m'. m' ≡ (act_view i serial side None router_acts.Unlock n m.0, m.1))) (sym is)
    (subst (λ (z : Side). Keeps t.reuses t.count t.size t.id.slots id m i (λ n. bit_and n (18446744073709486335 - locked_bit z)) (λ n m'. m' ≡ (act_view i serial z None router_acts.Unlock n m.0, m.1))) can.sides
    (subst (λ (V : ℕ → View → View). Keeps t.reuses t.count t.size t.id.slots id m i (λ n. bit_and n (18446744073709486335 - locked_bit can.router.end.side)) (λ n m'. m' ≡ (V n m.0, m.1))) (unlock_view i serial can.router.end.side (source_of can.router))
    (unlocks (not t.reuses) t.reuses t.count t.size t.id.slots id i m (part_in m.0) serial can.router whole can.can can.primary)))))

pub wake_may : (t : TableName) (id i serial bits : ℕ) (side : Side) (m : BatchMine) (told : Tells) → IsPicked told (worded i serial side None router_acts.Wake always) → m.0.parts ≡ part_in m.0 ∷ [] →
    CanWord (part_in m.0).state serial side router_acts.Wake i → i < t.size → bits ≡ 18446744073709551615 - waiting_bit (opposite side) → Keeps t.reuses t.count t.size t.id.slots id m i (λ n. bit_and n bits) (told m)
wake_may t id i serial bits side m told picked whole can inside is =
    may_by t.reuses t.count t.size t.id.slots id m i (λ n. bit_and n bits) told (worded i serial side None router_acts.Wake always) picked
    (words_told t.reuses t.count t.size t.id.slots id i None m (λ n. bit_and n bits) (λ n m'. m' ≡ (act_view i serial side None router_acts.Wake n m.0, m.1)) inside (names_none t.count t.size id m)
    (subst (λ (z : ℕ). Keeps t.reuses t.count t.size t.id.slots id m i (λ n. bit_and n z) (λ n m'. m' ≡ (act_view i serial side None router_acts.Wake n m.0, m.1))) (sym is)
    (subst (λ (z : Side). Keeps t.reuses t.count t.size t.id.slots id m i (λ n. bit_and n (18446744073709551615 - waiting_bit (opposite z))) (λ n m'. m' ≡ (act_view i serial z None router_acts.Wake n m.0, m.1))) can.sides
    (subst (λ (V : ℕ → View → View). Keeps t.reuses t.count t.size t.id.slots id m i (λ n. bit_and n (18446744073709551615 - waiting_bit (opposite can.router.end.side))) (λ n m'. m' ≡ (V n m.0, m.1))) (wake_view i serial can.router.end.side (source_of can.router))
    (wakes (not t.reuses) t.reuses t.count t.size t.id.slots id i m (part_in m.0) serial can.router whole can.can can.primary)))))

pub mark_answers : (x : Word) (s : Side) (o : Option ℕ) (answer : Answer) → answer ≡ word_answer x s o router_acts.Mark → IsAnswerOf router_acts.Mark answer
unfolding word_answer
mark_answers x s o answer e = subst (IsAnswerOf router_acts.Mark) (sym e) tt

pub wake_answers : (x : Word) (s : Side) (o : Option ℕ) (answer : Answer) → answer ≡ word_answer x s o router_acts.Wake → IsAnswerOf router_acts.Wake answer
unfolding word_answer
wake_answers x s o answer e = subst (IsAnswerOf router_acts.Wake) (sym e) tt

pub unlock_answers : (x : Word) (s : Side) (o : Option ℕ) (answer : Answer) → answer ≡ word_answer x s o router_acts.Unlock → IsAnswerOf router_acts.Unlock answer
unfolding word_answer
unlock_answers x s o answer e = subst (IsAnswerOf router_acts.Unlock) (sym e) tt

try_answers : (x : Word) (s : Side) (o : Option ℕ) (p : Plan) → IsAnswerOf router_acts.Lock (try_answer x s o p)
unfolding try_answer
try_answers x s o Locks = tt
try_answers x s o Waits = tt
try_answers x s o Refuses = tt

-- the answer to a try for the lock is of its kind
pub lock_answers : (x : Word) (s : Side) (o : Option ℕ) (answer : Answer) → answer ≡ word_answer x s o router_acts.Lock → IsAnswerOf router_acts.Lock answer
unfolding word_answer
lock_answers x s o answer e = subst (IsAnswerOf router_acts.Lock) (sym e) (try_answers x s o (plan_of x s))

plan_refuses : (n : ℕ) (s : Side) (o : Option ℕ) (p : Plan) → is_refused_plan (plan_bits n s o p) ≡ is_refusal p
unfolding plan_bits
plan_refuses n s o Locks = refl
plan_refuses n s o Waits = refl
plan_refuses n s o Refuses = refl

-- what the load for the lock has told, by the plan
pub status_told : (n : ℕ) (s : Side) (o : Option ℕ) (plan : LockPlan) (b : Bool) (P Q : Type 0) → plan ≡ plan_bits n s o (plan_of (word_of_bits n) s) → is_refused_plan plan ≡ b → MatchBool (is_refused_at s n) P Q → MatchBool b P Q
status_told n s o plan b P Q e f h = subst (λ (z : Bool). MatchBool z P Q) (sym (plan_refuses n s o (plan_of (word_of_bits n) s)) ∙ (ap is_refused_plan (sym e) ∙ f)) h

seen_refused : (i n : ℕ) (plan : LockPlan) (seen : List (ℕ × ℕ)) → is_refused_plan plan ≡ true → lock_seen i n plan seen ≡ seen ++ (i, n) ∷ []
seen_refused i n (Lock new) seen e = cc
seen_refused i n (Wait new) seen e = cc
seen_refused i n Refused seen e = refl

seen_tried : (i n : ℕ) (plan : LockPlan) (seen : List (ℕ × ℕ)) → is_refused_plan plan ≡ false → lock_seen i n plan seen ≡ (seen ++ (i, n) ∷ []) ++ (i, n) ∷ []
seen_tried i n (Lock new) seen e = refl
seen_tried i n (Wait new) seen e = refl
seen_tried i n Refused seen e = cc

-- what a try for the lock tells if its load found that it is refused
pub refused_tells : {l : List ℕ} (i n serial : ℕ) (side : Side) (source own : Option ℕ) (plan : LockPlan) (me me' : BatchMine) (room room' : NodeRoom) (old : CellState) → source ≡ own → shown me room l ≡ old → plan ≡ plan_bits n side source (plan_of (word_of_bits n) side) → is_refused_plan plan ≡ true →
    me' ≡ (act_view i serial side source router_acts.Lock n me.0, me.1) → Tried i n serial side own old (Ok plan) (shown me' room' l)
refused_tells {l} i n serial side source own plan me me' room room' old named view e f done =
    subst (λ (o : Option ℕ). Tried i n serial side o old (Ok plan) (shown me' room' l)) named (
      e,
      ap (λ (m : BatchMine). part_in m.0) done ∙ ap (λ (o : CellState). act_part (acts.Router serial router_acts.Lock) (word_answer (word_of_bits n) side source router_acts.Lock) o.part) view,
      ap (λ (m : BatchMine). m.0.seen) done ∙ (ap (λ (o : CellState). o.seen ++ (i, n) ∷ []) view ∙ sym (seen_refused i n plan old.seen f)),
    )

-- if its exchange found the same word
pub tried_tells : {l : List ℕ} (i n now serial : ℕ) (side : Side) (source own : Option ℕ) (plan : LockPlan) (me me' : BatchMine) (room room' : NodeRoom) (old : CellState) → source ≡ own → shown me room l ≡ old → plan ≡ plan_bits n side source (plan_of (word_of_bits n) side) → is_refused_plan plan ≡ false → now ≡ n →
    me' ≡ (act_view i serial side source router_acts.Lock now (saw i n me.0), me.1) → Tried i n serial side own old (Ok plan) (shown me' room' l)
tried_tells {l} i n now serial side source own plan me me' room room' old named view e f same done =
    subst (λ (o : Option ℕ). Tried i n serial side o old (Ok plan) (shown me' room' l)) named (
      e,
      ap (λ (m : BatchMine). part_in m.0) done ∙ ((λ j. act_part (acts.Router serial router_acts.Lock) (word_answer (word_of_bits (same j)) side source router_acts.Lock) (part_in me.0)) ∙ ap (λ (o : CellState). act_part (acts.Router serial router_acts.Lock) (word_answer (word_of_bits n) side source router_acts.Lock) o.part) view),
      ap (λ (m : BatchMine). m.0.seen) done ∙ ((λ j. (me.0.seen ++ (i, n) ∷ []) ++ (i, same j) ∷ []) ∙ (ap (λ (o : CellState). (o.seen ++ (i, n) ∷ []) ++ (i, n) ∷ []) view ∙ sym (seen_tried i n plan old.seen f))),
    )

-- and if it found another
pub raced_tells : {l : List ℕ} (i n now serial : ℕ) (side : Side) (source own : Option ℕ) (me me' : BatchMine) (room room' : NodeRoom) (old : CellState) → source ≡ own → shown me room l ≡ old → now ≢ n → me' ≡ (saw i now (saw i n me.0), me.1) → Tried i n serial side own old (Err Raced) (shown me' room' l)
raced_tells {l} i n now serial side source own me me' room room' old named view other done =
    subst (λ (o : Option ℕ). Tried i n serial side o old (Err Raced) (shown me' room' l)) named (refl, (now, other, ap (λ (m : BatchMine). part_in m.0) done ∙ ap (λ (o : CellState). o.part) view, ap (λ (m : BatchMine). m.0.seen) done ∙ ap (λ (o : CellState). (o.seen ++ (i, n) ∷ []) ++ (i, now) ∷ []) view))

-- the word and the side of a router that may do an act
pub can_word : (x : Node) (serial i : ℕ) (side : Side) (act : RouterAct) → IsPossibleAct x (acts.Router serial act) → act_lacks_serials x (acts.Router serial act) ≡ false → word_side x serial ≡ Some (i, side) → CanWord x serial side act i
can_word x serial i side act may serials named =
    let a = actor x serial act may serials in
    let t = side_of a.0.end.side (primary_word a.0) i side (word_side x serial) (ap word_at (sym a.1.there)) named in
    record { router = a.0; can = a.1; primary = t.0; sides = t.1 }

module _ (t : TableName) (n : Node) (hand : Option Message) (tos senders : List ℕ) (id : TableId) (me : BatchMine) (was : IsCell t n hand tos senders id me) (id' : TableId) (me' : BatchMine) (same : id' ≡ id) (sound : AreSound t.count t.size me'.0) where
  -- a cell after an act of a router on a word
  pub acted_cell : (n' : Node) (i serial found : ℕ) (side : Side) (source : Option ℕ) (act : RouterAct) (answer : Answer) → me' ≡ (act_view i serial side source act found me.0, me.1) → answer ≡ word_answer (word_of_bits found) side source act →
      n' ≡ commit n (acts.Router serial act) answer → IsCell t n' hand tos senders id' me'
  acted_cell n' i serial found side source act answer done is e =
      let a = acts.Router serial act in
      let p' = act_part a (word_answer (word_of_bits found) side source act) (part_in me.0) in
      let state : p'.state ≡ n' = act_state a (word_answer (word_of_bits found) side source act) (part_in me.0) ∙ (ap (λ (z : Node). commit z a (word_answer (word_of_bits found) side source act)) was.seated.state ∙ (ap (commit n a) (sym is) ∙ sym e)) in
      touched_cell t n n' hand tos senders id id' me me' p' (act_view i serial side source act found me.0) was
      (reseated t n id me was.seated n' id' me' p' (act_view i serial side source act found me.0) me.1 same done refl state sound) done refl (router_act_keeps serial act (word_answer (word_of_bits found) side source act) (part_in me.0))

  -- a cell after a load and an exchange of another word
  pub raced_cell : (n' : Node) (i found now : ℕ) (v : View) → me' ≡ (saw i now (saw i found me.0), me.1) → n' ≡ n → IsCell t n' hand tos senders id' me'
  raced_cell n' i found now v done is =
      touched_cell t n n' hand tos senders id id' me me' (part_in me.0) (saw i now (saw i found me.0)) was
      (reseated t n id me was.seated n' id' me' (part_in me.0) (saw i now (saw i found me.0)) me.1 same done was.seated.whole (was.seated.state ∙ sym is) sound) done was.seated.whole (record { node = refl; hand = refl; message = refl; probed = refl; batches = refl })

  -- a cell after a load, and then an act of a router on the word
  pub tried_cell : (n' : Node) (i serial found now : ℕ) (side : Side) (source : Option ℕ) (act : RouterAct) (answer : Answer) → me' ≡ (act_view i serial side source act now (saw i found me.0), me.1) → answer ≡ word_answer (word_of_bits now) side source act →
      n' ≡ commit n (acts.Router serial act) answer → IsCell t n' hand tos senders id' me'
  tried_cell n' i serial found now side source act answer done is e =
      let a = acts.Router serial act in
      let p' = act_part a (word_answer (word_of_bits now) side source act) (part_in me.0) in
      let state : p'.state ≡ n' = act_state a (word_answer (word_of_bits now) side source act) (part_in me.0) ∙ (ap (λ (z : Node). commit z a (word_answer (word_of_bits now) side source act)) was.seated.state ∙ (ap (commit n a) (sym is) ∙ sym e)) in
      touched_cell t n n' hand tos senders id id' me me' p' (act_view i serial side source act now (saw i found me.0)) was
      (reseated t n id me was.seated n' id' me' p' (act_view i serial side source act now (saw i found me.0)) me.1 same done refl state sound) done refl (router_act_keeps serial act (word_answer (word_of_bits now) side source act) (part_in me.0))

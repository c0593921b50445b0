-- Steps of a table, calls and turns of any seats, are a run of the world that is shown.
use Rattle.std.specs.Prelude.{◌≡◌, ◌<◌, ◌+◌, ◌%◌, ℕ, Bool, true, false, not, cond, eqb, MatchBool, List, [], ◌∷◌, ◌++◌, length, slice_index, refl}
use prog.Atomic.{either}
use mathlib.Core.Option.{some}
use lib.ListN.{get_elem?}
use Rattle.std.proofs.Common.{◌∙◌, sym, subst, inl, ⊎_elim}
use Rattle.atomic_table.specs.Table.{Me, carried_after}
use Rattle.atomic_table.proofs.Lists.{set_here}
use Rattle.ipcz_slots.specs.declared.own.Own.{Own}
use Rattle.ipcz_slots.specs.SlotKinds.{Known, LastingSteps, same_own}
use Rattle.ipcz_slots.proofs.Folding.{at_inside}
use Rattle.ipcz_word.specs.Word.{open_word}
use Rattle.ipcz_word.specs.Layout.{bits_of}
use Rattle.ipcz_router.specs.declared.act.RouterAct.TheVariants as router_acts
use Rattle.ipcz_router.specs.declared.act.Answer.TheVariants as answers
use Rattle.ipcz_node.specs.declared.act.Act.TheVariants as acts
use Rattle.ipcz_node.specs.Calls.{put_number}
use Rattle.ipcz_world.specs.Steps.{put_of, opened_reply}
use Rattle.ipcz_world.specs.declared.step.Step.TheVariants.{Open, Get, Close}
use Rattle.ipcz_world.specs.declared.step.Reply.TheVariants as replies
use Rattle.ipcz_rule.specs.declared.view.View.{View}
use Rattle.ipcz_rule.specs.Rule.{with_part, saw}
use Rattle.ipcz_rule.specs.Batches.{Batch, BatchSt, Batched}
use Rattle.ipcz_rule.specs.Steps.{act_part, put_part, get_part, close_part, open_part, wet_part}
use Rattle.ipcz_rule.specs.Lasting.{virtual, sizes, own_of, turns_of}
use Rattle.ipcz_rule.specs.LastingCalls.{deeds_of, passing_keeping}
use Rattle.ipcz_rule.proofs.LastsOpenClaims.{claims_for_open_last, claims_for_open_in_order}
use Rattle.ipcz_rule.proofs.LastsCalls.{calls_last, opens_last}
use Rattle.ipcz_node.specs.declared.act.Act.{Act}
use Rattle.ipcz_world.specs.World.{World}
use Rattle.ipcz_world.specs.Books.{Books, advance, after_turn}
use Rattle.ipcz_world.specs.Routes.{Routes, routes_after, routes_after_turn}
use Rattle.ipcz_world.specs.Turns.{after_act, turn_event}
use Rattle.ipcz_world.specs.Ranks.{AreTurns}
use Rattle.ipcz_world.proofs.lawful.Turning.{stepped}
use Rattle.ipcz_rule.specs.Deeds.{Deed, Does, Beside, ClaimsWord, Passes, Dries, Wets, AreDeeds, deed_where, after_aside, routes_after_aside, turn_deeds}
use Rattle.ipcz_rule.specs.LastingRuns.{LastingRuled, DeedStep, SeatsMove, Goes, LeadTo, folded, after_deeds, all_deeds, leading, CallsAreSteps, ClaimsForOpenAreSteps, TableStepsAreRuns, TurnsAreDeeds, TurnsAreSteps}

-- the same deeds from a world that is the same
same-start : (w u v : World) (b c d : Books) (g i h : Routes) (ds : List Deed) → u ≡ w → c ≡ b → i ≡ g → AreDeeds u c i ds v d h → AreDeeds w b g ds v d h
same-start w u v b c d g i h ds e f k run =
    subst (λ x. AreDeeds x b g ds v d h) e (subst (λ x. AreDeeds u x g ds v d h) f (subst (λ x. AreDeeds u c x ds v d h) k run))

-- deeds, and deeds from where they have come to
pub deeds-append : (w u v : World) (b c d : Books) (g i h : Routes) (ds es : List Deed) → AreDeeds w b g ds u c i → AreDeeds u c i es v d h →
    AreDeeds w b g (ds ++ es) v d h
deeds-append w u v b c d g i h [] es run more = same-start w u v b c d g i h es run.0 run.1 run.2 more
deeds-append w u v b c d g i h (Does step reply ∷ ds) es run more =
    (run.0, run.1, deeds-append run.0 u v (advance w b step reply) c d (routes_after w g step reply) i h ds es run.2 more)
deeds-append w u v b c d g i h (Beside aside ∷ ds) es run more =
    (run.0, deeds-append (after_aside w aside) u v b c d (routes_after_aside w g aside) i h ds es run.1 more)

-- turns are such deeds
turns-are : (w v : World) (b c : Books) (g h : Routes) (turns : List (ℕ × Act)) → AreTurns w b g turns v c h → AreDeeds w b g (turn_deeds w turns) v c h
unfolding advance routes_after
turns-are w v b c g h [] run = run
turns-are w v b c g h (t ∷ turns) run = (
  after_act w t.0 t.1,
  stepped w t.0 t.1 run.0,
  turns-are (after_act w t.0 t.1) v (after_turn w b t.0 (turn_event w t.0 t.1)) c (routes_after_turn w g t.0 (turn_event w t.0 t.1)) h turns run.1,
)

pub turns_are_deeds : TurnsAreDeeds
turns_are_deeds = record {
  turns = turns-are;
  claims = λ w v b c g h skip turns room run. (room, turns-are _ v b c _ h turns run);
}

-- a step of which it is known that it is deeds
is-step : (count limit k : ℕ) (reuses : Bool) (g : Known (virtual count limit reuses)) (deeds : (t : BatchSt) → Batched count limit (not reuses) t → List Deed) →
    ((t : BatchSt) (r : Batched count limit (not reuses) t) (t' : BatchSt) (r' : Batched count limit (not reuses) t') → g t r t' r' → leading count limit reuses deeds t r t' r') →
    (slots id word : ℕ) (me : Me Batch (Own View)) (f : ℕ → ℕ) (told : ℕ → Me Batch (Own View) → Type 0) →
    LastingSteps (virtual count limit reuses) (sizes count limit k reuses) g slots id me word f told →
    (p : LastingRuled count limit k reuses) → length p.0.homes ≡ slots → get_elem? p.0.views id ≡ some me.0 → slice_index p.0.words word < 18446744073709551616 →
    (q : LastingRuled count limit k reuses) × Goes count limit k reuses p (deeds p.1.0 p.1.1) q ×
    ((left : Me Batch (Own View)) × (get_elem? q.0.views id ≡ some left.0) × told (slice_index p.0.words word) left)
is-step count limit k reuses g deeds tells slots id word me f told steps p deep at small =
    let h = steps p.0 p.1 (refl ∙ deep) at small in
    let done : List Deed = deeds p.1.0 p.1.1 in
    let step : DeedStep count limit k reuses p done = record {
      seat = id;
      me = me;
      word = word;
      change = f;
      deeds = deeds;
      allowed = λ s l same there low. let q = steps s l (same ∙ deep) there low in (q.0, q.1, q.2, (q.3.0, tells l.0 l.1 q.3.0.0 q.3.0.1 q.3.1), tt);
      there = at;
      small = small;
      is = refl;
    } in
    (after_deeds count limit k reuses p done step, inl (step, refl), ((h.0, carried_after me.1 h.1), set_here p.0.views id h.0 (at_inside p.0.views id me.0 at), h.4))

-- of a call
call-step : (count limit k : ℕ) (reuses : Bool) (deeds : ℕ → List Deed) (slots id i word : ℕ) (me : Me Batch (Own View)) (f : ℕ → ℕ) (told : ℕ → Me Batch (Own View) → Type 0) →
    LastingSteps (virtual count limit reuses) (sizes count limit k reuses) (deeds_of count limit reuses i deeds) slots id me word f told →
    (p : LastingRuled count limit k reuses) → length p.0.homes ≡ slots → get_elem? p.0.views id ≡ some me.0 → slice_index p.0.words word < 18446744073709551616 →
    (q : LastingRuled count limit k reuses) × Goes count limit k reuses p (deeds (slice_index p.1.0.words i)) q ×
    ((left : Me Batch (Own View)) × (get_elem? q.0.views id ≡ some left.0) × told (slice_index p.0.words word) left)
call-step count limit k reuses deeds slots id i word me f told =
    is-step count limit k reuses (deeds_of count limit reuses i deeds) (λ t r. deeds (slice_index t.words i)) (λ t r t' r' is. is.0) slots id word me f told

-- of a claim for an open, by whether the count was found
pub claims_for_open_are_steps : ClaimsForOpenAreSteps
claims_for_open_are_steps = record {
  again = λ k dirty free looked one count limit slots id c skip m p is idle small tiny has s deep at fits.
      let passing : List Deed = Beside (Passes skip) ∷ Beside (ClaimsWord p.node) ∷ [] in
      let d = is-step count limit k true (λ t r t' r'. MatchBool (eqb (slice_index t.words limit) c) (passing_keeping count limit c skip p.node t r t' r') (deeds_of count limit true limit (λ n. []) t r t' r'))
      (λ t r. cond (eqb (slice_index t.words limit) c) passing [])
      (λ t r t' r'. by count limit c skip p.node t r t' r' (eqb (slice_index t.words limit) c)) slots id (k + 0) (own_of m.0 dirty free looked, m.1) (λ n. either (eqb n c) (c + skip + 1) n)
      (λ n left. Unit {0})
      (λ x l d a f. let h = claims_for_open_last k dirty free looked one count limit slots id c skip m p is idle small tiny has x l d a f in (h.0, h.1, h.2, h.3, tt)) s deep at fits in
      (d.0, d.1);
  order = λ k dirty free looked count limit slots id c m p is idle small areas s deep at fits.
      let d = call-step count limit k false (λ n. deed_where (eqb n c) (Beside (ClaimsWord p.node))) slots id limit (k + 0) (own_of m.0 dirty free looked, m.1) (λ n. either (eqb n c) (c + 1) n)
      (λ n left. Unit {0})
      (λ x l d a f. let h = claims_for_open_in_order k dirty free looked count limit slots id c m p is idle small areas x l d a f in (h.0, h.1, h.2, h.3, tt)) s deep at fits in
      (d.0, d.1);
}
  where
    by : (count limit c skip node : ℕ) (t : BatchSt) (r : Batched count limit false t) (t' : BatchSt) (r' : Batched count limit false t') (b : Bool) →
        MatchBool b (passing_keeping count limit c skip node t r t' r') (deeds_of count limit true limit (λ n. []) t r t' r') →
        AreDeeds r.rules.world r.rules.books r.rules.routes (cond b (Beside (Passes skip) ∷ Beside (ClaimsWord node) ∷ []) []) r'.rules.world r'.rules.books r'.rules.routes
    by count limit c skip node t r t' r' true h = h.4
    by count limit c skip node t r t' r' false h = h.0

-- of turns
pub turns_are_steps : TurnsAreSteps
turns_are_steps count limit k reuses turns slots id i word me f steps p deep at small =
    let d = is-step count limit k reuses (turns_of count limit reuses i turns) (λ t r. turn_deeds r.rules.world (turns (slice_index t.words i)))
    (λ t r t' r' is. turns-are r.rules.world r'.rules.world r.rules.books r'.rules.books r.rules.routes r'.rules.routes (turns (slice_index t.words i)) is) slots id word me f (λ n left. Unit {0}) steps p deep at small in
    (d.0, d.1)

pub calls_are_steps : CallsAreSteps
calls_are_steps k reuses dirty free looked = let last = calls_last k reuses dirty free looked in (
  (λ profile count limit slots id i m p at bytes ends is fine areas j e inside.
      call-step count limit k reuses (λ n. Does (put_of profile p.node at bytes ends) (replies.Put (put_number p.state at)) ∷ []) slots id i (k + j) (own_of m.0 dirty free looked, m.1)
      (λ n. n) (same_own (own_of m.0 dirty free looked) (λ n m'. m' ≡ (with_part (put_part at bytes ends p) m.0, m.1)))
      (last.0 profile count limit slots id i m p at bytes ends is fine areas j e inside)),
  (λ count limit slots id i m p at number q is fine got areas j e inside.
      call-step count limit k reuses (λ n. Does (Get p.node at) (replies.Got number q) ∷ []) slots id i (k + j) (own_of m.0 dirty free looked, m.1) (λ n. n)
      (same_own (own_of m.0 dirty free looked) (λ n m'. m' ≡ (with_part (get_part at number q p) m.0, m.1)))
      (last.1 count limit slots id i m p at number q is fine got areas j e inside)),
  (λ count limit slots id i m p at is fine areas j e inside.
      call-step count limit k reuses (λ n. Does (Close p.node at) (replies.Closed (put_number p.state at)) ∷ []) slots id i (k + j) (own_of m.0 dirty free looked, m.1) (λ n. n)
      (same_own (own_of m.0 dirty free looked) (λ n m'. m' ≡ (with_part (close_part at p) m.0, m.1)))
      (last.2 count limit slots id i m p at is fine areas j e inside)),
  (λ count limit slots id i m p is opening fine areas.
      call-step count limit k reuses (λ n. Does (Open p.node) (opened_reply i) ∷ []) slots id i (i % k) (own_of m.0 dirty free looked, m.1) (λ n. either (eqb n 0) (bits_of open_word) n)
      (same_own (own_of m.0 dirty free looked) (λ n m'. (n ≡ 0) × (m' ≡ (with_part (open_part i p) (saw i n m.0), m.1))))
      (opens_last k reuses dirty free looked count limit slots id i m p is opening fine areas)),
  (λ count limit slots id i m p serial r is can areas j e inside.
      call-step count limit k reuses (λ n. Beside (Dries p.node serial) ∷ []) slots id i (k + j) (own_of m.0 dirty free looked, m.1) (λ n. n)
      (same_own (own_of m.0 dirty free looked) (λ n m'. m' ≡ (with_part (act_part (acts.Router serial router_acts.Claim) answers.NoWord p) m.0, m.1)))
      (last.3 count limit slots id i m p serial r is can areas j e inside)),
  (λ count limit slots id i m p serial is has areas j e inside.
      call-step count limit k reuses (λ n. Beside (Wets p.node serial) ∷ []) slots id i (k + j) (own_of m.0 dirty free looked, m.1) (λ n. n)
      (same_own (own_of m.0 dirty free looked) (λ n m'. m' ≡ (with_part (wet_part serial p) m.0, m.1)))
      (last.4 count limit slots id i m p serial is has areas j e inside)),
)

-- one step is its deeds
pub step-leads : (count limit k : ℕ) (reuses : Bool) (p q : LastingRuled count limit k reuses) (done : List Deed) → Goes count limit k reuses p done q →
    LeadTo (folded p) done (folded q)
step-leads count limit k reuses p q done goes = ⊎_elim
    (λ (t : (s : DeedStep count limit k reuses p done) × (q ≡ after_deeds count limit k reuses p done s)).
    let h = t.0.allowed p.0 p.1 refl t.0.there t.0.small in
    subst (λ (x : LastingRuled count limit k reuses). LeadTo (folded p) done (folded x)) (sym t.1)
    (subst (λ (ds : List Deed). LeadTo (folded p) ds (folded (after_deeds count limit k reuses p done t.0))) t.0.is h.3.1))
    (λ (t : (done ≡ []) × SeatsMove count limit k reuses p q). subst (λ (ds : List Deed). LeadTo (folded p) ds (folded q)) (sym t.0) t.1.shown)
    goes

pub table_steps_are_runs : TableStepsAreRuns
table_steps_are_runs count limit k reuses p q [] run =
    subst (λ (x : LastingRuled count limit k reuses). LeadTo (folded p) [] (folded x)) (sym run) (refl, refl, refl)
table_steps_are_runs count limit k reuses p q (done ∷ steps) run =
    let m = run.0 in
    let u = folded p in
    let x = folded m in
    let v = folded q in
    deeds-append u.1.world x.1.world v.1.world u.1.books x.1.books v.1.books u.1.routes x.1.routes v.1.routes done (all_deeds steps)
    (step-leads count limit k reuses p m done run.1) (table_steps_are_runs count limit k reuses m q steps run.2)

-- A discard as a step on the own touch word; and all acts of routers that are touches, with a retire, as one kind.
use Rattle.std.specs.Prelude.{◌≡◌, ◌⊎◌, ℕ, Bool, true, false, if◌then◌else◌, [], ◌∷◌, ◌++◌, Option, Some, None, is_some, refl}
use Rattle.std.proofs.Common.{ap, ◌∙◌, sym, subst, inl, inr}
use Rattle.ipcz_seq.specs.Queue.{current_item}
use Rattle.ipcz_router.specs.Router.{Router, is_terminal, is_sink, source_of}
use Rattle.ipcz_router.specs.Acts.{has_gone_next}
use Rattle.ipcz_router.specs.ActTable.{may_take, is_possible, is_rest, next_act}
use Rattle.ipcz_router.specs.declared.act.RouterAct.{RouterAct}
use Rattle.ipcz_router.specs.declared.act.RouterAct.TheVariants as acts
use Rattle.ipcz_router.specs.declared.act.Answer.{Answer}
use Rattle.ipcz_router.specs.declared.act.Answer.TheVariants as answers
use Rattle.ipcz_node.specs.declared.act.Act.{Act}
use Rattle.ipcz_node.specs.declared.act.Act.TheVariants.{Router as OfRouter}
use Rattle.ipcz_node.specs.declared.happened.Happened.TheVariants as events
use Rattle.ipcz_node.specs.Node.{Node, router_in}
use Rattle.ipcz_node.specs.Acts.{commit}
use Rattle.ipcz_node.specs.Events.{event_of, event_at, router_event}
use Rattle.ipcz_world.specs.declared.step.Step.TheVariants as steps
use Rattle.ipcz_world.specs.declared.step.Reply.TheVariants as replies
use Rattle.ipcz_world.specs.World.{World, node_at, set_node}
use Rattle.ipcz_world.specs.WordAnswers.{answer_of, link_answer, word_answer, touch}
use Rattle.ipcz_world.specs.Turns.{router_of, after_act, after_router_act, turn_event, router_seen}
use Rattle.ipcz_world.specs.Books.{Books, advance, after_turn, after_discard, add_gone, read}
use Rattle.ipcz_world.proofs.frames.Frames.{word-set_node, claimed-set_node}
use Rattle.ipcz_world.proofs.Whole.{terminals_keep_books}
use Rattle.ipcz_rule.specs.declared.view.Part.{Part}
use Rattle.ipcz_rule.specs.Rule.{Mine, with_part, with_state}
use Rattle.ipcz_rule.specs.Steps.{CanAct, act_part, add_gone_entry}
use Rattle.ipcz_rule.specs.Kinds.{IsTurns, Touches}
use Rattle.ipcz_rule.proofs.KeptEnds.{turns_keep}
use Rattle.ipcz_rule.proofs.Touching.{touches_turn, set_moves, After, turn_after}
use Rattle.ipcz_rule.proofs.Acting.{is_unwritten, plain_part, acts_touch, act_routes, act_hand, here_at, possible, lacks, after_is}
use Rattle.ipcz_rule.proofs.Adding.{joined_gone}
use Rattle.ipcz_rule.proofs.Retiring.{both_first, either_false, retires, retired_part_is}
use Rattle.ipcz_rule.proofs.KeptEnds.{gives_none}
use Rattle.ipcz_rule.specs.Kinds.{TouchesKept}
use Rattle.ipcz_rule.proofs.Moved.{spelled}

link_plain : (w : World) (r : Router) (i : Option ℕ) → link_answer w r.end.side (source_of r) acts.Discard i ≡ answers.Plain
unfolding link_answer word_answer
link_plain w r None = refl
link_plain w r (Some i) = refl

discard_after : (w : World) (n serial : ℕ) (r : Router) → after_router_act w n serial acts.Discard (Some r) ≡ set_node w n (commit (node_at w n) (OfRouter serial acts.Discard) answers.Plain)
unfolding after_router_act touch answer_of
discard_after w n serial r = ap (λ a. set_node w n (commit (node_at w n) (OfRouter serial acts.Discard) a)) (link_plain w r _)

-- whether Gone is discarded or another item, one item more is gone
discard_told : (w : World) (b : Books) (n serial number : ℕ) (r : Router) (leaves : Bool) → router_of w n serial ≡ Some r →
    after_turn w b n (if leaves then events.DiscardLeave serial number else events.Discard serial number) ≡ add_gone b r.end
unfolding after_turn after_discard
discard_told w b n serial number r true there = ap (after_discard b) there
discard_told w b n serial number r false there = ap (after_discard b) there

discard_written : (w : World) (b : Books) (n serial : ℕ) (r : Router) → router_of w n serial ≡ Some r → router_in (node_at w n) serial ≡ Some r →
    advance w b (steps.Turn n) (replies.Turned (turn_event w n (OfRouter serial acts.Discard))) ≡ add_gone b r.end
unfolding advance turn_event router_seen event_of event_at router_event
discard_written w b n serial r there here =
    ap (λ o. after_turn w b n (router_seen w n serial acts.Discard o)) there
    ∙ (ap (λ o. after_turn w b n (event_at (node_at w n) serial o acts.Discard (answer_of w r acts.Discard))) here ∙ discard_told w b n serial r.in_queue.current r (has_gone_next r) there)

-- what may discard is a sink
sink_discards : (r : Router) → may_take r acts.Discard ≡ true → is_terminal r ≡ true
unfolding is_possible is_rest
sink_discards r h = both_first (is_terminal r) r.closed (both_first (is_sink r) (is_some (current_item r.in_queue)) (either_false (is_possible r acts.Discard) (is_rest (next_act r)) h))

discards : (count size slots id i : ℕ) (m : Mine) (p : Part) (serial : ℕ) (rt : Router) → m.0.parts ≡ p ∷ [] → CanAct p.state serial rt acts.Discard →
    IsTurns count size slots id m i (λ n. n) (λ n. (p.node, OfRouter serial acts.Discard) ∷ []) (λ n m'. m' ≡ (with_part (add_gone_entry rt.end rt.in_queue.current (with_state (commit p.state (OfRouter serial acts.Discard) answers.Plain) p)) m.0, m.1))
discards count size slots id i m p serial rt is can =
    let x = commit p.state (OfRouter serial acts.Discard) answers.Plain in
    let p' = add_gone_entry rt.end rt.in_queue.current (with_state x p) in
    let v' = with_part p' m.0 in
    touches_turn count size slots id i m p p' v' (OfRouter serial acts.Discard) is refl (refl, refl, refl) (record { node = refl; hand = act_hand p.state serial acts.Discard answers.Plain; message = refl; probed = refl; history = refl })
    (λ s r seat inside state.
    let w = r.world in
    let b = r.books in
    let g = r.routes in
    let n : ℕ = p.node in
    let g' = act_routes w g n serial acts.Discard in
    let there = here_at w n serial p.state rt state can.there in
    let current : rt.in_queue.current ≡ read b rt.end = (terminals_keep_books w b g r.lawful).current (record { node = n; serial = serial }) rt there (sink_discards rt can.may) in
    let Kept : World → Books → Type 0 = λ u c. After w b g n (OfRouter serial acts.Discard) u c g' in
    let kept = turn_after w b g n (OfRouter serial acts.Discard) r.lawful inside (possible w n serial rt acts.Discard there can.may) (lacks w n serial p.state acts.Discard state can.serials) in
    let done : Kept (set_node w n x) (add_gone b rt.end) = subst (λ (y : Node). Kept (set_node w n (commit y (OfRouter serial acts.Discard) answers.Plain)) (add_gone b rt.end)) state
    (subst (λ (u : World). Kept u (add_gone b rt.end)) (after_is w n serial rt acts.Discard there ∙ discard_after w n serial rt)
    (subst (λ (c : Books). Kept (after_act w n (OfRouter serial acts.Discard)) c) (discard_written w b n serial rt there (ap (λ y. router_in y serial) state ∙ can.there)) kept)) in
    record {
      world = set_node w n x;
      books = add_gone b rt.end;
      routes = g';
      moves = set_moves w n x;
      words = word-set_node w n x;
      claimed = claimed-set_node w n x;
      joined = joined_gone s.views id m.0 v' p p' b rt.end seat is refl r.joined (ap (λ k. p.gone ++ (rt.end, k) ∷ []) current) refl refl;
      lawful = done.0;
      known = done.1;
    })

-- the part after an act of a router that writes no book
pub part_is : (serial : ℕ) (act : RouterAct) (a : Answer) (p : Part) → is_unwritten act ≡ true → act_part (OfRouter serial act) a p ≡ plain_part serial act a p
part_is serial acts.Discard a p e = cc
part_is serial acts.Retire a p e = cc
part_is serial other a p e = refl

-- the part after a discard
pub dropped_part_is : (serial : ℕ) (p : Part) (r : Router) → router_in p.state serial ≡ Some r →
    add_gone_entry r.end r.in_queue.current (plain_part serial acts.Discard answers.Plain p) ≡ act_part (OfRouter serial acts.Discard) answers.Plain p
dropped_part_is serial p r there = rw there refl

-- an act writes no book, or is a discard, or a retire
writes : (act : RouterAct) → (is_unwritten act ≡ true) ⊎ ((act ≡ acts.Discard) ⊎ (act ≡ acts.Retire))
writes acts.Discard = inr (inl refl)
writes acts.Retire = inr (inr refl)
writes other = inl refl

-- what a touch is and leaves of the seat, if its part is this
abbrev Touch : ℕ → ℕ → ℕ → ℕ → ℕ → Mine → ℕ → Act → Part → Type 0
Touch count size slots id i m n act q = IsTurns count size slots id m i (λ k. k) (λ k. (n, act) ∷ []) (λ k m'. m' ≡ (with_part q m.0, m.1))

-- a touch by its act
abbrev Acted : ℕ → ℕ → ℕ → ℕ → ℕ → Mine → Part → ℕ → RouterAct → Type 0
Acted count size slots id i m p serial act = Touch count size slots id i m p.node (OfRouter serial act) (act_part (OfRouter serial act) answers.Plain p)

discard_acts : (count size slots id i : ℕ) (m : Mine) (p : Part) (serial : ℕ) (rt : Router) → m.0.parts ≡ p ∷ [] → CanAct p.state serial rt acts.Discard → Acted count size slots id i m p serial acts.Discard
discard_acts count size slots id i m p serial rt is can =
    subst (Touch count size slots id i m p.node (OfRouter serial acts.Discard)) (dropped_part_is serial p rt can.there) (discards count size slots id i m p serial rt is can)

retire_acts : (count size slots id i : ℕ) (m : Mine) (p : Part) (serial : ℕ) (rt : Router) → m.0.parts ≡ p ∷ [] → CanAct p.state serial rt acts.Retire → Acted count size slots id i m p serial acts.Retire
retire_acts count size slots id i m p serial rt is can =
    subst (Touch count size slots id i m p.node (OfRouter serial acts.Retire)) (retired_part_is serial p rt can.there) (retires count size slots id i m p serial rt is can)

-- the acts of routers that are touches
pub touches_acts_turns : Touches IsTurns
touches_acts_turns count size slots id i m p serial rt act is can e = elim (writes act) [
  | inl plain ↦ subst (Touch count size slots id i m p.node (OfRouter serial act)) (sym (part_is serial act answers.Plain p plain)) (acts_touch count size slots id i m p serial rt act is can e plain)
  | inr (inl same) ↦ subst (Acted count size slots id i m p serial) (sym same) (discard_acts count size slots id i m p serial rt is (subst (CanAct p.state serial rt) same can))
  | inr (inr same) ↦ subst (Acted count size slots id i m p serial) (sym same) (retire_acts count size slots id i m p serial rt is (subst (CanAct p.state serial rt) same can))
]

-- and they let no end go if they give none up
pub touches_acts : TouchesKept
touches_acts all count size slots id i m p serial rt act is can e none s r deep at small =
    let t = touches_acts_turns count size slots id i m p serial rt act is can e s r deep at small in
    let sp = spelled s r id m.0 p at is in (
      t.0,
      t.1,
      t.2,
      turns_keep all count size s _ r ((p.node, OfRouter serial act) ∷ []) (λ h. gives_none r.world r.books r.routes p.node (OfRouter serial act) p.state r.lawful sp.state t.3.1.0.may (none h)) t.3,
      t.4,
    )

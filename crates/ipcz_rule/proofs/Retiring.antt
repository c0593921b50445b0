-- A retire as a step on the own touch word: the router leaves, and its end has put Gone.
use Rattle.std.specs.Prelude.{◌≡◌, ℕ, Bool, true, false, not, ◌&&◌, ◌||◌, [], ◌∷◌, ◌++◌, Option, Some, None, length, refl}
use Rattle.std.proofs.Common.{ap, ◌∙◌, subst}
use Rattle.ipcz_base.specs.declared.item.Item.TheVariants.{Gone}
use Rattle.ipcz_seq.specs.Queue.{is_drained}
use Rattle.ipcz_router.specs.Router.{Router, is_terminal, is_sink, is_on_central, decays, source_of}
use Rattle.ipcz_router.specs.Calls.{next_number}
use Rattle.ipcz_router.specs.ActTable.{may_take, is_possible, is_done, is_rest, next_act}
use Rattle.ipcz_router.specs.declared.act.RouterAct.TheVariants as acts
use Rattle.ipcz_router.specs.declared.act.Answer.TheVariants as answers
use Rattle.ipcz_node.specs.declared.act.Act.TheVariants.{Router as OfRouter}
use Rattle.ipcz_node.specs.Node.{Node, router_in}
use Rattle.ipcz_node.specs.Acts.{commit}
use Rattle.ipcz_node.specs.Events.{event_of, event_at, router_event}
use Rattle.ipcz_world.specs.declared.step.Step.TheVariants as steps
use Rattle.ipcz_world.specs.declared.step.Reply.TheVariants as replies
use Rattle.ipcz_world.specs.World.{World, node_at, set_node}
use Rattle.ipcz_world.specs.WordAnswers.{answer_of, link_answer, word_answer, touch}
use Rattle.ipcz_world.specs.Turns.{router_of, after_act, after_router_act, turn_event, router_seen}
use Rattle.ipcz_world.specs.Books.{Books, advance, after_turn, after_retire, add_put}
use Rattle.ipcz_world.proofs.frames.Frames.{word-set_node, claimed-set_node}
use Rattle.ipcz_world.proofs.Whole.{terminals_keep_books}
use Rattle.ipcz_rule.specs.declared.view.Part.{Part}
use Rattle.ipcz_rule.specs.Rule.{Mine, with_part, with_state}
use Rattle.ipcz_rule.specs.Steps.{CanAct, act_part, add_put_entry}
use Rattle.ipcz_rule.specs.Kinds.{IsTurns}
use Rattle.ipcz_rule.proofs.Touching.{touches_turn, set_moves, After, turn_after}
use Rattle.ipcz_rule.proofs.Acting.{plain_part, act_routes, act_hand, here_at, possible, lacks, after_is}
use Rattle.ipcz_rule.proofs.Adding.{joined_put}

link_plain : (w : World) (r : Router) (i : Option ℕ) → link_answer w r.end.side (source_of r) acts.Retire i ≡ answers.Plain
unfolding link_answer word_answer
link_plain w r None = refl
link_plain w r (Some i) = refl

retire_after : (w : World) (n serial : ℕ) (r : Router) → after_router_act w n serial acts.Retire (Some r) ≡ set_node w n (commit (node_at w n) (OfRouter serial acts.Retire) answers.Plain)
unfolding after_router_act touch answer_of
retire_after w n serial r = ap (λ a. set_node w n (commit (node_at w n) (OfRouter serial acts.Retire) a)) (link_plain w r _)

retire_written : (w : World) (b : Books) (n serial : ℕ) (r : Router) → router_of w n serial ≡ Some r → router_in (node_at w n) serial ≡ Some r →
    advance w b (steps.Turn n) (replies.Turned (turn_event w n (OfRouter serial acts.Retire))) ≡ add_put b r.end Gone
unfolding advance turn_event router_seen event_of event_at router_event after_turn after_retire
retire_written w b n serial r there here =
    ap (λ o. after_turn w b n (router_seen w n serial acts.Retire o)) there
    ∙ (ap (λ o. after_turn w b n (event_at (node_at w n) serial o acts.Retire (answer_of w r acts.Retire))) here ∙ ap (after_retire b) there)

pub both_first : (x y : Bool) → (x && y) ≡ true → x ≡ true
both_first true y q = refl
both_first false y q = cc

pub either_false : (x y : Bool) → (x || (false && y)) ≡ true → x ≡ true
either_false true y q = refl
either_false false y q = cc

-- what may retire is a sink
sink_retires : (r : Router) → may_take r acts.Retire ≡ true → is_terminal r ≡ true
unfolding is_possible is_rest
sink_retires r h = both_first (is_terminal r) r.closed
    (both_first (is_sink r) (r.mark_dropped && is_drained r.out_queue)
    (both_first (is_done r) (r.holds && (is_on_central r && not (decays r))) (either_false (is_possible r acts.Retire) (is_rest (next_act r)) h)))

pub retires : (count size slots id i : ℕ) (m : Mine) (p : Part) (serial : ℕ) (rt : Router) → m.0.parts ≡ p ∷ [] → CanAct p.state serial rt acts.Retire →
    IsTurns count size slots id m i (λ n. n) (λ n. (p.node, OfRouter serial acts.Retire) ∷ []) (λ n m'. m' ≡ (with_part (add_put_entry rt.end (next_number rt) Gone (with_state (commit p.state (OfRouter serial acts.Retire) answers.Plain) p)) m.0, m.1))
retires count size slots id i m p serial rt is can =
    let x = commit p.state (OfRouter serial acts.Retire) answers.Plain in
    let p' = add_put_entry rt.end (next_number rt) Gone (with_state x p) in
    let v' = with_part p' m.0 in
    touches_turn count size slots id i m p p' v' (OfRouter serial acts.Retire) is refl (refl, refl, refl) (record { node = refl; hand = act_hand p.state serial acts.Retire answers.Plain; message = refl; probed = refl; history = refl })
    (λ s r seat inside state.
    let w = r.world in
    let b = r.books in
    let g = r.routes in
    let n : ℕ = p.node in
    let g' = act_routes w g n serial acts.Retire in
    let c = add_put b rt.end Gone in
    let there = here_at w n serial p.state rt state can.there in
    let number : next_number rt ≡ length (b.put rt.end) = (terminals_keep_books w b g r.lawful).next (record { node = n; serial = serial }) rt there (sink_retires rt can.may) in
    let Kept : World → Books → Type 0 = λ u d. After w b g n (OfRouter serial acts.Retire) u d g' in
    let kept = turn_after w b g n (OfRouter serial acts.Retire) r.lawful inside (possible w n serial rt acts.Retire there can.may) (lacks w n serial p.state acts.Retire state can.serials) in
    let done : Kept (set_node w n x) c = subst (λ (y : Node). Kept (set_node w n (commit y (OfRouter serial acts.Retire) answers.Plain)) c) state
    (subst (λ (u : World). Kept u c) (after_is w n serial rt acts.Retire there ∙ retire_after w n serial rt)
    (subst (λ (d : Books). Kept (after_act w n (OfRouter serial acts.Retire)) d) (retire_written w b n serial rt there (ap (λ y. router_in y serial) state ∙ can.there)) kept)) in
    record {
      world = set_node w n x;
      books = c;
      routes = g';
      moves = set_moves w n x;
      words = word-set_node w n x;
      claimed = claimed-set_node w n x;
      joined = joined_put s.views id m.0 v' p p' b rt.end seat is refl r.joined Gone (ap (λ k. p.put ++ ((rt.end, k), Gone) ∷ []) number) refl refl;
      lawful = done.0;
      known = done.1;
    })

-- the part after a retire
pub retired_part_is : (serial : ℕ) (p : Part) (r : Router) → router_in p.state serial ≡ Some r →
    add_put_entry r.end (next_number r) Gone (plain_part serial acts.Retire answers.Plain p) ≡ act_part (OfRouter serial acts.Retire) answers.Plain p
retired_part_is serial p r there = rw there refl

-- A get, a close and a pending close as steps on the own touch word.
use Rattle.std.specs.Prelude.{◌≡◌, ◌<◌, ℕ, true, false, nat_lt, ◌||◌, List, [], ◌∷◌, ◌++◌, length, Option, Some, None, refl, Bool}
use Rattle.std.proofs.Common.{arith, ap, ◌∙◌, sym, subst, inl}
use Rattle.std.proofs.lemmas.Bool.Decides.{nat_tests}
use Rattle.ipcz_base.specs.declared.end.End.{End}
use Rattle.ipcz_base.specs.declared.item.Item.{Item}
use Rattle.ipcz_base.specs.declared.item.Item.TheVariants.{Parcel, Mark, Gone}
use Rattle.ipcz_base.specs.declared.parcel.Parcel as parcels
use Rattle.ipcz_base.specs.Ends.{same_end, has_end}
use Rattle.ipcz_seq.specs.Queue.{current_item}
use Rattle.ipcz_router.specs.Calls.{next_number}
use Rattle.ipcz_router.specs.declared.act.Answer.TheVariants as answers
use Rattle.ipcz_node.specs.declared.act.Act.TheVariants as node_acts
use Rattle.ipcz_node.specs.Node.{Node, Found, on_found, terminal_of, release_ends}
use Rattle.ipcz_node.specs.Calls.{get_refusal, get_node, get_at_router, got_at, got_at_found, item_got, close_refusal, close_node, close_at_router, put_number, number_at}
use Rattle.ipcz_node.specs.Acts.{commit, first_of, rest_of, act_lacks_serials}
use Rattle.ipcz_node.specs.Events.{event_of}
use Rattle.ipcz_world.specs.declared.step.Step.TheVariants as steps
use Rattle.ipcz_world.specs.declared.step.Reply.TheVariants as replies
use Rattle.ipcz_world.specs.World.{World, node_at, set_node}
use Rattle.ipcz_world.specs.Turns.{after_act, turn_event, turn_lacks_serials, can_take, is_first_pending}
use Rattle.ipcz_world.specs.Steps.{Effect, unless, get_step, get_reply, got_reply, close_step}
use Rattle.ipcz_world.specs.Books.{Books, advance, after_turn, add_put, add_got, read}
use Rattle.ipcz_world.specs.Plain.{Plain}
use Rattle.ipcz_world.specs.Routes.{Routes, routes_after}
use Rattle.ipcz_world.specs.Lawful.{Lawful}
use Rattle.ipcz_world.proofs.frames.Frames.{word-set_node, claimed-set_node}
use Rattle.ipcz_world.proofs.facts.LinkTests.{same_end-itself}
use Rattle.ipcz_world.proofs.Whole.{each_step_keeps_lawful, replies_plainly}
use Rattle.ipcz_rule.specs.Rule.{with_part}
use Rattle.ipcz_rule.specs.Steps.{get_part, close_part, act_part}
use Rattle.ipcz_rule.specs.Kinds.{Done, IsDeeds, IsKept, IsTurns, Gets, Closes, PendingCloses}
use Rattle.ipcz_world.specs.HeldEnds.{is_turn}
use Rattle.ipcz_rule.proofs.KeptEnds.{turns_keep}
use Rattle.ipcz_rule.proofs.FromLaws.{terminal_books, pending_terminal}
use Rattle.ipcz_rule.specs.Deeds.{Does}
use Rattle.ipcz_rule.proofs.Touching.{Kept, any_kept, call_done, touches, touches_turn, set_moves, After, turn_after}
use Rattle.ipcz_rule.proofs.Adding.{joined_put, joined_got}
use Rattle.ipcz_rule.proofs.KeptEnds.{one_keeps}

-- get

get_hand : (n : Node) (f : Option Found) → (on_found n f (get_at_router n)).hand ≡ n.hand
unfolding on_found
get_hand n None = refl
get_hand n (Some f) = refl

reply_item : (number k : ℕ) (i : Option Item) (q : parcels.Parcel) → item_got k i ≡ Some (number, q) → got_reply k i ≡ replies.Got number q
unfolding item_got got_reply
reply_item number k None q h = cc
reply_item number k (Some (Parcel p)) q h = grind (arith, h)
reply_item number k (Some Mark) q h = cc
reply_item number k (Some Gone) q h = cc

reply_is : (f : Option Found) (number : ℕ) (q : parcels.Parcel) → got_at_found f ≡ Some (number, q) → get_reply f ≡ replies.Got number q
unfolding got_at_found get_reply
reply_is None number q h = cc
reply_is (Some f) number q h = reply_item number f.router.in_queue.current (current_item f.router.in_queue) q h

-- if a get gives something, there is a terminal, and the number is that of its queue
got_number : (f : Option Found) (number : ℕ) (q : parcels.Parcel) → got_at_found f ≡ Some (number, q) → (t : Found) × (f ≡ Some t)
unfolding got_at_found
got_number None number q h = cc
got_number (Some f) number q h = (f, refl)

get_gives : (w : World) (n : ℕ) (at : End) (number : ℕ) (q : parcels.Parcel) → n < w.count → get_refusal (node_at w n) at ≡ None → got_at (node_at w n) at ≡ Some (number, q) →
    get_step w n at ≡ record { reply = replies.Got number q; world = set_node w n (get_node (node_at w n) at) }
unfolding unless
get_gives w n at number q inside fine got =
    let l : nat_lt n w.count ≡ true = grind (arith, nat_tests, inside) in
    let re : get_reply (terminal_of (node_at w n) at) ≡ replies.Got number q = reply_is (terminal_of (node_at w n) at) number q got in
    rw (l, fine, re) refl

get_written : (w : World) (b : Books) (n : ℕ) (at : End) (number : ℕ) (q : parcels.Parcel) → advance w b (steps.Get n at) (replies.Got number q) ≡ add_got b at q
unfolding advance
get_written w b n at number q = refl

get_lawful : (w : World) (b : Books) (g : Routes) (n : ℕ) (at : End) (number : ℕ) (q : parcels.Parcel) → Lawful w b g → n < w.count →
    get_refusal (node_at w n) at ≡ None → got_at (node_at w n) at ≡ Some (number, q) →
    Lawful (set_node w n (get_node (node_at w n) at)) (add_got b at q) (routes_after w g (steps.Get n at) (replies.Got number q))
    × (number ≡ read b at)
get_lawful w b g n at number q lawful inside fine got =
    let done = get_gives w n at number q inside fine got in
    let step = steps.Get n at in
    let it = get_step w n at in
    let kept = each_step_keeps_lawful w it.world b g step it.reply lawful (refl, refl) in
    let plain = replies_plainly w it.world b g step it.reply lawful (refl, refl) in (
      subst (λ (c : Books). Lawful (set_node w n (get_node (node_at w n) at)) c (routes_after w g step (replies.Got number q))) (get_written w b n at number q)
          (subst (λ (e : Effect). Lawful e.world (advance w b step e.reply) (routes_after w g step e.reply)) done kept),
      (subst (λ (e : Effect). Plain b step e.reply (advance w b step e.reply)) done plain).0,
    )

get_done : (w : World) (b : Books) (g : Routes) (n : ℕ) (at : End) (number : ℕ) (q : parcels.Parcel) → Lawful w b g → n < w.count →
    get_refusal (node_at w n) at ≡ None → got_at (node_at w n) at ≡ Some (number, q) →
    Done w b g (Does (steps.Get n at) (replies.Got number q) ∷ []) (set_node w n (get_node (node_at w n) at)) (add_got b at q) (routes_after w g (steps.Get n at) (replies.Got number q))
unfolding is_turn
get_done w b g n at number q lawful inside fine got =
    let e = get_gives w n at number q inside fine got in
    call_done w (set_node w n (get_node (node_at w n) at)) b (add_got b at q) g (routes_after w g (steps.Get n at) (replies.Got number q)) (steps.Get n at) (replies.Got number q) lawful refl
    (ap (λ (x : Effect). x.reply) (sym e), ap (λ (x : Effect). x.world) (sym e)) (sym (get_written w b n at number q)) refl

pub gets_deeds : Gets IsDeeds
gets_deeds count size slots id i m p at number q is fine got =
    let p' = get_part at number q p in
    let v' = with_part p' m.0 in
    touches count size slots id i m p p' v' (Does (steps.Get p.node at) (replies.Got number q) ∷ []) is refl (refl, refl, refl) (record { node = refl; hand = get_hand p.state (terminal_of p.state at); message = refl; probed = refl; history = refl })
    (λ s r seat inside state.
    let w = r.world in
    let b = r.books in
    let g = r.routes in
    let n : ℕ = p.node in
    let g' = routes_after w g (steps.Get n at) (replies.Got number q) in
    let kept = get_lawful w b g n at number q r.lawful inside (rw state fine) (rw state got) in
    let f = got_number (terminal_of p.state at) number q got in
    let keeps = terminal_books w b g n at f.0 r.lawful (ap (λ y. terminal_of y at) state ∙ f.1) in
    let index : number ≡ length (b.got at) = let none_gone = keeps.none_gone in let k = kept.1 in omega (arith, none_gone, k) in
    record {
      world = set_node w n p'.state;
      books = add_got b at q;
      routes = g';
      moves = set_moves w n p'.state;
      words = word-set_node w n p'.state;
      claimed = claimed-set_node w n p'.state;
      joined = joined_got s.views id m.0 v' p p' b at seat is refl r.joined q keeps.none_gone (ap (λ k. p.got ++ ((at, k), q) ∷ []) index) refl refl;
      lawful = subst (λ (y : Node). Lawful (set_node w n (get_node y at)) (add_got b at q) g') state kept.0;
      known = subst (λ (y : Node). Done w b g (Does (steps.Get n at) (replies.Got number q) ∷ []) (set_node w n (get_node y at)) (add_got b at q) g') state
          (get_done w b g n at number q r.lawful inside (rw state fine) (rw state got));
    })

pub gets : (all : Bool) → Gets (Kept all)
gets all count size slots id i m p at number q is fine got =
    any_kept all count size slots id m i (λ n. n) (λ n. Does (steps.Get p.node at) (replies.Got number q) ∷ []) (λ n m'. m' ≡ (with_part (get_part at number q p) m.0, m.1))
    (gets_deeds count size slots id i m p at number q is fine got)

-- close

close_hand : (n x : Node) (f : Option Found) → x.hand ≡ n.hand → (on_found x f (close_at_router x)).hand ≡ n.hand
unfolding on_found
close_hand n x None h = h
close_hand n x (Some f) h = h

close_gives : (w : World) (n : ℕ) (at : End) → n < w.count → close_refusal (node_at w n) at ≡ None →
    close_step w n at ≡ record { reply = replies.Closed (put_number (node_at w n) at); world = set_node w n (close_node (node_at w n) at) }
unfolding unless
close_gives w n at inside fine = let l : nat_lt n w.count ≡ true = grind (arith, nat_tests, inside) in rw (l, fine) refl

close_written : (w : World) (b : Books) (n : ℕ) (at : End) (number : ℕ) → advance w b (steps.Close n at) (replies.Closed number) ≡ add_put b at Mark
unfolding advance
close_written w b n at number = refl

close_lawful : (w : World) (b : Books) (g : Routes) (n : ℕ) (at : End) → Lawful w b g → n < w.count → close_refusal (node_at w n) at ≡ None →
    Lawful (set_node w n (close_node (node_at w n) at)) (add_put b at Mark) (routes_after w g (steps.Close n at) (replies.Closed (put_number (node_at w n) at)))
    × (put_number (node_at w n) at ≡ length (b.put at))
close_lawful w b g n at lawful inside fine =
    let done = close_gives w n at inside fine in
    let step = steps.Close n at in
    let it = close_step w n at in
    let kept = each_step_keeps_lawful w it.world b g step it.reply lawful (inl (refl, refl)) in
    let plain = replies_plainly w it.world b g step it.reply lawful (inl (refl, refl)) in (
      subst (λ (c : Books). Lawful (set_node w n (close_node (node_at w n) at)) c (routes_after w g step (replies.Closed (put_number (node_at w n) at)))) (close_written w b n at (put_number (node_at w n) at))
          (subst (λ (e : Effect). Lawful e.world (advance w b step e.reply) (routes_after w g step e.reply)) done kept),
      (subst (λ (e : Effect). Plain b step e.reply (advance w b step e.reply)) done plain).0,
    )

close_done : (w : World) (b : Books) (g : Routes) (n : ℕ) (at : End) → Lawful w b g → n < w.count → close_refusal (node_at w n) at ≡ None →
    Done w b g (Does (steps.Close n at) (replies.Closed (put_number (node_at w n) at)) ∷ []) (set_node w n (close_node (node_at w n) at)) (add_put b at Mark)
    (routes_after w g (steps.Close n at) (replies.Closed (put_number (node_at w n) at)))
unfolding is_turn
close_done w b g n at lawful inside fine =
    let number = put_number (node_at w n) at in
    let e = close_gives w n at inside fine in
    call_done w (set_node w n (close_node (node_at w n) at)) b (add_put b at Mark) g (routes_after w g (steps.Close n at) (replies.Closed number)) (steps.Close n at) (replies.Closed number) lawful refl
    (inl (ap (λ (x : Effect). x.reply) (sym e), ap (λ (x : Effect). x.world) (sym e))) (sym (close_written w b n at number)) refl

pub closes_deeds : Closes IsDeeds
closes_deeds count size slots id i m p at is fine =
    let p' = close_part at p in
    let v' = with_part p' m.0 in
    touches count size slots id i m p p' v' (Does (steps.Close p.node at) (replies.Closed (put_number p.state at)) ∷ []) is refl (refl, refl, refl) (record { node = refl; hand = close_hand p.state (release_ends p.state (at ∷ [])) (terminal_of (release_ends p.state (at ∷ [])) at) refl; message = refl; probed = refl; history = refl })
    (λ s r seat inside state.
    let w = r.world in
    let b = r.books in
    let g = r.routes in
    let n : ℕ = p.node in
    let Kept : Node → Type 0 = λ y. Lawful (set_node w n (close_node y at)) (add_put b at Mark) (routes_after w g (steps.Close n at) (replies.Closed (put_number y at))) × (put_number y at ≡ length (b.put at)) in
    let kept : Kept p.state = subst Kept state (close_lawful w b g n at r.lawful inside (rw state fine)) in
    record {
      world = set_node w n p'.state;
      books = add_put b at Mark;
      routes = routes_after w g (steps.Close n at) (replies.Closed (put_number p.state at));
      moves = set_moves w n p'.state;
      words = word-set_node w n p'.state;
      claimed = claimed-set_node w n p'.state;
      joined = joined_put s.views id m.0 v' p p' b at seat is refl r.joined Mark (ap (λ k. p.put ++ ((at, k), Mark) ∷ []) kept.1) refl refl;
      lawful = kept.0;
      known = subst (λ (y : Node). Done w b g (Does (steps.Close n at) (replies.Closed (put_number y at)) ∷ []) (set_node w n (close_node y at)) (add_put b at Mark)
          (routes_after w g (steps.Close n at) (replies.Closed (put_number y at)))) state (close_done w b g n at r.lawful inside (rw state fine));
    })

pub closes : (all : Bool) → Closes (Kept all)
closes all count size slots id i m p at is fine =
    any_kept all count size slots id m i (λ n. n) (λ n. Does (steps.Close p.node at) (replies.Closed (put_number p.state at)) ∷ []) (λ n m'. m' ≡ (with_part (close_part at p) m.0, m.1))
    (closes_deeds count size slots id i m p at is fine)

-- a pending close

pending_has : (es : List End) (e : End) → first_of es ≡ Some e → has_end e es ≡ true
unfolding first_of
pending_has [] e h = cc
pending_has (d ∷ es) e h = let same : d ≡ e = grind (arith, h) in ap (λ c. c || has_end e es) (ap (λ z. same_end z e) same ∙ same_end-itself e)

first_is : (es : List End) (e : End) → first_of es ≡ Some e → is_first_pending es e ≡ true
unfolding first_of is_first_pending
first_is [] e h = cc
first_is (d ∷ es) e h = let same : d ≡ e = grind (arith, h) in ap (λ z. same_end z e) same ∙ same_end-itself e

pending_can : (w : World) (n : ℕ) (e : End) (x : Node) → node_at w n ≡ x → first_of x.pending ≡ Some e → can_take w n (node_acts.Close e) ≡ true
unfolding can_take
pending_can w n e x is h = ap (λ y. is_first_pending y.pending e) is ∙ first_is x.pending e h

pending_lacks : (w : World) (n : ℕ) (e : End) → turn_lacks_serials w n (node_acts.Close e) ≡ false
unfolding turn_lacks_serials act_lacks_serials
pending_lacks w n e = refl

pending_after : (w : World) (n : ℕ) (e : End) → after_act w n (node_acts.Close e) ≡ set_node w n (commit (node_at w n) (node_acts.Close e) answers.Plain)
unfolding after_act
pending_after w n e = refl

pending_written : (w : World) (b : Books) (n : ℕ) (e : End) → advance w b (steps.Turn n) (replies.Turned (turn_event w n (node_acts.Close e))) ≡ add_put b e Mark
unfolding advance turn_event event_of after_turn
pending_written w b n e = refl

pending_hand : (n : Node) (e : End) → (commit n (node_acts.Close e) answers.Plain).hand ≡ n.hand
unfolding commit
pending_hand n e = close_hand n (record n { pending = rest_of n.pending }) (terminal_of (record n { pending = rest_of n.pending }) e) refl

number_found : (o : Option Found) (f : Found) → o ≡ Some f → number_at o next_number ≡ next_number f.router
unfolding number_at
number_found None f h = cc
number_found (Some t) f h = let same : t ≡ f = grind (arith, h) in ap (λ z. next_number z.router) same

pub pending_closes_turns : PendingCloses IsTurns
pending_closes_turns count size slots id i m p e is first =
    let p' = act_part (node_acts.Close e) answers.Plain p in
    let v' = with_part p' m.0 in
    touches_turn count size slots id i m p p' v' (node_acts.Close e) is refl (refl, refl, refl) (record { node = refl; hand = pending_hand p.state e; message = refl; probed = refl; history = refl })
    (λ s r seat inside state.
    let w = r.world in
    let b = r.books in
    let g = r.routes in
    let n : ℕ = p.node in
    let g' = routes_after w g (steps.Turn n) (replies.Turned (turn_event w n (node_acts.Close e))) in
    let f = pending_terminal w b g n e r.lawful inside (ap (λ y. has_end e y.pending) state ∙ pending_has p.state.pending e first) in
    let here : terminal_of p.state e ≡ Some f.0 = ap (λ y. terminal_of y e) (sym state) ∙ f.1 in
    let keeps = terminal_books w b g n e f.0 r.lawful f.1 in
    let number : put_number p.state e ≡ length (b.put e) = number_found (terminal_of p.state e) f.0 here ∙ keeps.next in
    let Kept : World → Books → Type 0 = λ u c. After w b g n (node_acts.Close e) u c g' in
    let kept = turn_after w b g n (node_acts.Close e) r.lawful inside (pending_can w n e p.state state first) (pending_lacks w n e) in
    let done : Kept (set_node w n p'.state) (add_put b e Mark) = subst (λ (y : Node). Kept (set_node w n (commit y (node_acts.Close e) answers.Plain)) (add_put b e Mark)) state
    (subst (λ (c : Books). Kept (set_node w n (commit (node_at w n) (node_acts.Close e) answers.Plain)) c) (pending_written w b n e)
    (subst (λ (u : World). Kept u (advance w b (steps.Turn n) (replies.Turned (turn_event w n (node_acts.Close e))))) (pending_after w n e) kept)) in
    record {
      world = set_node w n p'.state;
      books = add_put b e Mark;
      routes = g';
      moves = set_moves w n p'.state;
      words = word-set_node w n p'.state;
      claimed = claimed-set_node w n p'.state;
      joined = joined_put s.views id m.0 v' p p' b e seat is refl r.joined Mark (ap (λ k. p.put ++ ((e, k), Mark) ∷ []) number) refl refl;
      lawful = done.0;
      known = done.1;
    })

pub pending_closes : (all : Bool) → PendingCloses (IsKept all)
pending_closes all count size slots id i m p e is first s r deep at small =
    let t = pending_closes_turns count size slots id i m p e is first s r deep at small in (t.0, t.1, t.2, turns_keep all count size s _ r ((p.node, node_acts.Close e) ∷ []) (λ h. one_keeps r.world p.node (node_acts.Close e) tt) t.3, t.4)

-- Acts of routers as steps on one word: those without another word at the own touch word, and those on the word of a link.
use Rattle.std.specs.Prelude.{◌≡◌, ◌<◌, ℕ, Bool, true, false, List, [], ◌∷◌, Option, Some, None, refl}
use Rattle.std.proofs.Common.{ap, sym, ◌∙◌, subst}
use Rattle.ipcz_base.specs.declared.end.End.{End}
use Rattle.ipcz_base.specs.declared.link_id.LinkId.{LinkId}
use Rattle.ipcz_router.specs.Router.{Router, primary_word, source_of}
use Rattle.ipcz_router.specs.ActTable.{may_take}
use Rattle.ipcz_router.specs.ActEffects.{apply, leaves_by, output_of}
use Rattle.ipcz_router.specs.declared.act.RouterAct.{RouterAct}
use Rattle.ipcz_router.specs.declared.act.RouterAct.TheVariants as acts
use Rattle.ipcz_router.specs.declared.act.Answer.{Answer}
use Rattle.ipcz_router.specs.declared.act.Answer.TheVariants as answers
use Rattle.ipcz_router.specs.declared.act.Applied.{Applied}
use Rattle.ipcz_router.specs.declared.act.Applied.TheVariants as outputs
use Rattle.ipcz_node.specs.declared.act.Act.TheVariants.{Router as OfRouter}
use Rattle.ipcz_node.specs.declared.happened.Happened.{Happened}
use Rattle.ipcz_node.specs.declared.happened.Happened.TheVariants as events
use Rattle.ipcz_node.specs.Node.{Node, Found, on_router, router_in, terminal_of}
use Rattle.ipcz_node.specs.Sends.{Transfer, move_found, move_end, move_ends, moved_ends, send_item, send}
use Rattle.ipcz_node.specs.Acts.{commit, commit_router, keep_or_drop, act_lacks_serials}
use Rattle.ipcz_node.specs.Events.{send_event, word_event, unlock_event, link_of, router_event, event_at, event_of}
use Rattle.ipcz_world.specs.declared.step.Step.TheVariants as steps
use Rattle.ipcz_world.specs.declared.step.Reply.TheVariants as replies
use Rattle.ipcz_world.specs.World.{World, node_at, word_at, router_at, set_node, set_word}
use Rattle.ipcz_world.specs.WordAnswers.{word_answer, link_answer, answer_of, word_after, touch_word, touch}
use Rattle.ipcz_world.specs.Turns.{router_of, after_router_act, after_act, turn_event, router_seen, turn_lacks_serials, may_act, can_take}
use Rattle.ipcz_world.specs.Books.{Books, advance, after_turn}
use Rattle.ipcz_world.specs.Routes.{Routes, routes_after}
use Rattle.ipcz_world.specs.Lawful.{Lawful}
use Rattle.ipcz_world.proofs.frames.Frames.{word-set_node, claimed-set_node}
use Rattle.ipcz_world.specs.Wordless.{is_wordless}
use Rattle.ipcz_world.proofs.code.Wordless.{plain-answer, untouched}
use Rattle.ipcz_rule.specs.declared.view.Part.{Part}
use Rattle.ipcz_rule.specs.Rule.{Mine, with_part, with_state}
use Rattle.ipcz_rule.specs.Steps.{CanAct, is_on_word}
use Rattle.ipcz_rule.proofs.Joins.{joined_same}
use Rattle.ipcz_rule.specs.Kinds.{IsTurns}
use Rattle.ipcz_rule.proofs.Touching.{touches_turn, set_moves, After, turn_after}

-- an act of a router leaves the hand

move_found_hand : (m : Transfer) (to : ℕ) (f : Option Found) → (move_found m to f).node.hand ≡ m.node.hand
unfolding move_found
move_found_hand m to None = refl
move_found_hand m to (Some f) = refl

move_ends_hand : (m : Transfer) (to : ℕ) (es : List End) → (move_ends m to es).node.hand ≡ m.node.hand
move_ends_hand m to [] = refl
move_ends_hand m to (e ∷ es) = move_ends_hand (move_end m to e) to es ∙ move_found_hand m to (terminal_of m.node e)

send_hand : (n : Node) (out : Applied) → (send n out).hand ≡ n.hand
unfolding send send_item
send_hand n (outputs.Sent link number item) = move_ends_hand (record { node = n; moves = [] }) link.other (moved_ends n link item)
send_hand n any = refl

keep_hand : (n : Node) (serial : ℕ) (r : Router) (leaves : Bool) → (keep_or_drop n serial r leaves).hand ≡ n.hand
unfolding keep_or_drop
keep_hand n serial r true = refl
keep_hand n serial r false = refl

pub act_hand : (n : Node) (serial : ℕ) (act : RouterAct) (a : Answer) → (commit n (OfRouter serial act) a).hand ≡ n.hand
unfolding commit on_router commit_router
act_hand n serial act a = go (router_in n serial)
  where
    go : (f : Option Router) → (on_router n f (commit_router n serial act a)).hand ≡ n.hand
    go None = refl
    go (Some r) = send_hand (keep_or_drop n serial (apply r act a) (leaves_by r act)) (output_of r act) ∙ keep_hand n serial (apply r act a) (leaves_by r act)

-- an act that asks nothing of a link word changes its node alone
after_touch : (w : World) (n serial : ℕ) (r : Router) (act : RouterAct) → is_wordless act ≡ true → after_router_act w n serial act (Some r) ≡ set_node w n (commit (node_at w n) (OfRouter serial act) answers.Plain)
unfolding after_router_act
after_touch w n serial r act e =
    ap (λ u. set_node u n (commit (node_at w n) (OfRouter serial act) (answer_of w r act))) (sym (untouched w r act e)) ∙
    ap (λ a. set_node w n (commit (node_at w n) (OfRouter serial act) a)) (plain-answer w r act e)

touch_is : (w : World) (r : Router) (act : RouterAct) → is_on_word act ≡ true → touch w r act ≡ touch_word w r.end.side (source_of r) act (primary_word r)
unfolding touch
touch_is w r acts.Mark e = refl
touch_is w r acts.Wake e = refl
touch_is w r acts.Lock e = refl
touch_is w r acts.Unlock e = refl
touch_is w r other e = cc

answer_is : (w : World) (r : Router) (act : RouterAct) → is_on_word act ≡ true → answer_of w r act ≡ link_answer w r.end.side (source_of r) act (primary_word r)
unfolding answer_of
answer_is w r acts.Mark e = refl
answer_is w r acts.Wake e = refl
answer_is w r acts.Lock e = refl
answer_is w r acts.Unlock e = refl
answer_is w r other e = cc

-- the world after an act on the word i
abbrev pub word_world : World → ℕ → ℕ → Router → RouterAct → ℕ → World
word_world w n serial r act i =
    set_node (set_word w i (word_after (word_at w i) r.end.side (source_of r) act)) n (commit (node_at w n) (OfRouter serial act) (word_answer (word_at w i) r.end.side (source_of r) act))

pub after_word : (w : World) (n serial : ℕ) (r : Router) (act : RouterAct) (i : ℕ) → is_on_word act ≡ true → primary_word r ≡ Some i → after_router_act w n serial act (Some r) ≡ word_world w n serial r act i
unfolding after_router_act touch_word link_answer
after_word w n serial r act i e p = rw (touch_is w r act e, answer_is w r act e, p) refl

-- what such an act is seen to do writes no book
quiet_word : (w : World) (b : Books) (n serial : ℕ) (link : LinkId) (a : Answer) → after_turn w b n (word_event serial link a) ≡ b
unfolding after_turn word_event
quiet_word w b n serial link answers.Plain = refl
quiet_word w b n serial link other = refl

quiet_unlock : (w : World) (b : Books) (n serial : ℕ) (link : LinkId) (a : Answer) → after_turn w b n (unlock_event serial link a) ≡ b
unfolding after_turn unlock_event
quiet_unlock w b n serial link answers.Plain = refl
quiet_unlock w b n serial link other = refl

quiet_send : (w : World) (b : Books) (x : Node) (n : ℕ) (event : ℕ → LinkId → List End → Happened) (out : Applied) → ((k : ℕ) (l : LinkId) (es : List End) → after_turn w b n (event k l es) ≡ b) → after_turn w b n (send_event x event out) ≡ b
unfolding after_turn send_event
quiet_send w b x n event (outputs.Sent link number item) h = h number link.link (moved_ends x link item)
quiet_send w b x n event other h = refl

-- acts that write no book
abbrev pub is_unwritten : RouterAct → Bool
is_unwritten acts.Discard = false
is_unwritten acts.Retire = false
is_unwritten other = true

quiet_act : (w : World) (b : Books) (x : Node) (n serial : ℕ) (r : Router) (act : RouterAct) (a : Answer) → is_unwritten act ≡ true → after_turn w b n (router_event x serial r act a) ≡ b
unfolding after_turn router_event
quiet_act w b x n serial r acts.SendOut a e = quiet_send w b x n (λ number link ends. events.SendOut serial number link ends) (output_of r acts.SendOut) (λ k l es. refl)
quiet_act w b x n serial r acts.SendIn a e = quiet_send w b x n (λ number link ends. events.SendIn serial number link ends) (output_of r acts.SendIn) (λ k l es. refl)
quiet_act w b x n serial r acts.Discard a e = cc
quiet_act w b x n serial r acts.Mark a e = quiet_word w b n serial (link_of r.outward.primary) a
quiet_act w b x n serial r acts.Wake a e = quiet_word w b n serial (link_of r.outward.primary) a
quiet_act w b x n serial r acts.Claim a e = quiet_word w b n serial (link_of r.outward.primary) a
quiet_act w b x n serial r acts.Lock a e = quiet_word w b n serial (link_of r.outward.primary) a
quiet_act w b x n serial r acts.Retire a e = cc
quiet_act w b x n serial r acts.Unlock a e = quiet_unlock w b n serial (link_of r.outward.primary) a
quiet_act w b x n serial r other a e = refl

quiet_at : (w : World) (b : Books) (x : Node) (n serial : ℕ) (f : Option Router) (act : RouterAct) (a : Answer) → is_unwritten act ≡ true → after_turn w b n (event_at x serial f act a) ≡ b
unfolding after_turn event_at
quiet_at w b x n serial None act a e = refl
quiet_at w b x n serial (Some r) act a e = quiet_act w b x n serial r act a e

quiet_turn : (w : World) (b : Books) (n serial : ℕ) (r : Router) (act : RouterAct) → router_of w n serial ≡ Some r → is_unwritten act ≡ true →
    advance w b (steps.Turn n) (replies.Turned (turn_event w n (OfRouter serial act))) ≡ b
unfolding advance turn_event router_seen event_of
quiet_turn w b n serial r act there e = rw there (quiet_at w b (node_at w n) n serial (router_in (node_at w n) serial) act (answer_of w r act) e)

pub here_at : (w : World) (n serial : ℕ) (x : Node) (r : Router) → node_at w n ≡ x → router_in x serial ≡ Some r → router_of w n serial ≡ Some r
unfolding router_at
here_at w n serial x r is there = ap (λ y. router_in y serial) is ∙ there

pub possible : (w : World) (n serial : ℕ) (r : Router) (act : RouterAct) → router_of w n serial ≡ Some r → may_take r act ≡ true → can_take w n (OfRouter serial act) ≡ true
unfolding can_take may_act
possible w n serial r act there may = rw there may

pub lacks : (w : World) (n serial : ℕ) (x : Node) (act : RouterAct) → node_at w n ≡ x → act_lacks_serials x (OfRouter serial act) ≡ false → turn_lacks_serials w n (OfRouter serial act) ≡ false
unfolding turn_lacks_serials
lacks w n serial x act is l = ap (λ y. act_lacks_serials y (OfRouter serial act)) is ∙ l

pub after_is : (w : World) (n serial : ℕ) (r : Router) (act : RouterAct) → router_of w n serial ≡ Some r → after_act w n (OfRouter serial act) ≡ after_router_act w n serial act (Some r)
unfolding after_act
after_is w n serial r act there = ap (after_router_act w n serial act) there

-- the routes after an act of a router
abbrev pub act_routes : World → Routes → ℕ → ℕ → RouterAct → Routes
act_routes w g n serial act = routes_after w g (steps.Turn n) (replies.Turned (turn_event w n (OfRouter serial act)))

-- an act of a router that writes no book keeps the world lawful, and is a turn
pub act_after : (w : World) (b : Books) (g : Routes) (n serial : ℕ) (x : Node) (r : Router) (act : RouterAct) → Lawful w b g → n < w.count → node_at w n ≡ x → CanAct x serial r act → is_unwritten act ≡ true →
    After w b g n (OfRouter serial act) (after_router_act w n serial act (Some r)) b (act_routes w g n serial act)
act_after w b g n serial x r act lawful inside is can e =
    let there = here_at w n serial x r is can.there in
    let kept = turn_after w b g n (OfRouter serial act) lawful inside (possible w n serial r act there can.may) (lacks w n serial x act is can.serials) in
    subst (λ (u : World). After w b g n (OfRouter serial act) u b (act_routes w g n serial act)) (after_is w n serial r act there)
    (subst (λ (c : Books). After w b g n (OfRouter serial act) (after_act w n (OfRouter serial act)) c (act_routes w g n serial act)) (quiet_turn w b n serial r act there e) kept)

pub unwritten_word : (act : RouterAct) → is_on_word act ≡ true → is_unwritten act ≡ true
unwritten_word acts.Discard e = cc
unwritten_word acts.Retire e = cc
unwritten_word other e = refl

-- the part after an act of a router with this answer, if it writes no book
abbrev pub plain_part : ℕ → RouterAct → Answer → Part → Part
plain_part serial act a p = with_state (commit p.state (OfRouter serial act) a) p

-- acts that ask nothing of a link word and write no book, as a touch
pub acts_touch : (count size slots id i : ℕ) (m : Mine) (p : Part) (serial : ℕ) (rt : Router) (act : RouterAct) → m.0.parts ≡ p ∷ [] → CanAct p.state serial rt act → is_wordless act ≡ true → is_unwritten act ≡ true →
    IsTurns count size slots id m i (λ n. n) (λ n. (p.node, OfRouter serial act) ∷ []) (λ n m'. m' ≡ (with_part (plain_part serial act answers.Plain p) m.0, m.1))
acts_touch count size slots id i m p serial rt act is can e unwritten =
    let p' = plain_part serial act answers.Plain p in
    let v' = with_part p' m.0 in
    touches_turn count size slots id i m p p' v' (OfRouter serial act) is refl (refl, refl, refl) (record { node = refl; hand = act_hand p.state serial act answers.Plain; message = refl; probed = refl; history = refl })
    (λ s r seat inside state.
    let w = r.world in
    let n : ℕ = p.node in
    let Kept : World → Type 0 = λ u. After w r.books r.routes n (OfRouter serial act) u r.books (act_routes w r.routes n serial act) in
    let kept = subst Kept (after_touch w n serial rt act e)
    (act_after w r.books r.routes n serial p.state rt act r.lawful inside state can unwritten) in
    let done : Kept (set_node w n p'.state) = subst (λ (y : Node). Kept (set_node w n (commit y (OfRouter serial act) answers.Plain))) state kept in
    record {
      world = set_node w n p'.state;
      books = r.books;
      routes = act_routes w r.routes n serial act;
      moves = set_moves w n p'.state;
      words = word-set_node w n p'.state;
      claimed = claimed-set_node w n p'.state;
      joined = joined_same s.views id m.0 v' p p' r.books seat is refl refl refl refl r.joined;
      lawful = done.0;
      known = done.1;
    })

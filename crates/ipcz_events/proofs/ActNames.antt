-- What an act is seen to do has the name of the act: whatever the words answer, the event is one of this act.
use Rattle.std.proofs.Common.{◌≡◌, ◌∙◌, ℕ, Bool, true, false, List, Option, Some, None, refl, ap, arith}
use Rattle.std.specs.Prelude.{◌&&◌, is_some}
use Rattle.std.proofs.lemmas.Bool.{and_parts}
use Rattle.ipcz_base.specs.declared.end.End.{End}
use Rattle.ipcz_base.specs.declared.item.Item.{Item}
use Rattle.ipcz_base.specs.declared.link_end.LinkEnd.{LinkEnd}
use Rattle.ipcz_base.specs.declared.link_id.LinkId.{LinkId}
use Rattle.ipcz_base.specs.declared.message.Message.{Message}
use Rattle.ipcz_base.specs.declared.side.Side.{Side}
use Rattle.ipcz_world.proofs.Vocabulary.{current_item}
use Rattle.ipcz_word.specs.Word.{Word, Plan, Locks, Waits, Refuses, plan_of}
use Rattle.ipcz_router.specs.Router.{Router, is_on_central, primary_word, source_of}
use Rattle.ipcz_router.specs.Acts.{has_gone_next, way_in, way_out}
use Rattle.ipcz_router.specs.ActEffects.{item_output, output_of}
use Rattle.ipcz_router.specs.ActTable.{is_possible, is_rest, may_take}
use Rattle.ipcz_router.specs.declared.act.RouterAct.{RouterAct}
use Rattle.ipcz_router.specs.declared.act.RouterAct.TheVariants as does
use Rattle.ipcz_node.specs.Node.{Node}
use Rattle.ipcz_node.specs.Events.{event_of, hand_event, link_of, router_event, send_event, unlock_event, word_event}
use Rattle.ipcz_node.specs.Hands.{is_hand_of}
use Rattle.ipcz_node.specs.declared.act.Act.{Act}
use Rattle.ipcz_node.specs.declared.act.Act.TheVariants as acts
use Rattle.ipcz_node.specs.declared.happened.Happened.{Happened}
use Rattle.ipcz_node.specs.declared.happened.Happened.TheVariants as events
use Rattle.ipcz_world.specs.Asking.{IsActed}
use Rattle.ipcz_world.specs.Turns.{can_take, hand_seen, may_act, message_in_hand, router_of, turn_event}
use Rattle.ipcz_world.specs.WordAnswers.{answer_of, claim_answer, link_answer, try_answer, word_answer}
use Rattle.ipcz_world.specs.World.{World, has_unclaimed_word, node_at, word_at}
use Rattle.ipcz_world.proofs.acts.Seeing.{seen_event, taken_possible}
use Rattle.ipcz_events.specs.declared.naming.Named.{Named}
use Rattle.ipcz_events.specs.declared.naming.Named.TheVariants as named
use Rattle.ipcz_events.specs.Naming.{name_of}
use Rattle.ipcz_events.proofs.EventNames.{seen_name}

-- ---- acts of routers

send-name : (x : Node) (name : Named) (event : ℕ → LinkId → List End → Happened) (n : ℕ) (e : Option LinkEnd) (i : Option Item) →
    ((number : ℕ) (link : LinkId) (ends : List End) → seen_name (event number link ends) ≡ name) → (is_some i && is_some e) ≡ true →
    seen_name (send_event x event (item_output e n i)) ≡ name
unfolding send_event item_output
send-name x name event n (Some e) (Some i) same h = same n e.link _
send-name x name event n None (Some i) same h = cc
send-name x name event n None None same h = cc
send-name x name event n (Some e) None same h = cc

module _ (w : World) (side : Side) (source : Option ℕ) (s : ℕ) (link : LinkId) where
  mark-name : (o : Option ℕ) → is_some o ≡ true → seen_name (word_event s link (link_answer w side source does.Mark o)) ≡ named.Router s does.Mark
  unfolding word_event link_answer word_answer
  mark-name None h = cc
  mark-name (Some i) h = refl

  wake-name : (o : Option ℕ) → is_some o ≡ true → seen_name (word_event s link (link_answer w side source does.Wake o)) ≡ named.Router s does.Wake
  unfolding word_event link_answer word_answer
  wake-name None h = cc
  wake-name (Some i) h = refl

  unlock-name : (o : Option ℕ) → is_some o ≡ true →
      seen_name (unlock_event s link (link_answer w side source does.Unlock o)) ≡ named.Router s does.Unlock
  unfolding unlock_event link_answer word_answer
  unlock-name None h = cc
  unlock-name (Some i) h = refl

  try-name : (x : Word) (plan : Plan) → seen_name (word_event s link (try_answer x side source plan)) ≡ named.Router s does.Lock
  unfolding word_event try_answer
  try-name x Locks = refl
  try-name x Waits = refl
  try-name x Refuses = refl

  lock-name : (o : Option ℕ) → is_some o ≡ true → seen_name (word_event s link (link_answer w side source does.Lock o)) ≡ named.Router s does.Lock
  unfolding link_answer word_answer
  lock-name None h = cc
  lock-name (Some i) h = try-name (word_at w i) (plan_of (word_at w i) side)

claim-name : (w : World) (s : ℕ) (link : LinkId) → seen_name (word_event s link (claim_answer w)) ≡ named.Router s does.Claim
unfolding word_event
claim-name w s link = go (has_unclaimed_word w) refl
  where
    go : (c : Bool) → has_unclaimed_word w ≡ c → seen_name (word_event s link (claim_answer w)) ≡ named.Router s does.Claim
    go true e = rw e refl
    go false e = rw e refl

discard-name : (x : Node) (w : World) (s : ℕ) (r : Router) →
    seen_name (router_event x s r does.Discard (answer_of w r does.Discard)) ≡ named.Router s does.Discard
unfolding router_event
discard-name x w s r = go (has_gone_next r) refl
  where
    go : (c : Bool) → has_gone_next r ≡ c → seen_name (router_event x s r does.Discard (answer_of w r does.Discard)) ≡ named.Router s does.Discard
    go true e = rw e refl
    go false e = rw e refl

lock-central : (r : Router) → is_possible r does.Lock ≡ true → is_on_central r ≡ true
unfolding is_possible
lock-central r h = go (is_on_central r) refl
  where
    go : (c : Bool) → is_on_central r ≡ c → is_on_central r ≡ true
    go true e = e
    go false e = absurd (grind (arith, h, e))

unlock-central : (r : Router) → is_possible r does.Unlock ≡ true → is_on_central r ≡ true
unfolding is_possible
unlock-central r h = go (is_on_central r) refl
  where
    go : (c : Bool) → is_on_central r ≡ c → is_on_central r ≡ true
    go true e = e
    go false e = absurd (grind (arith, h, e))

mark-central : (r : Router) → is_possible r does.Mark ≡ true → is_on_central r ≡ true
unfolding is_possible
mark-central r h = (and_parts (is_on_central r) _ h).0

wake-central : (r : Router) → is_possible r does.Wake ≡ true → is_on_central r ≡ true
unfolding is_possible
wake-central r h = (and_parts r.wake_owed (is_on_central r) h).1

both-out : (r : Router) → is_possible r does.SendOut ≡ true → (is_some (current_item r.out_queue) && is_some (way_out r)) ≡ true
unfolding is_possible
both-out r h = h

both-in : (r : Router) → is_possible r does.SendIn ≡ true → (is_some (current_item r.in_queue) && is_some (way_in r)) ≡ true
unfolding is_possible
both-in r h = h

router_name : (w : World) (x : Node) (s : ℕ) (r : Router) (act : RouterAct) → may_take r act ≡ true →
    seen_name (router_event x s r act (answer_of w r act)) ≡ named.Router s act
unfolding router_event answer_of output_of is_rest
router_name w x s r does.SendOut h =
    send-name x (named.Router s does.SendOut) (λ number link ends. events.SendOut s number link ends) r.out_queue.current (way_out r) (current_item r.out_queue) (λ number link ends. refl)
    (both-out r (taken_possible r does.SendOut h refl))
router_name w x s r does.SendIn h =
    send-name x (named.Router s does.SendIn) (λ number link ends. events.SendIn s number link ends) r.in_queue.current (way_in r) (current_item r.in_queue) (λ number link ends. refl)
    (both-in r (taken_possible r does.SendIn h refl))
router_name w x s r does.Discard h = discard-name x w s r
router_name w x s r does.FinishOut h = refl
router_name w x s r does.FinishIn h = refl
router_name w x s r does.Leave h = refl
router_name w x s r does.Mark h =
    mark-name w r.end.side (source_of r) s (link_of r.outward.primary) (primary_word r) (mark-central r (taken_possible r does.Mark h refl))
router_name w x s r does.Wake h =
    wake-name w r.end.side (source_of r) s (link_of r.outward.primary) (primary_word r) (wake-central r (taken_possible r does.Wake h refl))
router_name w x s r does.Claim h = claim-name w s (link_of r.outward.primary)
router_name w x s r does.Lock h =
    lock-name w r.end.side (source_of r) s (link_of r.outward.primary) (primary_word r) (lock-central r (taken_possible r does.Lock h refl))
router_name w x s r does.Begin h = refl
router_name w x s r does.Retire h = refl
router_name w x s r does.Unlock h =
    unlock-name w r.end.side (source_of r) s (link_of r.outward.primary) (primary_word r)
    (unlock-central r (taken_possible r does.Unlock h refl))
router_name w x s r does.Rest h = refl

-- ---- acts of nodes

hand-name : (w : World) (n from : ℕ) (o : Option Message) → is_some o ≡ true → seen_name (hand_seen w n from o) ≡ named.Hand
unfolding hand_seen hand_event
hand-name w n from None h = cc
hand-name w n from (Some m) h = refl

at-router : (w : World) (n s : ℕ) (act : RouterAct) (o : Option Router) → router_of w n s ≡ o → may_act o act ≡ true →
    seen_name (turn_event w n (acts.Router s act)) ≡ named.Router s act
unfolding may_act
at-router w n s act None here h = cc
at-router w n s act (Some r) here h = ap seen_name (seen_event w n s act r here) ∙ router_name w (node_at w n) s r act h

turn-name : (w : World) (n : ℕ) (act : Act) → can_take w n act ≡ true → seen_name (turn_event w n act) ≡ name_of act
unfolding turn_event can_take event_of
turn-name w n (acts.Hand from) h =
    hand-name w n from (message_in_hand w n from)
    (and_parts (is_hand_of (node_at w n).hand from) (is_some (message_in_hand w n from)) h).1
turn-name w n (acts.Look from) h = refl
turn-name w n (acts.Post to) h = refl
turn-name w n (acts.Close end) h = refl
turn-name w n (acts.Router s act) h = at-router w n s act (router_of w n s) refl h
turn-name w n acts.Idle h = refl

pub acted_name : (w : World) (n : ℕ) (act : Act) (event : Happened) (v : World) → IsActed w n act event v → seen_name event ≡ name_of act
acted_name w n act event v is = ap seen_name is.seen ∙ turn-name w n act is.possible

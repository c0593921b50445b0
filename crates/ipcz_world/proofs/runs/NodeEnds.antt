-- The ends of words that a node holds: whatever it does, it holds no others than those that it held, claimed, or was brought.
use Rattle.std.specs.Prelude.{◌≡◌, ℕ, suc, Bool, true, false, cond, nat_eq, Option, Some, None, List, [], ◌∷◌, ◌++◌, slice_get, option_map, refl}
use Rattle.std.proofs.Common.{arith, sym, ◌∙◌, ap, subst}
use Rattle.std.proofs.lemmas.Bool.Decides.{nat_tests}
use Rattle.std.proofs.lemmas.Option.{same_Some}
use Rattle.std.specs.Cmp.{nat_cmp_total}
use Rattle.std.specs.FinMap.{get, get-insert, get-remove}
use Rattle.ipcz_edge.specs.Edge.{finish, begin_decay, set_length_to, set_length_from}
use Rattle.ipcz_world.proofs.Vocabulary.{Side, A, B, End, LinkId, Central, Peripheral, LinkEnd, Descriptor, Item, Message, is_central, place_at}
use Rattle.ipcz_world.proofs.Vocabulary.{word_of, Edge, current_item, Router, inward_edge, from_descriptor, bypass_peer, opposite, outbox, output_of}
use Rattle.ipcz_world.proofs.Vocabulary.{RouterAct, Node, Found, router_in, with_router, terminal_of, moves_of, outward_has, accept, next_number}
use Rattle.ipcz_world.proofs.Vocabulary.{way_out, way_in, accept_message, accept_bypass, stop_proxying, proxy_will_stop, stop_message}
use Rattle.ipcz_world.proofs.Vocabulary.{will_stop_message, apply, leaves_by, item_output, message_output, discard_output, Answer, Applied}
use Rattle.ipcz_world.proofs.Vocabulary.{without_router, with_outbox, push_out, add_router, add_end, new_end, link_router, on_found, put_node}
use Rattle.ipcz_world.proofs.Vocabulary.{get_node, close_end, close_node, open_node, put_at_router, get_at_router, close_at_router, Transfer}
use Rattle.ipcz_world.proofs.Vocabulary.{move_found, move_ends, moved_ends, send_item, send, deliver, handle, fits, tell, take_in, make_terminals}
use Rattle.ipcz_world.proofs.Vocabulary.{flushed, commit_router, keep_or_drop, rest_of}
use Rattle.ipcz_base.specs.declared.parcel.Parcel as parcels
use Rattle.ipcz_base.specs.declared.message.Message.TheVariants as messages
use Rattle.ipcz_base.proofs.Indexed.{place_at-put_place}
use Rattle.ipcz_router.specs.Router.{proxy_link}
use Rattle.ipcz_router.specs.Calls.{extend}
use Rattle.ipcz_router.specs.ActEffects.{peer_message, begin_message, flush_message, retire_output}
use Rattle.ipcz_router.specs.declared.act.RouterAct.TheVariants as acts
use Rattle.ipcz_router.specs.declared.act.Answer.TheVariants as answers
use Rattle.ipcz_router.specs.declared.act.Applied.TheVariants as outputs
use Rattle.ipcz_node.specs.Node.{add_stray}
use Rattle.ipcz_world.proofs.facts.Finding.{found_tells}

-- no descriptor of these is of a central link
abbrev pub ArePeripheral : List Descriptor → Type 0
ArePeripheral ds = (j : ℕ) (d : Descriptor) → slice_get ds j ≡ Some d → is_central d.link ≡ false

-- what is said of ends of words
abbrev pub Ends : Type 1
Ends = ℕ → Side → Type 0

-- it is so of the end of a link, if that is a word's
abbrev pub WordEnd : Ends → LinkId → Side → Type 0
WordEnd P (Central i) s = P i s
WordEnd P (Peripheral n x) s = Unit {0}

-- of a link end, if there is one
abbrev pub LinkEnds : Ends → Option LinkEnd → Type 0
LinkEnds P None = Unit {0}
LinkEnds P (Some e) = WordEnd P e.link e.side

-- of both link ends of an edge
abbrev pub EdgeEnds : Ends → Edge → Type 0
EdgeEnds P e = LinkEnds P e.primary × LinkEnds P e.decaying

-- of those of an inward edge, if there is one
abbrev pub InwardEnds : Ends → Option Edge → Type 0
InwardEnds P None = Unit {0}
InwardEnds P (Some e) = EdgeEnds P e

-- of both ends of a spare, if there is one
abbrev pub SpareEnds : Ends → Option ℕ → Type 0
SpareEnds P None = Unit {0}
SpareEnds P (Some i) = (s : Side) → P i s

-- of what a router holds
abbrev pub RouterEnds : Ends → Router → Type 0
RouterEnds P r = EdgeEnds P r.outward × (InwardEnds P r.inward × SpareEnds P r.spare)

-- of what a message brings
abbrev pub MessageEnds : Ends → Message → Type 0
MessageEnds P (messages.Item link side n item moves) = Unit {0}
MessageEnds P (messages.BypassPeer link side old target fresh) = (s : Side) → P fresh s
MessageEnds P (messages.AcceptBypass old side fresh length) = P fresh side
MessageEnds P (messages.StopProxying side old in_length out_length) = Unit {0}
MessageEnds P (messages.ProxyWillStop link side in_length) = Unit {0}
MessageEnds P (messages.Flush link side) = Unit {0}

-- of what each of these messages brings
abbrev pub BoxEnds : Ends → List Message → Type 0
BoxEnds P [] = Unit {0}
BoxEnds P (m ∷ ms) = MessageEnds P m × BoxEnds P ms

-- of what a node holds
pub record NodeEnds (P : Ends) (x : Node) : Type 0 where
  pub router : (serial : ℕ) (r : Router) → router_in x serial ≡ Some r → RouterEnds P r
  pub opening : SpareEnds P x.opening
  pub boxes : (to : ℕ) → BoxEnds P (outbox x to)

-- of what an act gives to its node
abbrev pub AppliedEnds : Ends → Applied → Type 0
AppliedEnds P outputs.Nothing = Unit {0}
AppliedEnds P (outputs.Sent link n item) = Unit {0}
AppliedEnds P (outputs.Message to m) = MessageEnds P m
AppliedEnds P (outputs.Discarded n item) = Unit {0}

-- of what a claim answers
abbrev pub AnswerEnds : Ends → Answer → Type 0
AnswerEnds P (answers.Claimed i) = (s : Side) → P i s
AnswerEnds P other = Unit {0}

module _ (P : Ends) where
  -- nodes

  -- another router under a serial, of a node of which all but that is so
  pub ends-back : (x : Node) (s : ℕ) (y : Router) → NodeEnds P (without_router x s) → RouterEnds P y → NodeEnds P (with_router x s y)
  ends-back x s y law is = record {
    router = λ t r at. go t r at (nat_eq t s) refl;
    opening = law.opening;
    boxes = law.boxes;
  }
    where
      go : (t : ℕ) (r : Router) → router_in (with_router x s y) t ≡ Some r → (c : Bool) → nat_eq t s ≡ c → RouterEnds P r
      go t r at true e = subst (RouterEnds P) (same_Some y r (grind (arith, e, get-insert nat_cmp_total x.routers s y t, at, nat_tests))) is
      go t r at false e = law.router t r
          (grind (arith, e, get-insert nat_cmp_total x.routers s y t, get-remove nat_cmp_total x.routers s t, at, nat_tests))

  pub ends-without : (x : Node) (s : ℕ) → NodeEnds P x → NodeEnds P (without_router x s)
  ends-without x s law = record {
    router = λ t r at. go t r at (nat_eq t s) refl;
    opening = law.opening;
    boxes = law.boxes;
  }
    where
      go : (t : ℕ) (r : Router) → router_in (without_router x s) t ≡ Some r → (c : Bool) → nat_eq t s ≡ c → RouterEnds P r
      go t r at true e = absurd (grind (arith, e, get-remove nat_cmp_total x.routers s t, at, nat_tests))
      go t r at false e = law.router t r (grind (arith, e, get-remove nat_cmp_total x.routers s t, at, nat_tests))

  pub ends-with : (x : Node) (s : ℕ) (y : Router) → NodeEnds P x → RouterEnds P y → NodeEnds P (with_router x s y)
  ends-with x s y law is = ends-back x s y (ends-without x s law) is

  -- a node that differs in what holds no ends
  pub ends-same : (x y : Node) → y.routers ≡ x.routers → y.opening ≡ x.opening → y.outboxes ≡ x.outboxes → NodeEnds P x → NodeEnds P y
  ends-same x y routers opening boxes law = record {
    router = λ s r at. law.router s r (ap (λ m. get m s) (sym routers) ∙ at);
    opening = subst (SpareEnds P) (sym opening) law.opening;
    boxes = λ to. subst (λ b. BoxEnds P (place_at [] b to)) (sym boxes) (law.boxes to);
  }

  pub ends-add : (x : Node) (y : Router) → NodeEnds P x → RouterEnds P y → NodeEnds P (add_router x y)
  ends-add x y law is = ends-same (with_router x x.next_router y) (add_router x y) refl refl refl (ends-with x x.next_router y law is)

  pub ends-box : (x : Node) (to : ℕ) (ms : List Message) → NodeEnds P x → BoxEnds P ms → NodeEnds P (with_outbox x to ms)
  ends-box x to ms law is = record {
    router = law.router;
    opening = law.opening;
    boxes = λ j. subst (BoxEnds P) (sym (place_at-put_place [] x.outboxes to ms j)) (go j (nat_eq j to));
  }
    where
      go : (j : ℕ) (c : Bool) → BoxEnds P (cond c ms (place_at [] x.outboxes j))
      go j true = is
      go j false = law.boxes j

  box-push : (ms : List Message) (m : Message) → BoxEnds P ms → MessageEnds P m → BoxEnds P (ms ++ m ∷ [])
  box-push [] m law is = (is, tt)
  box-push (x ∷ xs) m law is = (law.0, box-push xs m law.1 is)

  pub box-rest : (ms : List Message) → BoxEnds P ms → BoxEnds P (rest_of ms)
  unfolding rest_of
  box-rest [] law = tt
  box-rest (x ∷ xs) law = law.1

  pub ends-push : (x : Node) (to : ℕ) (m : Message) → NodeEnds P x → MessageEnds P m → NodeEnds P (push_out x to m)
  ends-push x to m law is = ends-box x to _ law (box-push (outbox x to) m (law.boxes to) is)

  -- the acts of a router
  finish-ends : (o : Option Edge) → InwardEnds P o → InwardEnds P (option_map finish o)
  finish-ends None law = tt
  finish-ends (Some e) law = (law.0, tt)

  decay-ends : (o : Option Edge) → InwardEnds P o → InwardEnds P (option_map begin_decay o)
  decay-ends None law = tt
  decay-ends (Some e) law = (tt, law.0)

  mark-ends : (r : Router) (a : Answer) → RouterEnds P r → RouterEnds P (apply r acts.Mark a)
  unfolding apply
  mark-ends r (answers.Marked word was_waiting) law = law
  mark-ends r other law = law

  claim-ends : (r : Router) (a : Answer) → RouterEnds P r → AnswerEnds P a → RouterEnds P (apply r acts.Claim a)
  unfolding apply
  claim-ends r (answers.Claimed i) law is = (law.0, (law.1.0, is))
  claim-ends r answers.NoWord law is = law
  claim-ends r other law is = law

  lock-ends : (r : Router) (a : Answer) → RouterEnds P r → RouterEnds P (apply r acts.Lock a)
  unfolding apply
  lock-ends r (answers.Locked word) law = law
  lock-ends r (answers.Waiting word) law = law
  lock-ends r (answers.Refused word) law = law
  lock-ends r other law = law

  pub apply-ends : (r : Router) (act : RouterAct) (a : Answer) → RouterEnds P r → AnswerEnds P a → RouterEnds P (apply r act a)
  unfolding apply
  apply-ends r acts.FinishOut a law is = ((law.0.0, tt), law.1)
  apply-ends r acts.FinishIn a law is = (law.0, (finish-ends r.inward law.1.0, law.1.1))
  apply-ends r acts.Mark a law is = mark-ends r a law
  apply-ends r acts.Claim a law is = claim-ends r a law is
  apply-ends r acts.Lock a law is = lock-ends r a law
  apply-ends r acts.Begin a law is = ((tt, law.0.0), (decay-ends r.inward law.1.0, tt))
  apply-ends r other a law is = law

  -- what they give to the node
  item-ends : (o : Option LinkEnd) (n : ℕ) (i : Option Item) → AppliedEnds P (item_output o n i)
  unfolding item_output
  item-ends None n i = tt
  item-ends (Some e) n None = tt
  item-ends (Some e) n (Some x) = tt

  pub discard-ends : (n : ℕ) (i : Option Item) → AppliedEnds P (discard_output n i)
  unfolding discard_output
  discard-ends n None = tt
  discard-ends n (Some x) = tt

  flush-ends : (o : Option LinkEnd) → AppliedEnds P (message_output (flush_message o))
  unfolding message_output flush_message
  flush-ends None = tt
  flush-ends (Some e) = tt

  pub retire-ends : (o : Option LinkEnd) (n : ℕ) → AppliedEnds P (retire_output o n)
  unfolding retire_output
  retire-ends None n = tt
  retire-ends (Some e) n = tt

  begin-ends : (inner outer : Option LinkEnd) (fresh : Option ℕ) → SpareEnds P fresh →
      AppliedEnds P (message_output (begin_message inner outer fresh))
  unfolding message_output begin_message
  begin-ends None outer fresh law = tt
  begin-ends (Some e) None fresh law = tt
  begin-ends (Some e) (Some d) None law = tt
  begin-ends (Some e) (Some d) (Some i) law = go (word_of (Some d))
    where
      go : (o : Option ℕ) → AppliedEnds P (message_output (option_map (λ old. peer_message e d old i) o))
      go None = tt
      go (Some j) = law

  pub output-ends : (r : Router) (act : RouterAct) → SpareEnds P r.spare → AppliedEnds P (output_of r act)
  unfolding output_of
  output-ends r acts.SendOut law = item-ends (way_out r) r.out_queue.current (current_item r.out_queue)
  output-ends r acts.SendIn law = item-ends (way_in r) r.in_queue.current (current_item r.in_queue)
  output-ends r acts.Discard law = discard-ends r.in_queue.current (current_item r.in_queue)
  output-ends r acts.Wake law = flush-ends r.outward.primary
  output-ends r acts.Begin law = begin-ends (inward_edge r).primary r.outward.primary r.spare law
  output-ends r acts.Retire law = retire-ends r.outward.primary (next_number r)
  output-ends r other law = tt

  -- terminals that move become proxies on peripheral links
  move-ends : (m : Transfer) (to : ℕ) (o : Option Found) → ((f : Found) → o ≡ Some f → RouterEnds P f.router) → NodeEnds P m.node →
      NodeEnds P (move_found m to o).node
  unfolding move_found
  move-ends m to None is law = law
  move-ends m to (Some f) is law = let r = is f refl in
      ends-same (with_router m.node f.serial (extend f.router (proxy_link (Peripheral m.node.number m.node.next_peripheral) to))) _ refl refl refl
      (ends-with m.node f.serial _ law (r.0, ((tt, tt), r.1.1)))

  moves-ends : (m : Transfer) (to : ℕ) (es : List End) → NodeEnds P m.node → NodeEnds P (move_ends m to es).node
  moves-ends m to [] law = law
  moves-ends m to (e ∷ es) law = moves-ends (move_found m to (terminal_of m.node e)) to es (move-ends m to (terminal_of m.node e)
      (λ f h. law.router f.serial f.router (found_tells m.node _ f h).0) law)

  pub send-ends : (x : Node) (o : Applied) → NodeEnds P x → AppliedEnds P o → NodeEnds P (send x o)
  unfolding send send_item
  send-ends x outputs.Nothing law is = law
  send-ends x (outputs.Sent link n item) law is =
      ends-push _ link.other _ (moves-ends (record { node = x; moves = [] }) link.other (moved_ends x link item) law) tt
  send-ends x (outputs.Message to m) law is = ends-push x to m law is
  send-ends x (outputs.Discarded n item) law is = ends-same x _ refl refl refl law

  -- an act of a router, of whose node all but the router itself is so
  pub act-ends : (x : Node) (s : ℕ) (act : RouterAct) (a : Answer) (r : Router) → NodeEnds P (without_router x s) →
      (leaves_by r act ≡ false → RouterEnds P (apply r act a)) → AppliedEnds P (output_of r act) → NodeEnds P (commit_router x s act a r)
  unfolding commit_router keep_or_drop
  act-ends x s act a r law is given = send-ends _ (output_of r act) (go (leaves_by r act) refl) given
    where
      go : (c : Bool) → leaves_by r act ≡ c → NodeEnds P (keep_or_drop x s (apply r act a) c)
      go true e = law
      go false e = ends-back x s (apply r act a) law (is e)

  -- calls
  found-ends : (x : Node) (o : Option Found) (change : ℕ → Router → Node) → NodeEnds P x →
      ((f : Found) → o ≡ Some f → NodeEnds P (change f.serial f.router)) → NodeEnds P (on_found x o change)
  unfolding on_found
  found-ends x None change law more = law
  found-ends x (Some f) change law more = more f refl

  terminal-ends : (x : Node) (e : End) (f : Found) → NodeEnds P x → terminal_of x e ≡ Some f → RouterEnds P f.router
  terminal-ends x e f law h = law.router f.serial f.router (found_tells x _ f h).0

  linked-ends : (x : Node) (link : LinkId) (s : Side) (f : Found) → NodeEnds P x → link_router x link s ≡ Some f → RouterEnds P f.router
  linked-ends x link s f law h = law.router f.serial f.router (found_tells x _ f h).0

  pub put-ends : (x : Node) (e : End) (p : parcels.Parcel) → NodeEnds P x → NodeEnds P (put_node x e p)
  put-ends x e p law = found-ends x (terminal_of x e) (put_at_router x p) law
      (λ f h. ends-same (with_router x f.serial _) _ refl refl refl (ends-with x f.serial _ law (terminal-ends x e f law h)))

  pub get-ends : (x : Node) (e : End) → NodeEnds P x → NodeEnds P (get_node x e)
  get-ends x e law = found-ends x (terminal_of x e) (get_at_router x) law
      (λ f h. ends-same (with_router x f.serial _) _ refl refl refl (ends-with x f.serial _ law (terminal-ends x e f law h)))

  pub close-ends : (x : Node) (e : End) → NodeEnds P x → NodeEnds P (close_end x e)
  close-ends x e law = found-ends x (terminal_of x e) (close_at_router x) law
      (λ f h. ends-with x f.serial _ law (terminal-ends x e f law h))

  pub close_node-ends : (x : Node) (e : End) → NodeEnds P x → NodeEnds P (close_node x e)
  close_node-ends x e law = close-ends _ e (ends-same x _ refl refl refl law)

  end-ends : (x : Node) (pair : ℕ) (side : Side) (other : ℕ) → NodeEnds P x → P pair side → NodeEnds P (add_end x pair side other)
  end-ends x pair side other law is = ends-same (add_router x (new_end pair side other)) _ refl refl refl
      (ends-add x (new_end pair side other) law ((is, tt), (tt, tt)))

  pub open-ends : (x : Node) (i : ℕ) → NodeEnds P x → ((s : Side) → P i s) → NodeEnds P (open_node x i)
  open-ends x i law is = let y = end-ends (add_end x i A x.number) i B x.number (end-ends x i A x.number law (is A)) (is B) in
      record { router = y.router; opening = tt; boxes = y.boxes }

  -- messages
  make-ends : (x : Node) (sender : ℕ) (ds : List Descriptor) → NodeEnds P x → ArePeripheral ds → NodeEnds P (make_terminals x sender ds)
  unfolding is_central
  make-ends x sender [] law is = law
  make-ends x sender (d ∷ ds) law is = make-ends (add_router x (from_descriptor d sender)) sender ds
      (ends-add x (from_descriptor d sender) law ((go d.link (is 0 d refl), tt), (tt, tt))) (λ j y h. is (suc j) y h)
    where
      go : (l : LinkId) → is_central l ≡ false → WordEnd P l B
      go (Central i) e = cc
      go (Peripheral n y) e = tt

  accept-ends : (r : Router) (from_outward : Bool) (n : ℕ) (item : Item) → RouterEnds P r → RouterEnds P (accept r from_outward n item)
  unfolding accept
  accept-ends r true n item law = law
  accept-ends r false n item law = law

  stop-ends : (x : Node) (r : Router) (o : Option LinkEnd) (old : ℕ) (side : Side) (length : ℕ) → NodeEnds P x →
      NodeEnds P (tell x (stop_message r o old side length))
  unfolding tell stop_message
  stop-ends x r None old side length law = law
  stop-ends x r (Some e) old side length law = ends-push x e.other _ law tt

  will_stop-ends : (x : Node) (o : Option LinkEnd) (length : ℕ) → NodeEnds P x → NodeEnds P (tell x (will_stop_message o length))
  unfolding tell will_stop_message
  will_stop-ends x None length law = law
  will_stop-ends x (Some e) length law = ends-push x e.other _ law tt

  controls-ends : (o : Option Edge) (a b : ℕ) → InwardEnds P o → InwardEnds P (option_map
      (λ e. set_length_from (set_length_to e a) b) o)
  controls-ends None a b law = tt
  controls-ends (Some e) a b law = law

  handle-ends : (x : Node) (sender : ℕ) (m : Message) → NodeEnds P x → MessageEnds P m → ArePeripheral (moves_of m) →
      NodeEnds P (handle x sender m)
  unfolding handle moves_of tell
  handle-ends x sender (messages.Item link side number item moves) law is apart =
      found-ends x (link_router x link side) (take_in x sender link side number item moves) law
      (λ f h. make-ends _ sender moves (ends-with x f.serial _ law
      (accept-ends f.router (outward_has f.router link side) number item (linked-ends x link side f law h))) apart)
  handle-ends x sender (messages.BypassPeer link side old target fresh) law is apart =
      found-ends x (link_router x link side) (λ s r. tell (with_router x s (bypass_peer r target fresh))
      (Some (accept_message r old target fresh))) law (λ f h. told f (linked-ends x link side f law h))
    where
      told : (f : Found) → RouterEnds P f.router →
          NodeEnds P (tell (with_router x f.serial (bypass_peer f.router target fresh)) (Some (accept_message f.router old target fresh)))
      told f r = ends-push _ target _ (ends-with x f.serial _ law ((is f.router.end.side, r.0.0), r.1)) (is (opposite f.router.end.side))
  handle-ends x sender (messages.AcceptBypass old side fresh length) law is apart =
      found-ends x (link_router x (Central old) side) (λ s r. tell (with_router x s (accept_bypass r sender side fresh length))
      (stop_message r r.outward.primary old side length)) law (λ f h. let r = linked-ends x (Central old) side f law h in
      stop-ends _ f.router f.router.outward.primary old side length (ends-with x f.serial _ law ((is, r.0.0), r.1)))
  handle-ends x sender (messages.StopProxying side old in_length out_length) law is apart =
      found-ends x (link_router x (Central old) side) (λ s r. tell (with_router x s (stop_proxying r in_length out_length))
      (will_stop_message (inward_edge r).decaying in_length)) law (λ f h. let r = linked-ends x (Central old) side f law h in
      will_stop-ends _ (inward_edge f.router).decaying in_length
      (ends-with x f.serial _ law (r.0, (controls-ends f.router.inward in_length out_length r.1.0, r.1.1))))
  handle-ends x sender (messages.ProxyWillStop link side in_length) law is apart =
      found-ends x (link_router x link side) (λ s r. with_router x s (proxy_will_stop r in_length)) law
      (λ f h. ends-with x f.serial _ law (linked-ends x link side f law h))
  handle-ends x sender (messages.Flush link side) law is apart =
      found-ends x (link_router x link side) (λ s r. with_router x s (flushed r)) law
      (λ f h. ends-with x f.serial _ law (linked-ends x link side f law h))

  pub deliver-ends : (x : Node) (sender : ℕ) (m : Message) (o : Option ℕ) → NodeEnds P x → MessageEnds P m → ArePeripheral (moves_of m) →
      NodeEnds P (deliver x sender m o)
  unfolding deliver
  deliver-ends x sender m o law is apart = ends-same _ _ refl refl refl (go (fits x sender m o))
    where
      go : (b : Bool) → NodeEnds P (cond b (handle x sender m) (add_stray x m))
      go true = handle-ends x sender m law is apart
      go false = ends-same x _ refl refl refl law

-- Each end whose close is pending at a node was dropped: it lies in a parcel that was put for a closed portal, and that it never got.
use Rattle.std.specs.Prelude.{◌≡◌, ◌⊎◌, ℕ, Bool, true, false, cond, ◌||◌, nat_eq, if◌then◌else◌, Option, Some, None, List, []}
use Rattle.std.specs.Prelude.{◌∷◌, ◌++◌, length, refl}
use Rattle.std.proofs.Common.{ap, subst, ◌∙◌, sym, inl, inr}
use Rattle.std.proofs.lemmas.Bool.{or_right}
use Rattle.ipcz_base.specs.declared.message.Message.TheVariants as messages
use Rattle.ipcz_base.specs.Items.{ends_in}
use Rattle.ipcz_router.specs.Router.{outward_has}
use Rattle.ipcz_router.specs.ActEffects.{apply, discard_output, item_output, leaves_by, message_output, retire_output}
use Rattle.ipcz_router.specs.Acts.{way_in, way_out}
use Rattle.ipcz_router.specs.Bypass.{accept_bypass, accept_message, proxy_will_stop, stop_message, stop_proxying, will_stop_message}
use Rattle.ipcz_router.specs.Calls.{accept, next_number}
use Rattle.ipcz_router.specs.Closing.{close_router}
use Rattle.ipcz_router.specs.declared.act.RouterAct.TheVariants as acts
use Rattle.ipcz_router.specs.declared.act.Answer.{Answer}
use Rattle.ipcz_router.specs.declared.act.Answer.TheVariants as answers
use Rattle.ipcz_router.specs.declared.act.Applied.{Applied}
use Rattle.ipcz_router.specs.declared.act.Applied.TheVariants as outputs
use Rattle.ipcz_router.specs.declared.sending.Sending.{Sending}
use Rattle.ipcz_node.specs.declared.act.Act.TheVariants.{Look, Post, Router as OfRouter, Idle}
use Rattle.ipcz_node.specs.Acts.{commit_router, keep_or_drop, post_of, rest_of}
use Rattle.ipcz_node.specs.Calls.{close_end}
use Rattle.ipcz_node.specs.Hands.{deliver, fits, flushed, handle, make_terminals, take_in, tell}
use Rattle.ipcz_node.specs.Node.{add_router, link_router, on_found, on_router}
use Rattle.ipcz_node.specs.Sends.{Transfer, move_end, move_ends, move_found, moved_ends, send, send_item}
use Rattle.ipcz_world.specs.Turns.{after_hand, after_look, after_post, after_router_act, full_message, is_first_pending, message_in_hand, router_of}
use Rattle.ipcz_world.specs.WordAnswers.{source_for, touch}
use Rattle.ipcz_world.proofs.Vocabulary.{Act, Central, Close, Descriptor, End, Found, Hand, Item, LinkEnd, Message, Node, Router, RouterAct, World}
use Rattle.ipcz_world.proofs.Vocabulary.{after_act, answer_of, bypass_peer, can_take, commit, current_item, from_descriptor, has_end, inward_edge}
use Rattle.ipcz_world.proofs.Vocabulary.{mail_at, node_at, output_of, router_at, router_in, same_end, set_node, terminal_of, way, with_router}
use Rattle.ipcz_world.proofs.facts.LinkTests.{same_end-tells}
use Rattle.ipcz_world.proofs.facts.Tests.{nat_eq-is, nat_eq-itself}
use Rattle.ipcz_world.proofs.frames.Frames.{node-set_mail, node-set_node}
use Rattle.ipcz_world.proofs.frames.Holding.{has-append}
use Rattle.ipcz_promise.proofs.Holders.{nodes-touch}

-- the end is in what an act dropped
abbrev pub IsIn : End → Applied → Type 0
IsIn e (outputs.Discarded number item) = has_end e (ends_in item) ≡ true
IsIn e other = ⊥

-- a node's part: what moves, is sent or told leaves the closes that are pending, but for the ends of an item that is dropped
pending-found : (m : Transfer) (to : ℕ) (o : Option Found) → (move_found m to o).node.pending ≡ m.node.pending
unfolding move_found
pending-found m to None = refl
pending-found m to (Some f) = refl

pending-moves : (m : Transfer) (to : ℕ) (es : List End) → (move_ends m to es).node.pending ≡ m.node.pending
pending-moves m to [] = refl
pending-moves m to (e ∷ es) = pending-moves (move_end m to e) to es ∙ pending-found m to (terminal_of m.node e)

-- what isn't an item that is dropped has no ends
no-word : (e : End) (o : Option Sending) → IsIn e (message_output o) → ⊥
unfolding message_output
no-word e None h = h
no-word e (Some s) h = h

no-item : (e : End) (o : Option LinkEnd) (n : ℕ) (x : Option Item) → IsIn e (item_output o n x) → ⊥
unfolding item_output
no-item e None n x h = h
no-item e (Some l) n None h = h
no-item e (Some l) n (Some item) h = h

no-gone : (e : End) (o : Option LinkEnd) (n : ℕ) → IsIn e (retire_output o n) → ⊥
unfolding retire_output
no-gone e None n h = h
no-gone e (Some l) n h = h

-- the end came with what the router at a node's serial drops
pub record CameWith (w : World) (n : ℕ) (act : Act) (e : End) : Type 0 where
  pub serial : ℕ
  pub router : Router
  pub item : Item
  pub here : router_of w n serial ≡ Some router
  pub drops : act ≡ OfRouter serial acts.Discard
  pub next : current_item router.in_queue ≡ Some item
  pub carried : has_end e (ends_in item) ≡ true

abbrev DropsIt : Router → RouterAct → End → Type 0
DropsIt r act e = (item : Item) × (act ≡ acts.Discard) × (current_item r.in_queue ≡ Some item) × (has_end e (ends_in item) ≡ true)

drops-it : (r : Router) (act : RouterAct) (e : End) → IsIn e (output_of r act) → DropsIt r act e
unfolding output_of discard_output
drops-it r acts.SendOut e h = absurd (no-item e (way_out r) r.out_queue.current (current_item r.out_queue) h)
drops-it r acts.SendIn e h = absurd (no-item e (way_in r) r.in_queue.current (current_item r.in_queue) h)
drops-it r acts.Discard e h = go (current_item r.in_queue) refl h
  where
    go : (o : Option Item) → current_item r.in_queue ≡ o → IsIn e (discard_output r.in_queue.current o) → DropsIt r acts.Discard e
    go None q h = absurd h
    go (Some item) q h = (item, refl, q, h)
drops-it r acts.Wake e h = absurd (no-word e _ h)
drops-it r acts.Begin e h = absurd (no-word e _ h)
drops-it r acts.Retire e h = absurd (no-gone e r.outward.primary (next_number r) h)
drops-it r other e h = absurd h

pending-send : (n : Node) (a : Applied) (e : End) → has_end e (send n a).pending ≡ true → (has_end e n.pending ≡ true) ⊎ IsIn e a
unfolding send send_item
pending-send n outputs.Nothing e h = inl h
pending-send n (outputs.Sent link number item) e h =
    inl (ap (has_end e) (sym (pending-moves (record { node = n; moves = [] }) link.other (moved_ends n link item))) ∙ h)
pending-send n (outputs.Message to message) e h = inl h
pending-send n (outputs.Discarded number item) e h = has-append e n.pending (ends_in item) h

pending-keep : (n : Node) (s : ℕ) (r : Router) (b : Bool) → (keep_or_drop n s r b).pending ≡ n.pending
unfolding keep_or_drop
pending-keep n s r true = refl
pending-keep n s r false = refl

pub pending-close_end : (n : Node) (e : End) → (close_end n e).pending ≡ n.pending
unfolding on_found
pending-close_end n e = go (terminal_of n e)
  where
    go : (o : Option Found) → (on_found n o (λ s r. with_router n s (close_router r))).pending ≡ n.pending
    go None = refl
    go (Some f) = refl

has-rest : (e : End) (xs : List End) → has_end e (rest_of xs) ≡ true → has_end e xs ≡ true
unfolding rest_of
has-rest e [] h = h
has-rest e (x ∷ xs) h = or_right (same_end x e) (has_end e xs) h

pending-make : (n : Node) (sender : ℕ) (ds : List Descriptor) → (make_terminals n sender ds).pending ≡ n.pending
pending-make n sender [] = refl
pending-make n sender (d ∷ ds) = pending-make (add_router n (from_descriptor d sender)) sender ds

pending-tell : (x : Node) (o : Option Sending) → (tell x o).pending ≡ x.pending
unfolding tell
pending-tell x None = refl
pending-tell x (Some s) = refl

pending-handle : (n : Node) (sender : ℕ) (m : Message) → (handle n sender m).pending ≡ n.pending
unfolding handle on_found
pending-handle n sender (messages.Item link side number item moves) = go (link_router n link side)
  where
    go : (o : Option Found) → (on_found n o (take_in n sender link side number item moves)).pending ≡ n.pending
    go None = refl
    go (Some f) = pending-make (with_router n f.serial (accept f.router (outward_has f.router link side) number item)) sender moves
pending-handle n sender (messages.BypassPeer link side old target fresh) = go (link_router n link side)
  where
    go : (o : Option Found) → (on_found n o (λ s r. tell (with_router n s (bypass_peer r target fresh))
        (Some (accept_message r old target fresh)))).pending ≡ n.pending
    go None = refl
    go (Some f) = pending-tell (with_router n f.serial (bypass_peer f.router target fresh)) (Some (accept_message f.router old target fresh))
pending-handle n sender (messages.AcceptBypass old side fresh length) = go (link_router n (Central old) side)
  where
    go : (o : Option Found) → (on_found n o (λ s r. tell (with_router n s (accept_bypass r sender side fresh length))
        (stop_message r r.outward.primary old side length))).pending ≡ n.pending
    go None = refl
    go (Some f) = pending-tell (with_router n f.serial (accept_bypass f.router sender side fresh length))
        (stop_message f.router f.router.outward.primary old side length)
pending-handle n sender (messages.StopProxying side old in_length out_length) = go (link_router n (Central old) side)
  where
    go : (o : Option Found) → (on_found n o (λ s r. tell (with_router n s (stop_proxying r in_length out_length))
        (will_stop_message (inward_edge r).decaying in_length))).pending ≡ n.pending
    go None = refl
    go (Some f) = pending-tell (with_router n f.serial (stop_proxying f.router in_length out_length))
        (will_stop_message (inward_edge f.router).decaying in_length)
pending-handle n sender (messages.ProxyWillStop link side in_length) = go (link_router n link side)
  where
    go : (o : Option Found) → (on_found n o (λ s r. with_router n s (proxy_will_stop r in_length))).pending ≡ n.pending
    go None = refl
    go (Some f) = refl
pending-handle n sender (messages.Flush link side) = go (link_router n link side)
  where
    go : (o : Option Found) → (on_found n o (λ s r. with_router n s (flushed r))).pending ≡ n.pending
    go None = refl
    go (Some f) = refl

pending-deliver : (n : Node) (sender : ℕ) (m : Message) (o : Option ℕ) → (deliver n sender m o).pending ≡ n.pending
unfolding deliver
pending-deliver n sender m o = go (fits n sender m o)
  where
    go : (b : Bool) → (if b then handle n sender m else record n { strays = n.strays ++ m ∷ [] }).pending ≡ n.pending
    go true = pending-handle n sender m
    go false = refl

-- the world's: what is pending at a node after an act was, or came with what it drops
abbrev pub Was : World → ℕ → ℕ → Act → End → Type 0
Was w n j act e = (has_end e (node_at w j).pending ≡ true) ⊎ CameWith w n act e

was-set : (u w : World) (n : ℕ) (x : Node) (j : ℕ) (act : Act) (e : End) → ((i : ℕ) → node_at u i ≡ node_at w i) →
    (has_end e x.pending ≡ true → (has_end e (node_at w n).pending ≡ true) ⊎ CameWith w n act e) →
    has_end e (node_at (set_node u n x) j).pending ≡ true → Was w n j act e
was-set u w n x j act e same here h = go (nat_eq j n) refl (ap (λ (z : Node). has_end e z.pending) (sym (node-set_node u n x j)) ∙ h)
  where
    go : (c : Bool) → nat_eq j n ≡ c → has_end e (cond c x (node_at u j)).pending ≡ true → Was w n j act e
    go true q h = subst (λ i. Was w n i act e) (sym (nat_eq-is j n q)) (here h)
    go false q h = inl (ap (λ (z : Node). has_end e z.pending) (sym (same j)) ∙ h)

-- a node that has the same closes pending
was-same : (w : World) (n : ℕ) (act : Act) (e : End) (x : Node) → x.pending ≡ (node_at w n).pending → has_end e x.pending ≡ true →
    (has_end e (node_at w n).pending ≡ true) ⊎ CameWith w n act e
was-same w n act e x same h = inl (ap (has_end e) (sym same) ∙ h)

was-router : (w : World) (n s : ℕ) (act : RouterAct) (a : Answer) (r : Router) (e : End) → router_of w n s ≡ Some r →
    has_end e (on_router (node_at w n) (Some r) (commit_router (node_at w n) s act a)).pending ≡ true →
    (has_end e (node_at w n).pending ≡ true) ⊎ CameWith w n (OfRouter s act) e
unfolding on_router commit_router
was-router w n s act a r e here h = elim (pending-send (keep_or_drop (node_at w n) s (apply r act a) (leaves_by r act)) (output_of r act) e h) [
  | inl p ↦ inl (ap (has_end e) (sym (pending-keep (node_at w n) s (apply r act a) (leaves_by r act))) ∙ p)
  | inr p ↦ let t = drops-it r act e p in inr (record {
    serial = s;
    router = r;
    item = t.0;
    here = here;
    drops = ap (OfRouter s) t.1;
    next = t.2;
    carried = t.3;
  })
]

pub pending-acted : (w : World) (n : ℕ) (act : Act) (j : ℕ) (e : End) → has_end e (node_at (after_act w n act) j).pending ≡ true →
    Was w n j act e
unfolding after_act after_hand after_look after_post after_router_act commit router_at
pending-acted w n (Hand from) j e h = go (message_in_hand w n from) h
  where
    go : (o : Option Message) → has_end e (node_at (after_hand w n from o) j).pending ≡ true → Was w n j (Hand from) e
    go None h = inl h
    go (Some m) h = was-set w w n (deliver (node_at w n) from m (source_for w m)) j (Hand from) e (λ i. refl)
        (was-same w n (Hand from) e (deliver (node_at w n) from m (source_for w m)) (pending-deliver (node_at w n) from m (source_for w m)))
        (ap (λ (z : Node). has_end e z.pending) (sym (node-set_mail _ _ _ j)) ∙ h)
pending-acted w n (Look from) j e h = go (full_message (mail_at w (way w from n))) h
  where
    go : (o : Option Message) → has_end e (node_at (after_look w n from o) j).pending ≡ true → Was w n j (Look from) e
    go None h = inl h
    go (Some m) h = was-set w w n (commit (node_at w n) (Look from) answers.Plain) j (Look from) e (λ i. refl)
        (was-same w n (Look from) e (commit (node_at w n) (Look from) answers.Plain) refl) (ap (λ (z : Node). has_end e z.pending) (sym (node-set_mail _ _ _ j)) ∙ h)
pending-acted w n (Post to) j e h = go (post_of (node_at w n) (Post to)) h
  where
    go : (o : Option Message) → has_end e (node_at (after_post w n to o) j).pending ≡ true → Was w n j (Post to) e
    go None h = inl h
    go (Some m) h = was-set w w n (commit (node_at w n) (Post to) answers.Plain) j (Post to) e (λ i. refl)
        (was-same w n (Post to) e (commit (node_at w n) (Post to) answers.Plain) refl) (ap (λ (z : Node). has_end e z.pending) (sym (node-set_mail _ _ _ j)) ∙ h)
pending-acted w n (Close d) j e h = was-set w w n (commit (node_at w n) (Close d) answers.Plain) j (Close d) e (λ i. refl)
    (λ q. inl (has-rest e (node_at w n).pending
    (ap (has_end e) (sym (pending-close_end (record (node_at w n) { pending = rest_of (node_at w n).pending }) d)) ∙ q))) h
pending-acted w n (OfRouter s act) j e h = go (router_in (node_at w n) s) refl h
  where
    go : (o : Option Router) → router_in (node_at w n) s ≡ o → has_end e (node_at (after_router_act w n s act o) j).pending ≡ true →
        Was w n j (OfRouter s act) e
    go None q h = inl h
    go (Some r) q h = was-set (touch w r act) w n (commit (node_at w n) (OfRouter s act) (answer_of w r act)) j (OfRouter s act) e (nodes-touch w r act)
        (λ p. was-router w n s act (answer_of w r act) r e q
        (subst (λ o. has_end e (on_router (node_at w n) o (commit_router (node_at w n) s act (answer_of w r act))).pending ≡ true) q p)) h
pending-acted w n Idle j e h = inl h

-- AND BACK: what was pending still is, or is closed now
has-left : (e : End) (xs ys : List End) → has_end e xs ≡ true → has_end e (xs ++ ys) ≡ true
has-left e [] ys h = cc
has-left e (x ∷ xs) ys h = go (same_end x e) h (λ q. has-left e xs ys q)
  where
    go : (c : Bool) → (c || has_end e xs) ≡ true → (has_end e xs ≡ true → has_end e (xs ++ ys) ≡ true) → (c || has_end e (xs ++ ys)) ≡ true
    go true h more = refl
    go false h more = more h

has-right : (e : End) (xs ys : List End) → has_end e ys ≡ true → has_end e (xs ++ ys) ≡ true
has-right e [] ys h = h
has-right e (x ∷ xs) ys h = or_right (same_end x e) (has_end e (xs ++ ys)) (has-right e xs ys h)

send-stays : (n : Node) (a : Applied) (e : End) → has_end e n.pending ≡ true → has_end e (send n a).pending ≡ true
unfolding send send_item
send-stays n outputs.Nothing e h = h
send-stays n (outputs.Sent link number item) e h =
    ap (has_end e) (pending-moves (record { node = n; moves = [] }) link.other (moved_ends n link item)) ∙ h
send-stays n (outputs.Message to message) e h = h
send-stays n (outputs.Discarded number item) e h = has-left e n.pending (ends_in item) h

router-stays : (n : Node) (s : ℕ) (act : RouterAct) (a : Answer) (o : Option Router) (e : End) → has_end e n.pending ≡ true →
    has_end e (on_router n o (commit_router n s act a)).pending ≡ true
unfolding on_router commit_router
router-stays n s act a None e h = h
router-stays n s act a (Some r) e h = send-stays (keep_or_drop n s (apply r act a) (leaves_by r act)) (output_of r act) e
    (ap (has_end e) (pending-keep n s (apply r act a) (leaves_by r act)) ∙ h)

-- the first one is closed
close-stays : (xs : List End) (d e : End) → is_first_pending xs d ≡ true → has_end e xs ≡ true → (has_end e (rest_of xs) ≡ true) ⊎ (d ≡ e)
unfolding is_first_pending rest_of
close-stays [] d e first h = cc
close-stays (x ∷ xs) d e first h = go (same_end x e) refl h
  where
    go : (c : Bool) → same_end x e ≡ c → (c || has_end e xs) ≡ true → (has_end e xs ≡ true) ⊎ (d ≡ e)
    go true q h = inr (sym (same_end-tells x d first) ∙ same_end-tells x e q)
    go false q h = inl h

abbrev pub Stays : World → ℕ → ℕ → Act → End → Type 0
Stays w n j act e = (has_end e (node_at (after_act w n act) j).pending ≡ true) ⊎ (act ≡ Close e)

stays-set : (u w : World) (n : ℕ) (x : Node) (j : ℕ) (act : Act) (e : End) → ((i : ℕ) → node_at u i ≡ node_at w i) →
    (has_end e (node_at w n).pending ≡ true → (has_end e x.pending ≡ true) ⊎ (act ≡ Close e)) → has_end e (node_at w j).pending ≡ true →
    (has_end e (node_at (set_node u n x) j).pending ≡ true) ⊎ (act ≡ Close e)
stays-set u w n x j act e same here h = elim (go (nat_eq j n) refl) [
  | inl p ↦ inl (ap (λ (z : Node). has_end e z.pending) (node-set_node u n x j) ∙ p)
  | inr q ↦ inr q
]
  where
    go : (c : Bool) → nat_eq j n ≡ c → (has_end e (cond c x (node_at u j)).pending ≡ true) ⊎ (act ≡ Close e)
    go true q = here (subst (λ i. has_end e (node_at w i).pending ≡ true) (nat_eq-is j n q) h)
    go false q = inl (ap (λ (z : Node). has_end e z.pending) (same j) ∙ h)

pub pending-stays : (w : World) (n : ℕ) (act : Act) (j : ℕ) (e : End) → can_take w n act ≡ true → has_end e (node_at w j).pending ≡ true →
    Stays w n j act e
unfolding after_act after_hand after_look after_post after_router_act commit router_at can_take
pending-stays w n (Hand from) j e can h = go (message_in_hand w n from)
  where
    go : (o : Option Message) → (has_end e (node_at (after_hand w n from o) j).pending ≡ true) ⊎ (Hand from ≡ Close e)
    go None = inl h
    go (Some m) = elim (stays-set w w n (deliver (node_at w n) from m (source_for w m)) j (Hand from) e (λ i. refl)
        (λ p. inl (ap (has_end e) (pending-deliver (node_at w n) from m (source_for w m)) ∙ p)) h) [
          | inl p ↦ inl (ap (λ (z : Node). has_end e z.pending) (node-set_mail _ _ _ j) ∙ p)
          | inr q ↦ inr q
        ]
pending-stays w n (Look from) j e can h = go (full_message (mail_at w (way w from n)))
  where
    go : (o : Option Message) → (has_end e (node_at (after_look w n from o) j).pending ≡ true) ⊎ (Look from ≡ Close e)
    go None = inl h
    go (Some m) = elim (stays-set w w n (commit (node_at w n) (Look from) answers.Plain) j (Look from) e (λ i. refl) (λ p. inl p) h) [
      | inl p ↦ inl (ap (λ (z : Node). has_end e z.pending) (node-set_mail _ _ _ j) ∙ p)
      | inr q ↦ inr q
    ]
pending-stays w n (Post to) j e can h = go (post_of (node_at w n) (Post to))
  where
    go : (o : Option Message) → (has_end e (node_at (after_post w n to o) j).pending ≡ true) ⊎ (Post to ≡ Close e)
    go None = inl h
    go (Some m) = elim (stays-set w w n (commit (node_at w n) (Post to) answers.Plain) j (Post to) e (λ i. refl) (λ p. inl p) h) [
      | inl p ↦ inl (ap (λ (z : Node). has_end e z.pending) (node-set_mail _ _ _ j) ∙ p)
      | inr q ↦ inr q
    ]
pending-stays w n (Close d) j e can h = stays-set w w n (commit (node_at w n) (Close d) answers.Plain) j (Close d) e (λ i. refl)
    (λ p. elim (close-stays (node_at w n).pending d e can p) [
      | inl q ↦ inl (ap (has_end e) (pending-close_end (record (node_at w n) { pending = rest_of (node_at w n).pending }) d) ∙ q)
      | inr q ↦ inr (ap Close q)
    ]) h
pending-stays w n (OfRouter s act) j e can h = go (router_in (node_at w n) s) refl
  where
    go : (o : Option Router) → router_in (node_at w n) s ≡ o →
        (has_end e (node_at (after_router_act w n s act o) j).pending ≡ true) ⊎ (OfRouter s act ≡ Close e)
    go None q = inl h
    go (Some r) q = stays-set (touch w r act) w n (commit (node_at w n) (OfRouter s act) (answer_of w r act)) j (OfRouter s act) e
        (nodes-touch w r act) (λ p. inl (router-stays (node_at w n) s act (answer_of w r act) (router_in (node_at w n) s) e p)) h
pending-stays w n Idle j e can h = inl h

-- what a sink drops becomes pending at its node
pub pending-dropped : (w : World) (n s : ℕ) (r : Router) (item : Item) (e : End) → router_of w n s ≡ Some r →
    current_item r.in_queue ≡ Some item → has_end e (ends_in item) ≡ true →
    has_end e (node_at (after_act w n (OfRouter s acts.Discard)) n).pending ≡ true
unfolding after_act after_router_act commit router_at on_router commit_router output_of discard_output send
pending-dropped w n s r item e here next carried = ap (λ o. has_end e (node_at (after_router_act w n s acts.Discard o) n).pending) here
    ∙ ap (λ (z : Node). has_end e z.pending) (node-set_node (touch w r acts.Discard) n
    (commit (node_at w n) (OfRouter s acts.Discard) (answer_of w r acts.Discard)) n)
    ∙ ap (λ c. has_end e (cond c (commit (node_at w n) (OfRouter s acts.Discard) (answer_of w r acts.Discard)) (node_at (touch w r acts.Discard) n)).pending)
    (nat_eq-itself n)
    ∙ ap (λ o. has_end e (on_router (node_at w n) o (commit_router (node_at w n) s acts.Discard (answer_of w r acts.Discard))).pending) here
    ∙ ap (λ o. has_end e (send (keep_or_drop (node_at w n) s (apply r acts.Discard (answer_of w r acts.Discard)) (leaves_by r acts.Discard))
    (discard_output r.in_queue.current o)).pending) next
    ∙ has-right e _ (ends_in item) carried

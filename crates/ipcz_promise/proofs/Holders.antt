-- No turn changes what nodes' callers hold.
use Rattle.std.specs.Prelude.{◌≡◌, ℕ, ◌+◌, Bool, true, false, cond, nat_eq, if◌then◌else◌, Option, Some, None, List, [], ◌∷◌, ◌++◌, refl}
use Rattle.std.proofs.Common.{ap, ◌∙◌}
use Rattle.ipcz_world.proofs.Vocabulary.{End, Descriptor, Message, Side, Central, Router, RouterAct, Node, Found, Act, Hand, Close, World}
use Rattle.ipcz_world.proofs.Vocabulary.{way, node_at, mail_at, set_node, set_word, set_claimed, router_in, terminal_of, with_router, inward_edge}
use Rattle.ipcz_world.proofs.Vocabulary.{after_act, commit, from_descriptor, output_of, answer_of, primary_word, bypass_peer}
use Rattle.ipcz_base.specs.declared.message.Message.TheVariants as messages
use Rattle.ipcz_router.specs.Router.{source_of}
use Rattle.ipcz_router.specs.ActEffects.{apply, leaves_by}
use Rattle.ipcz_router.specs.Closing.{close_router}
use Rattle.ipcz_router.specs.declared.act.RouterAct.TheVariants as acts
use Rattle.ipcz_router.specs.declared.act.Answer.{Answer}
use Rattle.ipcz_router.specs.declared.act.Answer.TheVariants as answers
use Rattle.ipcz_router.specs.declared.act.Applied.{Applied}
use Rattle.ipcz_router.specs.declared.act.Applied.TheVariants as outputs
use Rattle.ipcz_node.specs.declared.act.Act.TheVariants.{Look, Post, Router as OfRouter, Idle}
use Rattle.ipcz_node.specs.Node.{on_found, on_router, add_router, link_router}
use Rattle.ipcz_node.specs.Calls.{close_end}
use Rattle.ipcz_node.specs.Sends.{Transfer, move_found, move_end, move_ends, moved_ends, send, send_item}
use Rattle.ipcz_node.specs.Acts.{keep_or_drop, commit_router, rest_of, post_of}
use Rattle.ipcz_node.specs.Hands.{make_terminals, tell, take_in, handle, fits, deliver, flushed}
use Rattle.ipcz_router.specs.Router.{outward_has}
use Rattle.ipcz_router.specs.Calls.{accept}
use Rattle.ipcz_router.specs.declared.sending.Sending.{Sending}
use Rattle.ipcz_router.specs.Bypass.{accept_message, accept_bypass, stop_proxying, proxy_will_stop, stop_message, will_stop_message}
use Rattle.ipcz_world.specs.WordAnswers.{claim_next, touch_word, touch, source_for}
use Rattle.ipcz_world.specs.Turns.{message_in_hand, full_message, router_of, after_router_act, after_hand, after_look, after_post}
use Rattle.ipcz_world.specs.World.{has_unclaimed_word}
use Rattle.ipcz_world.proofs.facts.Tests.{nat_eq-is}
use Rattle.ipcz_world.proofs.frames.Frames.{node-set_node, node-set_mail}

-- a node's part
held-found : (m : Transfer) (to : ℕ) (o : Option Found) → (move_found m to o).node.held ≡ m.node.held
unfolding move_found
held-found m to None = refl
held-found m to (Some f) = refl

held-moves : (m : Transfer) (to : ℕ) (es : List End) → (move_ends m to es).node.held ≡ m.node.held
held-moves m to [] = refl
held-moves m to (e ∷ es) = held-moves (move_end m to e) to es ∙ held-found m to (terminal_of m.node e)

held-send : (n : Node) (a : Applied) → (send n a).held ≡ n.held
unfolding send send_item
held-send n outputs.Nothing = refl
held-send n (outputs.Sent link number item) = held-moves (record { node = n; moves = [] }) link.other (moved_ends n link item)
held-send n (outputs.Message to message) = refl
held-send n (outputs.Discarded number item) = refl

held-keep : (n : Node) (s : ℕ) (r : Router) (b : Bool) → (keep_or_drop n s r b).held ≡ n.held
unfolding keep_or_drop
held-keep n s r true = refl
held-keep n s r false = refl

held-router : (n : Node) (s : ℕ) (act : RouterAct) (a : Answer) (o : Option Router) →
    (on_router n o (commit_router n s act a)).held ≡ n.held
unfolding on_router commit_router
held-router n s act a None = refl
held-router n s act a (Some r) =
    held-send (keep_or_drop n s (apply r act a) (leaves_by r act)) (output_of r act) ∙ held-keep n s (apply r act a) (leaves_by r act)

pub held-close_end : (n : Node) (e : End) → (close_end n e).held ≡ n.held
unfolding on_found
held-close_end n e = go (terminal_of n e)
  where
    go : (o : Option Found) → (on_found n o (λ s r. with_router n s (close_router r))).held ≡ n.held
    go None = refl
    go (Some f) = refl

held-commit : (n : Node) (act : Act) (a : Answer) → (commit n act a).held ≡ n.held
unfolding commit
held-commit n (Hand from) a = refl
held-commit n (Look from) a = refl
held-commit n (Post to) a = refl
held-commit n (Close e) a = held-close_end (record n { pending = rest_of n.pending }) e
held-commit n (OfRouter s act) a = held-router n s act a (router_in n s)
held-commit n Idle a = refl

held-make : (n : Node) (sender : ℕ) (ds : List Descriptor) → (make_terminals n sender ds).held ≡ n.held
held-make n sender [] = refl
held-make n sender (d ∷ ds) = held-make (add_router n (from_descriptor d sender)) sender ds

held-tell : (x : Node) (o : Option Sending) → (tell x o).held ≡ x.held
unfolding tell
held-tell x None = refl
held-tell x (Some s) = refl

held-handle : (n : Node) (sender : ℕ) (m : Message) → (handle n sender m).held ≡ n.held
unfolding handle on_found
held-handle n sender (messages.Item link side number item moves) = go (link_router n link side)
  where
    go : (o : Option Found) → (on_found n o (take_in n sender link side number item moves)).held ≡ n.held
    go None = refl
    go (Some f) = held-make (with_router n f.serial (accept f.router (outward_has f.router link side) number item)) sender moves
held-handle n sender (messages.BypassPeer link side old target fresh) = go (link_router n link side)
  where
    go : (o : Option Found) → (on_found n o (λ s r. tell (with_router n s (bypass_peer r target fresh))
        (Some (accept_message r old target fresh)))).held ≡ n.held
    go None = refl
    go (Some f) = held-tell (with_router n f.serial (bypass_peer f.router target fresh)) (Some (accept_message f.router old target fresh))
held-handle n sender (messages.AcceptBypass old side fresh length) = go (link_router n (Central old) side)
  where
    go : (o : Option Found) → (on_found n o (λ s r. tell (with_router n s (accept_bypass r sender side fresh length))
        (stop_message r r.outward.primary old side length))).held ≡ n.held
    go None = refl
    go (Some f) = held-tell (with_router n f.serial (accept_bypass f.router sender side fresh length))
        (stop_message f.router f.router.outward.primary old side length)
held-handle n sender (messages.StopProxying side old in_length out_length) = go (link_router n (Central old) side)
  where
    go : (o : Option Found) → (on_found n o (λ s r. tell (with_router n s (stop_proxying r in_length out_length))
        (will_stop_message (inward_edge r).decaying in_length))).held ≡ n.held
    go None = refl
    go (Some f) = held-tell (with_router n f.serial (stop_proxying f.router in_length out_length))
        (will_stop_message (inward_edge f.router).decaying in_length)
held-handle n sender (messages.ProxyWillStop link side in_length) = go (link_router n link side)
  where
    go : (o : Option Found) → (on_found n o (λ s r. with_router n s (proxy_will_stop r in_length))).held ≡ n.held
    go None = refl
    go (Some f) = refl
held-handle n sender (messages.Flush link side) = go (link_router n link side)
  where
    go : (o : Option Found) → (on_found n o (λ s r. with_router n s (flushed r))).held ≡ n.held
    go None = refl
    go (Some f) = refl

held-deliver : (n : Node) (sender : ℕ) (m : Message) (o : Option ℕ) → (deliver n sender m o).held ≡ n.held
unfolding deliver
held-deliver n sender m o = go (fits n sender m o)
  where
    go : (b : Bool) → (if b then handle n sender m else record n { strays = n.strays ++ m ∷ [] }).held ≡ n.held
    go true = held-handle n sender m
    go false = refl

-- the world's
nodes-touch_word : (w : World) (s : Side) (x : Option ℕ) (a : RouterAct) (o : Option ℕ) (j : ℕ) → node_at (touch_word w s x a o) j ≡ node_at w j
unfolding touch_word set_word node_at
nodes-touch_word w s x a None j = refl
nodes-touch_word w s x a (Some i) j = refl

nodes-claim_next : (w : World) (j : ℕ) → node_at (claim_next w) j ≡ node_at w j
unfolding set_claimed node_at
nodes-claim_next w j = go (has_unclaimed_word w)
  where
    go : (c : Bool) → node_at (if c then set_claimed w (w.claimed + 1) else w) j ≡ node_at w j
    go true = refl
    go false = refl

pub nodes-touch : (w : World) (r : Router) (a : RouterAct) (j : ℕ) → node_at (touch w r a) j ≡ node_at w j
unfolding touch
nodes-touch w r acts.Mark j = nodes-touch_word w r.end.side (source_of r) acts.Mark (primary_word r) j
nodes-touch w r acts.Wake j = nodes-touch_word w r.end.side (source_of r) acts.Wake (primary_word r) j
nodes-touch w r acts.Claim j = nodes-claim_next w j
nodes-touch w r acts.Lock j = nodes-touch_word w r.end.side (source_of r) acts.Lock (primary_word r) j
nodes-touch w r acts.Unlock j = nodes-touch_word w r.end.side (source_of r) acts.Unlock (primary_word r) j
nodes-touch w r other j = refl

-- a node that holds what the old one does
held-set : (u w : World) (n : ℕ) (x : Node) (j : ℕ) → ((i : ℕ) → node_at u i ≡ node_at w i) → x.held ≡ (node_at w n).held →
    (node_at (set_node u n x) j).held ≡ (node_at w j).held
held-set u w n x j same h = ap (λ (z : Node). z.held) (node-set_node u n x j) ∙ go (nat_eq j n) refl
  where
    go : (c : Bool) → nat_eq j n ≡ c → (cond c x (node_at u j)).held ≡ (node_at w j).held
    go true e = h ∙ ap (λ i. (node_at w i).held) (sym-is (nat_eq-is j n e))
      where
        sym-is : j ≡ n → n ≡ j
        sym-is q = cc
    go false e = ap (λ (z : Node). z.held) (same j)

pub held-acted : (w : World) (n : ℕ) (act : Act) (j : ℕ) → (node_at (after_act w n act) j).held ≡ (node_at w j).held
unfolding after_act after_hand after_look after_post after_router_act
held-acted w n (Hand from) j = go (message_in_hand w n from)
  where
    go : (o : Option Message) → (node_at (after_hand w n from o) j).held ≡ (node_at w j).held
    go None = refl
    go (Some m) = ap (λ (z : Node). z.held) (node-set_mail _ _ _ j) ∙
        held-set w w n (deliver (node_at w n) from m (source_for w m)) j (λ i. refl) (held-deliver (node_at w n) from m (source_for w m))
held-acted w n (Look from) j = go (full_message (mail_at w (way w from n)))
  where
    go : (o : Option Message) → (node_at (after_look w n from o) j).held ≡ (node_at w j).held
    go None = refl
    go (Some m) = ap (λ (z : Node). z.held) (node-set_mail _ _ _ j) ∙
        held-set w w n (commit (node_at w n) (Look from) answers.Plain) j (λ i. refl) (held-commit (node_at w n) (Look from) answers.Plain)
held-acted w n (Post to) j = go (post_of (node_at w n) (Post to))
  where
    go : (o : Option Message) → (node_at (after_post w n to o) j).held ≡ (node_at w j).held
    go None = refl
    go (Some m) = ap (λ (z : Node). z.held) (node-set_mail _ _ _ j) ∙
        held-set w w n (commit (node_at w n) (Post to) answers.Plain) j (λ i. refl) (held-commit (node_at w n) (Post to) answers.Plain)
held-acted w n (Close e) j =
    held-set w w n (commit (node_at w n) (Close e) answers.Plain) j (λ i. refl) (held-commit (node_at w n) (Close e) answers.Plain)
held-acted w n (OfRouter s act) j = go (router_of w n s)
  where
    go : (o : Option Router) → (node_at (after_router_act w n s act o) j).held ≡ (node_at w j).held
    go None = refl
    go (Some r) = held-set (touch w r act) w n (commit (node_at w n) (OfRouter s act) (answer_of w r act)) j (nodes-touch w r act)
        (held-commit (node_at w n) (OfRouter s act) (answer_of w r act))
held-acted w n Idle j = refl

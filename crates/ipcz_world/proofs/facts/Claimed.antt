-- No act takes a claim back.
use Rattle.std.specs.Prelude.{◌≤◌, ℕ, ◌+◌, Bool, true, false, if◌then◌else◌, Option, Some, None}
use Rattle.std.proofs.Common.{arith}
use Rattle.ipcz_world.proofs.Vocabulary.{Message, Side, Router, primary_word, RouterAct, Act, Hand, Close, World, node_at, mail_at, way, set_node}
use Rattle.ipcz_world.proofs.Vocabulary.{set_word, set_claimed, set_mail, after_act, source_of, Look, Post, Idle, post_of, touch_word, touch}
use Rattle.ipcz_world.proofs.Vocabulary.{full_message, router_of, after_router_act, after_hand, after_look, after_post, has_unclaimed_word}
use Rattle.ipcz_router.specs.declared.act.RouterAct.TheVariants as acts
use Rattle.ipcz_node.specs.declared.act.Act.TheVariants.{Router as OfRouter}
use Rattle.ipcz_world.specs.WordAnswers.{claim_next}
use Rattle.ipcz_world.specs.Turns.{message_in_hand}

claimed-touch_word : (w : World) (s : Side) (x : Option ℕ) (a : RouterAct) (o : Option ℕ) → w.claimed ≤ (touch_word w s x a o).claimed
unfolding touch_word set_word
claimed-touch_word w s x a None = omega arith
claimed-touch_word w s x a (Some i) = omega arith

claimed-claim_next : (w : World) → w.claimed ≤ (claim_next w).claimed
unfolding set_claimed
claimed-claim_next w = go (has_unclaimed_word w)
  where
    go : (c : Bool) → w.claimed ≤ (if c then set_claimed w (w.claimed + 1) else w).claimed
    go true = omega arith
    go false = omega arith

claimed-touch : (w : World) (r : Router) (a : RouterAct) → w.claimed ≤ (touch w r a).claimed
unfolding touch
claimed-touch w r acts.Mark = claimed-touch_word w r.end.side (source_of r) acts.Mark (primary_word r)
claimed-touch w r acts.Wake = claimed-touch_word w r.end.side (source_of r) acts.Wake (primary_word r)
claimed-touch w r acts.Claim = claimed-claim_next w
claimed-touch w r acts.Lock = claimed-touch_word w r.end.side (source_of r) acts.Lock (primary_word r)
claimed-touch w r acts.Unlock = claimed-touch_word w r.end.side (source_of r) acts.Unlock (primary_word r)
claimed-touch w r other = omega arith

claimed-after_hand : (w : World) (n from : ℕ) (o : Option Message) → w.claimed ≤ (after_hand w n from o).claimed
unfolding after_hand set_mail set_node
claimed-after_hand w n from None = omega arith
claimed-after_hand w n from (Some m) = omega arith

claimed-after_look : (w : World) (n from : ℕ) (o : Option Message) → w.claimed ≤ (after_look w n from o).claimed
unfolding after_look set_mail set_node
claimed-after_look w n from None = omega arith
claimed-after_look w n from (Some m) = omega arith

claimed-after_post : (w : World) (n to : ℕ) (o : Option Message) → w.claimed ≤ (after_post w n to o).claimed
unfolding after_post set_mail set_node
claimed-after_post w n to None = omega arith
claimed-after_post w n to (Some m) = omega arith

claimed-after_router_act : (w : World) (n s : ℕ) (a : RouterAct) (o : Option Router) → w.claimed ≤ (after_router_act w n s a o).claimed
unfolding after_router_act set_node
claimed-after_router_act w n s a None = omega arith
claimed-after_router_act w n s a (Some r) = claimed-touch w r a

-- no act takes a claim back
pub claimed-after_act : (w : World) (n : ℕ) (act : Act) → w.claimed ≤ (after_act w n act).claimed
unfolding after_act set_node
claimed-after_act w n (Hand from) = claimed-after_hand w n from (message_in_hand w n from)
claimed-after_act w n (Look from) = claimed-after_look w n from (full_message (mail_at w (way w from n)))
claimed-after_act w n (Post to) = claimed-after_post w n to (post_of (node_at w n) (Post to))
claimed-after_act w n (Close e) = omega arith
claimed-after_act w n (OfRouter s a) = claimed-after_router_act w n s a (router_of w n s)
claimed-after_act w n Idle = omega arith

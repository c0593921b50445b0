-- An act leaves how many nodes there are.
use Rattle.ipcz_world.proofs.Vocabulary.{Message, Side, Router, primary_word, RouterAct, Act, Hand, Close, World, node_at, mail_at, way, set_node}
use Rattle.ipcz_world.proofs.Vocabulary.{set_word, set_claimed, set_mail, after_act, source_of, Look, Post, Idle, post_of, touch_word, touch}
use Rattle.ipcz_world.proofs.Vocabulary.{full_message, router_of, after_router_act, after_hand, after_look, after_post, has_unclaimed_word}
use Rattle.std.specs.Prelude.{◌≡◌, ℕ, ◌+◌, Bool, true, false, if◌then◌else◌, Option, Some, None, refl}
use Rattle.ipcz_router.specs.declared.act.RouterAct.TheVariants as acts
use Rattle.ipcz_node.specs.declared.act.Act.TheVariants.{Router as OfRouter}
use Rattle.ipcz_world.specs.WordAnswers.{claim_next}
use Rattle.ipcz_world.specs.Turns.{message_in_hand}

count-touch_word : (w : World) (s : Side) (x : Option ℕ) (a : RouterAct) (o : Option ℕ) → (touch_word w s x a o).count ≡ w.count
unfolding touch_word set_word
count-touch_word w s x a None = refl
count-touch_word w s x a (Some i) = refl

count-claim_next : (w : World) → (claim_next w).count ≡ w.count
unfolding set_claimed
count-claim_next w = go (has_unclaimed_word w)
  where
    go : (c : Bool) → (if c then set_claimed w (w.claimed + 1) else w).count ≡ w.count
    go true = refl
    go false = refl

pub count-touch : (w : World) (r : Router) (a : RouterAct) → (touch w r a).count ≡ w.count
unfolding touch
count-touch w r acts.Mark = count-touch_word w r.end.side (source_of r) acts.Mark (primary_word r)
count-touch w r acts.Wake = count-touch_word w r.end.side (source_of r) acts.Wake (primary_word r)
count-touch w r acts.Claim = count-claim_next w
count-touch w r acts.Lock = count-touch_word w r.end.side (source_of r) acts.Lock (primary_word r)
count-touch w r acts.Unlock = count-touch_word w r.end.side (source_of r) acts.Unlock (primary_word r)
count-touch w r other = refl

count-after_hand : (w : World) (n from : ℕ) (o : Option Message) → (after_hand w n from o).count ≡ w.count
unfolding after_hand set_mail set_node
count-after_hand w n from None = refl
count-after_hand w n from (Some m) = refl

count-after_look : (w : World) (n from : ℕ) (o : Option Message) → (after_look w n from o).count ≡ w.count
unfolding after_look set_mail set_node
count-after_look w n from None = refl
count-after_look w n from (Some m) = refl

count-after_post : (w : World) (n to : ℕ) (o : Option Message) → (after_post w n to o).count ≡ w.count
unfolding after_post set_mail set_node
count-after_post w n to None = refl
count-after_post w n to (Some m) = refl

count-after_router_act : (w : World) (n s : ℕ) (a : RouterAct) (o : Option Router) → (after_router_act w n s a o).count ≡ w.count
unfolding after_router_act set_node
count-after_router_act w n s a None = refl
count-after_router_act w n s a (Some r) = count-touch w r a

pub count-after_act : (w : World) (n : ℕ) (act : Act) → (after_act w n act).count ≡ w.count
unfolding after_act set_node
count-after_act w n (Hand from) = count-after_hand w n from (message_in_hand w n from)
count-after_act w n (Look from) = count-after_look w n from (full_message (mail_at w (way w from n)))
count-after_act w n (Post to) = count-after_post w n to (post_of (node_at w n) (Post to))
count-after_act w n (Close e) = refl
count-after_act w n (OfRouter s a) = count-after_router_act w n s a (router_of w n s)
count-after_act w n Idle = refl

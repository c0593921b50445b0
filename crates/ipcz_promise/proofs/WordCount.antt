-- A step leaves how many words there are.
use Rattle.ipcz_router.specs.Router.{source_of}
use Rattle.std.specs.Prelude.{◌≡◌, ℕ, ◌+◌, Bool, true, false, if◌then◌else◌, Option, Some, None, refl}
use Rattle.ipcz_world.proofs.Vocabulary.{Message, Side, Router, primary_word, RouterAct, Act, Hand, Close, World, node_at, mail_at, way}
use Rattle.ipcz_world.proofs.Vocabulary.{set_node, set_word, set_claimed, set_mail, after_act}
use Rattle.ipcz_router.specs.declared.act.RouterAct.TheVariants as acts
use Rattle.ipcz_node.specs.declared.act.Act.TheVariants.{Look, Post, Router as OfRouter, Idle}
use Rattle.ipcz_node.specs.Acts.{post_of}
use Rattle.ipcz_world.specs.WordAnswers.{claim_next, touch_word, touch}
use Rattle.ipcz_world.specs.Turns.{message_in_hand, full_message, router_of, after_router_act, after_hand, after_look, after_post}
use Rattle.ipcz_world.specs.World.{has_unclaimed_word}
use Rattle.std.specs.Prelude.{nat_lt}
use Rattle.std.proofs.Common.{ap, ◌∙◌, inl, inr}
use Rattle.ipcz_base.specs.declared.refusal.Refusal.TheVariants.{NoWord, Stranger}
use Rattle.ipcz_node.specs.Calls.{open_node, serials_refusal}
use Rattle.ipcz_node.specs.declared.happened.Happened.{Happened}
use Rattle.ipcz_node.specs.declared.happened.Happened.TheVariants as events
use Rattle.ipcz_world.proofs.Vocabulary.{Refusal, open_word, unless}
use Rattle.ipcz_world.specs.declared.step.Reply.{Reply}
use Rattle.ipcz_world.specs.declared.step.Reply.TheVariants as replies
use Rattle.ipcz_world.specs.declared.step.Step.{Step}
use Rattle.ipcz_world.specs.declared.step.Step.TheVariants.{Get, Open, Put, PutWide, Turn}
use Rattle.ipcz_world.specs.declared.step.Step.TheVariants as steps
use Rattle.ipcz_world.specs.Steps.{Effect, Gives, StepAny, at_node, open_on, open_step, open_with, opened_reply, refuse}
use Rattle.ipcz_world.proofs.frames.Frames.{size-set_claimed, size-set_node, size-set_word}
use Rattle.ipcz_promise.specs.Promise.{Account, May, MayTurn}
use Rattle.ipcz_promise.proofs.Inverting.{call-cases}

size-touch_word : (w : World) (s : Side) (x : Option ℕ) (a : RouterAct) (o : Option ℕ) → (touch_word w s x a o).size ≡ w.size
unfolding touch_word set_word
size-touch_word w s x a None = refl
size-touch_word w s x a (Some i) = refl

size-claim_next : (w : World) → (claim_next w).size ≡ w.size
unfolding set_claimed
size-claim_next w = go (has_unclaimed_word w)
  where
    go : (c : Bool) → (if c then set_claimed w (w.claimed + 1) else w).size ≡ w.size
    go true = refl
    go false = refl

pub size-touch : (w : World) (r : Router) (a : RouterAct) → (touch w r a).size ≡ w.size
unfolding touch
size-touch w r acts.Mark = size-touch_word w r.end.side (source_of r) acts.Mark (primary_word r)
size-touch w r acts.Wake = size-touch_word w r.end.side (source_of r) acts.Wake (primary_word r)
size-touch w r acts.Claim = size-claim_next w
size-touch w r acts.Lock = size-touch_word w r.end.side (source_of r) acts.Lock (primary_word r)
size-touch w r acts.Unlock = size-touch_word w r.end.side (source_of r) acts.Unlock (primary_word r)
size-touch w r other = refl

size-after_hand : (w : World) (n from : ℕ) (o : Option Message) → (after_hand w n from o).size ≡ w.size
unfolding after_hand set_mail set_node
size-after_hand w n from None = refl
size-after_hand w n from (Some m) = refl

size-after_look : (w : World) (n from : ℕ) (o : Option Message) → (after_look w n from o).size ≡ w.size
unfolding after_look set_mail set_node
size-after_look w n from None = refl
size-after_look w n from (Some m) = refl

size-after_post : (w : World) (n to : ℕ) (o : Option Message) → (after_post w n to o).size ≡ w.size
unfolding after_post set_mail set_node
size-after_post w n to None = refl
size-after_post w n to (Some m) = refl

size-after_router_act : (w : World) (n s : ℕ) (a : RouterAct) (o : Option Router) → (after_router_act w n s a o).size ≡ w.size
unfolding after_router_act set_node
size-after_router_act w n s a None = refl
size-after_router_act w n s a (Some r) = size-touch w r a

pub size-after_act : (w : World) (n : ℕ) (act : Act) → (after_act w n act).size ≡ w.size
unfolding after_act set_node
size-after_act w n (Hand from) = size-after_hand w n from (message_in_hand w n from)
size-after_act w n (Look from) = size-after_look w n from (full_message (mail_at w (way w from n)))
size-after_act w n (Post to) = size-after_post w n to (post_of (node_at w n) (Post to))
size-after_act w n (Close e) = refl
size-after_act w n (OfRouter s a) = size-after_router_act w n s a (router_of w n s)
size-after_act w n Idle = refl

-- calls, and each step
size-call : (w v : World) (n : ℕ) (o : Option Refusal) (done : Effect) (reply : Reply) → Gives (at_node w n (unless w o done)) reply v →
    done.world.size ≡ w.size → v.size ≡ w.size
size-call w v n o done reply gives same = elim (call-cases w n o done reply v gives) [
  | inl d ↦ ap (λ (u : World). u.size) d.world ∙ same
  | inr r ↦ ap (λ (u : World). u.size) r.world
]

module _ (w v : World) (n : ℕ) (reply : Reply) where
  size-open_with : (counted : World) (i : ℕ) → counted.size ≡ w.size → Gives (open_with w counted n i) reply v → v.size ≡ w.size
  unfolding unless
  size-open_with counted i same gives = go (serials_refusal (node_at w n)) gives
    where
      go : (o : Option Refusal) → Gives (unless w o (record {
        reply = opened_reply i;
        world = set_word (set_node counted n (open_node (node_at w n) i)) i open_word;
      })) reply v → v.size ≡ w.size
      go None (e, f) = ap (λ (u : World). u.size) f ∙ size-set_word _ i open_word ∙ size-set_node counted n _ ∙ same
      go (Some why) (e, f) = ap (λ (u : World). u.size) f

  size-open_on : (o : Option ℕ) → Gives (open_on w n o) reply v → v.size ≡ w.size
  unfolding open_on
  size-open_on (Some i) gives = size-open_with w i refl gives
  size-open_on None gives = go (has_unclaimed_word w) gives
    where
      go : (c : Bool) → Gives (if c then open_with w (set_claimed w (w.claimed + 1)) n w.claimed else refuse w NoWord) reply v → v.size ≡ w.size
      go true h = size-open_with (set_claimed w (w.claimed + 1)) w.claimed (size-set_claimed w (w.claimed + 1)) h
      go false (e, f) = ap (λ (u : World). u.size) f

  size-open : Gives (open_step w n) reply v → v.size ≡ w.size
  size-open gives = go (nat_lt n w.count) gives
    where
      go : (c : Bool) → Gives (if c then open_on w n (node_at w n).opening else refuse w Stranger) reply v → v.size ≡ w.size
      go true h = size-open_on (node_at w n).opening h
      go false (e, f) = ap (λ (u : World). u.size) f

pub size-step : (w v : World) (step : Step) (reply : Reply) → StepAny w step reply v → v.size ≡ w.size
size-step w v (Open n) reply (inl gives) = size-open w v n reply gives
size-step w v (Open n) reply (inr (fine, (e, f))) = ap (λ (u : World). u.size) f
size-step w v (Put n at bytes ends) reply (inl gives) = size-call w v n _ _ reply gives (size-set_node w n _)
size-step w v (Put n at bytes ends) reply (inr (l, (e, f))) = ap (λ (u : World). u.size) f
size-step w v (PutWide n at bytes ends) reply (inl gives) = size-call w v n _ _ reply gives (size-set_node w n _)
size-step w v (PutWide n at bytes ends) reply (inr (l, (e, f))) = ap (λ (u : World). u.size) f
size-step w v (Get n at) reply gives = size-call w v n _ _ reply gives (size-set_node w n _)
size-step w v (steps.Close n at) reply (inl gives) = size-call w v n _ _ reply gives (size-set_node w n _)
size-step w v (steps.Close n at) reply (inr (fine, (e, f))) = ap (λ (u : World). u.size) f
size-step w v (Turn n) reply (act, may, inl gives) = size-call w v n _ _ reply gives (size-after_act w n act)
size-step w v (Turn n) reply (act, may, inr (grows, own, fine, (e, f))) = ap (λ (u : World). u.size) f

-- and so do the accounts
may-turn : (a c : Account) (event : Happened) → MayTurn a event c → c.words ≡ a.words
may-turn a c (events.Close e) (dropped, unheld, unclosed, is) = ap (λ (x : Account). x.words) is
may-turn a c other is = ap (λ (x : Account). x.words) is

pub may-words : (a c : Account) (step : Step) (reply : Reply) → May a step reply c → c.words ≡ a.words
may-words a c (Open n) (replies.Opened d e) (l, q, new, new_too, is) = ap (λ (x : Account). x.words) is
may-words a c (Put n at bytes ends) (replies.Put number) (p, is) = ap (λ (x : Account). x.words) is
may-words a c (PutWide n at bytes ends) (replies.Put number) (p, is) = ap (λ (x : Account). x.words) is
may-words a c (Get n at) (replies.Got number p) (g, is) = ap (λ (x : Account). x.words) is
may-words a c (steps.Close n at) (replies.Closed number) (h, q, is) = ap (λ (x : Account). x.words) is
may-words a c (Turn n) (replies.Turned event) (l, is) = may-turn a c event is
may-words a c step (replies.Refused refusal) (h, is) = ap (λ (x : Account). x.words) is
may-words a c step reply h = absurd h

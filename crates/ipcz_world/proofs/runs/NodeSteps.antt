-- What is said of each node's routers is kept by every step, if every act and call of a node keeps it.
use Rattle.ipcz_world.proofs.Vocabulary.{End, Message, Refusal, Word, open_word, Router, primary_word, RouterAct, Act, Hand, Close, Node, router_in}
use Rattle.ipcz_world.proofs.Vocabulary.{commit, Reply, World, node_at, mail_at, way, router_at, messages_in, flow, set_node, set_word, set_claimed}
use Rattle.ipcz_world.proofs.Vocabulary.{set_mail, answer_of, after_act, hand_message, can_take, unless, Books, Records, IsUnderWay, moves_of, Inv}
use Rattle.ipcz_world.proofs.Vocabulary.{source_for, source_of, may_take, Answer, Look, Post, Idle, with_outbox, put_node, put_refusal, get_node}
use Rattle.ipcz_world.proofs.Vocabulary.{get_refusal, close_node, close_refusal, open_node, serials_refusal, deliver, is_hand_of, post_of, Mail}
use Rattle.ipcz_world.proofs.Vocabulary.{Printed, Wide, Step, touch, touch_word, after_router_act, after_hand, after_look, after_post, full_message}
use Rattle.ipcz_world.proofs.Vocabulary.{may_act, turn_lacks_serials, Effect, GivesOrNoMemory, refuse, at_node, open_with, open_on, open_step}
use Rattle.ipcz_world.proofs.Vocabulary.{close_step, claim_for_open, StepAny, has_unclaimed_word}
use Rattle.std.specs.Prelude.{◌≡◌, ◌<◌, ℕ, ◌+◌, Bool, true, false, nat_lt, if◌then◌else◌, Option, Some, None, List, slice_get, refl}
use Rattle.std.proofs.Common.{arith, sym, ap, subst, inl, inr}
use Rattle.std.proofs.lemmas.Bool.Decides.{nat_tests}
use Rattle.ipcz_base.specs.declared.parcel.Parcel as parcels
use Rattle.ipcz_base.specs.declared.refusal.Refusal.TheVariants as refusals
use Rattle.ipcz_router.specs.declared.act.RouterAct.TheVariants as acts
use Rattle.ipcz_node.specs.declared.act.Act.TheVariants.{Router as OfRouter}
use Rattle.ipcz_world.specs.declared.mail.Mail.TheVariants as mails
use Rattle.ipcz_world.specs.declared.step.Step.TheVariants as steps
use Rattle.ipcz_world.proofs.runs.Flagging.{ArePeripheral}
use Rattle.ipcz_world.proofs.facts.Tests.{and_first}

-- what is said of a world, node by node, and is kept by what nodes do
pub record IsKept (Q : World → Type 0) (N : Node → Type 0) : Type 0 where
  pub node_of : (w : World) (n : ℕ) → Q w → N (node_at w n)
  pub set_node : (w : World) (n : ℕ) (x : Node) → Q w → N x → Q (set_node w n x)
  pub set_word : (w : World) (i : ℕ) (x : Word) → Q w → Q (set_word w i x)
  pub set_claimed : (w : World) (i : ℕ) → Q w → Q (set_claimed w i)
  pub set_mail : (w : World) (k : ℕ) (x : Mail) → Q w → Q (set_mail w k x)
  pub look : (n : Node) (from : ℕ) → N n → N (record n { hand = Some from })
  pub post : (n : Node) (to : ℕ) (ms : List Message) → N n → N (with_outbox n to ms)
  pub claim : (n : Node) (i : ℕ) → N n → N (record n { opening = Some i })
  pub put : (n : Node) (e : End) (p : parcels.Parcel) → N n → N (put_node n e p)
  pub get : (n : Node) (e : End) → N n → get_refusal n e ≡ None → N (get_node n e)
  pub close : (n : Node) (e : End) → N n → N (close_node n e)
  pub open_pair : (n : Node) (i : ℕ) → N n → N (open_node n i)
  pub pending : (n : Node) (e : End) (a : Answer) → N n → N (commit n (Close e) a)
  pub router : (w : World) (b : Books) (g : Records) (n s : ℕ) (act : RouterAct) (r : Router) → Inv w b g → n < w.count → Q w →
      router_in (node_at w n) s ≡ Some r → may_take r act ≡ true →
      N (commit (node_at w n) (OfRouter s act) (answer_of w r act))
  pub deliver : (n : Node) (from : ℕ) (m : Message) (o : Option ℕ) → N n → ArePeripheral (moves_of m) → N (deliver n from m o)

-- a message in hand is under way
in-flow : (w : World) (from n : ℕ) (y : Mail) (m : Message) → mail_at w (way w from n) ≡ y → hand_message y ≡ Some m →
    slice_get (flow w from n) 0 ≡ Some m
unfolding hand_message messages_in flow
in-flow w from n (mails.Hand x) m at h = rw at h
in-flow w from n mails.Empty m at h = cc
in-flow w from n (mails.Full x) m at h = cc

pub hand-is : (o : Option ℕ) (from : ℕ) → is_hand_of o from ≡ true → o ≡ Some from
unfolding is_hand_of
hand-is None from h = cc
hand-is (Some s) from h = let e : s ≡ from = grind (arith, h, nat_tests) in ap Some e

module _ (Q : World → Type 0) (N : Node → Type 0) (kept : IsKept Q N) where
  kept-touch_word : (w : World) (r : Router) (act : RouterAct) (o : Option ℕ) → Q w → Q (touch_word w r.end.side (source_of r) act o)
  unfolding touch_word
  kept-touch_word w r act None law = law
  kept-touch_word w r act (Some i) law = kept.set_word w i _ law

  kept-touch : (w : World) (r : Router) (act : RouterAct) → Q w → Q (touch w r act)
  unfolding touch
  kept-touch w r acts.Claim law = go (has_unclaimed_word w)
    where
      go : (b : Bool) → Q (if b then set_claimed w (w.claimed + 1) else w)
      go true = kept.set_claimed w (w.claimed + 1) law
      go false = law
  kept-touch w r acts.Mark law = kept-touch_word w r acts.Mark (primary_word r) law
  kept-touch w r acts.Wake law = kept-touch_word w r acts.Wake (primary_word r) law
  kept-touch w r acts.Lock law = kept-touch_word w r acts.Lock (primary_word r) law
  kept-touch w r acts.Unlock law = kept-touch_word w r acts.Unlock (primary_word r) law
  kept-touch w r other law = law

  -- a message in hand
  kept-handed : (w : World) (b : Books) (g : Records) (n from : ℕ) → Inv w b g → n < w.count → can_take w n (Hand from) ≡ true → Q w →
      (o : Option Message) → hand_message (mail_at w (way w from n)) ≡ o → Q (after_hand w n from o)
  unfolding after_hand can_take
  kept-handed w b g n from law ln can is None e = is
  kept-handed w b g n from law ln can is (Some m) e = kept.set_mail _ _ _
      (kept.set_node w n (deliver (node_at w n) from m (source_for w m)) is
      (kept.deliver (node_at w n) from m (source_for w m) (kept.node_of w n is)
      (λ j d h. law.moves.peripheral from n 0 j m d under h)))
    where
      hand : (node_at w n).hand ≡ Some from
      hand = hand-is (node_at w n).hand from (and_first _ _ can)

      under : IsUnderWay w from n 0 m
      under = record {
        sender = law.counts.hand_from n from ln hand;
        receiver = ln;
        place =
            in-flow w from n (mail_at w (way w from n)) m refl e;
      }

  kept-looked : (w : World) (n from : ℕ) → Q w → (o : Option Message) → Q (after_look w n from o)
  unfolding after_look commit
  kept-looked w n from is None = is
  kept-looked w n from is (Some m) = kept.set_mail _ _ _ (kept.set_node w n _ is (kept.look (node_at w n) from (kept.node_of w n is)))

  kept-mailed : (w : World) (n to : ℕ) → Q w → (o : Option Message) → Q (after_post w n to o)
  unfolding after_post commit
  kept-mailed w n to is None = is
  kept-mailed w n to is (Some m) = kept.set_mail _ _ _ (kept.set_node w n _ is (kept.post (node_at w n) to _ (kept.node_of w n is)))

  kept-router : (w : World) (b : Books) (g : Records) (n s : ℕ) (act : RouterAct) → Inv w b g → n < w.count → Q w → (o : Option Router) →
      router_in (node_at w n) s ≡ o → may_act o act ≡ true → Q (after_router_act w n s act o)
  unfolding after_router_act may_act
  kept-router w b g n s act law ln is None e may = is
  kept-router w b g n s act law ln is (Some r) e may = kept.set_node (touch w r act) n _ (kept-touch w r act is)
      (kept.router w b g n s act r law ln is e may)

  -- an act that may be taken
  pub kept-acted : (w : World) (b : Books) (g : Records) (n : ℕ) (act : Act) → Inv w b g → n < w.count → can_take w n act ≡ true → Q w →
      Q (after_act w n act)
  unfolding after_act can_take router_at
  kept-acted w b g n (Hand from) law ln can is = kept-handed w b g n from law ln can is (hand_message (mail_at w (way w from n))) refl
  kept-acted w b g n (Look from) law ln can is = kept-looked w n from is (full_message (mail_at w (way w from n)))
  kept-acted w b g n (Post to) law ln can is = kept-mailed w n to is (post_of (node_at w n) (Post to))
  kept-acted w b g n (Close e) law ln can is = kept.set_node w n _ is (kept.pending (node_at w n) e _ (kept.node_of w n is))
  kept-acted w b g n (OfRouter s act) law ln can is = kept-router w b g n s act law ln is (router_in (node_at w n) s) refl can
  kept-acted w b g n Idle law ln can is = is

  -- a refusal leaves the world
  kept-unless : (w : World) (o : Option Refusal) (done : Effect) → Q w → (o ≡ None → Q done.world) → Q (unless w o done).world
  unfolding unless
  kept-unless w None done is after = after refl
  kept-unless w (Some why) done is after = is

  kept-at_node : (w : World) (n : ℕ) (done : Effect) → Q w → (n < w.count → Q done.world) → Q (at_node w n done).world
  kept-at_node w n done is after = go (nat_lt n w.count) refl
    where
      go : (c : Bool) → nat_lt n w.count ≡ c → Q (if c then done else refuse w refusals.Stranger).world
      go true e = after (grind (arith, e, nat_tests))
      go false e = is

  kept-open_with : (w counted : World) (n i : ℕ) → Q w → Q counted → Q (open_with w counted n i).world
  kept-open_with w counted n i is counts = kept-unless w (serials_refusal (node_at w n)) _ is
      (λ e. kept.set_word _ i open_word (kept.set_node counted n (open_node (node_at w n) i) counts
      (kept.open_pair (node_at w n) i (kept.node_of w n is))))

  kept-open_on : (w : World) (n : ℕ) (o : Option ℕ) → Q w → Q (open_on w n o).world
  unfolding open_on
  kept-open_on w n (Some i) is = kept-open_with w w n i is is
  kept-open_on w n None is = go (has_unclaimed_word w)
    where
      go : (c : Bool) → Q (if c then open_with w (set_claimed w (w.claimed + 1)) n w.claimed else refuse w refusals.NoWord).world
      go true = kept-open_with w (set_claimed w (w.claimed + 1)) n w.claimed is (kept.set_claimed w (w.claimed + 1) is)
      go false = is

  -- the first half of an open
  pub kept-claim_for_open : (w : World) (n : ℕ) → Q w → Q (claim_for_open w n)
  kept-claim_for_open w n is = kept.set_claimed _ (w.claimed + 1)
      (kept.set_node w n _ is (kept.claim (node_at w n) w.claimed (kept.node_of w n is)))

  kept-given : (w v : World) (done : Effect) (reply : Reply) → Q w → Q done.world → GivesOrNoMemory w done reply v → Q v
  kept-given w v done reply is after (inl h) = subst Q (sym h.1) after
  kept-given w v done reply is after (inr (fine, (e, f))) = subst Q (sym f) is

  -- any step
  pub kept-step : (w v : World) (b : Books) (g : Records) (step : Step) (reply : Reply) → Inv w b g → Q w → StepAny w step reply v → Q v
  kept-step w v b g (steps.Open n) reply law is h = kept-given w v (open_step w n) reply is
      (kept-at_node w n _ is (λ l. kept-open_on w n (node_at w n).opening is)) h
  kept-step w v b g (steps.Put n at bytes ends) reply law is (inr (l, (e, f))) = subst Q (sym f) is
  kept-step w v b g (steps.Put n at bytes ends) reply law is (inl h) =
      subst Q (sym h.1) (kept-at_node w n _ is (λ l. kept-unless w (put_refusal Printed (node_at w n) at bytes ends) _ is
      (λ e. kept.set_node w n (put_node (node_at w n) at (record { bytes = bytes; ends = ends })) is
      (kept.put (node_at w n) at (record { bytes = bytes; ends = ends }) (kept.node_of w n is)))))
  kept-step w v b g (steps.PutWide n at bytes ends) reply law is (inr (l, (e, f))) = subst Q (sym f) is
  kept-step w v b g (steps.PutWide n at bytes ends) reply law is (inl h) =
      subst Q (sym h.1) (kept-at_node w n _ is (λ l. kept-unless w (put_refusal Wide (node_at w n) at bytes ends) _ is
      (λ e. kept.set_node w n (put_node (node_at w n) at (record { bytes = bytes; ends = ends })) is
      (kept.put (node_at w n) at (record { bytes = bytes; ends = ends }) (kept.node_of w n is)))))
  kept-step w v b g (steps.Get n at) reply law is h = subst Q (sym h.1)
      (kept-at_node w n _ is (λ l. kept-unless w (get_refusal (node_at w n) at) _ is
      (λ e. kept.set_node w n (get_node (node_at w n) at) is (kept.get (node_at w n) at (kept.node_of w n is) e))))
  kept-step w v b g (steps.Close n at) reply law is h = kept-given w v (close_step w n at) reply is
      (kept-at_node w n _ is (λ l. kept-unless w (close_refusal (node_at w n) at) _ is
      (λ e. kept.set_node w n (close_node (node_at w n) at) is (kept.close (node_at w n) at (kept.node_of w n is))))) h
  kept-step w v b g (steps.Turn n) reply law is (act, may, inr (grows, own, fine, (e, f))) = subst Q (sym f) is
  kept-step w v b g (steps.Turn n) reply law is (act, may, inl (e, f)) =
      subst Q (sym f) (kept-at_node w n _ is (λ l. kept-unless w (if turn_lacks_serials w n act then Some refusals.NumbersEnd else None) _
      is
      (λ e. kept-acted w b g n act law l (may l) is)))

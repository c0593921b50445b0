-- Each possible act of a node that uses something up lowers the world's rank.
use Rattle.std.specs.Prelude.{◌≡◌, ◌≤◌, ℕ, zero, suc, ◌+◌, Bool, true, false, not, ◌&&◌, ◌||◌, if◌then◌else◌, nat_lt, nat_eq}
use Rattle.std.specs.Prelude.{Option, Some, None}
use Rattle.std.specs.Prelude.{is_some, List, [], ◌∷◌, length, replicate, refl}
use Rattle.std.proofs.Common.{arith, ap, subst, ◌∙◌, sym}
use Rattle.std.specs.Ordering.{nat_cmp}
use Rattle.ipcz_world.proofs.Vocabulary.{End, Message, Side, Word, total_list, Router, Node, bare_node, outbox, router_in, RouterAct, Act, Close}
use Rattle.ipcz_world.proofs.Vocabulary.{Hand, commit, primary_word, World, node_at, mail_at, way, router_at, set_node, set_word, word_at}
use Rattle.ipcz_world.proofs.Vocabulary.{set_claimed, set_mail, answer_of, after_act, can_take, hand_message, source_of, is_proxy, decays}
use Rattle.ipcz_world.proofs.Vocabulary.{is_on_central, may_take, is_rest, is_done, Answer, Look, Post, Idle, with_outbox, on_router, deliver}
use Rattle.ipcz_world.proofs.Vocabulary.{commit_router, post_of, first_of, rest_of, Mail, source_for, touch, touch_word, link_answer, word_answer}
use Rattle.ipcz_world.proofs.Vocabulary.{Plan, Locks, Waits, Refuses, plan_of, after_router_act, after_hand, after_look, after_post, full_message}
use Rattle.ipcz_world.proofs.Vocabulary.{may_act, is_full, is_clear, Rates, router_worth, node_worth, rank}
use Rattle.ipcz_base.proofs.Totals.{total-empty}
use Rattle.ipcz_router.specs.ActTable.{is_possible}
use Rattle.ipcz_world.proofs.lawful.Following.{able-tells}
use Rattle.ipcz_router.specs.ActEffects.{IsAnswerOf}
use Rattle.ipcz_router.specs.declared.act.RouterAct.TheVariants as acts
use Rattle.ipcz_router.specs.declared.act.Answer.TheVariants as answers
use Rattle.ipcz_node.specs.declared.act.Act.TheVariants.{Router as OfRouter}
use Rattle.ipcz_node.specs.Node.{outbox_count}
use Rattle.ipcz_world.specs.declared.mail.Mail.TheVariants as mails
use Rattle.ipcz_world.specs.WordAnswers.{try_answer}
use Rattle.ipcz_world.specs.Turns.{is_first_pending}
use Rattle.ipcz_world.proofs.frames.Totalling.{total_list-put_place}
use Rattle.ipcz_world.proofs.facts.Tests.{and_first, and_second}
use Rattle.ipcz_world.specs.Ranks.{message_worth, box_worth, mail_worth}
use Rattle.ipcz_world.specs.Ranks.{spends_at, uses_up}
use Rattle.ipcz_world.proofs.lawful.NodeWorths.{node-outbox}
use Rattle.ipcz_world.proofs.lawful.NodeHands.{node-delivered}
use Rattle.ipcz_world.proofs.lawful.NodeActs.{CanPay, router-acted, pending-closed}

-- what is worth nothing, many times over
pub none-worth : (h : List Message → ℕ) (k : ℕ) → h [] ≡ 0 → total_list h (replicate k []) ≡ 0
none-worth h zero e = refl
none-worth h (suc k) e = omega (arith, e, none-worth h k e)

bare-worth : (c : Rates) → node_worth c (bare_node 0 0) ≡ 0
unfolding node_worth
bare-worth c = omega (
  arith,
  none-worth (box_worth c) outbox_count refl,
  total-empty nat_cmp (λ serial r. router_worth c r),
)

-- a node, or a mailbox, is another
pub rank-set_node : (c : Rates) (w : World) (n : ℕ) (x : Node) →
    rank c (set_node w n x) + node_worth c (node_at w n) ≡ rank c w + node_worth c x
unfolding rank set_node node_at
rank-set_node c w n x = omega (arith, total_list-put_place (node_worth c) (bare_node 0 0) w.nodes n x (bare-worth c))

rank-set_mail : (c : Rates) (w : World) (k : ℕ) (x : Mail) →
    rank c (set_mail w k x) + mail_worth c (mail_at w k) ≡ rank c w + mail_worth c x
unfolding rank set_mail mail_at mail_worth
rank-set_mail c w k x = omega (arith, total_list-put_place (mail_worth c) mails.Empty w.mail k x refl)

mail-set_node : (w : World) (n : ℕ) (x : Node) (k : ℕ) → mail_at (set_node w n x) k ≡ mail_at w k
unfolding set_node mail_at
mail-set_node w n x k = refl

-- words aren't weighed
pub record IsSameBut (c : Rates) (w v : World) : Type 0 where
  pub rank : rank c v ≡ rank c w
  pub node : (n : ℕ) → node_at v n ≡ node_at w n

same-word : (c : Rates) (w : World) (s : Side) (source : Option ℕ) (act : RouterAct) (o : Option ℕ) → IsSameBut c w
    (touch_word w s source act o)
unfolding touch_word set_word rank node_at
same-word c w s source act None = record { rank = refl; node = λ n. refl }
same-word c w s source act (Some i) = record { rank = refl; node = λ n. refl }

same-claimed : (c : Rates) (w : World) (b : Bool) → IsSameBut c w (if b then set_claimed w (w.claimed + 1) else w)
unfolding set_claimed rank node_at
same-claimed c w true = record { rank = refl; node = λ n. refl }
same-claimed c w false = record { rank = refl; node = λ n. refl }

pub same-touched : (c : Rates) (w : World) (r : Router) (act : RouterAct) → IsSameBut c w (touch w r act)
unfolding touch
same-touched c w r acts.Claim = same-claimed c w (nat_lt w.claimed w.size)
same-touched c w r acts.Mark = same-word c w r.end.side (source_of r) acts.Mark (primary_word r)
same-touched c w r acts.Wake = same-word c w r.end.side (source_of r) acts.Wake (primary_word r)
same-touched c w r acts.Lock = same-word c w r.end.side (source_of r) acts.Lock (primary_word r)
same-touched c w r acts.Unlock = same-word c w r.end.side (source_of r) acts.Unlock (primary_word r)
same-touched c w r other = record { rank = refl; node = λ n. refl }

-- a message in hand is handled
hand-lowers : (c : Rates) (w : World) (n from : ℕ) (x : Mail) → mail_at w (way w from n) ≡ x → is_some (hand_message x) ≡ true →
    rank c (after_hand w n from (hand_message x)) + 1 ≤ rank c w
unfolding after_hand hand_message mail_worth
hand-lowers c w n from mails.Empty e h = cc
hand-lowers c w n from (mails.Full m) e h = cc
hand-lowers c w n from (mails.Hand m) e h =
    let u : World = set_node w n (deliver (node_at w n) from m (source_for w m)) in
    let here : mail_worth c (mail_at u (way w from n)) ≡ message_worth c m = ap (mail_worth c) (mail-set_node w n _ (way w from n) ∙ e) in
    omega (
      arith,
      rank-set_mail c u (way w from n) mails.Empty,
      rank-set_node c w n (deliver (node_at w n) from m (source_for w m)),
      node-delivered c (node_at w n) from m (source_for w m),
      here,
    )

node-looked : (c : Rates) (n : Node) (from : ℕ) → node_worth c (record n { hand = Some from }) ≡ node_worth c n
unfolding node_worth
node-looked c n from = refl

-- a message is taken into the hand
look-lowers : (c : Rates) (w : World) (n from : ℕ) (x : Mail) → mail_at w (way w from n) ≡ x → is_full x ≡ true →
    rank c (after_look w n from (full_message x)) + 1 ≤ rank c w
unfolding after_look full_message is_full mail_worth commit
look-lowers c w n from mails.Empty e h = cc
look-lowers c w n from (mails.Hand m) e h = cc
look-lowers c w n from (mails.Full m) e h =
    let y : Node = record (node_at w n) { hand = Some from } in
    let u : World = set_node w n y in
    let here : mail_worth c (mail_at u (way w from n)) ≡ message_worth c m + 1 = ap (mail_worth c)
    (mail-set_node w n y (way w from n) ∙ e) in
    omega (
      arith,
      rank-set_mail c u (way w from n) (mails.Hand m),
      rank-set_node c w n y,
      node-looked c (node_at w n) from,
      here,
    )

-- a message is posted
post-lowers : (c : Rates) (w : World) (n to : ℕ) (box : List Message) → outbox (node_at w n) to ≡ box →
    not (nat_eq (length box) 0) ≡ true → is_clear (mail_at w (way w n to)) ≡ true → rank c (after_post w n to (first_of box)) + 1 ≤ rank c w
unfolding after_post is_clear mail_worth commit first_of rest_of
post-lowers c w n to [] e h k = cc
post-lowers c w n to (m ∷ ms) e h k =
    let y : Node = with_outbox (node_at w n) to (rest_of (outbox (node_at w n) to)) in
    let u : World = set_node w n y in
    let fewer : box_worth c (rest_of (outbox (node_at w n) to)) + (message_worth c m + 2) ≤ box_worth c (outbox (node_at w n) to) =
    rw e (omega arith) in
    omega (
      arith,
      rank-set_mail c u (way w n to) (mails.Full m),
      rank-set_node c w n y,
      node-outbox c (node_at w n) to (rest_of (outbox (node_at w n) to)),
      fewer,
    )

-- an end is closed
close-lowers : (c : Rates) (w : World) (n : ℕ) (end : End) → is_first_pending (node_at w n).pending end ≡ true →
    rank c (after_act w n (Close end)) + 1 ≤ rank c w
unfolding after_act is_first_pending
close-lowers c w n end h = go (node_at w n).pending refl h
  where
    go : (es : List End) → (node_at w n).pending ≡ es → is_first_pending es end ≡ true → rank c (after_act w n (Close end)) + 1 ≤ rank c w
    go [] e k = cc
    go (x ∷ xs) e k = let some : 1 ≤ length (node_at w n).pending = rw e (omega arith) in
        omega (
          arith,
          rank-set_node c w n (commit (node_at w n) (Close end) answers.Plain),
          pending-closed c (node_at w n) end answers.Plain some,
        )

or_left : (a b : Bool) → b ≡ false → (a || b) ≡ true → a ≡ true
or_left true b k e = refl
or_left false b k e = cc

try_is : (x : Word) (s : Side) (source : Option ℕ) (p : Plan) → IsAnswerOf acts.Lock (try_answer x s source p)
unfolding try_answer
try_is x s source Locks = tt
try_is x s source Waits = tt
try_is x s source Refuses = tt

-- the words' answers are of their acts' kinds
module _ (w : World) (r : Router) where
  central : (act : RouterAct) (p : Option ℕ) → is_some p ≡ true →
      ((x : Word) → IsAnswerOf act (word_answer x r.end.side (source_of r) act)) →
      IsAnswerOf act (link_answer w r.end.side (source_of r) act p)
  unfolding link_answer
  central act None some is = cc
  central act (Some i) some is = is (word_at w i)

  plain : (act : RouterAct) (p : Option ℕ) → IsAnswerOf act answers.Plain →
      ((x : Word) → word_answer x r.end.side (source_of r) act ≡ answers.Plain) →
      IsAnswerOf act (link_answer w r.end.side (source_of r) act p)
  unfolding link_answer
  plain act None is same = is
  plain act (Some i) is same = subst (IsAnswerOf act) (sym (same (word_at w i))) is

  claim_is : (b : Bool) → IsAnswerOf acts.Claim (if b then answers.Claimed w.claimed else answers.NoWord)
  claim_is true = tt
  claim_is false = tt

  pub answered : (act : RouterAct) → may_take r act ≡ true → IsAnswerOf act (answer_of w r act)
  unfolding answer_of word_answer is_possible is_rest
  answered acts.Mark may = central acts.Mark (primary_word r) (and_first _ _ (or_left _ _ refl may)) (λ x. tt)
  answered acts.Wake may = central acts.Wake (primary_word r) (and_second _ _ (or_left _ _ refl may)) (λ x. tt)
  answered acts.Claim may = claim_is (nat_lt w.claimed w.size)
  answered acts.Lock may = central acts.Lock (primary_word r) (able-tells r (or_left _ _ refl may)).central
      (λ x. try_is x r.end.side (source_of r) (plan_of x r.end.side))
  answered acts.Unlock may =
      central acts.Unlock (primary_word r) (unlocks (is_proxy r) (is_done r) r.holds (is_on_central r) (decays r) (or_left _ _ refl may)) (λ x. tt)
    where
      unlocks : (p d h c e : Bool) → ((p && (h && (c && not e))) || (d && (h && (c && not e)))) ≡ true → c ≡ true
      unlocks p d h true e q = refl
      unlocks p d h false e q = grind (arith, q)
  answered other may = plain other (primary_word r) tt (λ x. refl)

-- a router acts
router-lowers : (c : Rates) (w : World) (n s : ℕ) (act : RouterAct) (o : Option Router) → router_in (node_at w n) s ≡ o →
    ((r : Router) → router_in (node_at w n) s ≡ Some r → CanPay c r) → may_act o act ≡ true → spends_at o act ≡ true →
    rank c (after_router_act w n s act o) + 1 ≤ rank c w
unfolding after_router_act may_act spends_at commit on_router
router-lowers c w n s act None e pay may up = cc
router-lowers c w n s act (Some r) e pay may up =
    let x : Node = node_at w n in
    let a : Answer = answer_of w r act in
    let same : IsSameBut c w (touch w r act) = same-touched c w r act in
    let done : on_router x (router_in x s) (commit_router x s act a) ≡ commit_router x s act a r = ap
    (λ o. on_router x o (commit_router x s act a)) e in
    let less : node_worth c (commit_router x s act a r) + 1 ≤ node_worth c x =
    router-acted c x s r e (pay r e) act a may up (answered w r act may) in
    omega (
      arith,
      rank-set_node c (touch w r act) n (on_router x (router_in x s) (commit_router x s act a)),
      ap (node_worth c) (same.node n),
      ap (node_worth c) done,
      same.rank,
      less,
    )

-- an act of a node
pub rank-acted : (c : Rates) (w : World) (n : ℕ) (act : Act) →
    ((s : ℕ) (r : Router) → router_in (node_at w n) s ≡ Some r → CanPay c r) → can_take w n act ≡ true → uses_up w n act ≡ true →
    rank c (after_act w n act) + 1 ≤ rank c w
unfolding after_act can_take uses_up router_at post_of
rank-acted c w n (Hand from) pay can up = hand-lowers c w n from (mail_at w (way w from n)) refl (and_second _ _ can)
rank-acted c w n (Look from) pay can up = look-lowers c w n from (mail_at w (way w from n)) refl (and_second _ _ (and_second _ _ can))
rank-acted c w n (Post to) pay can up =
    post-lowers c w n to (outbox (node_at w n) to) refl (and_first _ _ (and_second _ _ can)) (and_second _ _ (and_second _ _ can))
rank-acted c w n (Close end) pay can up = close-lowers c w n end can
rank-acted c w n (OfRouter s act) pay can up = router-lowers c w n s act (router_in (node_at w n) s) refl (pay s) can up
rank-acted c w n Idle pay can up = cc

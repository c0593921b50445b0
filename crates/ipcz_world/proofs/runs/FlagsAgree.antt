-- What the flags of a router have to do with each other, in every world that steps lead to.
use Rattle.ipcz_world.proofs.Vocabulary.{Side, A, B, End, Central, Descriptor, Item, Message, place_at, Router, inward_edge, primary_word}
use Rattle.ipcz_world.proofs.Vocabulary.{from_descriptor, bypass_peer, is_possible, output_of, RouterAct, Close, Node, Found, router_in, with_router}
use Rattle.ipcz_world.proofs.Vocabulary.{bare_node, terminal_of, commit, Reply, World, Key, node_at, word_at, router_at, answer_of, Books, Records}
use Rattle.ipcz_world.proofs.Vocabulary.{Inv, leaves_by, Parcel, Plan, Locks, Waits, Refuses, plan_of, source_of, outward_has, accept, accept_message}
use Rattle.ipcz_world.proofs.Vocabulary.{accept_bypass, stop_proxying, proxy_will_stop, stop_message, will_stop_message, is_rest, may_take, apply}
use Rattle.ipcz_world.proofs.Vocabulary.{Answer, Applied, without_router, add_router, add_end, new_end, link_router, on_found, on_router, put_node}
use Rattle.ipcz_world.proofs.Vocabulary.{put_at_router, get_node, get_at_router, close_end, Transfer, move_found, move_ends, moved_ends, send_item}
use Rattle.ipcz_world.proofs.Vocabulary.{send, deliver, handle, fits, tell, take_in, make_terminals, commit_router, keep_or_drop, Step, new_world}
use Rattle.ipcz_world.proofs.Vocabulary.{numbers_from, word_answer, link_answer, StepAny, claim_for_open, FlagsAgree, has_unclaimed_word, flushed}
use Rattle.std.specs.Prelude.{◌≡◌, ℕ, zero, suc, ◌+◌, Bool, true, false, cond, nat_eq, if◌then◌else◌, Option, Some, None, List, []}
use Rattle.std.specs.Prelude.{◌∷◌, ◌++◌, refl}
use Rattle.std.proofs.Common.{arith, sym, ◌∙◌, subst}
use Rattle.std.proofs.lemmas.Bool.Decides.{nat_tests}
use Rattle.std.proofs.lemmas.Option.{same_Some}
use Rattle.std.specs.Ordering.{nat_cmp}
use Rattle.std.specs.Cmp.{nat_cmp_total}
use Rattle.std.specs.FinMap.{get-insert, get-remove, get-empty}
use Rattle.ipcz_base.specs.declared.parcel.Parcel as parcels
use Rattle.ipcz_base.specs.declared.message.Message.TheVariants as messages
use Rattle.ipcz_router.specs.Router.{rouse}
use Rattle.ipcz_router.specs.Closing.{close_router}
use Rattle.ipcz_router.specs.Calls.{take_item, put_item}
use Rattle.ipcz_router.specs.declared.sending.Sending.{Sending}
use Rattle.ipcz_router.specs.declared.act.RouterAct.TheVariants as acts
use Rattle.ipcz_router.specs.declared.act.Answer.TheVariants as answers
use Rattle.ipcz_router.specs.declared.act.Applied.TheVariants as sends
use Rattle.ipcz_node.specs.declared.act.Act.TheVariants.{Router as OfRouter}
use Rattle.ipcz_node.specs.FirstPairs.{add_pairs, first_pairs, new_node}
use Rattle.ipcz_world.specs.World.{new_nodes}
use Rattle.ipcz_world.proofs.frames.Frames.{node-set_node, node-set_word, node-set_claimed, node-set_mail}
use Rattle.ipcz_world.specs.WordAnswers.{try_answer}
use Rattle.ipcz_world.proofs.facts.Finding.{found_tells}
use Rattle.ipcz_world.proofs.runs.NodeSteps.{IsKept, kept-step, kept-claim_for_open}

-- dry, spare, wake owed, marked, tried, holds: no word is left only if there is no spare, a wake is owed and a try was made only when
-- marked, and a holder doesn't try
pub record Agree (d : Bool) (s : Option ℕ) (o m t h : Bool) : Type 0 where
  pub dry : d ≡ true → s ≡ None
  pub wake : o ≡ true → m ≡ true
  pub tried_marked : t ≡ true → m ≡ true
  pub tried_free : t ≡ true → h ≡ false

abbrev pub IsAgreed : Router → Type 0
IsAgreed r = Agree r.dry r.spare r.wake_owed r.marked r.tried r.holds

abbrev AreAgreed : Node → Type 0
AreAgreed n = (s : ℕ) (r : Router) → router_in n s ≡ Some r → IsAgreed r

agreed-with : (n : Node) (s : ℕ) (y : Router) → AreAgreed n → IsAgreed y → AreAgreed (with_router n s y)
agreed-with n s y law is t r at = go (nat_eq t s) refl
  where
    go : (c : Bool) → nat_eq t s ≡ c → IsAgreed r
    go true e = subst IsAgreed (same_Some y r (grind (arith, e, get-insert nat_cmp_total n.routers s y t, at, nat_tests))) is
    go false e = law t r (grind (arith, e, get-insert nat_cmp_total n.routers s y t, at, nat_tests))

agreed-without : (n : Node) (s : ℕ) → AreAgreed n → AreAgreed (without_router n s)
agreed-without n s law t r at = go (nat_eq t s) refl
  where
    go : (c : Bool) → nat_eq t s ≡ c → IsAgreed r
    go true e = absurd (grind (arith, e, get-remove nat_cmp_total n.routers s t, at, nat_tests))
    go false e = law t r (grind (arith, e, get-remove nat_cmp_total n.routers s t, at, nat_tests))

false-true : {X : Type 0} → false ≡ true → X
false-true h = cc

-- if the router needn't wait any longer
agreed-roused : {d : Bool} {s : Option ℕ} {o m t h : Bool} → Agree d s o m t h → Agree d s o m false h
agreed-roused law = record { dry = law.dry; wake = law.wake; tried_marked = false-true; tried_free = false-true }

-- if the outward primary link has changed
agreed-relinked : {d : Bool} {s : Option ℕ} {o m t h : Bool} → Agree d s o m t h → Agree d s false false false false
agreed-relinked law = record { dry = law.dry; wake = false-true; tried_marked = false-true; tried_free = false-true }

-- a new terminal
agreed-new : (m : Bool) → Agree false None false m false false
agreed-new m = record { dry = false-true; wake = false-true; tried_marked = false-true; tried_free = false-true }

-- what an act needs
may-possible : (r : Router) (act : RouterAct) → is_rest act ≡ false → may_take r act ≡ true → is_possible r act ≡ true
unfolding is_rest
may-possible r act n h = grind (arith, n, h)

agreed-mark : (w : World) (r : Router) (o : Option ℕ) → IsAgreed r → IsAgreed
    (apply r acts.Mark (link_answer w r.end.side (source_of r) acts.Mark o))
unfolding link_answer word_answer apply
agreed-mark w r None law = law
agreed-mark w r (Some i) law = record { dry = law.dry; wake = λ h. refl; tried_marked = λ h. refl; tried_free = law.tried_free }

agreed-claim : (w : World) (r : Router) → IsAgreed r → is_possible r acts.Claim ≡ true →
    IsAgreed (apply r acts.Claim (answer_of w r acts.Claim))
unfolding answer_of apply is_possible
agreed-claim w r law possible = go (has_unclaimed_word w)
  where
    go : (c : Bool) → IsAgreed (apply r acts.Claim (if c then answers.Claimed w.claimed else answers.NoWord))
    go true = record {
      dry = λ h. absurd (grind (arith, possible, h));
      wake = law.wake;
      tried_marked = law.tried_marked;
      tried_free =
          law.tried_free;
    }
    go false = record { dry = λ h. none r.spare refl; wake = law.wake; tried_marked = law.tried_marked; tried_free = law.tried_free }
      where
        none : (o : Option ℕ) → r.spare ≡ o → r.spare ≡ None
        none None e = e
        none (Some i) e = absurd (grind (arith, possible, e))

agreed-lock : (w : World) (r : Router) (o : Option ℕ) → IsAgreed r → is_possible r acts.Lock ≡ true →
    IsAgreed (apply r acts.Lock (link_answer w r.end.side (source_of r) acts.Lock o))
unfolding link_answer word_answer try_answer apply is_possible
agreed-lock w r None law possible = law
agreed-lock w r (Some i) law possible = go (plan_of (word_at w i) r.end.side)
  where
    failed : Agree r.dry r.spare r.wake_owed r.marked true r.holds
    failed = record {
      dry = law.dry;
      wake = law.wake;
      tried_marked = λ h. grind (arith, possible);
      tried_free =
          λ h. grind (arith, possible);
    }

    go : (p : Plan) → IsAgreed (apply r acts.Lock (try_answer (word_at w i) r.end.side (source_of r) p))
    go Locks = record {
      dry = law.dry;
      wake = law.wake;
      tried_marked = law.tried_marked;
      tried_free =
          λ h. absurd (grind (arith, possible, h));
    }
    go Waits = failed
    go Refuses = failed

agreed-apply : (w : World) (r : Router) (act : RouterAct) → IsAgreed r → may_take r act ≡ true → IsAgreed (apply r act (answer_of w r act))
unfolding apply answer_of is_rest
agreed-apply w r acts.Mark law may = agreed-mark w r (primary_word r) law
agreed-apply w r acts.Wake law may = record {
  dry = law.dry;
  wake = false-true;
  tried_marked = law.tried_marked;
  tried_free =
      law.tried_free;
}
agreed-apply w r acts.Claim law may = agreed-claim w r law (may-possible r acts.Claim refl may)
agreed-apply w r acts.Lock law may = agreed-lock w r (primary_word r) law (may-possible r acts.Lock refl may)
agreed-apply w r acts.Begin law may = record { dry = λ h. refl; wake = false-true; tried_marked = false-true; tried_free = false-true }
agreed-apply w r acts.Unlock law may = record { dry = law.dry; wake = law.wake; tried_marked = law.tried_marked; tried_free = λ h. refl }
agreed-apply w r other law may = law

agreed-keep : (n : Node) (s : ℕ) (y : Router) (leaves : Bool) → AreAgreed n → IsAgreed y → AreAgreed (keep_or_drop n s y leaves)
unfolding keep_or_drop
agreed-keep n s y true law is = agreed-without n s law
agreed-keep n s y false law is = agreed-with n s y law is

agreed-move : (m : Transfer) (to : ℕ) (e : End) → AreAgreed m.node → AreAgreed (move_found m to (terminal_of m.node e)).node
unfolding move_found
agreed-move m to e law = go (terminal_of m.node e) refl
  where
    go : (o : Option Found) → terminal_of m.node e ≡ o → AreAgreed (move_found m to o).node
    go None h = law
    go (Some f) h = agreed-with m.node f.serial _ law (agreed-roused (law f.serial f.router (found_tells m.node _ f h).0))

agreed-moves : (m : Transfer) (to : ℕ) (es : List End) → AreAgreed m.node → AreAgreed (move_ends m to es).node
agreed-moves m to [] law = law
agreed-moves m to (e ∷ es) law = agreed-moves (move_found m to (terminal_of m.node e)) to es (agreed-move m to e law)

agreed-send : (n : Node) (a : Applied) → AreAgreed n → AreAgreed (send n a)
unfolding send send_item
agreed-send n (sends.Sent link number item) law = agreed-moves (record { node = n; moves = [] }) link.other (moved_ends n link item) law
agreed-send n any law = law

agreed-router : (w : World) (n s : ℕ) (act : RouterAct) (r : Router) → AreAgreed (node_at w n) → router_in (node_at w n) s ≡ Some r →
    may_take r act ≡ true → AreAgreed (commit (node_at w n) (OfRouter s act) (answer_of w r act))
unfolding commit on_router commit_router
agreed-router w n s act r law here may = go (router_in (node_at w n) s) refl
  where
    go : (o : Option Router) → router_in (node_at w n) s ≡ o → AreAgreed
        (on_router (node_at w n) o (commit_router (node_at w n) s act (answer_of w r act)))
    go None e = law
    go (Some q) e = let z : r ≡ q = same_Some r q (sym here ∙ e) in
        agreed-send _ (output_of q act) (agreed-keep (node_at w n) s (apply q act (answer_of w r act)) (leaves_by q act) law
        (subst (λ x. IsAgreed (apply x act (answer_of w r act))) z (agreed-apply w r act (law s r here) may)))

agreed-close_end : (n : Node) (e : End) → AreAgreed n → AreAgreed (close_end n e)
unfolding on_found
agreed-close_end n e law = go (terminal_of n e) refl
  where
    go : (o : Option Found) → terminal_of n e ≡ o → AreAgreed (on_found n o (λ s r. with_router n s (close_router r)))
    go None h = law
    go (Some f) h = agreed-with n f.serial (close_router f.router) law (agreed-roused (law f.serial f.router (found_tells n _ f h).0))

agreed-pending : (n : Node) (e : End) (a : Answer) → AreAgreed n → AreAgreed (commit n (Close e) a)
unfolding commit
agreed-pending n e a law = agreed-close_end _ e law

agreed-put : (n : Node) (e : End) (p : parcels.Parcel) → AreAgreed n → AreAgreed (put_node n e p)
unfolding on_found
agreed-put n e p law = go (terminal_of n e) refl
  where
    go : (o : Option Found) → terminal_of n e ≡ o → AreAgreed (on_found n o (put_at_router n p))
    go None h = law
    go (Some f) h = agreed-with n f.serial (put_item f.router (Parcel p)) law
        (agreed-roused (law f.serial f.router (found_tells n _ f h).0))

agreed-get : (n : Node) (e : End) → AreAgreed n → AreAgreed (get_node n e)
unfolding on_found
agreed-get n e law = go (terminal_of n e) refl
  where
    go : (o : Option Found) → terminal_of n e ≡ o → AreAgreed (on_found n o (get_at_router n))
    go None h = law
    go (Some f) h = agreed-with n f.serial (take_item f.router) law (law f.serial f.router (found_tells n _ f h).0)

agreed-end : (n : Node) (pair : ℕ) (side : Side) (other : ℕ) → AreAgreed n → AreAgreed (add_end n pair side other)
agreed-end n pair side other law = agreed-with n n.next_router (new_end pair side other) law (agreed-new _)

agreed-make : (n : Node) (sender : ℕ) (ds : List Descriptor) → AreAgreed n → AreAgreed (make_terminals n sender ds)
agreed-make n sender [] law = law
agreed-make n sender (d ∷ ds) law = agreed-make (add_router n (from_descriptor d sender)) sender ds
    (agreed-with n n.next_router (from_descriptor d sender) law (agreed-new false))

agreed-accept : (r : Router) (from_outward : Bool) (n : ℕ) (item : Item) → IsAgreed r → IsAgreed (accept r from_outward n item)
unfolding accept
agreed-accept r true n item law = agreed-roused law
agreed-accept r false n item law = agreed-roused law

agreed-tell : (n : Node) (o : Option Sending) → AreAgreed n → AreAgreed (tell n o)
unfolding tell
agreed-tell n None law = law
agreed-tell n (Some s) law = law

agreed-handle : (n : Node) (sender : ℕ) (m : Message) → AreAgreed n → AreAgreed (handle n sender m)
unfolding handle on_found
agreed-handle n sender (messages.Item link side number item moves) law = go (link_router n link side) refl
  where
    go : (o : Option Found) → link_router n link side ≡ o → AreAgreed (on_found n o (take_in n sender link side number item moves))
    go None h = law
    go (Some f) h = agreed-make _ sender moves (agreed-with n f.serial _ law
        (agreed-accept f.router (outward_has f.router link side) number item (law f.serial f.router (found_tells n _ f h).0)))
agreed-handle n sender (messages.BypassPeer link side old target fresh) law = go (link_router n link side) refl
  where
    go : (o : Option Found) → link_router n link side ≡ o → AreAgreed
        (on_found n o (λ s r. tell (with_router n s (bypass_peer r target fresh)) (Some (accept_message r old target fresh))))
    go None h = law
    go (Some f) h = agreed-tell _ (Some (accept_message f.router old target fresh))
        (agreed-with n f.serial (bypass_peer f.router target fresh) law (agreed-relinked (law f.serial f.router (found_tells n _ f h).0)))
agreed-handle n sender (messages.AcceptBypass old side fresh length) law = go (link_router n (Central old) side) refl
  where
    go : (o : Option Found) → link_router n (Central old) side ≡ o →
        AreAgreed (on_found n o (λ s r. tell (with_router n s (accept_bypass r sender side fresh length))
        (stop_message r r.outward.primary old side length)))
    go None h = law
    go (Some f) h = agreed-tell _ (stop_message f.router f.router.outward.primary old side length)
        (agreed-with n f.serial (accept_bypass f.router sender side fresh length) law
        (agreed-relinked (law f.serial f.router (found_tells n _ f h).0)))
agreed-handle n sender (messages.StopProxying side old in_length out_length) law = go (link_router n (Central old) side) refl
  where
    go : (o : Option Found) → link_router n (Central old) side ≡ o →
        AreAgreed (on_found n o (λ s r. tell (with_router n s (stop_proxying r in_length out_length))
        (will_stop_message (inward_edge r).decaying in_length)))
    go None h = law
    go (Some f) h = agreed-tell _ (will_stop_message (inward_edge f.router).decaying in_length)
        (agreed-with n f.serial (stop_proxying f.router in_length out_length) law
        (agreed-roused (law f.serial f.router (found_tells n _ f h).0)))
agreed-handle n sender (messages.ProxyWillStop link side in_length) law = go (link_router n link side) refl
  where
    go : (o : Option Found) → link_router n link side ≡ o → AreAgreed (on_found n o (λ s r. with_router n s (proxy_will_stop r in_length)))
    go None h = law
    go (Some f) h = agreed-with n f.serial (proxy_will_stop f.router in_length) law
        (agreed-roused (law f.serial f.router (found_tells n _ f h).0))
agreed-handle n sender (messages.Flush link side) law = go (link_router n link side) refl
  where
    go : (o : Option Found) → link_router n link side ≡ o → AreAgreed (on_found n o (λ s r. with_router n s (flushed r)))
    go None h = law
    go (Some f) h = agreed-with n f.serial (rouse f.router) law (agreed-roused (law f.serial f.router (found_tells n _ f h).0))

agreed-deliver : (n : Node) (sender : ℕ) (m : Message) (o : Option ℕ) → AreAgreed n → AreAgreed (deliver n sender m o)
unfolding deliver
agreed-deliver n sender m o law = go (fits n sender m o)
  where
    go : (b : Bool) → AreAgreed (if b then handle n sender m else record n { strays = n.strays ++ m ∷ [] })
    go true = agreed-handle n sender m law
    go false = law

-- each router of the world is so
abbrev AllAgreed : World → Type 0
AllAgreed w = (n : ℕ) → AreAgreed (node_at w n)

agreed-kept : IsKept AllAgreed AreAgreed
agreed-kept = record {
  node_of = λ w n is. is n;
  set_node = λ w n x is law j. subst AreAgreed (sym (node-set_node w n x j)) (here w n x is law j (nat_eq j n));
  set_word = λ w i x is j. subst AreAgreed (sym (node-set_word w i x j)) (is j);
  set_claimed = λ w i is j. subst AreAgreed (sym (node-set_claimed w i j)) (is j);
  set_mail = λ w k x is j. subst AreAgreed (sym (node-set_mail w k x j)) (is j);
  look = λ n from law. law;
  post = λ n to ms law. law;
  claim = λ n i law. law;
  put = agreed-put;
  get = λ n e law h. agreed-get n e law;
  close = λ n e law. agreed-close_end _ e law;
  open_pair = λ n i law. agreed-end (add_end n i A n.number) i B n.number (agreed-end n i A n.number law);
  pending = agreed-pending;
  router = λ w b g n s act r law ln is at may. agreed-router w n s act r (is n) at may;
  deliver = λ n from m o law h. agreed-deliver n from m o law;
}
  where
    here : (w : World) (n : ℕ) (x : Node) → AllAgreed w → AreAgreed x → (j : ℕ) (c : Bool) → AreAgreed (cond c x (node_at w j))
    here w n x is law j true = law
    here w n x is law j false = is j

to-agreed : (w : World) → FlagsAgree w → AllAgreed w
unfolding router_at
to-agreed w law n s r at = let k : Key = record { node = n; serial = s } in
    record { dry = law.dry k r at; wake = law.wake k r at; tried_marked = law.tried_marked k r at; tried_free = law.tried_free k r at }

from-agreed : (w : World) → AllAgreed w → FlagsAgree w
unfolding router_at
from-agreed w law = record {
  dry = λ k r at. (law k.node k.serial r at).dry;
  wake = λ k r at. (law k.node k.serial r at).wake;
  tried_marked = λ k r at. (law k.node k.serial r at).tried_marked;
  tried_free = λ k r at. (law k.node k.serial r at).tried_free;
}

pub agreed-step : (w v : World) (b : Books) (g : Records) (step : Step) (reply : Reply) → Inv w b g → FlagsAgree w →
    StepAny w step reply v → FlagsAgree v
agreed-step w v b g step reply law is h = from-agreed v (kept-step AllAgreed AreAgreed agreed-kept w v b g step reply law (to-agreed w is)
    h)

-- the first half of an open
pub agreed-claim_for_open : (w : World) (n : ℕ) → FlagsAgree w → FlagsAgree (claim_for_open w n)
agreed-claim_for_open w n is = from-agreed (claim_for_open w n) (kept-claim_for_open AllAgreed AreAgreed agreed-kept w n (to-agreed w is))

-- the world at the start
agreed-bare : (i nodes : ℕ) → AreAgreed (bare_node i nodes)
agreed-bare i nodes s r at = absurd (grind (arith, get-empty {X = Router} nat_cmp s, at))

agreed-pairs : (n : Node) (pair : ℕ) (ps : List (ℕ × ℕ)) → AreAgreed n → AreAgreed (add_pairs n pair ps)
agreed-pairs n pair [] law = law
agreed-pairs n pair (p ∷ ps) law = agreed-pairs (if nat_eq p.0 n.number then add_end n pair A p.1 else if nat_eq p.1 n.number then add_end n
    pair B p.0 else n) (pair + 1) ps (go (nat_eq p.0 n.number) (nat_eq p.1 n.number))
  where
    go : (a b : Bool) → AreAgreed (if a then add_end n pair A p.1 else if b then add_end n pair B p.0 else n)
    go true b = agreed-end n pair A p.1 law
    go false true = agreed-end n pair B p.0 law
    go false false = law

agreed-places : (nodes n : ℕ) (is : List ℕ) → AreAgreed (place_at (bare_node 0 0) (new_nodes nodes is) n)
unfolding place_at new_node
agreed-places nodes n [] = agreed-bare 0 0
agreed-places nodes zero (i ∷ is) = agreed-pairs (bare_node i nodes) 0 (first_pairs nodes) (agreed-bare i nodes)
agreed-places nodes (suc n) (i ∷ is) = agreed-places nodes n is

pub agreed-start : (nodes words : ℕ) → FlagsAgree (new_world nodes words)
unfolding node_at new_world
agreed-start nodes words = from-agreed (new_world nodes words) (λ n. agreed-places nodes n (numbers_from 0 nodes))

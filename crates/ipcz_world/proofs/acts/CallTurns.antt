-- What callers leave to be done, a close that is pending and a sink's discard, and the first half of an open: each keeps the invariant,
-- with the books, the records and the routes that the run writes.
use Rattle.ipcz_world.proofs.Vocabulary.{End, Router, is_possible, Close, router_in, World, node_at, router_at, after_act, can_take, Books, Records}
use Rattle.ipcz_world.proofs.Vocabulary.{Owner, Spare, Opening, Fresh, Linked, is_linked, is_unclaimed, Inv, has_gone_next, is_lost_owner, Lost}
use Rattle.ipcz_world.proofs.Vocabulary.{Happened, event_of, Turn, router_of, router_seen, turn_event, claim_for_open, after_turn, advance}
use Rattle.ipcz_world.proofs.Vocabulary.{routes_after_turn, routes_after, Unclaimed, routes_of}
use Rattle.ipcz_world.proofs.facts.Lost.{not_lost}
use Rattle.std.specs.Prelude.{◌≡◌, ◌<◌, ℕ, Bool, true, false, cond, nat_eq, Some, None, refl}
use Rattle.std.proofs.Common.{arith, ap, subst, ◌∙◌, sym}
use Rattle.std.proofs.lemmas.Bool.Decides.{nat_tests}
use Rattle.ipcz_router.specs.declared.act.RouterAct.TheVariants.{Discard}
use Rattle.ipcz_node.specs.declared.act.Act.TheVariants.{Router as OfRouter}
use Rattle.ipcz_node.specs.declared.happened.Happened.TheVariants as events
use Rattle.ipcz_node.specs.Events.{router_event, event_at}
use Rattle.ipcz_world.specs.declared.step.Reply.TheVariants.{Turned}
use Rattle.ipcz_world.proofs.facts.RecordsAfter.{opening_records, records_after_turn, records_after}
use Rattle.ipcz_world.proofs.acts.Puts.{inv-pending}
use Rattle.ipcz_world.proofs.acts.Gets.{inv-discard}
use Rattle.ipcz_world.proofs.acts.OpenedNodes.{inv-claim_for_open}
use Rattle.ipcz_world.proofs.acts.CallSteps.{Follows}

-- a close that is pending
pub turn-pending : (w : World) (b : Books) (g : Records) (n : ℕ) (e : End) → Inv w b g → can_take w n (Close e) ≡ true →
    Follows w (after_act w n (Close e)) b g (Turn n) (Turned (turn_event w n (Close e)))
unfolding turn_event event_of advance after_turn records_after records_after_turn routes_after routes_after_turn
turn-pending w b g n e law can = record { inv = inv-pending w b g n e law can; routes = refl }

discard_seen : (w : World) (n s : ℕ) (r : Router) → router_of w n s ≡ Some r →
    has_gone_next r ≡ false → turn_event w n (OfRouter s Discard) ≡ events.Discard s r.in_queue.current
unfolding turn_event router_seen event_of event_at router_event router_at
discard_seen w n s r here other = let inside : router_in (node_at w n) s ≡ Some r = here in rw (here, inside, other) refl

discard_done : (w v : World) (b : Books) (g : Records) (n s number : ℕ) → Inv v (after_turn w b n (events.Discard s number)) g →
    Follows w v b g (Turn n) (Turned (events.Discard s number))
unfolding advance records_after records_after_turn routes_after routes_after_turn
discard_done w v b g n s number inv = record { inv = inv; routes = refl }

-- a sink's discard
pub turn-discard : (w : World) (b : Books) (g : Records) (n s : ℕ) (r : Router) → Inv w b g → router_of w n s ≡ Some r →
    is_possible r Discard ≡ true → has_gone_next r ≡ false →
    Follows w (after_act w n (OfRouter s Discard)) b g (Turn n) (Turned (turn_event w n (OfRouter s Discard)))
unfolding after_turn
turn-discard w b g n s r law here can other =
    subst (λ (e : Happened). Follows w (after_act w n (OfRouter s Discard)) b g (Turn n) (Turned e)) (sym (discard_seen w n s r here other))
    (discard_done w (after_act w n (OfRouter s Discard)) b g n s r.in_queue.current (inv-discard w b g n s r law here can other))

-- the next word is no link's
pub not_linked : (o : Owner) → is_unclaimed o ≡ true → is_linked o ≡ false
unfolding is_unclaimed is_linked
not_linked Unclaimed h = refl
not_linked (Spare k) h = cc
not_linked (Opening n) h = cc
not_linked (Fresh o) h = cc
not_linked Lost h = cc
not_linked Linked h = cc

-- the first half of an open leaves the routes
pub routes_claimed : (w : World) (b : Books) (g : Records) (n : ℕ) → Inv w b g → routes_of (opening_records g n w.claimed) ≡ routes_of g
unfolding is_linked is_lost_owner
routes_claimed w b g n law = λ t. record {
  is_link = λ j. link j (nat_eq j w.claimed) refl t;
  pair = λ j. (g.central j).pair;
  end =
      λ k. (g.peripheral k).end;
  lost = λ j. lost j (nat_eq j w.claimed) refl t;
}
  where
    unlost : is_lost_owner (g.owner w.claimed) ≡ false
    unlost = not_lost (g.owner w.claimed) (law.counts.unclaimed w.claimed ∙ grind (arith, nat_tests))

    lost : (j : ℕ) (c : Bool) → nat_eq j w.claimed ≡ c → is_lost_owner (cond (nat_eq j w.claimed) (Opening n) (g.owner j)) ≡
        is_lost_owner (g.owner j)
    lost j true e = rw e (sym (ap (λ i. is_lost_owner (g.owner i)) (let s : j ≡ w.claimed = grind (arith, e, nat_tests) in s) ∙ unlost))
    lost j false e = rw e refl

    free : is_linked (g.owner w.claimed) ≡ false
    free = not_linked (g.owner w.claimed) (law.counts.unclaimed w.claimed ∙ grind (arith, nat_tests))

    link : (j : ℕ) (c : Bool) → nat_eq j w.claimed ≡ c → is_linked (cond (nat_eq j w.claimed) (Opening n) (g.owner j)) ≡ is_linked
        (g.owner j)
    link j true e = rw e (sym (ap (λ i. is_linked (g.owner i)) (let s : j ≡ w.claimed = grind (arith, e, nat_tests) in s) ∙ free))
    link j false e = rw e refl

pub claim-kept : (w : World) (b : Books) (g : Records) (n : ℕ) → Inv w b g → w.claimed < w.size → (node_at w n).opening ≡ None →
    Inv (claim_for_open w n) b (opening_records g n w.claimed) × (routes_of (opening_records g n w.claimed) ≡ routes_of g)
claim-kept w b g n law room none = (inv-claim_for_open w b g n law room none, routes_claimed w b g n law)

-- A router gives a decaying link up: the invariant is kept, for all that was to come over the link has come.
use Rattle.ipcz_world.proofs.frames.RolesTell.{links-in, positions-in}
use Rattle.std.proofs.lemmas.Bool.{or_left}
use Rattle.ipcz_world.proofs.frames.GivingUp.{stays_bare}
use Rattle.ipcz_world.proofs.Vocabulary.{in_router, at_end, Side, A, B, End, LinkId, Central, Peripheral, LinkEnd, Descriptor, Item, opposite}
use Rattle.ipcz_world.proofs.Vocabulary.{opposite_end, has_link, item_at, Edge, Router, is_terminal, inward_edge, is_possible, World, Key, router_at}
use Rattle.ipcz_world.proofs.Vocabulary.{Books, read, Records, inner_link, is_begun, is_recorded, proxy_side, across_side, side_end, side_length}
use Rattle.ipcz_world.proofs.Vocabulary.{Standing, view, is_attached, passes, has_decaying, fed_queue, sending_queue, next_sent, taking_queue}
use Rattle.ipcz_world.proofs.Vocabulary.{is_outward, IsRecorded, inner_of, has_passed, Inv, reach, edge_has, is_proxy, IsItemUnderWay}
use Rattle.ipcz_world.specs.Places.{in_message as in_message'}
use Rattle.ipcz_world.specs.Routes.{source as source'}
use Rattle.std.specs.Prelude.{◌≡◌, ◌⊎◌, ◌≤◌, ◌<◌, ℕ, Bool, true, false, nat_le, Option, Some, None, is_some, List, drop, refl}
use Rattle.std.proofs.Common.{arith, sym, ◌∙◌, ap, subst, inl, inr}
use Rattle.std.proofs.lemmas.Bool.Decides.{nat_tests}
use Rattle.std.proofs.lemmas.Option.{same_Some, none-some}
use Rattle.ipcz_base.specs.declared.message.Message.TheVariants as messages
use Rattle.ipcz_edge.specs.Edge.{can_finish, has_come_to, finish}
use Rattle.ipcz_router.specs.ActEffects.{finish_out, finish_in}
use Rattle.ipcz_router.specs.declared.act.RouterAct.TheVariants as acts
use Rattle.ipcz_world.proofs.frames.RecordRules.{bypass_of-inner}
use Rattle.ipcz_world.proofs.frames.OfRecords.{source, in_message}
use Rattle.ipcz_world.proofs.frames.StandingRules.{standing_rules}
use Rattle.ipcz_world.proofs.facts.Updates.{CanAct, finish_out_act, finish_in_act}
use Rattle.ipcz_world.proofs.frames.Sums.{just, just_once}
use Rattle.ipcz_world.proofs.facts.Queues.{reach_filled}
use Rattle.ipcz_world.proofs.frames.Weights.{in_two_places, in_out_queue, in_in_queue}
use Rattle.ipcz_world.proofs.frames.OneRouter.{set-router, words-set_router}
use Rattle.ipcz_world.proofs.facts.LinkTests.{IsKnown, known_from-tells, side_is, same_end-itself}
use Rattle.ipcz_world.proofs.frames.BegunLengths.{begun-since, length-proxy, length-across, length-inward, length-inner}
use Rattle.ipcz_world.proofs.frames.Views.{IsPart}
use Rattle.ipcz_world.proofs.frames.Bypassed.{Names, IsBypassed, proxy-begun, proxy-outward, proxy-inward, proxy-seen, proxy-seen_inward}
use Rattle.ipcz_world.proofs.frames.Bypassed.{proxy-late, proxy-late_inward}
use Rattle.ipcz_world.proofs.frames.GivenUp.{stays, keeps_all, Settled, inv-gives}
use Rattle.ipcz_world.proofs.frames.Draining.{next_sent-standing, taking_queue-standing}
use Rattle.ipcz_world.proofs.facts.Lengths.{opposite-twice, HasEnd, has_link-tells}

-- an edge's decaying link is done with
pub record IsDone (e : Edge) (sent received : ℕ) : Type 0 where
  pub end : LinkEnd
  pub decaying : e.decaying ≡ Some end
  pub to : ℕ
  pub length_to : e.length_to ≡ Some to
  pub all_sent : to ≤ sent
  pub from : ℕ
  pub length_from : e.length_from ≡ Some from
  pub all_come : from ≤ received

done-tells : (e : Edge) (sent received : ℕ) → can_finish e sent received ≡ true → IsDone e sent received
unfolding can_finish has_come_to
done-tells e sent received h = go e.decaying e.length_to e.length_from refl refl refl
  where
    go : (d : Option LinkEnd) (t f : Option ℕ) → e.decaying ≡ d → e.length_to ≡ t → e.length_from ≡ f → IsDone e sent received
    go None t f p q s = absurd (grind (arith, h, p))
    go (Some d) None f p q s = absurd (grind (arith, h, p, q))
    go (Some d) (Some t) None p q s = absurd (grind (arith, h, p, q, s))
    go (Some d) (Some t) (Some f) p q s = record {
      end = d;
      decaying = p;
      to = t;
      length_to = q;
      all_sent = grind (arith, h, p, q, s, nat_tests);
      from = f;
      length_from = s;
      all_come = grind (arith, h, p, q, s, nat_tests);
    }

out-tells : (r : Router) → is_possible r acts.FinishOut ≡ true → IsDone r.outward r.out_queue.current (reach r.in_queue)
unfolding is_possible
out-tells r h = done-tells r.outward r.out_queue.current (reach r.in_queue) h

in-tells : (r : Router) → is_possible r acts.FinishIn ≡ true → IsDone (inward_edge r) r.in_queue.current (reach r.out_queue)
unfolding is_possible
in-tells r h = done-tells (inward_edge r) r.in_queue.current (reach r.out_queue) h

-- a link's side has got all that comes over the link
pub record HasCome (w : World) (g : Records) (r : Router) (l : LinkId) (s : Side) : Type 0 where
  pub from : ℕ
  pub length : side_length g l (opposite s) ≡ Some from
  pub all_come : from ≤ reach (fed_queue l s r)
  pub known : is_some (side_length g l s) ≡ true
  pub recorded : is_recorded w g l ≡ true
  pub end : r.end ≡ side_end g l s

weighs : (d e : End) (n : ℕ) (item : Item) → d ≡ e → at_end e (just n) d n item ≡ 1
weighs d e n item h = grind (arith, h, same_end-itself e, nat_tests)

-- the weight of an item in the queue that a link feeds
fed_weighs : (g : Records) (r : Router) (l : LinkId) (s : Side) (n : ℕ) (item : Item) → r.end ≡ side_end g l s →
    item_at (fed_queue l s r) n ≡ Some item → 1 ≤ in_router (at_end (source g l s) (just n)) r
unfolding side_end source' fed_queue
fed_weighs g r (Central i) s n item e h =
    let f : opposite_end r.end ≡ source g (Central i) s = ap opposite_end e in
    omega (
      arith,
      in_in_queue (at_end (source g (Central i) s) (just n)) r n item h,
      weighs (opposite_end r.end) (source g (Central i) s) n item f,
    )
fed_weighs g r (Peripheral m x) A n item e h =
    omega (
      arith,
      in_out_queue (at_end (source g (Peripheral m x) A) (just n)) r n item h,
      weighs r.end (source g (Peripheral m x) A) n item e,
    )
fed_weighs g r (Peripheral m x) B n item e h =
    let f : opposite_end r.end ≡ source g (Peripheral m x) B = ap opposite_end e in
    omega (
      arith,
      in_in_queue (at_end (source g (Peripheral m x) B) (just n)) r n item h,
      weighs (opposite_end r.end) (source g (Peripheral m x) B) n item f,
    )

message_weighs : (g : Records) (l : LinkId) (s : Side) (n : ℕ) (item : Item) (moves : List Descriptor) →
    in_message (at_end (source g l s) (just n)) g (messages.Item l s n item moves) ≡ 1
unfolding in_message'
message_weighs g l s n item moves = weighs (source g l s) (source g l s) n item refl

-- nothing is under way toward a side that has got all
nothing-comes : (w : World) (b : Books) (g : Records) (k : Key) (r : Router) (l : LinkId) (s : Side) (from to i n : ℕ) (item : Item)
    (moves : List Descriptor) → Inv w b g → router_at w k ≡ Some r → view w g l s ≡ Standing r → HasCome w g r l s →
    IsItemUnderWay w from to i l s n item moves → ⊥
nothing-comes w b g k r l s from to i n item moves law here seen come u = go (item_at (fed_queue l s r) n) refl
  where
    passed : (fed_queue l s r).current ≤ n
    passed = law.items.not_passed from to i l s n item moves (fed_queue l s r) u (ap (taking_queue l s) seen ∙ taking_queue-standing l s r)

    below : n < come.from
    below = law.items.below_length from to i l s n item moves come.from u come.length

    go : (o : Option Item) → item_at (fed_queue l s r) n ≡ o → ⊥
    go None e = grind (arith, reach_filled (fed_queue l s r) n passed (omega (arith, below, come.all_come)), e)
    go (Some x) e = omega (
      arith,
      fed_weighs g r l s n x come.end e,
      message_weighs g l s n item moves,
      in_two_places (at_end (source g l s) (just n)) g w k r from to i (messages.Item l s n item moves) (law.counts.on_node k r here) here
          u,
      law.conserved.exact (source g l s) (just n),
      just_once n (read b (opposite_end (source g l s))) (drop (read b (opposite_end (source g l s))) (b.put (source g l s))),
    )

-- who sends to a side that has got all has sent all
all-sent : (w : World) (b : Books) (g : Records) (r : Router) (l : LinkId) (s : Side) (u : ℕ) → Inv w b g → view w g l s ≡ Standing r →
    (come : HasCome w g r l s) → next_sent l (opposite s) (view w g l (opposite s)) ≡ Some u → come.from ≤ u
unfolding has_passed
all-sent w b g r l s u law seen come sends = go (nat_le come.from u) refl
  where
    takes : taking_queue l s (view w g l s) ≡ Some (fed_queue l s r)
    takes = ap (taking_queue l s) seen ∙ taking_queue-standing l s r

    short : nat_le come.from u ≡ false → has_passed (side_length g l (opposite s)) u ≡ false
    short e = ap (λ z. has_passed z u) come.length ∙ e

    stored : nat_le come.from u ≡ false → (o : Option Item) → item_at (fed_queue l s r) u ≡ o → ⊥
    stored e None h = grind (
      arith,
      reach_filled (fed_queue l s r) u
          (law.order.current l s u (fed_queue l s r) come.recorded sends takes (short e)) (grind (arith, e, come.all_come, nat_tests)),
      h,
    )
    stored e (Some x) h = omega (arith, law.order.stored l s u (fed_queue l s r) u x come.recorded sends takes h (short e))

    go : (c : Bool) → nat_le come.from u ≡ c → come.from ≤ u
    go true e = grind (arith, e, nat_tests)
    go false e = absurd (stored e (item_at (fed_queue l s r) u) refl)

-- outward: as the proxy, as the router across, or as the router inward
pub come-out : (w : World) (b : Books) (g : Records) (k : Key) (r : Router) (l : LinkId) (s : Side) → Inv w b g → router_at w k ≡ Some r →
    (done : IsDone r.outward r.out_queue.current (reach r.in_queue)) → Names done.end l s → HasCome w g r l s
unfolding fed_queue is_outward
come-out w b g k r (Central j) s law here done is = go (side_is s (proxy_side g j))
  where
    recorded : IsRecorded w g k r done.end
    recorded = ((links-in law) k r here).decaying done.end done.decaying

    go : (s ≡ proxy_side g j) ⊎ (s ≡ across_side g j) → HasCome w g r (Central j) s
    go (inl e) =
        let own : IsKnown 4 (g.bypass j).stage (g.bypass j).accepted_at done.from =
        known_from-tells 4 _ _ _ (sym (((positions-in law).each k r here).own_from done.end j done.decaying is.link (is.side ∙ e)) ∙
        done.length_from) in
        record {
          from = done.from;
          length = ap (λ t. side_length g (Central j) (opposite t)) e ∙ length-across g j (omega (arith, own.since)) ∙ ap Some (sym own.is);
          all_come = done.all_come;
          known = ap (λ t. is_some (side_length g (Central j) t)) e ∙ ap is_some (length-proxy g j (omega (arith, own.since)));
          recorded = sym (ap (is_recorded w g) is.link) ∙ recorded.recorded;
          end = recorded.end ∙ ap (λ t. side_end g t done.end.side) is.link ∙ ap (side_end g (Central j)) is.side;
        }
    go (inr e) =
        let stage : 3 ≤ (g.bypass j).stage = ((positions-in law).each k r here).across_stage done.end j done.decaying is.link (is.side ∙ e) in
        let own : done.from ≡ (g.bypass j).taken_at = same_Some _ _
        (sym done.length_from ∙ ((positions-in law).each k r here).across_from done.end j done.decaying is.link (is.side ∙ e)) in
        record {
          from = done.from;
          length = ap (λ t. side_length g (Central j) (opposite t)) e ∙ ap (side_length g (Central j)) (opposite-twice (proxy_side g j))
              ∙ length-proxy g j stage ∙ ap Some (sym own);
          all_come = done.all_come;
          known = ap (λ t. is_some (side_length g (Central j) t)) e ∙ ap is_some (length-across g j stage);
          recorded = sym (ap (is_recorded w g) is.link) ∙ recorded.recorded;
          end = recorded.end ∙ ap (λ t. side_end g t done.end.side) is.link ∙ ap (side_end g (Central j)) is.side;
        }
come-out w b g k r (Peripheral n x) A law here done is = absurd (grind
    (arith, ((links-in law) k r here).decaying_outward done.end done.decaying, is.link, is.side))
come-out w b g k r (Peripheral n x) B law here done is = go (g.peripheral p).by refl
  where
    p : Key
    p = record { node = n; serial = x }

    recorded : IsRecorded w g k r done.end
    recorded = ((links-in law) k r here).decaying done.end done.decaying

    go : (o : Option ℕ) → (g.peripheral p).by ≡ o → HasCome w g r (inner_link p) B
    go None e = absurd (grind (arith, bypass_of-inner g p, is.link, ((positions-in law).each k r here).decaying done.end done.decaying, e))
    go (Some o) e =
        let own : IsKnown 5 (g.bypass o).stage (g.bypass o).accepted_at done.from =
        known_from-tells 5 _ _ _ (sym (((positions-in law).each k r here).inner_from done.end p o done.decaying is.link e) ∙ done.length_from) in
        record {
          from = done.from;
          length = length-inward g p o e (omega (arith, own.since)) ∙ ap Some (sym own.is);
          all_come = done.all_come;
          known = ap is_some (length-inner g p o e (omega (arith, own.since)));
          recorded = sym (ap (is_recorded w g) is.link) ∙ recorded.recorded;
          end = recorded.end ∙ ap (λ t. side_end g t done.end.side) is.link ∙ ap (side_end g (inner_link p)) is.side;
        }

-- a proxy that gives its inward link up is told
pub record IsToldAt (w : World) (g : Records) (k : Key) (r : Router) : Type 0 where
  pub bypass : ℕ
  pub is : IsBypassed w g bypass k r

in-told : (w : World) (b : Books) (g : Records) (k : Key) (r : Router) → Inv w b g → router_at w k ≡ Some r → (e : LinkEnd) →
    (inward_edge r).decaying ≡ Some e → IsToldAt w g k r
unfolding is_outward
in-told w b g k r law here e h = begun (g.begun k) e.link refl refl
  where
    begun : (o : Option ℕ) (l : LinkId) → g.begun k ≡ o → e.link ≡ l → IsToldAt w g k r
    begun (Some o) l a q = record {
      bypass = o;
      is = record {
        begun = law.begun.begun_stage k o a;
        proxy =
            law.begun.begun_proxy k o a;
        here = here;
      };
    }
    begun None l a q = absurd (grind (
      arith,
      ((positions-in law).each k r here).inward_decaying e h,
      ((positions-in law).each k r here).begun,
      (law.shape k r here).role,
      a,
      h,
    ))

pub come-in : (w : World) (b : Books) (g : Records) (k : Key) (r : Router) (l : LinkId) (s : Side) → Inv w b g → router_at w k ≡ Some r →
    (done : IsDone (inward_edge r) r.in_queue.current (reach r.out_queue)) → Names done.end l s → HasCome w g r l s
unfolding fed_queue
come-in w b g k r l s law here done is = subst (λ t. HasCome w g r t s) (sym inner.link ∙ is.link)
    (subst (λ t. HasCome w g r (inner_of g o) t) (sym inner.side ∙ is.side) come)
  where
    told : IsToldAt w g k r
    told = in-told w b g k r law here done.end done.decaying

    o : ℕ
    o = told.bypass

    inner : Names done.end (inner_of g o) A
    inner = proxy-inward law told.is done.end done.decaying

    recorded : IsRecorded w g k r done.end
    recorded = ((links-in law) k r here).inward_decaying done.end done.decaying

    own : IsKnown 4 (g.bypass o).stage (g.bypass o).taken_at done.from
    own = known_from-tells 4 _ _ _ (sym (((positions-in law).each k r here).inward_from done.end o done.decaying (proxy-begun law told.is)) ∙
        done.length_from)

    by : (g.peripheral (g.bypass o).inner).by ≡ Some o
    by = (law.bypasses o).inner_by told.is.begun

    come : HasCome w g r (inner_of g o) A
    come = record {
      from = done.from;
      length = length-inner g (g.bypass o).inner o by (omega (arith, own.since)) ∙ ap Some (sym own.is);
      all_come = done.all_come;
      known = ap is_some (length-inward g (g.bypass o).inner o by (omega (arith, own.since)));
      recorded = sym (ap (is_recorded w g) inner.link) ∙ recorded.recorded;
      end = recorded.end ∙ ap (λ t. side_end g t done.end.side) inner.link ∙ ap (side_end g (inner_of g o)) inner.side;
    }

-- what an edge has no more once it has given its decaying link up is that link
edge-gave : (l : LinkId) (s : Side) (e : Edge) (d : LinkEnd) → e.decaying ≡ Some d → edge_has e l s ≡ true →
    edge_has (finish e) l s ≡ false → Names d l s
edge-gave l s e d is had hasnt = go (has_link e.decaying l s) refl
  where
    go : (c : Bool) → has_link e.decaying l s ≡ c → Names d l s
    go true h = let t : HasEnd e.decaying l s = has_link-tells e.decaying l s h in let same : d ≡ t.end =
        same_Some d t.end (sym is ∙ t.there) in
        record { link = ap (λ x. x.link) same ∙ t.on_link; side = ap (λ x. x.side) same ∙ t.at_side }
    go false h = absurd (grind (arith, had, hasnt, h))

inward-finish : (r : Router) → inward_edge (finish_in r) ≡ finish (inward_edge r)
inward-finish r = go r.inward refl
  where
    go : (e : Option Edge) → r.inward ≡ e → inward_edge (finish_in r) ≡ finish (inward_edge r)
    go None q = grind (arith, q)
    go (Some e) q = grind (arith, q)

out-gave : (l : LinkId) (s : Side) (r : Router) (d : LinkEnd) → r.outward.decaying ≡ Some d → is_attached l s r ≡ true →
    passes (Some (finish_out r)) (is_attached l s) ≡ false → Names d l s
unfolding is_attached passes
out-gave (Central i) s r d is had hasnt = edge-gave (Central i) s r.outward d is had hasnt
out-gave (Peripheral n x) A r d is had hasnt = absurd (grind (arith, had, hasnt))
out-gave (Peripheral n x) B r d is had hasnt = edge-gave (Peripheral n x) B r.outward d is had hasnt

in-gave : (l : LinkId) (s : Side) (r : Router) (d : LinkEnd) → (inward_edge r).decaying ≡ Some d → is_attached l s r ≡ true →
    passes (Some (finish_in r)) (is_attached l s) ≡ false → Names d l s
unfolding is_attached passes
in-gave (Central i) s r d is had hasnt = absurd (grind (arith, had, hasnt))
in-gave (Peripheral n x) A r d is had hasnt = edge-gave (Peripheral n x) A (inward_edge r) d is had
    (sym (ap (λ e. edge_has e (Peripheral n x) A) (inward-finish r)) ∙ hasnt)
in-gave (Peripheral n x) B r d is had hasnt = absurd (grind (arith, had, hasnt))

-- what a router across or inward has got, its bypassed proxy has sent
across-sent : (w : World) (b : Books) (g : Records) (r : Router) (o : ℕ) (q : Router) → Inv w b g →
    view w g (Central o) (across_side g o) ≡ Standing r → HasCome w g r (Central o) (across_side g o) →
    router_at w (g.bypass o).proxy ≡ Some q → 3 ≤ (g.bypass o).stage → (g.bypass o).taken_at ≤ q.out_queue.current
unfolding sending_queue
across-sent w b g r o q law stands come at stage = go q.outward.decaying refl
  where
    is : IsBypassed w g o (g.bypass o).proxy q
    is = record { begun = begun-since g o 3 (omega arith) stage; proxy = refl; here = at }

    length : side_length g (Central o) (opposite (across_side g o)) ≡ Some (g.bypass o).taken_at
    length = ap (side_length g (Central o)) (opposite-twice (proxy_side g o)) ∙ length-proxy g o stage

    go : (d : Option LinkEnd) → q.outward.decaying ≡ d → (g.bypass o).taken_at ≤ q.out_queue.current
    go None e = law.proxy_numbers.out_finished o q at (proxy-late law is e) e
    go (Some d) e =
        let sends : next_sent (Central o) (opposite (across_side g o)) (view w g (Central o) (opposite (across_side g o))) ≡ Some
        q.out_queue.current
        = ap (λ t. next_sent (Central o) t (view w g (Central o) t)) (opposite-twice (proxy_side g o)) ∙ ap
        (next_sent (Central o) (proxy_side g o)) (proxy-seen law is d e) ∙ next_sent-standing (Central o) (proxy_side g o) q in
        let same : come.from ≡ (g.bypass o).taken_at = same_Some _ _ (sym come.length ∙ length) in
        omega (arith, all-sent w b g r (Central o) (across_side g o) q.out_queue.current law stands come sends, same)

inner-sent : (w : World) (b : Books) (g : Records) (r : Router) (o : ℕ) (q : Router) → Inv w b g → view w g (inner_of g o) B ≡ Standing r →
    HasCome w g r (inner_of g o) B →
    router_at w (g.bypass o).proxy ≡ Some q → 3 ≤ (g.bypass o).stage → (g.bypass o).accepted_at ≤ q.in_queue.current
unfolding sending_queue
inner-sent w b g r o q law stands come at stage = go (inward_edge q).decaying refl
  where
    is : IsBypassed w g o (g.bypass o).proxy q
    is = record { begun = begun-since g o 3 (omega arith) stage; proxy = refl; here = at }

    length : side_length g (inner_of g o) A ≡ Some (g.bypass o).accepted_at
    length = length-inward g (g.bypass o).inner o ((law.bypasses o).inner_by is.begun) stage

    go : (d : Option LinkEnd) → (inward_edge q).decaying ≡ d → (g.bypass o).accepted_at ≤ q.in_queue.current
    go None e = law.proxy_numbers.in_finished o q at (proxy-late_inward law is e) e
    go (Some d) e =
        let sends : next_sent (inner_of g o) A (view w g (inner_of g o) A) ≡ Some q.in_queue.current =
        ap (next_sent (inner_of g o) A) (proxy-seen_inward law is d e) ∙ next_sent-standing (inner_of g o) A q in
        let same : come.from ≡ (g.bypass o).accepted_at = same_Some _ _ (sym come.length ∙ length) in
        omega (arith, all-sent w b g r (inner_of g o) B q.in_queue.current law stands come sends, same)

out-part : (r : Router) → IsPart r (finish_out r)
out-part r = record {
  end = refl;
  out_queue = refl;
  in_queue = refl;
  proxy = refl;
  terminal = refl;
  closed = refl;
  mark_seen = refl;
  mark_dropped = refl;
  gone_sent = refl;
  primary = refl;
  inward_primary = refl;
  decaying = λ e h. absurd (grind (arith, h));
  length_to = λ e h. absurd (grind (arith, h));
  length_from = λ e h. absurd (grind (arith, h));
  inward_decaying = λ e h. h;
  inward_to = λ e h. refl;
  inward_from = λ e h. refl;
}

in-part : (r : Router) → IsPart r (finish_in r)
in-part r = record {
  end = refl;
  out_queue = refl;
  in_queue = refl;
  proxy = proxy r.inward refl;
  terminal = terminal r.inward refl;
  closed = refl;
  mark_seen = refl;
  mark_dropped = refl;
  gone_sent = refl;
  primary = refl;
  inward_primary = ap (λ e. e.primary) (inward-finish r);
  decaying = λ e h. h;
  length_to = λ e h. refl;
  length_from = λ e h. refl;
  inward_decaying = λ e h. absurd (none-some e (sym (ap (λ x. x.decaying) (inward-finish r)) ∙ h));
  inward_to = λ e h. absurd (none-some e (sym (ap (λ x. x.decaying) (inward-finish r)) ∙ h));
  inward_from = λ e h. absurd (none-some e (sym (ap (λ x. x.decaying) (inward-finish r)) ∙ h));
}
  where
    proxy : (e : Option Edge) → r.inward ≡ e → is_proxy (finish_in r) ≡ is_proxy r
    proxy None q = grind (arith, q)
    proxy (Some e) q = grind (arith, q)

    terminal : (e : Option Edge) → r.inward ≡ e → is_terminal (finish_in r) ≡ is_terminal r
    terminal None q = grind (arith, q)
    terminal (Some e) q = grind (arith, q)

pub inv-finish_out : (w : World) (b : Books) (g : Records) (k : Key) (r : Router) → Inv w b g → CanAct w k r acts.FinishOut →
    Inv (finish_out_act w k r) b g
inv-finish_out w b g k r law can = inv-gives w (finish_out_act w k r) b g k r (Some (finish_out r))
    (stays w (finish_out_act w k r) k r (finish_out r) (set-router w k (finish_out r)) can.here (out-part r))
    (stays_bare r (finish_out r)) (keeps_all w (finish_out_act w k r) r (finish_out r) (words-set_router w k (finish_out r))
    (record { spare = refl; marked = refl; holds = refl })) settled law
  where
    done : IsDone r.outward r.out_queue.current (reach r.in_queue)
    done = out-tells r can.possible

    come : (l : LinkId) (s : Side) → is_attached l s r ≡ true → passes (Some (finish_out r)) (is_attached l s) ≡ false → HasCome w g r l s
    come l s had hasnt = come-out w b g k r l s law can.here done (out-gave l s r done.end done.decaying had hasnt)

    -- as the proxy it knows its lengths
    early : (o : ℕ) → (g.bypass o).stage ≤ 3 → has_decaying (Central o) (proxy_side g o) r ≡ true → ⊥
    early o a h =
        let t : HasEnd r.outward.decaying (Central o) (proxy_side g o) =
        has_link-tells r.outward.decaying (Central o) (proxy_side g o) h in
        let own : IsKnown 4 (g.bypass o).stage (g.bypass o).taken_at done.to =
        known_from-tells 4 _ _ _ (sym (((positions-in law).each k r can.here).own_to t.end o t.there t.on_link t.at_side) ∙ done.length_to) in
        omega (arith, own.since)

    early_inner : (o : ℕ) → (g.bypass o).stage ≤ 4 → 2 ≤ (g.bypass o).stage → has_decaying (inner_of g o) B r ≡ true → ⊥
    early_inner o a c h =
        let t : HasEnd r.outward.decaying (inner_of g o) B = has_link-tells r.outward.decaying (inner_of g o) B h in
        let own : IsKnown 5 (g.bypass o).stage (g.bypass o).accepted_at done.from
        = known_from-tells 5 _ _ _ (sym (((positions-in law).each k r can.here).inner_from t.end (g.bypass o).inner o t.there t.on_link
        ((law.bypasses o).inner_by (begun-since g o 2 (omega arith) c))) ∙ done.length_from) in
        omega (arith, own.since)

    settled : Settled w (finish_out_act w k r) g k r (Some (finish_out r))
    settled = record {
      own_old = λ o e a c h. absurd (early o c h);
      own_inner = λ o e a c h. grind (arith, standing_rules, h);
      inner = λ o e a c h. absurd (early_inner o c a h);
      known = λ l s up. or_left _ _ (come l s up.had up.hasnt).known;
      nothing = λ from to i l s n item moves u up. nothing-comes w b g k r l s from to i n item moves law can.here up.before
          (come l s up.had up.hasnt) u;
      across_gone = λ o q at a up. across-sent w b g r o q law up.before (come _ _ up.had up.hasnt) at a;
      inner_gone = λ o q at a up. inner-sent w b g r o q law up.before (come _ _ up.had up.hasnt) at (omega (arith, a));
      out_finished = λ o y e a f h. sent o e a;
      in_finished = λ o y e a f h. law.proxy_numbers.in_finished o r (ap (router_at w) e ∙ can.here) a (grind (arith, f, h));
    }
      where
        sent : (o : ℕ) → (g.bypass o).proxy ≡ k → 4 ≤ (g.bypass o).stage → (g.bypass o).taken_at ≤ r.out_queue.current
        sent o e a =
            let n : Names done.end (Central o) (proxy_side g o) =
            proxy-outward law (record { begun = begun-since g o 4 (omega arith) a; proxy = e; here = can.here }) done.end done.decaying
            in
            let own : IsKnown 4 (g.bypass o).stage (g.bypass o).taken_at done.to =
            known_from-tells 4 _ _ _ (sym (((positions-in law).each k r can.here).own_to done.end o done.decaying n.link n.side) ∙ done.length_to)
            in
            omega (arith, own.is, done.all_sent)

pub inv-finish_in : (w : World) (b : Books) (g : Records) (k : Key) (r : Router) → Inv w b g → CanAct w k r acts.FinishIn →
    Inv (finish_in_act w k r) b g
inv-finish_in w b g k r law can = inv-gives w (finish_in_act w k r) b g k r (Some (finish_in r))
    (stays w (finish_in_act w k r) k r (finish_in r) (set-router w k (finish_in r)) can.here (in-part r))
    (stays_bare r (finish_in r)) (keeps_all w (finish_in_act w k r) r (finish_in r) (words-set_router w k (finish_in r))
    (record { spare = refl; marked = refl; holds = refl })) settled law
  where
    done : IsDone (inward_edge r) r.in_queue.current (reach r.out_queue)
    done = in-tells r can.possible

    gave : (l : LinkId) (s : Side) → is_attached l s r ≡ true → passes (Some (finish_in r)) (is_attached l s) ≡ false → Names done.end l s
    gave l s had hasnt = in-gave l s r done.end done.decaying had hasnt

    come : (l : LinkId) (s : Side) → is_attached l s r ≡ true → passes (Some (finish_in r)) (is_attached l s) ≡ false → HasCome w g r l s
    come l s had hasnt = come-in w b g k r l s law can.here done (gave l s had hasnt)

    early : (o : ℕ) → (g.bypass o).proxy ≡ k → is_begun (g.bypass o) ≡ true → (g.bypass o).stage ≤ 3 → ⊥
    early o e c a =
        let own : IsKnown 4 (g.bypass o).stage (g.bypass o).taken_at done.from
        = known_from-tells 4 _ _ _ (sym (((positions-in law).each k r can.here).inward_from done.end o done.decaying
        (proxy-begun law (record { begun = c; proxy = e; here = can.here }))) ∙ done.length_from) in
        omega (arith, own.since)

    settled : Settled w (finish_in_act w k r) g k r (Some (finish_in r))
    settled = record {
      own_old = λ o e a c h. grind (arith, standing_rules, h);
      own_inner = λ o e a c h. absurd (early o e a c);
      inner = λ o e a c h. grind (arith, standing_rules, h);
      known = λ l s up. or_left _ _ (come l s up.had up.hasnt).known;
      nothing = λ from to i l s n item moves u up. nothing-comes w b g k r l s from to i n item moves law can.here up.before
          (come l s up.had up.hasnt) u;
      across_gone = λ o q at a up. across-sent w b g r o q law up.before (come _ _ up.had up.hasnt) at a;
      inner_gone = λ o q at a up. inner-sent w b g r o q law up.before (come _ _ up.had up.hasnt) at (omega (arith, a));
      out_finished = λ o y e a f h. law.proxy_numbers.out_finished o r (ap (router_at w) e ∙ can.here) a (grind (arith, f, h));
      in_finished = λ o y e a f h. sent o e a;
    }
      where
        sent : (o : ℕ) → (g.bypass o).proxy ≡ k → 4 ≤ (g.bypass o).stage → (g.bypass o).accepted_at ≤ r.in_queue.current
        sent o e a =
            let own : IsKnown 4 (g.bypass o).stage (g.bypass o).accepted_at done.to
            = known_from-tells 4 _ _ _ (sym (((positions-in law).each k r can.here).inward_to done.end o done.decaying
            (proxy-begun law (record { begun = begun-since g o 4 (omega arith) a; proxy = e; here = can.here }))) ∙ done.length_to) in
            omega (arith, own.is, done.all_sent)

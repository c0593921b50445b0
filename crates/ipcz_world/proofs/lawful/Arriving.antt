-- Where an open terminal stands on a central link with nothing decaying, each proxy of its end has begun its bypass, and that is over.
use Rattle.ipcz_world.proofs.frames.RolesTell.{links-in, positions-in}
use Rattle.std.specs.Prelude.{◌≡◌, ◌≤◌, ◌<◌, ℕ, zero, suc, ◌+◌, Bool, true, false, ◌||◌, nat_le, nat_lt, Option, Some, None, is_some, unwrap_or, if◌then◌else◌, not, option_map, refl}
use Rattle.std.proofs.Common.{arith, ap, subst, ◌∙◌, sym, inl, inr}
use Rattle.std.proofs.lemmas.Bool.Decides.{nat_tests}
use Rattle.std.proofs.lemmas.Bool.{or_left}
use Rattle.ipcz_base.specs.declared.link_end.LinkEnd.{LinkEnd}
use Rattle.ipcz_base.specs.Links.{word_of}
use Rattle.ipcz_world.proofs.Vocabulary.{Side, A, B, End, Node, Found, node_at, terminal_of, LinkId, Central, Peripheral, opposite_end, has_link}
use Rattle.ipcz_world.proofs.Vocabulary.{Router, is_terminal, inward_edge, World, Key, router_at, Books, Records, is_begun, is_recorded, inner_link}
use Rattle.ipcz_world.proofs.Vocabulary.{bypass_of, side_router, side_end, is_closed, inner_of, has_primary, has_decaying, is_outward, Inv, no_edge}
use Rattle.ipcz_world.proofs.Vocabulary.{decays, is_on_central, holds_end, is_retired, IsLawful, IsRanked, is_left, key_at, is_begun_router, has_role}
use Rattle.ipcz_world.proofs.Vocabulary.{link_in}
use Rattle.ipcz_edge.specs.Edge.{Edge}
use Rattle.ipcz_router.specs.Arrivals.{has_arrived}
use Rattle.ipcz_node.specs.Arriving.{arrival_of}
use Rattle.ipcz_world.specs.Arrived.{IsOutOfRoute, AreOutOfRoute, ArrivedLeaveProxiesBehind, arrival_in}
use Rattle.ipcz_world.specs.Records.{At, terminal_descriptor}
use Rattle.ipcz_world.specs.Structure.{IsRecorded}
use Rattle.ipcz_world.specs.Bypasses.{moving_link}
use Rattle.ipcz_world.proofs.facts.Finding.{IsTerminalOf, terminal_tells}
use Rattle.ipcz_world.proofs.facts.Lengths.{HasEnd, has_link-tells, has_link-some, known_from-yes}
use Rattle.ipcz_world.proofs.facts.LinkTests.{opposite_end-twice}
use Rattle.ipcz_world.proofs.facts.Tests.{and_first, and_second, some_is}
use Rattle.ipcz_world.proofs.frames.Bypassed.{IsBypassed, proxy-outward}
use Rattle.ipcz_world.proofs.frames.Calling.{held_unclosed}
use Rattle.ipcz_world.proofs.frames.Holding.{times_held-at}
use Rattle.ipcz_world.proofs.frames.OfRecords.{holds_times}
use Rattle.ipcz_world.proofs.acts.Puts.{terminal_there}
use Rattle.ipcz_world.proofs.frames.Passing.{Passes, passes-tells}
use Rattle.ipcz_world.proofs.frames.RecordRules.{bypass_of-inner}
use Rattle.ipcz_world.proofs.acts.Moved.{passes_tells}

-- an outward primary link that is peripheral isn't central
off_central : (t : Router) (l : LinkId) (n x : ℕ) (s : Side) → l ≡ Peripheral n x → has_primary l s t ≡ true → is_on_central t ≡ true → ⊥
unfolding word_of
off_central t l n x s is h c = apart d.end d.there (d.on_link ∙ is)
  where
    d : HasEnd t.outward.primary l s
    d = has_link-tells t.outward.primary l s h

    none : (e : LinkEnd) → e.link ≡ Peripheral n x → word_of (Some e) ≡ None
    none e q = rw q refl

    some : (o : Option ℕ) → o ≡ None → is_some o ≡ true → ⊥
    some o p q = grind (arith, p, q)

    apart : (e : LinkEnd) → t.outward.primary ≡ Some e → e.link ≡ Peripheral n x → ⊥
    apart e p q = some (word_of t.outward.primary) (ap word_of p ∙ none e q) c

module _ (w : World) (b : Books) (g : Records) (law : Inv w b g) (ranked : IsRanked w) (k : Key) (t : Router)
    (here : router_at w k ≡ Some t) (last : is_terminal t ≡ true) (unclosed : is_closed b t.end ≡ false) (central : is_on_central t ≡ true)
    (still : decays t ≡ false) where
  -- it is the terminal of its end
  one : (q : Key) (z : Router) → router_at w q ≡ Some z → z.end ≡ t.end → is_terminal z ≡ true → z ≡ t
  one q z at end stops = some z t (sym at ∙ ap (router_at w) (key q k (sym ((law.terminals.each q z at).terminal stops) ∙ ap g.terminal end ∙
      (law.terminals.each k t here).terminal last)) ∙ here)
    where
      key : (q k : Key) → At q ≡ At k → q ≡ k
      key q k e = cc

      some : (z t : Router) → Some z ≡ Some t → z ≡ t
      some z t e = cc

  -- neither end of the pair has retired
  own_stays : is_retired b t.end ≡ true → ⊥
  own_stays h = apart (is_closed b t.end) unclosed (law.books_kept.retired_closed t.end h)
    where
      apart : (c : Bool) → c ≡ false → c ≡ true → ⊥
      apart c f h = cc

  peer_stays : is_retired b (opposite_end t.end) ≡ true → ⊥
  peer_stays h = apart (is_closed b t.end) unclosed
      (ap (is_closed b) (sym (opposite_end-twice t.end)) ∙ law.retired_ends.peer_closed (opposite_end t.end) h)
    where
      apart : (c : Bool) → c ≡ false → c ≡ true → ⊥
      apart c f h = cc

  -- so no side of a link of the end was left
  stays : (l : LinkId) (s : Side) → side_end g l s ≡ t.end → is_left g l s ≡ false
  stays l s end = go (is_left g l s) refl
    where
      either : (c d : Bool) → (c || d) ≡ true → (c ≡ true → ⊥) → (d ≡ true → ⊥) → ⊥
      either true d h own peer = own refl
      either false d h own peer = peer h

      go : (c : Bool) → is_left g l s ≡ c → c ≡ false
      go false e = refl
      go true e = absurd (either (is_retired b (side_end g l s)) (is_retired b (opposite_end (side_end g l s))) (law.retired_ends.left_of l s e)
          (λ h. own_stays (ap (is_retired b) (sym end) ∙ h)) (λ h. peer_stays (ap (λ d. is_retired b (opposite_end d)) (sym end) ∙ h)))

  -- a router inward of a proxy of the end stands
  known : (n x : ℕ) → is_recorded w g (Peripheral n x) ≡ true → side_end g (Peripheral n x) B ≡ t.end →
      (q : Key) × (side_router g (Peripheral n x) B ≡ Some q)
  unfolding side_router side_end terminal_descriptor
  known n x recorded end = go (g.peripheral p).router refl
    where
      p : Key
      p = record { node = n; serial = x }

      placed : g.terminal (g.peripheral p).end ≡ At k
      placed = ap g.terminal end ∙ (law.terminals.each k t here).terminal last

      go : (o : Option ℕ) → (g.peripheral p).router ≡ o → (q : Key) × (side_router g (Peripheral n x) B ≡ Some q)
      go (Some s) e = (record { node = (g.peripheral p).node; serial = s }, ap (key_at (g.peripheral p).node) e)
      go None e = absurd (apart (sym (law.moves.moving p recorded e) ∙ ap moving_link placed))
        where
          apart : Some (inner_link p) ≡ None → ⊥
          apart h = cc

  -- a router with an outward primary link is a terminal, or has an inward primary one
  role : (z : Router) (e : LinkEnd) → has_role z ≡ true → z.outward.primary ≡ Some e → is_terminal z ≡ false →
      is_some (inward_edge z).primary ≡ true
  role z e h on f = go (is_some (inward_edge z).primary) refl
    where
      go : (c : Bool) → is_some (inward_edge z).primary ≡ c → c ≡ true
      go true q = refl
      go false q = absurd (grind (arith, h, on, f, q))

  -- and not a terminal, where that link isn't central
  not_last : (q : Key) (z : Router) (n x : ℕ) (s : Side) → router_at w q ≡ Some z → z.end ≡ t.end → has_primary (Peripheral n x) s z ≡ true →
      is_terminal z ≡ false
  not_last q z n x s at end on = go (is_terminal z) refl
    where
      go : (c : Bool) → is_terminal z ≡ c → c ≡ false
      go false e = refl
      go true e = absurd (off_central t (Peripheral n x) n x s refl (subst (λ y. has_primary (Peripheral n x) s y ≡ true) (one q z at end e) on) central)

  -- what stands inward of a proxy of the end that hasn't begun: a proxy that hasn't, either
  record HasInner (q : Key) : Type 0 where
    pub key : Key
    pub router : Router
    pub end_in : LinkEnd
    pub stands : router_at w key ≡ Some router
    pub end : router.end ≡ t.end
    pub on : (inward_edge router).primary ≡ Some end_in
    pub higher : ranked.rank q < ranked.rank key

  inner : (q : Key) (r : Router) (e : LinkEnd) → router_at w q ≡ Some r → r.end ≡ t.end → (inward_edge r).primary ≡ Some e → HasInner q
  unfolding is_outward side_end
  inner q r e at end on = go e.link e.side refl refl
    where
      go : (l : LinkId) (s : Side) → e.link ≡ l → e.side ≡ s → HasInner q
      go (Central i) s l f = absurd (grind (arith, ((links-in law) q r at).inward_primary_inward e on, l))
      go (Peripheral n x) B l f = absurd (grind (arith, ((links-in law) q r at).inward_primary_inward e on, l, f))
      go (Peripheral n x) A l f = record {
        key = next.0;
        router = stands.0;
        end_in = deeper.0;
        stands = stands.1;
        end = far_end;
        on = deeper.1;
        higher = ranked.rises q next.0 r stands.0 n x at stands.1
            (or_left (has_link (inward_edge r).primary (Peripheral n x) A) (has_link (inward_edge r).decaying (Peripheral n x) A)
            (ap (λ o. has_link o (Peripheral n x) A) on ∙ has_link-some e (Peripheral n x) A l f))
            (or_left (has_link stands.0.outward.primary (Peripheral n x) B) (has_link stands.0.outward.decaying (Peripheral n x) B) stands.2);
      }
        where
          p : Key
          p = record { node = n; serial = x }

          rec : IsRecorded w g q r e
          rec = ((links-in law) q r at).inward_primary e on

          recorded : is_recorded w g (Peripheral n x) ≡ true
          recorded = subst (λ z. is_recorded w g z ≡ true) l rec.recorded

          link_end : side_end g (Peripheral n x) B ≡ t.end
          link_end = sym (rec.end ∙ ap (λ z. side_end g z e.side) l) ∙ end

          live : (g.peripheral p).by ≡ None
          live = sym (bypass_of-inner g p) ∙ ap (bypass_of g) (sym l) ∙ ((positions-in law).each q r at).inward_primary e on

          next : (m : Key) × (side_router g (Peripheral n x) B ≡ Some m)
          next = known n x recorded link_end

          stands : (z : Router) × (router_at w next.0 ≡ Some z) × (has_primary (Peripheral n x) B z ≡ true)
          stands = passes_tells w next.0 (has_primary (Peripheral n x) B)
              (law.stands.inner p next.0 recorded live (stays (Peripheral n x) B link_end) next.1)

          d : HasEnd stands.0.outward.primary (Peripheral n x) B
          d = has_link-tells stands.0.outward.primary (Peripheral n x) B stands.2

          far_end : stands.0.end ≡ t.end
          far_end = (((links-in law) next.0 stands.0 stands.1).primary d.end d.there).end ∙ ap (λ z. side_end g z d.end.side) d.on_link ∙ link_end

          deeper : (m : LinkEnd) × ((inward_edge stands.0).primary ≡ Some m)
          deeper = some_is (inward_edge stands.0).primary (role stands.0 d.end ((law.shape next.0 stands.0 stands.1).role) d.there
              (not_last next.0 stands.0 n x B stands.1 far_end stands.2))

  -- there is none, since ranks rise inward and have a limit
  unending : (m : ℕ) (q : Key) (r : Router) (e : LinkEnd) → router_at w q ≡ Some r → r.end ≡ t.end → (inward_edge r).primary ≡ Some e →
      ranked.limit ≤ ranked.rank q + m → ⊥
  unending zero q r e at end on l = omega (arith, l, ranked.below q r at)
  unending (suc m) q r e at end on l =
      let h : HasInner q = inner q r e at end on in
      unending m h.key h.router h.end_in h.stands h.end h.on (omega (arith, l, h.higher))

  -- so no proxy of the end has an inward primary link
  pub no_inward : (q : Key) (r : Router) → router_at w q ≡ Some r → r.end ≡ t.end → (inward_edge r).primary ≡ None
  no_inward q r at end = go (inward_edge r).primary refl
    where
      go : (o : Option LinkEnd) → (inward_edge r).primary ≡ o → (inward_edge r).primary ≡ None
      go None e = e
      go (Some e) on = absurd (unending ranked.limit q r e at end on (omega arith))

  -- nor an outward one
  pub no_outward : (q : Key) (r : Router) → router_at w q ≡ Some r → r.end ≡ t.end → is_terminal r ≡ false → r.outward.primary ≡ None
  no_outward q r at end f = go r.outward.primary refl
    where
      none : (o : Option LinkEnd) → o ≡ None → is_some o ≡ true → ⊥
      none o h s = grind (arith, h, s)

      go : (o : Option LinkEnd) → r.outward.primary ≡ o → r.outward.primary ≡ None
      go None e = e
      go (Some e) on = absurd (none (inward_edge r).primary (no_inward q r at end) (role r e ((law.shape q r at).role) on f))

  -- a bypass of a proxy of the end is over
  over : (o : ℕ) → is_begun (g.bypass o) ≡ true → side_end g (inner_of g o) B ≡ t.end → 5 ≤ (g.bypass o).stage
  over o begun end = go (nat_le 5 (g.bypass o).stage) refl
    where
      p : Key
      p = (g.bypass o).inner

      first : 1 ≤ (g.bypass o).stage
      first = grind (arith, begun, nat_tests)

      known_inner : (q : Key) × (side_router g (inner_of g o) B ≡ Some q)
      known_inner = known p.node p.serial ((law.bypasses o).inner begun) end

      -- a router that has the inner link outward, primary or decaying, has a primary link
      there : (q : Key) (z : Router) → router_at w q ≡ Some z → z.end ≡ t.end → is_some z.outward.primary ≡ true → z ≡ t
      there q z at end_is on = by (is_terminal z) refl
        where
          none : (o : Option LinkEnd) → o ≡ None → is_some o ≡ true → ⊥
          none o h s = grind (arith, h, s)

          by : (c : Bool) → is_terminal z ≡ c → z ≡ t
          by true f = one q z at end_is f
          by false f = absurd (none z.outward.primary (no_outward q z at end_is f) on)

      taken : 2 ≤ (g.bypass o).stage → (g.bypass o).stage ≤ 4 → ⊥
      taken l m = decayed t still (subst (λ y. has_decaying (inner_of g o) B y ≡ true) (there s.key s.router s.here far_end primed) s.passed)
        where
          s : Passes w (side_router g (inner_of g o) B) (has_decaying (inner_of g o) B)
          s = passes-tells w (side_router g (inner_of g o) B) (has_decaying (inner_of g o) B) ((law.stages o).inner_decaying l m)

          d : HasEnd s.router.outward.decaying (inner_of g o) B
          d = has_link-tells s.router.outward.decaying (inner_of g o) B s.passed

          far_end : s.router.end ≡ t.end
          far_end = (((links-in law) s.key s.router s.here).decaying d.end d.there).end ∙ ap (λ z. side_end g z d.end.side) d.on_link ∙
              ap (side_end g (inner_of g o)) d.at_side ∙ end

          primed : is_some s.router.outward.primary ≡ true
          primed = some
              (((positions-in law).each s.key s.router s.here).inner_fresh d.end p o d.there d.on_link ((law.bypasses o).inner_by begun))
            where
              some : link_in s.router.outward.primary ≡ Some (Central (g.bypass o).fresh) → is_some s.router.outward.primary ≡ true
              some h = grind (arith, h)

          decayed : (t : Router) → decays t ≡ false → has_decaying (inner_of g o) B t ≡ true → ⊥
          decayed t f h = let e : HasEnd t.outward.decaying (inner_of g o) B = has_link-tells t.outward.decaying (inner_of g o) B h in
              grind (arith, e.there, f)

      begun_only : (g.bypass o).stage ≡ 1 → ⊥
      begun_only l = off_central t (inner_of g o) p.node p.serial B refl
          (subst (λ y. has_primary (inner_of g o) B y ≡ true) (there known_inner.0 s.0 s.1 far_end (ap is_some d.there)) s.2) central
        where
          s : (z : Router) × (router_at w known_inner.0 ≡ Some z) × (has_primary (inner_of g o) B z ≡ true)
          s = passes_tells w known_inner.0 (has_primary (inner_of g o) B) ((law.stages o).inner_primary known_inner.0 l known_inner.1)

          d : HasEnd s.0.outward.primary (inner_of g o) B
          d = has_link-tells s.0.outward.primary (inner_of g o) B s.2

          far_end : s.0.end ≡ t.end
          far_end = (((links-in law) known_inner.0 s.0 s.1).primary d.end d.there).end ∙ ap (λ z. side_end g z d.end.side) d.on_link ∙
              ap (side_end g (inner_of g o)) d.at_side ∙ end

      go : (c : Bool) → nat_le 5 (g.bypass o).stage ≡ c → 5 ≤ (g.bypass o).stage
      go true e = grind (arith, e, nat_tests)
      go false e = absurd (at (nat_le 2 (g.bypass o).stage) refl)
        where
          short : (g.bypass o).stage ≤ 4
          short = grind (arith, e, nat_tests)

          at : (c : Bool) → nat_le 2 (g.bypass o).stage ≡ c → ⊥
          at true f = taken (grind (arith, f, nat_tests)) short
          at false f = let low : (g.bypass o).stage ≤ 1 = grind (arith, f, nat_tests) in begun_only (omega (arith, first, low))

  -- so each proxy of the end is out of its route
  pub out_of_route : (q : Key) (r : Router) → router_at w q ≡ Some r → r.end ≡ t.end → is_terminal r ≡ false → IsOutOfRoute r
  unfolding side_end
  out_of_route q r at end f = record {
    no_outward = no_outward q r at end f;
    no_inward = no_inward q r at end;
    knows_to = λ e d of on. elim of [
      | inl same ↦ ap is_some (ap (λ x. x.length_to) same ∙ own_to d (ap (λ x. x.decaying) (sym same) ∙ on))
      | inr same ↦ ap is_some (ap (λ x. x.length_to) (inward e same) ∙ inner_to d (ap (λ x. x.decaying) (sym (inward e same)) ∙ on))
    ];
    knows_from = λ e d of on. elim of [
      | inl same ↦ ap is_some (ap (λ x. x.length_from) same ∙ own_from d (ap (λ x. x.decaying) (sym same) ∙ on))
      | inr same ↦ ap is_some (ap (λ x. x.length_from) (inward e same) ∙ inner_from d (ap (λ x. x.decaying) (sym (inward e same)) ∙ on))
    ];
  }
    where
      inward : (e : Edge) → r.inward ≡ Some e → e ≡ inward_edge r
      inward e h = sym (ap (λ o. unwrap_or o no_edge) h)

      begun_router : is_begun_router r ≡ true
      begun_router = shut r f (no_inward q r at end)
        where
          shut : (r : Router) → is_terminal r ≡ false → (inward_edge r).primary ≡ None → is_begun_router r ≡ true
          shut r h none = grind (arith, h, none)

      bypass : (o : ℕ) × (g.begun q ≡ Some o)
      bypass = some_is (g.begun q) (((positions-in law).each q r at).begun begun_router)

      o : ℕ
      o = bypass.0

      begun : is_begun (g.bypass o) ≡ true
      begun = law.begun.begun_stage q o bypass.1

      is : IsBypassed w g o q r
      is = record { begun = begun; proxy = law.begun.begun_proxy q o bypass.1; here = at }

      told : 4 ≤ (g.bypass o).stage
      told = let l : 5 ≤ (g.bypass o).stage = over o begun inner_end in omega (arith, l)
        where
          inner_end : side_end g (inner_of g o) B ≡ t.end
          inner_end = sym ((law.stages o).proxy_end r begun (ap (router_at w) is.proxy ∙ at)) ∙ end

      own_to : (d : LinkEnd) → r.outward.decaying ≡ Some d → r.outward.length_to ≡ Some (g.bypass o).taken_at
      own_to d on = let n = proxy-outward law is d on in ((positions-in law).each q r at).own_to d o on n.link n.side ∙
          known_from-yes 4 (g.bypass o).stage (g.bypass o).taken_at told

      own_from : (d : LinkEnd) → r.outward.decaying ≡ Some d → r.outward.length_from ≡ Some (g.bypass o).accepted_at
      own_from d on = let n = proxy-outward law is d on in ((positions-in law).each q r at).own_from d o on n.link n.side ∙
          known_from-yes 4 (g.bypass o).stage (g.bypass o).accepted_at told

      inner_to : (d : LinkEnd) → (inward_edge r).decaying ≡ Some d → (inward_edge r).length_to ≡ Some (g.bypass o).accepted_at
      inner_to d on = ((positions-in law).each q r at).inward_to d o on bypass.1 ∙ known_from-yes 4 (g.bypass o).stage (g.bypass o).accepted_at told

      inner_from : (d : LinkEnd) → (inward_edge r).decaying ≡ Some d → (inward_edge r).length_from ≡ Some (g.bypass o).taken_at
      inner_from d on = ((positions-in law).each q r at).inward_from d o on bypass.1 ∙ known_from-yes 4 (g.bypass o).stage (g.bypass o).taken_at told

-- the terminal of an end that has arrived, and what there is of it
record HasArrived (n : Node) (e : End) : Type 0 where
  pub held : holds_end n e ≡ true
  pub found : Found
  pub there : terminal_of n e ≡ Some found
  pub arrived : has_arrived found.router ≡ true

has_come : (n : Node) (e : End) → arrival_of n e ≡ Some true → HasArrived n e
has_come n e h = go (holds_end n e) (terminal_of n e) refl refl
  where
    whole : (c : Bool) (o : Option Found) → holds_end n e ≡ c → terminal_of n e ≡ o →
        (if c then option_map (λ f. has_arrived f.router) o else None) ≡ Some true
    whole c o p q = sym (ap (λ x. if x then option_map (λ f. has_arrived f.router) (terminal_of n e) else None) p ∙
        ap (λ x. if c then option_map (λ f. has_arrived f.router) x else None) q) ∙ h

    is : (c : Bool) → Some c ≡ Some true → c ≡ true
    is c q = cc

    go : (c : Bool) (o : Option Found) → holds_end n e ≡ c → terminal_of n e ≡ o → HasArrived n e
    go true (Some f) p q = record { held = p; found = f; there = q; arrived = is (has_arrived f.router) (whole true (Some f) p q) }
    go true None p q = let z = whole true None p q in cc
    go false o p q = let z = whole false o p q in cc

-- each proxy of an end that has arrived is out of its route
pub arrived_leave : ArrivedLeaveProxiesBehind
unfolding router_at
arrived_leave w b g n e law l h k r at end proxy =
    out_of_route w b law.records law.inv law.ranked (record { node = n; serial = a.found.serial }) a.found.router t.here t.terminal
    (ap (is_closed b) t.end ∙ held_unclosed w b law.records e law.held_once
    (omega (arith, holds_times e (node_at w n).held a.held, times_held-at w n e l)))
    (and_first (is_on_central a.found.router) _ a.arrived)
    (still (decays a.found.router) (and_second a.found.router.marked (not (decays a.found.router))
    (and_second (is_on_central a.found.router) _ a.arrived)))
    k r at (end ∙ sym t.end) proxy
  where
    a : HasArrived (node_at w n) e
    a = has_come (node_at w n) e h

    t : IsTerminalOf (node_at w n) e a.found.serial a.found.router
    t = terminal_tells (node_at w n) e a.found a.there

    still : (c : Bool) → not c ≡ true → c ≡ false
    still true q = cc
    still false q = refl

-- the same where a world is asked by the number of a node
chosen : (w : World) (n : ℕ) (e : End) (c : Bool) (o : Option Bool) → nat_lt n w.count ≡ c → arrival_in w n e ≡ o →
    (if c then arrival_of (node_at w n) e else None) ≡ o
chosen w n e c o within h = ap (λ x. if x then arrival_of (node_at w n) e else None) (sym within) ∙ h

pub arrived_in_leave : (w : World) (n : ℕ) (e : End) → IsLawful w → arrival_in w n e ≡ Some true → AreOutOfRoute w e
arrived_in_leave w n e law h = go (nat_lt n w.count) refl
  where
    go : (c : Bool) → nat_lt n w.count ≡ c → AreOutOfRoute w e
    go true within = arrived_leave w law.books law.routes n e law.lawful (grind (arith, within, nat_tests)) (chosen w n e true (Some true) within h)
    go false out = let z : None ≡ Some true = chosen w n e false (Some true) out h in cc

-- where none is told, callers of the node don't hold the end
pub untold_unheld : (w : World) (n : ℕ) (e : End) → IsLawful w → arrival_in w n e ≡ None → n < w.count → holds_end (node_at w n) e ≡ false
untold_unheld w n e law h l = go (holds_end (node_at w n) e) refl
  where
    within : nat_lt n w.count ≡ true
    within = grind (arith, l, nat_tests)

    none : arrival_of (node_at w n) e ≡ None
    none = chosen w n e true None within h

    some : (f : Found) → terminal_of (node_at w n) e ≡ Some f → (if true then option_map (λ f. has_arrived f.router) (Some f) else None) ≡ None →
        true ≡ false
    some f q z = cc

    go : (c : Bool) → holds_end (node_at w n) e ≡ c → c ≡ false
    go false held = refl
    go true held =
        let there = terminal_there w law.books law.lawful.records n e law.lawful.inv (law.lawful.inv.end_places.held n e held)
        (held_unclosed w law.books law.lawful.records e law.lawful.held_once
        (omega (arith, holds_times e (node_at w n).held held, times_held-at w n e l))) in
        some there.0 there.1 (sym (ap (λ x. if x then option_map (λ f. has_arrived f.router) (terminal_of (node_at w n) e) else None) held ∙
        ap (λ x. if true then option_map (λ f. has_arrived f.router) x else None) there.1) ∙ none)

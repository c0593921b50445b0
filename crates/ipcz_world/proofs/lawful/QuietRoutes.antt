-- In a quiet world what is lacking in a queue is lacking all the way to the terminal that the queue leads to.
use Rattle.ipcz_world.proofs.frames.RolesTell.{links-in, positions-in}
use Rattle.std.specs.Prelude.{◌≡◌, ◌⊎◌, ◌≤◌, ◌<◌, ℕ, zero, suc, ◌+◌, Bool, true, false, ◌||◌, nat_le, Option, Some, None}
use Rattle.std.specs.Prelude.{is_some, length, refl}
use Rattle.std.proofs.Common.{arith, ap, subst, ◌∙◌, sym, inl, inr}
use Rattle.std.proofs.lemmas.Bool.Decides.{nat_tests}
use Rattle.std.proofs.lemmas.Bool.{or_left, or_right}
use Rattle.std.proofs.lemmas.Option.{none-some}
use Rattle.ipcz_world.proofs.facts.Tests.{or_second}
use Rattle.ipcz_world.proofs.Vocabulary.{Side, A, B, End, LinkId, Central, Peripheral, LinkEnd, Item, opposite, opposite_end, has_link, Queue}
use Rattle.ipcz_world.proofs.Vocabulary.{item_at, Router, is_terminal, inward_edge, World, Key, router_at, Books, Records, is_begun, is_recorded}
use Rattle.ipcz_world.proofs.Vocabulary.{is_possible, side_router, side_end, side_length, bypass_of, proxy_side, across_side, is_linked, inner_of}
use Rattle.ipcz_world.proofs.Vocabulary.{Standing, view, view_by, router_view, is_attached, sending_queue, fed_queue, next_sent, taking_queue}
use Rattle.ipcz_world.proofs.Vocabulary.{has_passed, has_primary, has_decaying, is_outward, is_gone, Inv, IsRecorded, end_at, outward_has, is_proxy}
use Rattle.ipcz_world.proofs.Vocabulary.{is_retired, AreFlagged, IsRanked, Retired, is_left, IsQuiet, has_inward_primary, is_begun_router, has_role}
use Rattle.ipcz_world.proofs.Vocabulary.{link_in}
use Rattle.ipcz_router.specs.declared.act.RouterAct.TheVariants as acts
use Rattle.ipcz_world.specs.Records.{At}
use Rattle.ipcz_world.proofs.frames.BegunLengths.{length-proxy, length-inward}
use Rattle.ipcz_world.proofs.facts.Lengths.{HasEnd, has_link-tells, has_link-some, opposite-twice, length-live, length-none}
use Rattle.ipcz_world.proofs.facts.Lengths.{has_passed-none, has_passed-some}
use Rattle.ipcz_world.proofs.facts.Reaching.{is_reach}
use Rattle.ipcz_world.proofs.facts.Tests.{some_is}
use Rattle.ipcz_world.proofs.frames.RecordRules.{bypass_of-inner}
use Rattle.ipcz_world.proofs.lawful.LengthLaws.{attached_view}
use Rattle.ipcz_world.proofs.lawful.LinkLaws.{on_tells}
use Rattle.ipcz_world.proofs.lawful.QuietBypasses.{settled, known_side, primary_live}
use Rattle.ipcz_world.proofs.acts.Moved.{passes_tells}
use Rattle.ipcz_world.proofs.facts.Tests.{not_both}
use Rattle.ipcz_world.proofs.frames.LeftSides.{not_left}
use Rattle.ipcz_world.proofs.lawful.Quiet.{nothing-possible}
use Rattle.ipcz_world.proofs.frames.Bypassed as bypassed
use Rattle.ipcz_world.proofs.frames.Passing.{Passes, passes-tells}

-- a queue hasn't passed a number, and has no item of it
pub record Lacks (q : Queue Item) (m : ℕ) : Type 0 where
  pub current : q.current ≤ m
  pub none : item_at q m ≡ None

-- a terminal of an end lacks a number
pub record IsLacked (w : World) (e : End) (m : ℕ) : Type 0 where
  pub key : Key
  pub router : Router
  pub here : router_at w key ≡ Some router
  pub terminal : is_terminal router ≡ true
  pub end : router.end ≡ e
  pub lacks : Lacks router.in_queue m

passed-later : (o : Option ℕ) (u m : ℕ) → u ≤ m → has_passed o m ≡ false → has_passed o u ≡ false
unfolding has_passed
passed-later None u m l h = refl
passed-later (Some n) u m l h = grind (arith, nat_tests, l, h)

module _ (w : World) (b : Books) (g : Records) (law : Inv w b g) (quiet : IsQuiet w) (ranked : IsRanked w)
    (flagged : AreFlagged w) where
  -- what a sender lacks the receiver lacks too, below the link's length
  pub hop : (link : LinkId) (s : Side) (j k : Key) (x z : Router) (m : ℕ) → router_at w j ≡ Some x → router_at w k ≡ Some z →
      is_attached link (opposite s) x ≡ true → is_attached link s z ≡ true → has_passed (side_length g link (opposite s)) m ≡ false →
      Lacks (sending_queue link (opposite s) x) m → Lacks (fed_queue link s z) m
  unfolding next_sent taking_queue
  hop link s j k x z m at here from_there on short lacks = record { current = low; none = none (item_at (fed_queue link s z) m) refl }
    where
      sender : view w g link (opposite s) ≡ Standing x
      sender = (attached_view w b g law link (opposite s) j x at from_there).1

      receiver : view w g link s ≡ Standing z
      receiver = (attached_view w b g law link s k z here on).1

      recorded : is_recorded w g link ≡ true
      recorded = (attached_view w b g law link s k z here on).2

      sent : next_sent link (opposite s) (view w g link (opposite s)) ≡ Some (sending_queue link (opposite s) x).current
      sent = ap (next_sent link (opposite s)) sender

      taken : taking_queue link s (view w g link s) ≡ Some (fed_queue link s z)
      taken = ap (taking_queue link s) receiver

      low : (fed_queue link s z).current ≤ m
      low = omega (
        arith,
        lacks.current,
        law.order.current link s (sending_queue link (opposite s) x).current (fed_queue link s z) recorded sent
            taken (passed-later (side_length g link (opposite s)) (sending_queue link (opposite s) x).current m lacks.current short),
      )

      none : (o : Option Item) → item_at (fed_queue link s z) m ≡ o → item_at (fed_queue link s z) m ≡ None
      none None e = e
      none (Some item) e = absurd (omega (
        arith,
        lacks.current,
        law.order.stored link s (sending_queue link (opposite s) x).current (fed_queue link s z) m item recorded sent taken e short,
      ))

  -- a proxy that has sent Gone inward would leave
  unsent : (k : Key) (r : Router) (e : LinkEnd) → router_at w k ≡ Some r → (inward_edge r).primary ≡ Some e → r.gone_sent ≡ true → ⊥
  unfolding is_possible
  unsent k r e here on sent = leaves r (nothing-possible w flagged quiet k r acts.Leave (law.counts.on_node k r here) here) sent
      (proxy r e on)
    where
      leaves : (r : Router) → is_possible r acts.Leave ≡ false → r.gone_sent ≡ true → is_proxy r ≡ true → ⊥
      leaves r h s p = grind (arith, h, s, p)

      proxy : (r : Router) (e : LinkEnd) → (inward_edge r).primary ≡ Some e → is_proxy r ≡ true
      proxy r e h = grind (arith, h)

  -- an end whose terminal stands hasn't retired
  pub standing_end : (k : Key) (r : Router) → router_at w k ≡ Some r → is_terminal r ≡ true → is_retired b r.end ≡ true → ⊥
  standing_end k r here terminal retired =
      apart k (sym ((law.terminals.each k r here).terminal terminal) ∙ law.retired_ends.retired r.end retired)
    where
      apart : (k : Key) → At k ≡ Retired → ⊥
      apart k e = cc

  -- what stands across the outward primary link of a router: its proxy, or over a central link the router of the peer's side
  pub record HasOuter (k : Key) (r : Router) : Type 0 where
    pub node : ℕ
    pub serial : ℕ
    pub key : Key
    pub router : Router
    pub here : router_at w key ≡ Some router
    pub own : has_primary (Peripheral node serial) B r ≡ true
    pub on : has_inward_primary (Peripheral node serial) A router ≡ true
    pub live : side_length g (Peripheral node serial) B ≡ None
    pub end : router.end ≡ r.end
    pub lower : ranked.rank key < ranked.rank k

  pub record HasAcross (k : Key) (r : Router) : Type 0 where
    pub word : ℕ
    pub side : Side
    pub key : Key
    pub router : Router
    pub here : router_at w key ≡ Some router
    pub own : has_primary (Central word) side r ≡ true
    pub on : has_primary (Central word) (opposite side) router ≡ true
    pub unbegun : is_begun (g.bypass word) ≡ false
    pub linked : is_linked (g.owner word) ≡ true
    pub end : router.end ≡ opposite_end r.end
    pub own_end : r.end ≡ end_at (g.central word).pair side

  pub outer_router : (k : Key) (r : Router) (e : LinkEnd) → router_at w k ≡ Some r → r.outward.primary ≡ Some e →
      HasOuter k r ⊎ (HasAcross k r ⊎ (is_retired b (opposite_end r.end) ≡ true))
  unfolding is_outward side_end bypass_of is_recorded
  outer_router k r e here on = go e.link e.side refl refl
    where
      rec : IsRecorded w g k r e
      rec = ((links-in law) k r here).primary e on

      left : (l : LinkId) (s : Side) → e.link ≡ l → e.side ≡ s → is_left g l (opposite s) ≡ true → is_retired b (opposite_end r.end) ≡ true
      left l s p q h = law.gones.left_primary k r e here on (ap (λ z. is_left g z (opposite e.side)) p ∙ ap (λ z. is_left g l (opposite z)) q ∙ h)

      go : (l : LinkId) (s : Side) → e.link ≡ l → e.side ≡ s → HasOuter k r ⊎ (HasAcross k r ⊎ (is_retired b (opposite_end r.end) ≡ true))
      go (Peripheral n x) A l t = absurd (grind (arith, ((links-in law) k r here).primary_outward e on, l, t))
      go (Peripheral n x) B l t = by (is_left g (Peripheral n x) A) refl
        where
          p : Key
          p = record { node = n; serial = x }

          own : has_primary (Peripheral n x) B r ≡ true
          own = ap (λ o. has_link o (Peripheral n x) B) on ∙ has_link-some e (Peripheral n x) B l t

          recorded : is_recorded w g (Peripheral n x) ≡ true
          recorded = subst (λ z. is_recorded w g z ≡ true) l rec.recorded

          live : (g.peripheral p).by ≡ None
          live = sym (bypass_of-inner g p) ∙ ap (bypass_of g) (sym l) ∙ primary_live w b g law quiet k r e here on

          by : (c : Bool) → is_left g (Peripheral n x) A ≡ c → HasOuter k r ⊎ (HasAcross k r ⊎ (is_retired b (opposite_end r.end) ≡ true))
          by true f = inr (inr (left (Peripheral n x) B l t f))
          by false stays = inl (record {
            node = n;
            serial = x;
            key = proxy.key;
            router = proxy.router;
            here = proxy.here;
            own = own;
            on = proxy.passed;
            live = length-none g p B live;
            end = far.end ∙ ap (λ z. side_end g z d.end.side) d.on_link ∙ sym (rec.end ∙ ap (λ z. side_end g z e.side) l);
            lower = ranked.rises proxy.key k proxy.router r n x proxy.here here
                (or_left (has_link (inward_edge proxy.router).primary (Peripheral n x) A)
                (has_link (inward_edge proxy.router).decaying (Peripheral n x) A)
                proxy.passed)
                (or_left (has_link r.outward.primary (Peripheral n x) B) (has_link r.outward.decaying (Peripheral n x) B) own);
          })
            where
              proxy : Passes w (side_router g (Peripheral n x) A) (has_inward_primary (Peripheral n x) A)
              proxy = passes-tells w (side_router g (Peripheral n x) A) (has_inward_primary (Peripheral n x) A)
                  (law.stands.proxy p recorded live stays)

              d : HasEnd (inward_edge proxy.router).primary (Peripheral n x) A
              d = has_link-tells (inward_edge proxy.router).primary (Peripheral n x) A proxy.passed

              far : IsRecorded w g proxy.key proxy.router d.end
              far = ((links-in law) proxy.key proxy.router proxy.here).inward_primary d.end d.there
      go (Central i) s l t = by (is_left g (Central i) (opposite s)) refl
        where
          own : has_primary (Central i) s r ≡ true
          own = ap (λ o. has_link o (Central i) s) on ∙ has_link-some e (Central i) s l t

          own_end : r.end ≡ end_at (g.central i).pair s
          own_end = rec.end ∙ ap (λ z. side_end g z e.side) l ∙ ap (λ z. side_end g (Central i) z) t

          recorded : is_recorded w g (Central i) ≡ true
          recorded = subst (λ z. is_recorded w g z ≡ true) l rec.recorded

          linked : is_linked (g.owner i) ≡ true
          linked = recorded

          unbegun : (c : Bool) → is_begun (g.bypass i) ≡ c → is_begun (g.bypass i) ≡ false
          unbegun false f = f
          unbegun true f = absurd (omega (arith, settled w b g law quiet i f, ((positions-in law).each k r here).primary_old e i on l f))

          across : (q : Key) × (side_router g (Central i) (opposite s) ≡ Some q)
          across = known_side w b g law quiet (Central i) (opposite s) recorded

          by : (c : Bool) → is_left g (Central i) (opposite s) ≡ c →
              HasOuter k r ⊎ (HasAcross k r ⊎ (is_retired b (opposite_end r.end) ≡ true))
          by true f = inr (inr (left (Central i) s l t f))
          by false stays = inr (inl (record {
            word = i;
            side = s;
            key = across.0;
            router = stands.0;
            here = stands.1;
            own = own;
            on = stands.2;
            unbegun = unbegun (is_begun (g.bypass i)) refl;
            linked = linked;
            end = far.end ∙ ap (λ z. side_end g z d.end.side) d.on_link ∙ ap (λ z. side_end g (Central i) z) d.at_side
                ∙ sym (ap opposite_end own_end);
            own_end = own_end;
          }))
            where
              stands : (z : Router) × (router_at w across.0 ≡ Some z) × (has_primary (Central i) (opposite s) z ≡ true)
              stands = passes_tells w across.0 (has_primary (Central i) (opposite s))
                  (law.stands.central i (opposite s) across.0 linked (unbegun (is_begun (g.bypass i)) refl) stays across.1)

              d : HasEnd stands.0.outward.primary (Central i) (opposite s)
              d = has_link-tells stands.0.outward.primary (Central i) (opposite s) stands.2

              far : IsRecorded w g across.0 stands.0 d.end
              far = ((links-in law) across.0 stands.0 stands.1).primary d.end d.there

  whole_inward : (k : Key) (z : Router) (l : LinkId) → router_at w k ≡ Some z → has_inward_primary l A z ≡ true →
      (is_begun_router z ≡ false) × (is_some z.outward.primary ≡ true)
  whole_inward k z l here on =
      let e : HasEnd (inward_edge z).primary l A = has_link-tells (inward_edge z).primary l A on in
      (grind (arith, e.there), role z ((law.shape k z here).role) e.end e.there)
    where
      role : (z : Router) → has_role z ≡ true → (e : LinkEnd) → (inward_edge z).primary ≡ Some e → is_some z.outward.primary ≡ true
      role z h e q = grind (arith, h, q)

  -- no end of a router with an outward primary link has retired: the pair's live link is left by a retired end
  own_unretired : (n : ℕ) (k : Key) (r : Router) → router_at w k ≡ Some r → is_some r.outward.primary ≡ true → ranked.rank k < n →
      is_retired b r.end ≡ true → ⊥
  own_unretired zero k r here has l retired = omega (arith, l)
  own_unretired (suc n) k r here has l retired =
      let e = some_is r.outward.primary has in
      go (outer_router k r e.0 here e.1) (λ q z at primed lower gone. own_unretired n q z at primed lower gone)
    where
      go : HasOuter k r ⊎ (HasAcross k r ⊎ (is_retired b (opposite_end r.end) ≡ true)) →
          ((q : Key) (z : Router) → router_at w q ≡ Some z → is_some z.outward.primary ≡ true → ranked.rank q < n → is_retired b z.end ≡ true → ⊥) → ⊥
      go (inl h) more = more h.key h.router h.here (whole_inward h.key h.router (Peripheral h.node h.serial) h.here h.on).1
          (omega (arith, l, h.lower)) (ap (is_retired b) h.end ∙ retired)
      go (inr (inl h)) more = not_both (is_left g (Central h.word) h.side)
          (ap (λ (d : End). is_left g (Central h.word) d.side) (sym h.own_end)
          ∙ law.retired_ends.left r.end h.word retired h.linked h.unbegun (ap (λ (d : End). d.pair) (sym h.own_end)))
          (not_left w g (Central h.word) h.side k r law.stands (on_tells w b g k r h.word h.side law here h.own).router here)
      go (inr (inr gone)) more = not_both (is_retired b (opposite_end r.end)) gone (law.retired_ends.peer_stays r.end retired)

  -- a proxy that hasn't begun has a router inward
  pub record HasInner (k : Key) (r : Router) : Type 0 where
    pub node : ℕ
    pub serial : ℕ
    pub key : Key
    pub router : Router
    pub here : router_at w key ≡ Some router
    pub own : has_inward_primary (Peripheral node serial) A r ≡ true
    pub on : has_primary (Peripheral node serial) B router ≡ true
    pub live : side_length g (Peripheral node serial) A ≡ None
    pub live_out : side_length g (Peripheral node serial) B ≡ None
    pub end : router.end ≡ r.end
    pub higher : ranked.rank k < ranked.rank key

  pub inner_router : (k : Key) (r : Router) (e : LinkEnd) → router_at w k ≡ Some r → (inward_edge r).primary ≡ Some e → HasInner k r
  unfolding is_outward side_end
  inner_router k r e here on = go e.link e.side refl refl
    where
      go : (l : LinkId) (s : Side) → e.link ≡ l → e.side ≡ s → HasInner k r
      go (Central i) s l t = absurd (grind (arith, ((links-in law) k r here).inward_primary_inward e on, l))
      go (Peripheral n x) B l t = absurd (grind (arith, ((links-in law) k r here).inward_primary_inward e on, l, t))
      go (Peripheral n x) A l t = record {
        node = n;
        serial = x;
        key = inner.0;
        router = stands.0;
        here = stands.1;
        own = own;
        on = stands.2;
        live = length-none g p A live;
        live_out = length-none g p B live;
        end = far.end ∙ ap (λ z. side_end g z d.end.side) d.on_link ∙ sym (rec.end ∙ ap (λ z. side_end g z e.side) l);
        higher = ranked.rises k inner.0 r stands.0 n x here stands.1
            (or_left (has_link (inward_edge r).primary (Peripheral n x) A) (has_link (inward_edge r).decaying (Peripheral n x) A) own)
            (or_left (has_link stands.0.outward.primary (Peripheral n x) B)
            (has_link stands.0.outward.decaying (Peripheral n x) B) stands.2);
      }
        where
          p : Key
          p = record { node = n; serial = x }

          rec : IsRecorded w g k r e
          rec = ((links-in law) k r here).inward_primary e on

          own : has_inward_primary (Peripheral n x) A r ≡ true
          own = ap (λ o. has_link o (Peripheral n x) A) on ∙ has_link-some e (Peripheral n x) A l t

          recorded : is_recorded w g (Peripheral n x) ≡ true
          recorded = subst (λ z. is_recorded w g z ≡ true) l rec.recorded

          live : (g.peripheral p).by ≡ None
          live = sym (bypass_of-inner g p) ∙ ap (bypass_of g) (sym l) ∙ ((positions-in law).each k r here).inward_primary e on

          stays : is_left g (Peripheral n x) B ≡ false
          stays = by (is_left g (Peripheral n x) B) refl
            where
              by : (c : Bool) → is_left g (Peripheral n x) B ≡ c → c ≡ false
              by false f = refl
              by true f = absurd (gone (is_retired b r.end) refl)
                where
                  own_end : side_end g (Peripheral n x) B ≡ r.end
                  own_end = sym (rec.end ∙ ap (λ z. side_end g z e.side) l)

                  all_passed : r.in_queue.current ≡ length (b.put (opposite_end r.end))
                  all_passed = omega (
                    arith,
                    law.gones.in_put k r here,
                    law.gones.left_inner k r e here on
                        (ap (λ z. is_left g z (opposite e.side)) l ∙ ap (λ z. is_left g (Peripheral n x) (opposite z)) t ∙ f),
                  )

                  proxy : (r : Router) (e : LinkEnd) → (inward_edge r).primary ≡ Some e → is_terminal r ≡ false
                  proxy r e h = grind (arith, h)

                  gone : (c : Bool) → is_retired b r.end ≡ c → ⊥
                  gone true h = own_unretired (ranked.rank k + 1) k r here (whole_inward k r (Peripheral n x) here own).1 (omega arith) h
                  gone false h = unsent k r e here on (law.gones.sent_back k r here (proxy r e on) (ap is_some on)
                      (or_second (is_retired b r.end) (is_retired b (opposite_end r.end))
                      (ap (λ d. is_retired b d || is_retired b (opposite_end d)) (sym own_end)
                      ∙ law.retired_ends.left_of (Peripheral n x) B f) h) all_passed)

          inner : (q : Key) × (side_router g (Peripheral n x) B ≡ Some q)
          inner = known_side w b g law quiet (Peripheral n x) B recorded

          stands : (z : Router) × (router_at w inner.0 ≡ Some z) × (has_primary (Peripheral n x) B z ≡ true)
          stands = passes_tells w inner.0 (has_primary (Peripheral n x) B) (law.stands.inner p inner.0 recorded live stays inner.1)

          d : HasEnd stands.0.outward.primary (Peripheral n x) B
          d = has_link-tells stands.0.outward.primary (Peripheral n x) B stands.2

          far : IsRecorded w g inner.0 stands.0 d.end
          far = ((links-in law) inner.0 stands.0 stands.1).primary d.end d.there

  -- a router with an outward primary link hasn't begun a bypass
  pub not_begun : (k : Key) (r : Router) (l : LinkId) (s : Side) → router_at w k ≡ Some r → has_primary l s r ≡ true →
      is_begun_router r ≡ false
  not_begun k r l s here on =
      let e : HasEnd r.outward.primary l s = has_link-tells r.outward.primary l s on in
      primed r ((law.shape k r here).role) e.end e.there
    where
      primed : (r : Router) → has_role r ≡ true → (e : LinkEnd) → r.outward.primary ≡ Some e → is_begun_router r ≡ false
      primed r h e q = go (is_terminal r) (is_some (inward_edge r).primary) refl refl
        where
          go : (c d : Bool) → is_terminal r ≡ c → is_some (inward_edge r).primary ≡ d → is_begun_router r ≡ false
          go true d f k = grind (arith, f)
          go false true f k = grind (arith, f, k)
          go false false f k = absurd (grind (arith, f, k, h, q))

  -- what the in queue of a router lacks its terminal lacks
  pub inward_lacks : (n : ℕ) (k : Key) (r : Router) (m : ℕ) → router_at w k ≡ Some r → is_begun_router r ≡ false →
      ranked.limit ≤ ranked.rank k + n → Lacks r.in_queue m → IsLacked w r.end m
  unfolding is_attached sending_queue fed_queue
  inward_lacks zero k r m here whole l lacks = absurd (omega (arith, l, ranked.below k r here))
  inward_lacks (suc n) k r m here whole l lacks = go (is_terminal r) (inward_edge r).primary refl refl
      (λ q z at ready higher end less. subst (λ e. IsLacked w e m) end (inward_lacks n q z m at ready higher less))
    where
      go : (c : Bool) (o : Option LinkEnd) → is_terminal r ≡ c → (inward_edge r).primary ≡ o →
          ((q : Key) (z : Router) → router_at w q ≡ Some z → is_begun_router z ≡ false → ranked.limit ≤ ranked.rank q + n → z.end ≡ r.end →
          Lacks z.in_queue m → IsLacked w r.end m) → IsLacked w r.end m
      go true o t p more = record { key = k; router = r; here = here; terminal = t; end = refl; lacks = lacks }
      go false None t p more = absurd (grind (arith, t, p, whole))
      go false (Some e) t p more =
          let h : HasInner k r = inner_router k r e here p in
          more h.key h.router h.here (not_begun h.key h.router (Peripheral h.node h.serial) B h.here h.on)
          (omega (arith, l, h.higher)) h.end
          (hop (Peripheral h.node h.serial) B k h.key r h.router m here h.here
          (or_left (has_link (inward_edge r).primary (Peripheral h.node h.serial) A)
          (has_link (inward_edge r).decaying (Peripheral h.node h.serial) A)
          h.own)
          (or_left (has_link h.router.outward.primary (Peripheral h.node h.serial) B)
          (has_link h.router.outward.decaying (Peripheral h.node h.serial) B) h.on)
          (ap (λ o. has_passed o m) h.live ∙ has_passed-none m) lacks)

  -- a terminal of an end stands
  pub record HasTerminal (e : End) : Type 0 where
    pub key : Key
    pub router : Router
    pub here : router_at w key ≡ Some router
    pub terminal : is_terminal router ≡ true
    pub end : router.end ≡ e

  -- inward of each router that hasn't begun its terminal stands
  pub inward_terminal : (n : ℕ) (k : Key) (r : Router) → router_at w k ≡ Some r → is_begun_router r ≡ false →
      ranked.limit ≤ ranked.rank k + n → HasTerminal r.end
  inward_terminal zero k r here whole l = absurd (omega (arith, l, ranked.below k r here))
  inward_terminal (suc n) k r here whole l = go (is_terminal r) (inward_edge r).primary refl refl
      (λ q z at ready higher end. subst HasTerminal end (inward_terminal n q z at ready higher))
    where
      go : (c : Bool) (o : Option LinkEnd) → is_terminal r ≡ c → (inward_edge r).primary ≡ o →
          ((q : Key) (z : Router) → router_at w q ≡ Some z → is_begun_router z ≡ false → ranked.limit ≤ ranked.rank q + n → z.end ≡ r.end →
          HasTerminal r.end) → HasTerminal r.end
      go true o t p more = record { key = k; router = r; here = here; terminal = t; end = refl }
      go false None t p more = absurd (grind (arith, t, p, whole))
      go false (Some e) t p more =
          let h : HasInner k r = inner_router k r e here p in
          more h.key h.router h.here (not_begun h.key h.router (Peripheral h.node h.serial) B h.here h.on) (omega (arith, l, h.higher)) h.end

  -- no router has sent more outward than its terminal was given
  pub outward_given : (n : ℕ) (k : Key) (r : Router) → router_at w k ≡ Some r → is_begun_router r ≡ false →
      ranked.limit ≤ ranked.rank k + n → r.out_queue.current ≤ length (b.put r.end)
  unfolding is_attached sending_queue fed_queue next_sent taking_queue
  outward_given zero k r here whole l = absurd (omega (arith, l, ranked.below k r here))
  outward_given (suc n) k r here whole l = go (is_terminal r) (inward_edge r).primary refl refl
      (λ q z at ready higher. outward_given n q z at ready higher)
    where
      go : (c : Bool) (o : Option LinkEnd) → is_terminal r ≡ c → (inward_edge r).primary ≡ o →
          ((q : Key) (z : Router) → router_at w q ≡ Some z → is_begun_router z ≡ false → ranked.limit ≤ ranked.rank q + n →
          z.out_queue.current ≤ length (b.put z.end)) → r.out_queue.current ≤ length (b.put r.end)
      go true o t p more = omega (arith, (is_reach r.out_queue).from, law.conserved.reach k r here t)
      go false None t p more = absurd (grind (arith, t, p, whole))
      go false (Some e) t p more =
          let h : HasInner k r = inner_router k r e here p in
          let link : LinkId = Peripheral h.node h.serial in
          let own = attached_view w b g law (Peripheral h.node h.serial) A k r here
          (or_left (has_link (inward_edge r).primary (Peripheral h.node h.serial) A)
          (has_link (inward_edge r).decaying (Peripheral h.node h.serial) A) h.own) in
          let far = attached_view w b g law (Peripheral h.node h.serial) B h.key h.router h.here
          (or_left (has_link h.router.outward.primary (Peripheral h.node h.serial) B)
          (has_link h.router.outward.decaying (Peripheral h.node h.serial) B) h.on) in
          let below : r.out_queue.current ≤ h.router.out_queue.current =
          law.order.current (Peripheral h.node h.serial) A h.router.out_queue.current r.out_queue own.2
          (ap (next_sent (Peripheral h.node h.serial) B) far.1) (ap (taking_queue (Peripheral h.node h.serial) A) own.1)
          (ap (λ o. has_passed o h.router.out_queue.current) h.live_out ∙ has_passed-none h.router.out_queue.current) in
          omega (
            arith,
            below,
            ap (λ z. length (b.put z)) h.end,
            more h.key h.router h.here (not_begun h.key h.router (Peripheral h.node h.serial) B h.here h.on) (omega (arith, l, h.higher)),
          )

  -- what the out queue of a router lacks the peer's terminal lacks, or the peer's sink has retired
  pub outward_lacks : (n : ℕ) (k : Key) (r : Router) (m : ℕ) → router_at w k ≡ Some r → is_some r.outward.primary ≡ true →
      ranked.rank k < n → Lacks r.out_queue m →
      IsLacked w (opposite_end r.end) m ⊎ (is_retired b (opposite_end r.end) ≡ true)
  unfolding is_attached sending_queue fed_queue
  outward_lacks zero k r m here has l lacks = absurd (omega (arith, l))
  outward_lacks (suc n) k r m here has l lacks =
      let e = some_is r.outward.primary has in
      go (outer_router k r e.0 here e.1)
      (λ q z at primed lower end less. subst (λ d. IsLacked w (opposite_end d) m ⊎ (is_retired b (opposite_end d) ≡ true)) end
      (outward_lacks n q z m at primed lower less))
    where
      go : HasOuter k r ⊎ (HasAcross k r ⊎ (is_retired b (opposite_end r.end) ≡ true)) →
          ((q : Key) (z : Router) → router_at w q ≡ Some z → is_some z.outward.primary ≡ true → ranked.rank q < n → z.end ≡ r.end →
          Lacks z.out_queue m → IsLacked w (opposite_end r.end) m ⊎ (is_retired b (opposite_end r.end) ≡ true)) →
          IsLacked w (opposite_end r.end) m ⊎ (is_retired b (opposite_end r.end) ≡ true)
      go (inr (inr gone)) more = inr gone
      go (inl h) more =
          more h.key h.router h.here (whole_inward h.key h.router (Peripheral h.node h.serial) h.here h.on).1
          (omega (arith, l, h.lower)) h.end
          (hop (Peripheral h.node h.serial) A k h.key r h.router m here h.here
          (or_left (has_link r.outward.primary (Peripheral h.node h.serial) B)
          (has_link r.outward.decaying (Peripheral h.node h.serial) B) h.own)
          (or_left (has_link (inward_edge h.router).primary (Peripheral h.node h.serial) A)
          (has_link (inward_edge h.router).decaying (Peripheral h.node h.serial) A) h.on)
          (ap (λ o. has_passed o m) h.live ∙ has_passed-none m) lacks)
      go (inr (inl h)) more = inl (subst (λ d. IsLacked w d m) h.end (inward_lacks ranked.limit h.key h.router m h.here
          (not_begun h.key h.router (Central h.word) (opposite h.side) h.here h.on) (omega arith)
          (hop (Central h.word) (opposite h.side) k h.key r h.router m here h.here
          (subst (λ s. outward_has r (Central h.word) s ≡ true) (sym (opposite-twice h.side))
          (or_left (has_link r.outward.primary (Central h.word) h.side) (has_link r.outward.decaying (Central h.word) h.side) h.own))
          (or_left (has_link h.router.outward.primary (Central h.word) (opposite h.side))
          (has_link h.router.outward.decaying (Central h.word) (opposite h.side)) h.on)
          (ap (λ o. has_passed o m) (length-live g h.word (opposite (opposite h.side)) h.unbegun) ∙ has_passed-none m) lacks)))

  -- a proxy that has begun a bypass
  pub record HasBegun (k : Key) (r : Router) : Type 0 where
    pub old : ℕ
    pub by : bypassed.IsBypassed w g old k r
    pub stage : (g.bypass old).stage ≡ 5
    pub end : r.end ≡ side_end g (inner_of g old) A

  pub begun_tells : (k : Key) (r : Router) → router_at w k ≡ Some r → is_begun_router r ≡ true → HasBegun k r
  begun_tells k r here begun =
      let t = some_is (g.begun k) (((positions-in law).each k r here).begun begun) in
      let is = law.begun.begun_stage k t.0 t.1 in
      let proxy = law.begun.begun_proxy k t.0 t.1 in
      record {
        old = t.0;
        by = record { begun = is; proxy = proxy; here = here };
        stage = settled w b g law quiet t.0 is;
        end = (law.stages t.0).proxy_end r is (ap (router_at w) proxy ∙ here);
      }

  -- a side of a link whose router is known: it stands there, or has given the link up
  side_stands : (link : LinkId) (s : Side) (k : Key) → side_router g link s ≡ Some k →
      ((z : Router) × (router_at w k ≡ Some z) × (is_attached link s z ≡ true)) ⊎ (is_gone (view w g link s) ≡ true)
  unfolding view_by router_view is_gone
  side_stands link s k known = go (router_at w k) refl
    where
      go : (o : Option Router) → router_at w k ≡ o →
          ((z : Router) × (router_at w k ≡ Some z) × (is_attached link s z ≡ true)) ⊎ (is_gone (view w g link s) ≡ true)
      go None e = inr (rw (known, e) refl)
      go (Some z) e = at (is_attached link s z) refl
        where
          at : (c : Bool) → is_attached link s z ≡ c →
              ((z : Router) × (router_at w k ≡ Some z) × (is_attached link s z ≡ true)) ⊎ (is_gone (view w g link s) ≡ true)
          at true f = inl (z, e, f)
          at false f = inr (rw (known, e, f) refl)

  module _ (k : Key) (r : Router) (there : router_at w k ≡ Some r) (is : HasBegun k r) where
    abbrev o : ℕ
    o = is.old

    at_proxy : router_at w (g.bypass o).proxy ≡ Some r
    at_proxy = ap (router_at w) is.by.proxy ∙ there

    pub record StandsOver (link : LinkId) (s : Side) : Type 0 where
      pub key : Key
      pub router : Router
      pub here : router_at w key ≡ Some router
      pub end : LinkEnd
      pub decaying : router.outward.decaying ≡ Some end
      pub on_link : end.link ≡ link
      pub at_side : end.side ≡ s
      pub primary : is_some router.outward.primary ≡ true
      pub attached : is_attached link s router ≡ true

    -- the router across the old link has finished with it, or stands on it with its decaying one
    pub across_stands : StandsOver (Central o) (across_side g o) ⊎ ((g.bypass o).taken_at ≤ r.out_queue.current)
    unfolding is_attached
    across_stands =
        let q = some_is (side_router g (Central o) (across_side g o)) ((law.bypasses o).across is.by.begun) in
        elim (side_stands (Central o) (across_side g o) q.0 q.1) [
          | inl t ↦ inl (stands q.0 t.0 t.1 t.2)
          | inr gone ↦ inr (law.proxy_numbers.across_gone o r at_proxy (omega (arith, is.stage)) gone)
        ]
      where
        stands : (q : Key) (z : Router) → router_at w q ≡ Some z → is_attached (Central o) (across_side g o) z ≡ true →
            StandsOver (Central o) (across_side g o)
        stands q z at on = go (has_primary (Central o) (across_side g o) z) refl
          where
            go : (c : Bool) → has_primary (Central o) (across_side g o) z ≡ c → StandsOver (Central o) (across_side g o)
            go true e =
                let d : HasEnd z.outward.primary (Central o) (across_side g o) = has_link-tells z.outward.primary (Central o)
                (across_side g o) e in
                absurd (omega (arith, is.stage, ((positions-in law).each q z at).primary_old d.end o d.there d.on_link is.by.begun))
            go false e =
                let h : has_decaying (Central o) (across_side g o) z ≡ true = or_second _ _ on e in
                let d : HasEnd z.outward.decaying (Central o) (across_side g o) = has_link-tells z.outward.decaying (Central o)
                (across_side g o) h in
                record {
                  key = q;
                  router = z;
                  here = at;
                  end = d.end;
                  decaying = d.there;
                  on_link = d.on_link;
                  at_side = d.at_side;
                  primary = some (link_in z.outward.primary) z.outward.primary
                      (((positions-in law).each q z at).across_fresh d.end o d.there d.on_link d.at_side) refl;
                  attached = on;
                }
              where
                some : (l : Option LinkId) (p : Option LinkEnd) → l ≡ Some (Central (g.bypass o).fresh) → link_in p ≡ l → is_some p ≡ true
                some l None a b = absurd (none-some (Central (g.bypass o).fresh) (b ∙ a))
                some l (Some x) a b = refl

    -- and so with the router inward
    pub inner_stands : StandsOver (inner_of g o) B ⊎ ((g.bypass o).accepted_at ≤ r.in_queue.current)
    unfolding is_attached
    inner_stands =
        let q = some_is (side_router g (inner_of g o) B) ((law.bypasses o).inner_known (omega (arith, is.stage))) in
        elim (side_stands (inner_of g o) B q.0 q.1) [
          | inl t ↦ inl (stands q.0 t.0 t.1 t.2)
          | inr gone ↦ inr (law.proxy_numbers.inner_gone o r at_proxy is.stage gone)
        ]
      where
        stands : (q : Key) (z : Router) → router_at w q ≡ Some z → is_attached (inner_of g o) B z ≡ true → StandsOver (inner_of g o) B
        stands q z at on = go (has_primary (inner_of g o) B z) refl
          where
            by : (g.peripheral (g.bypass o).inner).by ≡ Some o
            by = (law.bypasses o).inner_by is.by.begun

            go : (c : Bool) → has_primary (inner_of g o) B z ≡ c → StandsOver (inner_of g o) B
            go true e =
                let d : HasEnd z.outward.primary (inner_of g o) B = has_link-tells z.outward.primary (inner_of g o) B e in
                absurd (omega (arith, is.stage, ((positions-in law).each q z at).primary_inner d.end (g.bypass o).inner o d.there d.on_link by))
            go false e =
                let h : has_decaying (inner_of g o) B z ≡ true = or_second _ _ on e in
                let d : HasEnd z.outward.decaying (inner_of g o) B = has_link-tells z.outward.decaying (inner_of g o) B h in
                record {
                  key = q;
                  router = z;
                  here = at;
                  end = d.end;
                  decaying = d.there;
                  on_link = d.on_link;
                  at_side = d.at_side;
                  primary = some (link_in z.outward.primary) z.outward.primary
                      (((positions-in law).each q z at).inner_fresh d.end (g.bypass o).inner o d.there d.on_link by) refl;
                  attached = on;
                }
              where
                some : (l : Option LinkId) (p : Option LinkEnd) → l ≡ Some (Central (g.bypass o).fresh) → link_in p ≡ l → is_some p ≡ true
                some l None a b = absurd (none-some (Central (g.bypass o).fresh) (b ∙ a))
                some l (Some x) a b = refl

    prime : (q : Key) (z : Router) → router_at w q ≡ Some z → is_some z.outward.primary ≡ true → is_begun_router z ≡ false
    prime q z at h = let e = some_is z.outward.primary h in
        not_begun q z e.0.link e.0.side at (ap (λ p. has_link p e.0.link e.0.side) e.1 ∙ has_link-some e.0 e.0.link e.0.side refl refl)

    -- what its queues lack below their lengths the terminals lack
    pub begun_out_lacks : (m : ℕ) → m < (g.bypass o).taken_at → Lacks r.out_queue m → IsLacked w (opposite_end r.end) m
    unfolding sending_queue fed_queue side_end is_attached
    begun_out_lacks m below lacks = elim across_stands [
      | inr passed ↦ absurd (omega (arith, passed, lacks.current, below))
      | inl x ↦ go x r.outward.decaying refl
    ]
      where
        go : StandsOver (Central o) (across_side g o) → (d : Option LinkEnd) → r.outward.decaying ≡ d → IsLacked w (opposite_end r.end) m
        go x None e = absurd (omega (arith, lacks.current, below, law.proxy_numbers.out_finished o r at_proxy (omega (arith, is.stage)) e))
        go x (Some d) e =
            let n = bypassed.proxy-outward law is.by d e in
            let rec = ((links-in law) x.key x.router x.here).decaying x.end x.decaying in
            let far : x.router.end ≡ end_at (g.central o).pair (across_side g o) =
            rec.end ∙ ap (λ z. side_end g z x.end.side) x.on_link ∙ ap (λ z. side_end g (Central o) z) x.at_side in
            subst (λ d. IsLacked w d m) (far ∙ ap (λ p. end_at p (across_side g o)) (sym ((law.bypasses o).pair is.by.begun)) ∙ sym
            (ap opposite_end is.end))
            (inward_lacks ranked.limit x.key x.router m x.here (prime x.key x.router x.here x.primary) (omega arith)
            (hop (Central o) (across_side g o) k x.key r x.router m there x.here
            (subst (λ s. outward_has r (Central o) s ≡ true) (sym (opposite-twice (proxy_side g o)))
            (or_right (has_link r.outward.primary (Central o) (proxy_side g o)) (has_link r.outward.decaying (Central o) (proxy_side g o))
            (ap (λ p. has_link p (Central o) (proxy_side g o)) e ∙ has_link-some d (Central o) (proxy_side g o) n.link n.side)))
            x.attached
            (ap (λ s. has_passed (side_length g (Central o) s) m) (opposite-twice (proxy_side g o))
            ∙ ap (λ l. has_passed l m) (length-proxy g o (omega (arith, is.stage))) ∙ has_passed-some (g.bypass o).taken_at m ∙ short m
            (g.bypass o).taken_at below)
            lacks))
          where
            short : (m n : ℕ) → m < n → nat_le n m ≡ false
            short m n l = grind (arith, nat_tests, l)

    pub begun_in_lacks : (m : ℕ) → m < (g.bypass o).accepted_at → Lacks r.in_queue m → IsLacked w r.end m
    unfolding sending_queue fed_queue side_end is_attached
    begun_in_lacks m below lacks = elim inner_stands [
      | inr passed ↦ absurd (omega (arith, passed, lacks.current, below))
      | inl x ↦ go x (inward_edge r).decaying refl
    ]
      where
        go : StandsOver (inner_of g o) B → (d : Option LinkEnd) → (inward_edge r).decaying ≡ d → IsLacked w r.end m
        go x None e = absurd (omega (arith, lacks.current, below, law.proxy_numbers.in_finished o r at_proxy (omega (arith, is.stage)) e))
        go x (Some d) e =
            let n = bypassed.proxy-inward law is.by d e in
            let rec = ((links-in law) x.key x.router x.here).decaying x.end x.decaying in
            let far : x.router.end ≡ side_end g (inner_of g o) B =
            rec.end ∙ ap (λ z. side_end g z x.end.side) x.on_link in
            subst (λ d. IsLacked w d m) (far ∙ sym is.end)
            (inward_lacks ranked.limit x.key x.router m x.here (prime x.key x.router x.here x.primary) (omega arith)
            (hop (inner_of g o) B k x.key r x.router m there x.here
            (or_right (has_link (inward_edge r).primary (inner_of g o) A) (has_link (inward_edge r).decaying (inner_of g o) A)
            (ap (λ p. has_link p (inner_of g o) A) e ∙ has_link-some d (inner_of g o) A n.link n.side))
            x.attached
            (ap (λ l. has_passed l m)
            (length-inward g (g.bypass o).inner o ((law.bypasses o).inner_by is.by.begun) (omega (arith, is.stage)))
            ∙ has_passed-some (g.bypass o).accepted_at m ∙ short m (g.bypass o).accepted_at below)
            lacks))
          where
            short : (m n : ℕ) → m < n → nat_le n m ≡ false
            short m n l = grind (arith, nat_tests, l)

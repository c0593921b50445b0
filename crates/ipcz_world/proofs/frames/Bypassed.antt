-- The proxy of a bypass: which links it still has, and who sees it there.
use Rattle.ipcz_world.proofs.frames.RolesTell.{links-in, positions-in}
use Rattle.std.specs.Prelude.{◌≡◌, ◌⊎◌, ◌≤◌, ℕ, Bool, true, false, nat_le, Option, Some, None, is_some, refl}
use Rattle.std.proofs.Common.{arith, sym, ◌∙◌, ap, inl, inr}
use Rattle.std.proofs.lemmas.Bool.Decides.{nat_tests}
use Rattle.std.proofs.lemmas.Option.{same_Some}
use Rattle.ipcz_world.proofs.Vocabulary.{Side, A, B, LinkId, Central, Peripheral, LinkEnd, has_link, Router, inward_edge, World, Key, router_at}
use Rattle.ipcz_world.proofs.Vocabulary.{Books, Records, inner_link, bypass_of, is_begun, proxy_side, across_side, Standing, view, is_attached}
use Rattle.ipcz_world.proofs.Vocabulary.{is_outward, inner_of, Inv, is_begun_router}
use Rattle.ipcz_world.proofs.frames.RecordRules.{bypass_of-inner}
use Rattle.ipcz_world.proofs.frames.StandingRules.{standing_rules}
use Rattle.ipcz_world.proofs.facts.LinkTests.{side_is, has_link-is}
use Rattle.ipcz_world.proofs.frames.BegunLengths.{begun-bypass_of}
use Rattle.ipcz_world.proofs.facts.Lengths.{view-standing}

-- a link end names this link at this side
pub record Names (e : LinkEnd) (l : LinkId) (s : Side) : Type 0 where
  pub link : e.link ≡ l
  pub side : e.side ≡ s

-- the router of a bypassed proxy
pub record IsBypassed (w : World) (g : Records) (o : ℕ) (k : Key) (q : Router) : Type 0 where
  pub begun : is_begun (g.bypass o) ≡ true
  pub proxy : (g.bypass o).proxy ≡ k
  pub here : router_at w k ≡ Some q

pub proxy-begun : {w : World} {b : Books} {g : Records} {o : ℕ} {k : Key} {q : Router} → Inv w b g → IsBypassed w g o k q →
    g.begun k ≡ Some o
proxy-begun {g = g} {o = o} law is = ap g.begun (sym is.proxy) ∙ law.begun.proxy_begun o is.begun

pub proxy-role : {w : World} {b : Books} {g : Records} {o : ℕ} {k : Key} {q : Router} → Inv w b g → IsBypassed w g o k q →
    is_begun_router q ≡ true
proxy-role {w} {g = g} {o = o} {q = q} law is = (law.stages o).proxy_begun q is.begun (ap (router_at w) is.proxy ∙ is.here)

-- it has no primary link
pub proxy-alone : {w : World} {b : Books} {g : Records} {o : ℕ} {k : Key} {q : Router} → Inv w b g → IsBypassed w g o k q →
    q.outward.primary ≡ None
proxy-alone {k = k} {q = q} law is = go q.outward.primary refl
  where
    go : (p : Option LinkEnd) → q.outward.primary ≡ p → q.outward.primary ≡ None
    go None e = e
    go (Some x) e = absurd (grind (arith, (law.shape k q is.here).role, proxy-role law is, e))

pub proxy-unprimed : {w : World} {b : Books} {g : Records} {o : ℕ} {k : Key} {q : Router} → Inv w b g → IsBypassed w g o k q →
    (inward_edge q).primary ≡ None
proxy-unprimed {k = k} {q = q} law is = go (inward_edge q).primary refl
  where
    go : (p : Option LinkEnd) → (inward_edge q).primary ≡ p → (inward_edge q).primary ≡ None
    go None e = e
    go (Some x) e = absurd (grind (arith, proxy-role law is, e))

-- its outward decaying link is the old one
pub proxy-outward : {w : World} {b : Books} {g : Records} {o : ℕ} {k : Key} {q : Router} → Inv w b g → IsBypassed w g o k q →
    (e : LinkEnd) → q.outward.decaying ≡ Some e → Names e (Central o) (proxy_side g o)
proxy-outward {w} {b} {g} {o} {k} {q} law is e h = go e.link refl
  where
    by_of : (p : Key) (m : Option ℕ) → (g.peripheral p).by ≡ m → is_some (g.peripheral p).by ≡ true → e.link ≡ inner_link p →
        Names e (Central o) (proxy_side g o)
    by_of p None a f l = absurd (grind (arith, a, f))
    by_of p (Some j) a f l = absurd (grind (arith, ((positions-in law).each k q is.here).inner_fresh e p j h l a, proxy-alone law is))

    on : (j : ℕ) → e.link ≡ Central j → is_begun (g.bypass j) ≡ true → (e.side ≡ proxy_side g j) ⊎ (e.side ≡ across_side g j) →
        Names e (Central o) (proxy_side g o)
    on j l f (inl s) =
        let a : g.begun k ≡ Some j = ap g.begun (sym (((positions-in law).each k q is.here).own_proxy e j h l s)) ∙ law.begun.proxy_begun j f in
        let m : j ≡ o = same_Some j o (sym a ∙ proxy-begun law is) in
        record { link = l ∙ ap Central m; side = s ∙ ap (proxy_side g) m }
    on j l f (inr s) = absurd (grind (arith, ((positions-in law).each k q is.here).across_fresh e j h l s, proxy-alone law is))

    go : (l : LinkId) → e.link ≡ l → Names e (Central o) (proxy_side g o)
    go (Central j) l = on j l (begun-bypass_of g j (sym (ap (λ x. is_some (bypass_of g x)) l) ∙ ((positions-in law).each k q is.here).decaying e h))
        (side_is e.side (proxy_side g j))
    go (Peripheral n x) l = by_of (record { node = n; serial = x }) (g.peripheral (record { node = n; serial = x })).by refl
        (grind (arith, bypass_of-inner g (record { node = n; serial = x }), l, ((positions-in law).each k q is.here).decaying e h)) l

-- its inward decaying link is the inner one
pub inward-names : {w : World} {b : Books} {g : Records} {o : ℕ} {k : Key} {q : Router} → Inv w b g → router_at w k ≡ Some q →
    g.begun k ≡ Some o → (e : LinkEnd) → (inward_edge q).decaying ≡ Some e → Names e (inner_of g o) A
unfolding is_outward
inward-names {w} {b} {g} {o} {k} {q} law here begun e h = go e.link e.side refl refl
  where
    go : (l : LinkId) (s : Side) → e.link ≡ l → e.side ≡ s → Names e (inner_of g o) A
    go (Central j) s l t = absurd (grind (arith, ((links-in law) k q here).inward_decaying_inward e h, l))
    go (Peripheral n x) B l t = absurd (grind (arith, ((links-in law) k q here).inward_decaying_inward e h, l, t))
    go (Peripheral n x) A l t =
        let a : (g.peripheral (record { node = n; serial = x })).by ≡ Some o =
        grind (arith, bypass_of-inner g (record { node = n; serial = x }), l, ((positions-in law).each k q here).inward_decaying e h, begun) in
        record { link = l ∙ ap inner_link (sym (law.stands.by_inner (record { node = n; serial = x }) o a)); side = t }

pub proxy-inward : {w : World} {b : Books} {g : Records} {o : ℕ} {k : Key} {q : Router} → Inv w b g → IsBypassed w g o k q → (e : LinkEnd) →
    (inward_edge q).decaying ≡ Some e → Names e (inner_of g o) A
proxy-inward law is e h = inward-names law is.here (proxy-begun law is) e h

-- while it has the old link, it is seen there
pub proxy-seen : {w : World} {b : Books} {g : Records} {o : ℕ} {k : Key} {q : Router} → Inv w b g → IsBypassed w g o k q → (e : LinkEnd) →
    q.outward.decaying ≡ Some e → view w g (Central o) (proxy_side g o) ≡ Standing q
unfolding is_attached
proxy-seen {w} {b} {g} {o} {k} {q} law is e h = let n : Names e (Central o) (proxy_side g o) = proxy-outward law is e h in
    view-standing w g (Central o) (proxy_side g o) k q ((law.bypasses o).proxy_old is.begun ∙ ap Some is.proxy) is.here
    (grind (arith, has_link-is q.outward.decaying e (Central o) (proxy_side g o) h n.link n.side))

pub proxy-seen_inward : {w : World} {b : Books} {g : Records} {o : ℕ} {k : Key} {q : Router} → Inv w b g → IsBypassed w g o k q →
    (e : LinkEnd) → (inward_edge q).decaying ≡ Some e → view w g (inner_of g o) A ≡ Standing q
unfolding is_attached
proxy-seen_inward {w} {b} {g} {o} {k} {q} law is e h = let n : Names e (inner_of g o) A = proxy-inward law is e h in
    view-standing w g (inner_of g o) A k q ((law.bypasses o).proxy_inner is.begun ∙ ap Some is.proxy) is.here
    (grind (arith, has_link-is (inward_edge q).decaying e (inner_of g o) A h n.link n.side))

-- it gives neither up before it is told
pub proxy-late : {w : World} {b : Books} {g : Records} {o : ℕ} {k : Key} {q : Router} → Inv w b g → IsBypassed w g o k q →
    q.outward.decaying ≡ None → 4 ≤ (g.bypass o).stage
unfolding has_link
proxy-late {g = g} {o = o} law is h = go (nat_le 4 (g.bypass o).stage) refl
  where
    go : (c : Bool) → nat_le 4 (g.bypass o).stage ≡ c → 4 ≤ (g.bypass o).stage
    go true e = grind (arith, e, nat_tests)
    go false e = absurd (grind (arith, standing_rules, (law.stages o).proxy_old is.begun (grind (arith, e, nat_tests)), is.proxy, is.here, h))

pub proxy-late_inward : {w : World} {b : Books} {g : Records} {o : ℕ} {k : Key} {q : Router} → Inv w b g → IsBypassed w g o k q →
    (inward_edge q).decaying ≡ None → 4 ≤ (g.bypass o).stage
unfolding has_link
proxy-late_inward {g = g} {o = o} law is h = go (nat_le 4 (g.bypass o).stage) refl
  where
    go : (c : Bool) → nat_le 4 (g.bypass o).stage ≡ c → 4 ≤ (g.bypass o).stage
    go true e = grind (arith, e, nat_tests)
    go false e = absurd (grind (
      arith,
      standing_rules,
      (law.stages o).proxy_inner is.begun (grind (arith, e, nat_tests)),
      is.proxy,
      is.here,
      h,
    ))

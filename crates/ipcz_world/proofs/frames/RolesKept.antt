-- A router that is as it was has its role still, where the records know its links as they did and its bypass isn't another for it.
use Rattle.std.specs.Prelude.{◌≡◌, ◌≤◌, ℕ, Bool, true, false, Option, Some, None, option_map, is_some, unwrap_or, refl}
use Rattle.std.proofs.Common.{ap, ◌∙◌, sym, arith, subst}
use Rattle.std.proofs.lemmas.Bool.Decides.{nat_tests}
use Rattle.ipcz_world.proofs.Vocabulary.{Side, A, B, End, LinkId, Central, Router, World, Key, Records, BypassRecords, Stands, inner_link, is_begun, inner_of}
use Rattle.ipcz_world.proofs.Vocabulary.{is_recorded, side_node, side_router, side_end, bypass_of, proxy_side, known_from, fresh_of, opposite, across_side, no_edge}
use Rattle.ipcz_world.proofs.frames.RecordRules.{is_recorded-central}
use Rattle.ipcz_world.proofs.frames.Unmoved.{Agree, side_node-agree, side_end-agree}
use Rattle.ipcz_world.proofs.frames.Roles.{Outward, On, Across, Inward, Role, Unbegun, Begun, end_of, outward_of, inward_of, until, IsOn, FitsOut, Fits}
use Rattle.ipcz_world.proofs.frames.Roles.{HasRole, standing_edge, link_of, side_of, lone, old_edge, inner_edge, edge_at, until-same, begun-by, trim}

-- the records know each link that was recorded as they did, and what a bypass that had begun is about
pub record Knows (w v : World) (g h : Records) : Type 0 where
  pub recorded : (l : LinkId) → is_recorded w g l ≡ true → is_recorded v h l ≡ true
  pub router : (l : LinkId) (s : Side) (q : Key) → is_recorded w g l ≡ true → side_router g l s ≡ Some q → side_router h l s ≡ Some q
  pub node : (l : LinkId) (s : Side) → is_recorded w g l ≡ true → side_node h l s ≡ side_node g l s
  pub end : (l : LinkId) (s : Side) → is_recorded w g l ≡ true → side_end h l s ≡ side_end g l s
  pub fresh : (o : ℕ) → is_begun (g.bypass o) ≡ true → (h.bypass o).fresh ≡ (g.bypass o).fresh
  pub inner : (o : ℕ) → is_begun (g.bypass o) ≡ true → (h.bypass o).inner ≡ (g.bypass o).inner
  pub stage : (o : ℕ) → (g.bypass o).stage ≤ (h.bypass o).stage

-- so do records that agree but for how far bypasses are, if no known router is another
pub knows-agree : {w v : World} {g h : Records} → Agree g h → ((l : LinkId) → is_recorded v h l ≡ is_recorded w g l) →
    ((l : LinkId) (s : Side) (q : Key) → side_router g l s ≡ Some q → side_router h l s ≡ Some q) →
    ((o : ℕ) → (g.bypass o).stage ≤ (h.bypass o).stage) → Knows w v g h
knows-agree {g = g} {h = h} agree recorded router stage = record {
  recorded = λ l e. recorded l ∙ e;
  router = λ l s q a. router l s q;
  node = λ l s a. side_node-agree g h agree l s;
  end = λ l s a. side_end-agree g h agree l s;
  fresh = λ o b. agree.fresh o;
  inner = λ o b. agree.inner o;
  stage = stage;
}

-- what a router's role reads of bypasses is as it was
pub record Keeps (w : World) (g h : Records) (q : Key) : Type 0 where
  pub stays : (d : End) (l : LinkId) (s : Side) → IsOn w g q d l s → (o : ℕ) → bypass_of h l ≡ Some o → (h.bypass o).stage ≤ until h o l s
  pub begun : (o : ℕ) → g.begun q ≡ Some o → h.begun q ≡ Some o
  pub across : (o : ℕ) → FitsOut g q (Across o) →
      ((h.bypass o).accepted_at ≡ (g.bypass o).accepted_at) × ((h.bypass o).taken_at ≡ (g.bypass o).taken_at)
  pub inward : (o : ℕ) → FitsOut g q (Inward o) → ((h.bypass o).taken_at ≡ (g.bypass o).taken_at) ×
      (known_from 5 (h.bypass o).stage (h.bypass o).accepted_at ≡ known_from 5 (g.bypass o).stage (g.bypass o).accepted_at)
  pub proxy : (o : ℕ) → g.begun q ≡ Some o →
      (known_from 4 (h.bypass o).stage (h.bypass o).taken_at ≡ known_from 4 (g.bypass o).stage (g.bypass o).taken_at) ×
      (known_from 4 (h.bypass o).stage (h.bypass o).accepted_at ≡ known_from 4 (g.bypass o).stage (g.bypass o).accepted_at)

-- so it is if no bypass is another, and no link is taken away that wasn't
pub keeps-same : {w : World} {g h : Records} (q : Key) → ((o : ℕ) → h.bypass o ≡ g.bypass o) → ((k : Key) → h.begun k ≡ g.begun k) →
    ((l : LinkId) → bypass_of h l ≡ bypass_of g l) → ((o : ℕ) → is_begun (g.bypass o) ≡ true → proxy_side h o ≡ proxy_side g o) →
    Stands w g → Keeps w g h q
keeps-same {g = g} {h = h} q same begun by side stands = record {
  stays = λ d l s on o e. let was = sym (by l) ∙ e in
      rw (until-same g h o l s (side o (begun-by stands l o was)), same o) (on.stays o was);
  begun = λ o n. begun q ∙ n;
  across = λ o f. rw (same o) (refl, refl);
  inward = λ o f. rw (same o) (refl, refl);
  proxy = λ o f. rw (same o) (refl, refl);
}

module _ {w v : World} {g h : Records} (knows : Knows w v g h) where
  pub on-kept : {q : Key} {d : End} {l : LinkId} {s : Side} → IsOn w g q d l s →
      ((o : ℕ) → bypass_of h l ≡ Some o → (h.bypass o).stage ≤ until h o l s) → IsOn v h q d l s
  on-kept {q} {d} {l} {s} on stays = record {
    recorded = knows.recorded l on.recorded;
    router = knows.router l s q on.recorded on.router;
    end = on.end ∙ sym (knows.end l s on.recorded);
    stays = stays;
  }

  pub end-kept : (l : LinkId) (s : Side) → is_recorded w g l ≡ true → end_of h l s ≡ end_of g l s
  end-kept l s r = λ t. record { link = l; side = s; other = knows.node l (opposite s) r t }

  -- the inner link of a proxy that stands
  pub inward-kept : {q : Key} (d : End) (i : Option Key) → ((p : Key) → i ≡ Some p → IsOn w g q d (inner_link p) A) →
      lone (option_map (λ p. end_of h (inner_link p) A) i) ≡ lone (option_map (λ p. end_of g (inner_link p) A) i)
  inward-kept d None on = refl
  inward-kept d (Some p) on = ap (λ e. lone (Some e)) (end-kept (inner_link p) A (on p refl).recorded)

module _ {w v : World} {g h : Records} (knows : Knows w v g h) (bypasses : BypassRecords w g)
    (begun_stage : (k : Key) (o : ℕ) → g.begun k ≡ Some o → is_begun (g.bypass o) ≡ true) where
  since : (o n : ℕ) → 1 ≤ n → n ≤ (g.bypass o).stage → is_begun (g.bypass o) ≡ true
  since o n one h = grind (arith, one, h, nat_tests)

  -- what stays of a bypass that has begun
  record IsSame (o : ℕ) : Type 0 where
    fresh : (h.bypass o).fresh ≡ (g.bypass o).fresh
    inner : (h.bypass o).inner ≡ (g.bypass o).inner
    inner_end : (h.peripheral (h.bypass o).inner).end ≡ (g.peripheral (g.bypass o).inner).end
    old : is_recorded w g (Central o) ≡ true
    into : is_recorded w g (inner_of g o) ≡ true

  same : (o : ℕ) → is_begun (g.bypass o) ≡ true → IsSame o
  unfolding side_end
  same o b = record {
    fresh = knows.fresh o b;
    inner = knows.inner o b;
    inner_end = ap (λ i. (h.peripheral i).end) (knows.inner o b) ∙ knows.end (inner_of g o) A ((bypasses o).inner b);
    old = is_recorded-central w g o ∙ (bypasses o).old b;
    into = (bypasses o).inner b;
  }

  module _ {q : Key} (keeps : Keeps w g h q) where
    stand : (d : End) (a : Outward) → IsOn w g q d (link_of g a) (side_of g a) → FitsOut g q a →
        (standing_edge h a ≡ standing_edge g a) × (link_of h a ≡ link_of g a) × (side_of h a ≡ side_of g a) × FitsOut h q a
    stand d (On l s) on f = (ap (λ e. lone (Some e)) (end-kept knows l s on.recorded), refl, refl, f)
    stand d (Across o) on f = let c = same o (since o 3 (omega arith) f.0) in let e = keeps.across o f in
        rw (ap (λ t. t.side) c.inner_end, c.fresh, e.0, e.1) (
          (λ t. edge_at (Some (end-kept knows (fresh_of g o) (across_side g o) on.recorded t))
              (end-kept knows (Central o) (across_side g o) c.old t) (Some (g.bypass o).accepted_at) (Some (g.bypass o).taken_at)),
          refl,
          refl,
          (omega (arith, f.0, knows.stage o), knows.router (Central o) (across_side g o) q c.old f.1),
        )
    stand d (Inward o) on f = let c = same o (since o 2 (omega arith) f.0) in let e = keeps.inward o f in
        rw (ap (λ t. t.side) c.inner_end, c.fresh, e.0, e.1, c.inner) (
          (λ t. edge_at
              (Some (end-kept knows (fresh_of g o) (proxy_side g o) on.recorded t)) (end-kept knows (inner_of g o) B c.into t) (Some (g.bypass o).taken_at)
              (known_from 5 (g.bypass o).stage (g.bypass o).accepted_at)),
          refl,
          refl,
          (omega (arith, f.0, knows.stage o), knows.router (inner_of g o) B q c.into f.1),
        )

    old-kept : (o : ℕ) (x : Bool) → g.begun q ≡ Some o → old_edge h o x ≡ old_edge g o x
    old-kept o false b = refl
    old-kept o true b = let c = same o (begun_stage q o b) in let e = keeps.proxy o b in rw (ap (λ t. t.side) c.inner_end, e.0, e.1)
        (λ t. edge_at None (end-kept knows (Central o) (proxy_side g o) c.old t) (known_from 4 (g.bypass o).stage (g.bypass o).taken_at)
        (known_from 4 (g.bypass o).stage (g.bypass o).accepted_at))

    inner-kept : (o : ℕ) (x : Bool) → g.begun q ≡ Some o → inner_edge h o x ≡ inner_edge g o x
    inner-kept o false b = refl
    inner-kept o true b = let c = same o (begun_stage q o b) in let e = keeps.proxy o b in rw (c.inner, e.0, e.1)
        (λ t. edge_at None (end-kept knows (inner_of g o) A c.into t) (known_from 4 (g.bypass o).stage (g.bypass o).accepted_at)
        (known_from 4 (g.bypass o).stage (g.bypass o).taken_at))

    kept : (d : End) (a : Role) → Fits w g q d a →
        (outward_of h a ≡ outward_of g a) × (inward_of h a ≡ inward_of g a) × Fits v h q d a
    kept d (Unbegun a i) f = let s = stand d a f.0 f.1 in (
      s.0,
      inward-kept knows d i f.2,
      (
        rw (s.1, s.2) (on-kept knows f.0 (keeps.stays d _ _ f.0)),
        s.3,
        λ p e. on-kept knows (f.2 p e) (keeps.stays d (inner_link p) A (f.2 p e)),
      ),
    )
    kept d (Begun o x z) f = let c = same o (begun_stage q o f.0) in
        (old-kept o x f.0, inner-kept o z f.0, (keeps.begun o f.0, f.1 ∙ sym c.inner_end))

    pub role-kept : (z : Router) → HasRole w g q z → HasRole v h q z
    role-kept z c = let s = kept z.end c.role c.fits in
        record { role = c.role; proxy = c.proxy; outward = c.outward ∙ sym s.0; inward = c.inward ∙ sym s.1; fits = s.2 }

-- a role is the same in another world with the same links
pub role-in : {w v : World} {g : Records} {q : Key} {z : Router} → ((l : LinkId) → is_recorded v g l ≡ is_recorded w g l) → HasRole w g q z →
    HasRole v g q z
role-in {w} {v} {g} {q} {z} same c = record { role = c.role; proxy = c.proxy; outward = c.outward; inward = c.inward; fits = fits c.role c.fits }
  where
    on : {l : LinkId} {s : Side} → IsOn w g q z.end l s → IsOn v g q z.end l s
    on {l} f = record { recorded = same l ∙ f.recorded; router = f.router; end = f.end; stays = f.stays }

    fits : (a : Role) → Fits w g q z.end a → Fits v g q z.end a
    fits (Unbegun a i) f = (on f.0, f.1, λ p e. on (f.2 p e))
    fits (Begun o x y) f = f

-- and of a router with the same end and edges
pub role-alike : {w : World} {g : Records} {q : Key} {z y : Router} → y.end ≡ z.end → y.outward ≡ z.outward → y.inward ≡ z.inward →
    HasRole w g q z → HasRole w g q y
role-alike {w} {g} {q} end outward inward c = record {
  role = c.role;
  proxy = ap is_some inward ∙ c.proxy;
  outward = ap trim outward ∙ c.outward;
  inward = ap (λ t. trim (unwrap_or t no_edge)) inward ∙ c.inward;
  fits = subst (λ e. Fits w g q e c.role) (sym end) c.fits;
}

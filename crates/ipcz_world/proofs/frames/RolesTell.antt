-- A router that has the edges of its role has its links as they are recorded, and each where its bypass says.
use Rattle.std.specs.Prelude.{◌≡◌, ◌≤◌, ℕ, Bool, true, false, Option, Some, None, is_some, refl}
use Rattle.std.proofs.Common.{ap, ◌∙◌, sym, subst, arith, inl, inr}
use Rattle.std.proofs.lemmas.Bool.Decides.{nat_tests}
use Rattle.std.proofs.lemmas.Option.{same_Some, none-some}
use Rattle.ipcz_base.specs.Ends.{end_at}
use Rattle.ipcz_world.proofs.Vocabulary.{Side, A, B, LinkId, Central, LinkEnd, Router, is_proxy}
use Rattle.ipcz_world.proofs.Vocabulary.{inward_edge, World, Key, Books, Inv, Records, inner_link, side_end, bypass_of}
use Rattle.ipcz_world.proofs.Vocabulary.{proxy_side, across_side, known_from, is_outward, inner_of, fresh_of, IsRecorded, is_begun, BypassRecords}
use Rattle.ipcz_world.proofs.Vocabulary.{Stands, HasLinks, HasPositions, Links, Positions, link_in, is_begun_router}
use Rattle.ipcz_world.proofs.frames.RecordRules.{bypass_of-inner, is_recorded-central, record_rules}
use Rattle.ipcz_world.proofs.facts.Lengths.{same_side-itself, same_side-opposite}
use Rattle.ipcz_world.proofs.facts.LinkTests.{inward_link, side_is}
use Rattle.ipcz_world.proofs.frames.Roles.{On, Across, Inward, Role, Unbegun, Begun, end_of, outward_of, inward_of, until, IsOn, Fits}
use Rattle.ipcz_world.proofs.frames.Roles.{HasRole, begun-by, trim, trim-tells, has_inner, BegunRecords, Roles}

module _ {w : World} {g : Records} (bypasses : BypassRecords w g) (stands : Stands w g) (begun : BegunRecords g) where
  pair-fresh : (o : ℕ) (s : Side) → 2 ≤ (g.bypass o).stage → side_end g (fresh_of g o) s ≡ side_end g (Central o) s
  unfolding side_end
  pair-fresh o s l = ap (λ n. end_at n s) ((bypasses o).fresh_pair l)

  pair-inner : (o : ℕ) → is_begun (g.bypass o) ≡ true → side_end g (inner_of g o) A ≡ side_end g (Central o) (proxy_side g o)
  unfolding side_end
  pair-inner o b = ap (λ n. end_at n (proxy_side g o)) ((bypasses o).pair b)

  inner-end : (p : Key) (s : Side) → side_end g (inner_link p) s ≡ (g.peripheral p).end
  unfolding side_end
  inner-end p s = refl

  one-by : (l : LinkId) (o : ℕ) → bypass_of g l ≡ Some o → 1 ≤ (g.bypass o).stage
  one-by l o e = grind (arith, begun-by stands l o e, nat_tests)

  module _ (k : Key) (r : Router) where
    -- a link end is recorded, and outward or inward
    record IsAt (b : Bool) (e : LinkEnd) : Type 0 where
      recorded : IsRecorded w g k r e
      outward : is_outward e.link e.side ≡ b

    -- and no bypass takes it away yet
    record IsPrimary (b : Bool) (e : LinkEnd) : Type 0 where
      at : IsAt b e
      stays : (o : ℕ) → bypass_of g e.link ≡ Some o → (g.bypass o).stage ≤ until g o e.link e.side

    at-on : {b : Bool} {l : LinkId} {s : Side} (e : LinkEnd) → IsOn w g k r.end l s → is_outward l s ≡ b → Some (end_of g l s) ≡ Some e → IsPrimary b e
    at-on {b} {l} {s} e on out q = subst (IsPrimary b) (same_Some (end_of g l s) e q) (record {
      at = record { recorded = record { recorded = on.recorded; other = refl; router = on.router; end = on.end }; outward = out };
      stays = on.stays;
    })

    primary-at : (a : Role) (e : LinkEnd) → Fits w g k r.end a → (outward_of g a).primary ≡ Some e → IsPrimary true e
    unfolding is_outward
    primary-at (Unbegun (On l s) i) e f q = at-on e f.0 f.1 q
    primary-at (Unbegun (Across o) i) e f q = at-on e f.0 refl q
    primary-at (Unbegun (Inward o) i) e f q = at-on e f.0 refl q
    primary-at (Begun o true z) e f q = absurd (none-some e q)
    primary-at (Begun o false z) e f q = absurd (none-some e q)

    inward-at : (a : Role) (e : LinkEnd) → Fits w g k r.end a → (inward_of g a).primary ≡ Some e → IsPrimary false e
    unfolding is_outward
    inward-at (Unbegun a None) e f q = absurd (none-some e q)
    inward-at (Unbegun a (Some p)) e f q = at-on e (f.2 p refl) refl q
    inward-at (Begun o x true) e f q = absurd (none-some e q)
    inward-at (Begun o x false) e f q = absurd (none-some e q)

    -- which link decays outward
    data Decays (e : LinkEnd) : Type 0 where
      AtAcross : (o : ℕ) → e ≡ end_of g (Central o) (across_side g o) → 3 ≤ (g.bypass o).stage → r.outward.length_to ≡ Some (g.bypass o).accepted_at →
          r.outward.length_from ≡ Some (g.bypass o).taken_at → link_in r.outward.primary ≡ Some (fresh_of g o) → IsAt true e → Decays e
      AtInward : (o : ℕ) → e ≡ end_of g (inner_of g o) B → 2 ≤ (g.bypass o).stage → r.outward.length_to ≡ Some (g.bypass o).taken_at →
          r.outward.length_from ≡ known_from 5 (g.bypass o).stage (g.bypass o).accepted_at → link_in r.outward.primary ≡ Some (fresh_of g o) →
          IsAt true e → Decays e
      AtProxy : (o : ℕ) → e ≡ end_of g (Central o) (proxy_side g o) → g.begun k ≡ Some o →
          r.outward.length_to ≡ known_from 4 (g.bypass o).stage (g.bypass o).taken_at →
          r.outward.length_from ≡ known_from 4 (g.bypass o).stage (g.bypass o).accepted_at → r.outward.primary ≡ None → IsAt true e → Decays e

    decays : (a : Role) (e : LinkEnd) → Fits w g k r.end a → trim r.outward ≡ outward_of g a → r.outward.decaying ≡ Some e → Decays e
    unfolding is_outward
    decays (Unbegun (On l s) i) e f c q = absurd (none-some e (sym (ap (λ t. t.decaying) c) ∙ q))
    decays (Unbegun (Across o) i) e f c q = let t = trim-tells r.outward _ _ _ _ c in let s = same_Some _ e (sym t.decaying ∙ q) in
        AtAcross o (sym s) f.1.0 t.length_to t.length_from (ap link_in t.primary) (subst (IsAt true) s (record {
          recorded = record {
            recorded = is_recorded-central w g o ∙ (bypasses o).old (since o f.1.0);
            other = refl;
            router = f.1.1;
            end = f.0.end ∙ pair-fresh o (across_side g o) (omega (arith, f.1.0));
          };
          outward = refl;
        }))
      where
        since : (o : ℕ) → 3 ≤ (g.bypass o).stage → is_begun (g.bypass o) ≡ true
        since o h = grind (arith, h, nat_tests)
    decays (Unbegun (Inward o) i) e f c q = let t = trim-tells r.outward _ _ _ _ c in let s = same_Some _ e (sym t.decaying ∙ q) in
        AtInward o (sym s) f.1.0 t.length_to t.length_from (ap link_in t.primary) (subst (IsAt true) s (record {
          recorded = record {
            recorded = (bypasses o).inner (since o f.1.0);
            other = refl;
            router = f.1.1;
            end = f.0.end ∙ pair-fresh o (proxy_side g o) f.1.0 ∙ sym (pair-inner o (since o f.1.0)) ∙ inner-end _ A ∙ sym (inner-end _ B);
          };
          outward = refl;
        }))
      where
        since : (o : ℕ) → 2 ≤ (g.bypass o).stage → is_begun (g.bypass o) ≡ true
        since o h = grind (arith, h, nat_tests)
    decays (Begun o true z) e f c q = let t = trim-tells r.outward _ _ _ _ c in let s = same_Some _ e (sym t.decaying ∙ q) in
        let b = begun.begun_stage k o f.0 in
        AtProxy o (sym s) f.0 t.length_to t.length_from t.primary (subst (IsAt true) s (record {
          recorded = record {
            recorded = is_recorded-central w g o ∙ (bypasses o).old b;
            other = refl;
            router = (bypasses o).proxy_old b ∙ ap Some (begun.begun_proxy k o f.0);
            end = f.1 ∙ sym (inner-end _ A) ∙ pair-inner o b;
          };
          outward = refl;
        }))
    decays (Begun o false z) e f c q = absurd (none-some e (sym (ap (λ t. t.decaying) c) ∙ q))

    -- and inward
    record Into (e : LinkEnd) : Type 0 where
      old : ℕ
      has_begun : g.begun k ≡ Some old
      on_link : e.link ≡ inner_of g old
      to : (inward_edge r).length_to ≡ known_from 4 (g.bypass old).stage (g.bypass old).accepted_at
      from : (inward_edge r).length_from ≡ known_from 4 (g.bypass old).stage (g.bypass old).taken_at
      at : IsAt false e

    into : (a : Role) (e : LinkEnd) → Fits w g k r.end a → trim (inward_edge r) ≡ inward_of g a → (inward_edge r).decaying ≡ Some e → Into e
    unfolding is_outward
    into (Unbegun a i) e f c q = absurd (none-some e (sym (ap (λ t. t.decaying) c) ∙ q))
    into (Begun o x true) e f c q = let t = trim-tells (inward_edge r) _ _ _ _ c in let s = same_Some _ e (sym t.decaying ∙ q) in
        let b = begun.begun_stage k o f.0 in record {
          old = o;
          has_begun = f.0;
          on_link = ap (λ d. d.link) (sym s);
          to = t.length_to;
          from = t.length_from;
          at = subst (IsAt false) s (record {
            recorded = record {
              recorded = (bypasses o).inner b;
              other = refl;
              router = (bypasses o).proxy_inner b ∙ ap Some (begun.begun_proxy k o f.0);
              end = f.1 ∙ sym (inner-end _ A);
            };
            outward = refl;
          });
        }
    into (Begun o x false) e f c q = absurd (none-some e (sym (ap (λ t. t.decaying) c) ∙ q))

    -- the link of a bypass is primary until its stage, at one side
    central-until : (o : ℕ) (s : Side) → is_begun (g.bypass o) ≡ true → (g.bypass o).stage ≤ until g o (Central o) s →
        ((g.bypass o).stage ≤ 2) × (s ≡ across_side g o)
    central-until o s b h = elim (side_is s (proxy_side g o)) [
      | inl e ↦ absurd (grind (arith, e, same_side-itself (proxy_side g o), b, h, nat_tests))
      | inr e ↦ (grind (arith, e, same_side-opposite (proxy_side g o), h), e)
    ]

    inner-until : (o : ℕ) (p : Key) (s : Side) → is_outward (inner_link p) s ≡ true → 1 ≤ (g.bypass o).stage →
        (g.bypass o).stage ≤ until g o (inner_link p) s → (g.bypass o).stage ≡ 1
    unfolding is_outward
    inner-until o p A out b h = absurd (grind (arith, out))
    inner-until o p B out b h = omega (arith, b, h)

    no-inward : (e : LinkEnd) → IsPrimary false e → bypass_of g e.link ≡ None
    no-inward e at = let t = inward_link e.link e.side at.at.outward in go t.0 t.1 t.2 (bypass_of g e.link) refl
      where
        go : (p : Key) → e.link ≡ inner_link p → e.side ≡ A → (t : Option ℕ) → bypass_of g e.link ≡ t → t ≡ None
        go p l s None q = refl
        go p l s (Some o) q = absurd (omega (arith, rw (l, s) at (at.stays o q), one-by e.link o q))

    inner-decay : (e : LinkEnd) (p : Key) (o : ℕ) → Decays e → e.link ≡ inner_link p → (g.peripheral p).by ≡ Some o →
        (2 ≤ (g.bypass o).stage) × (r.outward.length_to ≡ Some (g.bypass o).taken_at) ×
        (r.outward.length_from ≡ known_from 5 (g.bypass o).stage (g.bypass o).accepted_at) ×
        (link_in r.outward.primary ≡ Some (fresh_of g o))
    inner-decay e p o (AtAcross j is st to from fresh at) l by = absurd (grind (arith, l, is))
    inner-decay e p o (AtProxy j is own to from none at) l by = absurd (grind (arith, l, is))
    inner-decay e p o (AtInward j is st to from fresh at) l by = let m : j ≡ o = same_Some j o
        (sym ((bypasses j).inner_by (grind (arith, st, nat_tests))) ∙ sym (bypass_of-inner g (g.bypass j).inner) ∙
        ap (bypass_of g) (sym (ap (λ d. d.link) is) ∙ l) ∙ bypass_of-inner g p ∙ by) in rw (← m) (st, to, from, fresh)

    own-decay : (e : LinkEnd) (o : ℕ) → Decays e → e.link ≡ Central o → e.side ≡ proxy_side g o →
        ((g.bypass o).proxy ≡ k) × (r.outward.primary ≡ None) ×
        (r.outward.length_to ≡ known_from 4 (g.bypass o).stage (g.bypass o).taken_at) ×
        (r.outward.length_from ≡ known_from 4 (g.bypass o).stage (g.bypass o).accepted_at)
    own-decay e o (AtAcross j is st to from fresh at) l s = let m : j ≡ o = grind (arith, l, is) in
        absurd (grind (arith, is, s, m, same_side-opposite (proxy_side g o), same_side-itself (proxy_side g o)))
    own-decay e o (AtProxy j is own to from none at) l s = let m : j ≡ o = grind (arith, l, is) in rw (← m) (begun.begun_proxy k j own, none, to, from)
    own-decay e o (AtInward j is st to from fresh at) l s = absurd (grind (arith, l, is))

    across-decay : (e : LinkEnd) (o : ℕ) → Decays e → e.link ≡ Central o → e.side ≡ across_side g o →
        (3 ≤ (g.bypass o).stage) × (r.outward.length_to ≡ Some (g.bypass o).accepted_at) ×
        (r.outward.length_from ≡ Some (g.bypass o).taken_at) × (link_in r.outward.primary ≡ Some (fresh_of g o))
    across-decay e o (AtAcross j is st to from fresh at) l s = let m : j ≡ o = grind (arith, l, is) in rw (← m) (st, to, from, fresh)
    across-decay e o (AtProxy j is own to from none at) l s = let m : j ≡ o = grind (arith, l, is) in
        absurd (grind (arith, is, s, m, same_side-opposite (proxy_side g o), same_side-itself (proxy_side g o)))
    across-decay e o (AtInward j is st to from fresh at) l s = absurd (grind (arith, l, is))

    decay-by : (e : LinkEnd) → Decays e → is_some (bypass_of g e.link) ≡ true
    decay-by e (AtAcross o is st to from fresh at) = rw is (grind (arith, record_rules, st, nat_tests))
    decay-by e (AtProxy o is own to from none at) = rw is (grind (arith, record_rules, begun.begun_stage k o own))
    decay-by e (AtInward o is st to from fresh at) = rw is (grind (arith, record_rules, (bypasses o).inner_by, st, nat_tests))

    decay-at : (e : LinkEnd) → Decays e → IsAt true e
    decay-at e (AtAcross o is st to from fresh at) = at
    decay-at e (AtProxy o is own to from none at) = at
    decay-at e (AtInward o is st to from fresh at) = at

    module _ (c : HasRole w g k r) where
      out : (e : LinkEnd) → r.outward.primary ≡ Some e → IsPrimary true e
      out e p = primary-at c.role e c.fits (sym (ap (λ t. t.primary) c.outward) ∙ p)

      inw : (e : LinkEnd) → (inward_edge r).primary ≡ Some e → IsPrimary false e
      inw e p = inward-at c.role e c.fits (sym (ap (λ t. t.primary) c.inward) ∙ p)

      dec : (e : LinkEnd) → r.outward.decaying ≡ Some e → Decays e
      dec e p = decays c.role e c.fits c.outward p

      ind : (e : LinkEnd) → (inward_edge r).decaying ≡ Some e → Into e
      ind e p = into c.role e c.fits c.inward p

      links-of-role : HasLinks w g k r
      links-of-role = record {
        primary = λ e p. (out e p).at.recorded;
        decaying = λ e p. (decay-at e (dec e p)).recorded;
        inward_primary = λ e p. (inw e p).at.recorded;
        inward_decaying = λ e p. (ind e p).at.recorded;
        primary_outward = λ e p. (out e p).at.outward;
        decaying_outward = λ e p. (decay-at e (dec e p)).outward;
        inward_primary_inward = λ e p. (inw e p).at.outward;
        inward_decaying_inward = λ e p. (ind e p).at.outward;
      }

      positions-of-role : HasPositions g k r
      positions-of-role = record {
        inward_primary = λ e p. no-inward e (inw e p);
        inward_decaying = λ e p. let t = ind e p in ap (bypass_of g) t.on_link ∙ bypass_of-inner g (g.bypass t.old).inner ∙
            (bypasses t.old).inner_by (begun.begun_stage k t.old t.has_begun) ∙ sym t.has_begun;
        inward_to = λ e o p b. let t = ind e p in rw (← same_Some t.old o (sym t.has_begun ∙ b)) t.to;
        inward_from = λ e o p b. let t = ind e p in rw (← same_Some t.old o (sym t.has_begun ∙ b)) t.from;
        primary_old = λ e o p l b. (across e o p l b).0;
        primary_across = λ e o p l b. (across e o p l b).1;
        primary_inner = λ e i o p l b. let t = out e p in let by = bypass_of-inner g i ∙ b in
            inner-until o i e.side (ap (λ l. is_outward l e.side) (sym l) ∙ t.at.outward) (one-by (inner_link i) o by)
            (rw l at (t.stays o (ap (bypass_of g) l ∙ by)));
        decaying = λ e p. decay-by e (dec e p);
        inner_stage = λ e i o p l b. (inner-decay e i o (dec e p) l b).0;
        inner_to = λ e i o p l b. (inner-decay e i o (dec e p) l b).1;
        inner_from = λ e i o p l b. (inner-decay e i o (dec e p) l b).2;
        inner_fresh = λ e i o p l b. (inner-decay e i o (dec e p) l b).3;
        own_proxy = λ e o p l s. (own-decay e o (dec e p) l s).0;
        own_alone = λ e o p l s. (own-decay e o (dec e p) l s).1;
        own_to = λ e o p l s. (own-decay e o (dec e p) l s).2;
        own_from = λ e o p l s. (own-decay e o (dec e p) l s).3;
        across_stage = λ e o p l s. (across-decay e o (dec e p) l s).0;
        across_to = λ e o p l s. (across-decay e o (dec e p) l s).1;
        across_from = λ e o p l s. (across-decay e o (dec e p) l s).2;
        across_fresh = λ e o p l s. (across-decay e o (dec e p) l s).3;
        begun = λ b. begins c.role c.fits c.proxy c.inward b;
      }
        where
          across : (e : LinkEnd) (o : ℕ) → r.outward.primary ≡ Some e → e.link ≡ Central o → is_begun (g.bypass o) ≡ true →
              ((g.bypass o).stage ≤ 2) × (e.side ≡ across_side g o)
          across e o p l b = central-until o e.side b (rw l at ((out e p).stays o (ap (bypass_of g) l ∙ grind (arith, record_rules, b))))

          begins : (a : Role) → Fits w g k r.end a → is_proxy r ≡ has_inner a → trim (inward_edge r) ≡ inward_of g a →
              is_begun_router r ≡ true → is_some (g.begun k) ≡ true
          begins (Begun o x z) f p q b = ap is_some f.0
          begins (Unbegun a None) f p q b = absurd (grind (arith, p, b))
          begins (Unbegun a (Some i)) f p q b = absurd (grind (arith, ap (λ t. t.primary) q, b))

  pub links-of-roles : Roles w g → Links w g
  links-of-roles roles k r at = links-of-role k r (roles k r at)

  pub positions-of-roles : Roles w g → Positions w g
  positions-of-roles roles = record {
    each = λ k r at. positions-of-role k r (roles k r at);
    begun_proxy = begun.begun_proxy;
    begun_stage = begun.begun_stage;
    proxy_begun = begun.proxy_begun;
  }

pub links-in : {w : World} {b : Books} {g : Records} → Inv w b g → Links w g
links-in law = links-of-roles law.bypasses law.stands law.begun law.roles

pub positions-in : {w : World} {b : Books} {g : Records} → Inv w b g → Positions w g
positions-in law = positions-of-roles law.bypasses law.stands law.begun law.roles

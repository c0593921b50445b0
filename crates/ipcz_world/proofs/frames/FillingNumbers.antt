-- The item that a router takes from a message has a number below what the other side has sent, on each link that feeds the queue.
use Rattle.ipcz_world.proofs.frames.Opened.{links-open, positions-open}
use Rattle.std.specs.Prelude.{◌≡◌, ◌≤◌, ◌<◌, ℕ, Bool, true, false, not, cond, nat_le, Option, Some, None, is_some, refl, List}
use Rattle.std.proofs.Common.{arith, ap, subst, ◌∙◌, sym, inl, inr}
use Rattle.std.proofs.lemmas.Bool.Decides.{nat_tests}
use Rattle.ipcz_world.proofs.Vocabulary.{Side, A, B, LinkId, Central, Peripheral, LinkEnd, Descriptor, Item, opposite, Edge, Router, inward_edge}
use Rattle.ipcz_world.proofs.Vocabulary.{World, Key, router_at, Records, is_begun, side_router, side_end, side_length, known_from, bypass_of}
use Rattle.ipcz_world.proofs.Vocabulary.{inner_link, proxy_side, across_side, terminal_descriptor, Standing, view, view_by, next_sent, taking_queue}
use Rattle.ipcz_world.proofs.Vocabulary.{is_awaited, is_attached, sending_queue, fed_queue, Ordered, Links, Positions, Stands, is_outward}
use Rattle.ipcz_world.proofs.Vocabulary.{BypassRecords, inner_of, Order, ProxyNumbers, has_passed, standing_router, Books, edge_has, length_by}
use Rattle.ipcz_world.proofs.Vocabulary.{bypass_length, Awaited, awaited_view, may_have_sent, is_begun_router, has_role, link_in, fresh_of}
use Rattle.ipcz_world.proofs.Vocabulary.{IsItemUnderWay}
use Rattle.ipcz_world.proofs.frames.RecordRules.{bypass_of-inner}
use Rattle.ipcz_world.specs.Standing.{View, Waiting, Gone}
use Rattle.ipcz_world.proofs.frames.Touching.{recorded_same}
use Rattle.ipcz_world.proofs.frames.Draining.{gone_same, taking_queue-standing}
use Rattle.ipcz_world.proofs.frames.Opened.{OpenInv}
use Rattle.ipcz_world.proofs.frames.Awaited.{awaited_none}
use Rattle.ipcz_world.proofs.frames.Fitting.{ItemFits, fits_of}
use Rattle.ipcz_world.proofs.frames.Known.{IsEnd, edge_has-tells, fresh_central}
use Rattle.ipcz_world.proofs.facts.LinkTests.{side_is, same_side-opposite}
use Rattle.ipcz_world.proofs.frames.Filling.{IsFilling, sent_kept, taken_filled, taken_current, filled_before}
use Rattle.ipcz_world.proofs.frames.BegunLengths.{bypass_of-begun, bypass_of-central_is, length-inner}
use Rattle.ipcz_world.proofs.facts.Tests.{same_some}
use Rattle.ipcz_world.proofs.facts.Lengths.{length-proxy, opposite-twice, same_side-itself, view-standing}
use Rattle.ipcz_world.proofs.facts.LinkTests.{inward_link}

known_from-none : (first stage n : ℕ) → known_from first stage n ≡ None → stage < first
unfolding known_from
known_from-none first stage n h = go (nat_le first stage) refl
  where
    go : (b : Bool) → nat_le first stage ≡ b → stage < first
    go true e = absurd (grind (arith, e, h))
    go false e = grind (arith, e, nat_tests)

-- the length from the proxy over its old link, and inward
pub length-from_proxy : (g : Records) (o : ℕ) → bypass_of g (Central o) ≡ Some o →
    side_length g (Central o) (proxy_side g o) ≡ known_from 3 (g.bypass o).stage (g.bypass o).taken_at
unfolding bypass_length length_by
length-from_proxy g o h = ap (length_by g (Central o) (proxy_side g o)) h ∙ grind (arith, same_side-itself (proxy_side g o))

is_outward-inward : (n x : ℕ) → is_outward (Peripheral n x) A ≡ true → ⊥
unfolding is_outward
is_outward-inward n x o = grind (arith, o)

ends_side : (g : Records) (l : LinkId) (s : Side) (i : ℕ) → l ≡ Central i → (side_end g l s).side ≡ s
unfolding side_end
ends_side g l s i e = ap (λ z. (side_end g z s).side) e

inner_end : (g : Records) (q : Key) (s : Side) → (side_end g (inner_link q) s).side ≡ (g.peripheral q).end.side
unfolding side_end
inner_end g q s = refl

-- if the length toward a router with both links isn't known, the other side of its fresh link is awaited
pub half_sender : (w : World) (g : Records) (k : Key) (r : Router) (p d : LinkEnd) → Links w g → Positions w g → Stands w g →
    BypassRecords w g → router_at w k ≡ Some r → r.outward.primary ≡ Some p → r.outward.decaying ≡ Some d →
    side_length g d.link (opposite d.side) ≡ None → side_router g p.link (opposite p.side) ≡ None
half_sender w g k r p d links law stands bypasses here on off h =
    go d.link refl d.side refl (bypass_of g d.link) refl ((law.each k r here).decaying d off) ((links k r here).decaying_outward d off)
  where
    go : (l : LinkId) → d.link ≡ l → (t : Side) → d.side ≡ t → (o : Option ℕ) → bypass_of g d.link ≡ o →
        is_some (bypass_of g d.link) ≡ true → is_outward d.link d.side ≡ true → side_router g p.link (opposite p.side) ≡ None
    go l el t et None b some out = absurd (grind (arith, b, some))
    go (Central i) el t et (Some o) b some out = elim (side_is d.side (proxy_side g i)) [
      | inl s ↦ absurd (grind (arith, (law.each k r here).own_alone d i off el s, on))
      | inr s ↦
          let is = bypass_of-central_is g i o (ap (bypass_of g) (sym el) ∙ b) in let stage = (law.each k r here).across_stage d i off el s in
          let none : side_length g (Central i) (proxy_side g i) ≡ None =
          ap (side_length g (Central i)) (sym (opposite-twice (proxy_side g i)) ∙ ap opposite (sym s)) ∙ ap
          (λ z. side_length g z (opposite d.side)) (sym el) ∙ h in
          absurd (omega (
            arith,
            stage,
            known_from-none 3 (g.bypass i).stage (g.bypass i).taken_at
                (sym (length-from_proxy g i (ap (bypass_of g) (sym el) ∙ b ∙ ap Some is.0)) ∙ none),
          ))
    ]
    go (Peripheral n x) el A et (Some o) b some out = absurd (is_outward-inward n x
        (subst (λ z. is_outward z A ≡ true) el (subst (λ z. is_outward d.link z ≡ true) et out)))
    go (Peripheral n x) el B et (Some o) b some out =
        let q : Key = record { node = n; serial = x } in
        let by : (g.peripheral q).by ≡ Some o = sym (bypass_of-inner g q) ∙ ap (bypass_of g) (sym el) ∙ b in
        let none : side_length g (inner_link q) A ≡ None = ap (λ z. side_length g z A) (sym el) ∙ ap
        (λ z. side_length g d.link (opposite z)) (sym et) ∙ h in
        let low = known_from-none 3 (g.bypass o).stage (g.bypass o).accepted_at (sym (length-proxy g q o by) ∙ none) in
        let stage : (g.bypass o).stage ≡ 2 = omega (arith, low, (law.each k r here).inner_stage d q o off el by) in
        let link : p.link ≡ fresh_of g o = same_some (ap link_in (sym on) ∙ (law.each k r here).inner_fresh d q o off el by) in
        let end : side_end g d.link d.side ≡ side_end g p.link p.side =
        sym ((links k r here).decaying d off).end ∙ ((links k r here).primary p on).end in
        let side : p.side ≡ (g.peripheral q).end.side = sym (ends_side g (fresh_of g o) p.side (g.bypass o).fresh refl) ∙ ap
        (λ z. (side_end g z p.side).side) (sym link) ∙ ap (λ z. z.side) (sym end) ∙ ap (λ z. (side_end g z d.side).side) el ∙ inner_end
        g q d.side in
        let is : (g.bypass o).inner ≡ q = stands.by_inner q o by in
        let across : opposite p.side ≡ across_side g o = ap opposite (side ∙ ap (λ z. (g.peripheral z).end.side) (sym is)) in
        ap (λ z. side_router g z (opposite p.side)) link ∙ ap (side_router g (fresh_of g o)) across ∙ (bypasses o).fresh_awaited stage

is_awaited-waiting : (d : Descriptor) → is_awaited (Waiting d) ≡ true
unfolding is_awaited
is_awaited-waiting d = refl

has_passed-known : (o : Option ℕ) (len n : ℕ) → o ≡ Some len → len ≤ n → has_passed o n ≡ true
unfolding has_passed
has_passed-known o len n e le = grind (arith, e, le, nat_tests)

-- a known router's side of a central link is seen so
central_unsent : (w : World) (g : Records) (l : LinkId) (s : Side) (c : ℕ) → l ≡ Central c → side_router g l s ≡ None →
    (next_sent l s (view w g l s) ≡ None) × (may_have_sent (view w g l s) ≡ false)
unfolding view_by awaited_view next_sent may_have_sent
central_unsent w g l s c e h = (
  ap (λ o. next_sent l s (view_by w g l s o)) h ∙ ap
      (λ z. next_sent z s (awaited_view z (terminal_descriptor (g.terminal (side_end g l s))))) e,
  ap (λ o. may_have_sent (view_by w g l s o)) h ∙ ap (λ z. may_have_sent
      (awaited_view z (terminal_descriptor (g.terminal (side_end g l s))))) e,
)

-- what a central link's side sends next is its router's
central_sends : (w : World) (g : Records) (l : LinkId) (s : Side) (c u : ℕ) → l ≡ Central c → next_sent l s (view w g l s) ≡ Some u →
    (q : Router) × (standing_router (view w g l s) ≡ Some q) × (q.out_queue.current ≡ u)
unfolding next_sent standing_router sending_queue
central_sends w g l s c u e h = go (view w g l s) refl
  where
    none : side_router g l s ≡ None → ⊥
    none q = let f = (central_unsent w g l s c e q).0 in grind (arith, f, h)

    known : (d : Descriptor) → view w g l s ≡ Waiting d → ⊥
    known d q = none (awaited_none w g l s (ap is_awaited q ∙ is_awaited-waiting d))

    go : (z : View) → view w g l s ≡ z → (q : Router) × (standing_router (view w g l s) ≡ Some q) × (q.out_queue.current ≡ u)
    go Awaited q = absurd (grind (arith, h, q))
    go (Waiting d) q = absurd (known d q)
    go (Standing r) q = (r, ap standing_router q, grind (arith, h, q, e))
    go Gone q = absurd (grind (arith, h, q))

attached_outward : (l : LinkId) (s : Side) (r : Router) → is_attached l s r ≡ true → is_outward l s ≡ true → edge_has r.outward l s ≡ true
unfolding is_attached is_outward
attached_outward (Central i) s r a o = a
attached_outward (Peripheral n x) A r a o = absurd (grind (arith, o))
attached_outward (Peripheral n x) B r a o = a

pub attached_inward : (l : LinkId) (s : Side) (r : Router) → is_attached l s r ≡ true → is_outward l s ≡ false →
    edge_has (inward_edge r) l s ≡ true
unfolding is_attached is_outward
attached_inward (Central i) s r a o = absurd (grind (arith, o))
attached_inward (Peripheral n x) A r a o = a
attached_inward (Peripheral n x) B r a o = absurd (grind (arith, o))

-- an item under way over one link of a router, and another link that feeds the same queue
module _ (w : World) (b : Books) (g : Records) (k : Key) (r : Router) (from to i : ℕ) (l : LinkId) (s : Side) (n : ℕ) (item : Item)
    (moves : List Descriptor) (law : OpenInv w b g) (here : router_at w k ≡ Some r) (u : IsItemUnderWay w from to i l s n item moves)
    (on : is_attached l s r ≡ true) where
  fit : ItemFits w g from to i l s n
  fit = fits_of w g from to i l s n item moves law.items u

  both : (p d : LinkEnd) → r.outward.primary ≡ Some p → r.outward.decaying ≡ Some d → p.link ≡ l → p.side ≡ s → (x : Option ℕ) →
      side_length g d.link (opposite d.side) ≡ x → has_passed (side_length g d.link (opposite d.side)) n ≡ true
  both p d isp isd pl ps None q =
      let c = fresh_central w g k r p d (positions-open law) here isp isd in
      let none = half_sender w g k r p d (links-open law) (positions-open law) law.stands law.bypasses here isp isd q in
      let unsent = (central_unsent w g p.link (opposite p.side) c.0 c.1 none).1 in
      let sent : may_have_sent (view w g p.link (opposite p.side)) ≡ true =
      subst (λ z. may_have_sent (view w g z (opposite p.side)) ≡ true) (sym pl)
      (subst (λ z. may_have_sent (view w g l (opposite z)) ≡ true) (sym ps) fit.by_sender) in
      absurd (grind (arith, unsent, sent))
  both p d isp isd pl ps (Some len) q =
      let v : IsItemUnderWay w from to i p.link p.side n item moves =
      subst (λ z. IsItemUnderWay w from to i z p.side n item moves) (sym pl)
      (subst (λ z. IsItemUnderWay w from to i l z n item moves) (sym ps) u) in
      let le : len ≤ n = (law.fresh_numbers k r here).comes p d len from to i n item moves isp isd q v in
      has_passed-known (side_length g d.link (opposite d.side)) len n q le

  other : (p d : LinkEnd) (x : ℕ) → r.outward.primary ≡ Some p → r.outward.decaying ≡ Some d → d.link ≡ l → d.side ≡ s →
      next_sent p.link (opposite p.side) (view w g p.link (opposite p.side)) ≡ Some x → (o : Option ℕ) →
      side_length g d.link (opposite d.side) ≡ o → n < x
  other p d x isp isd dl ds h None q =
      let c = fresh_central w g k r p d (positions-open law) here isp isd in
      let none = half_sender w g k r p d (links-open law) (positions-open law) law.stands law.bypasses here isp isd q in
      let unsent = (central_unsent w g p.link (opposite p.side) c.0 c.1 none).0 in
      absurd (grind (arith, unsent, h))
  other p d x isp isd dl ds h (Some len) q =
      let c = fresh_central w g k r p d (positions-open law) here isp isd in
      let f = central_sends w g p.link (opposite p.side) c.0 x c.1 h in
      let le : len ≤ f.0.out_queue.current = (law.fresh_numbers k r here).other f.0 p d len isp isd q f.1 in
      let less : n < len = fit.below_length len (ap (λ z. side_length g z (opposite s)) (sym dl) ∙ ap
      (λ z. side_length g d.link (opposite z)) (sym ds) ∙ q) in
      omega (arith, le, less, f.2)

  -- no proxy has two inward links
  one_inward : (p d : LinkEnd) → (inward_edge r).primary ≡ Some p → (inward_edge r).decaying ≡ Some d → ⊥
  one_inward p d isp isd = absurd (go r.inward refl ((law.shape k r here).role) isp isd)
    where
      go : (o : Option Edge) → r.inward ≡ o → has_role r ≡ true → (inward_edge r).primary ≡ Some p → (inward_edge r).decaying ≡ Some d → ⊥
      go None e role a c = grind (arith, e, a)
      go (Some x) e role a c = grind (arith, e, role, a, c)

  pub stored_new : (m : LinkId) (t : Side) (x : ℕ) → is_attached m t r ≡ true → is_outward m t ≡ is_outward l s →
      next_sent m (opposite t) (view w g m (opposite t)) ≡ Some x → has_passed (side_length g m (opposite t)) n ≡ false → n < x
  stored_new m t x att same h short = dir (is_outward l s) refl
    where
      again : m ≡ l → t ≡ s → n < x
      again e f = fit.was_sent x (subst (λ z. next_sent z (opposite s) (view w g z (opposite s)) ≡ Some x) e
          (subst (λ z. next_sent m (opposite z) (view w g m (opposite z)) ≡ Some x) f h))

      case_both : (p d : LinkEnd) → r.outward.primary ≡ Some p → r.outward.decaying ≡ Some d → p.link ≡ l → p.side ≡ s → d.link ≡ m →
          d.side ≡ t → n < x
      case_both p d isp isd pl ps dm dt =
          let passed = both p d isp isd pl ps (side_length g d.link (opposite d.side)) refl in
          let not_passed : has_passed (side_length g d.link (opposite d.side)) n ≡ false =
          subst (λ z. has_passed (side_length g z (opposite d.side)) n ≡ false) (sym dm)
          (subst (λ z. has_passed (side_length g m (opposite z)) n ≡ false) (sym dt) short) in
          absurd (grind (arith, passed, not_passed))

      case_other : (p d : LinkEnd) → r.outward.primary ≡ Some p → r.outward.decaying ≡ Some d → p.link ≡ m → p.side ≡ t → d.link ≡ l →
          d.side ≡ s → n < x
      case_other p d isp isd pm pt dl ds = other p d x isp isd dl ds
          (subst (λ z. next_sent z (opposite p.side) (view w g z (opposite p.side)) ≡ Some x) (sym pm)
          (subst (λ z. next_sent m (opposite z) (view w g m (opposite z)) ≡ Some x) (sym pt) h)) (side_length g d.link (opposite d.side))
          refl

      same_end : (o : Option LinkEnd) → IsEnd o l s → IsEnd o m t → n < x
      same_end o e f = let is : f.end ≡ e.end = same_some (sym f.is ∙ e.is) in
          again (sym f.link_is ∙ ap (λ z. z.link) is ∙ e.link_is) (sym f.side_is ∙ ap (λ z. z.side) is ∙ e.side_is)

      dir : (o : Bool) → is_outward l s ≡ o → n < x
      dir true o = elim (edge_has-tells r.outward l s (attached_outward l s r on o)) [
        | inl e ↦ elim (edge_has-tells r.outward m t (attached_outward m t r att (same ∙ o)))
            [ inl f ↦ same_end r.outward.primary e f | inr f ↦ case_both e.end f.end e.is f.is e.link_is e.side_is f.link_is f.side_is ]
        | inr e ↦ elim (edge_has-tells r.outward m t (attached_outward m t r att (same ∙ o)))
            [ inl f ↦ case_other f.end e.end f.is e.is f.link_is f.side_is e.link_is e.side_is | inr f ↦ same_end r.outward.decaying e f ]
      ]
      dir false o = elim (edge_has-tells (inward_edge r) l s (attached_inward l s r on o)) [
        | inl e ↦ elim (edge_has-tells (inward_edge r) m t (attached_inward m t r att (same ∙ o)))
            [ inl f ↦ same_end (inward_edge r).primary e f | inr f ↦ absurd (one_inward e.end f.end e.is f.is) ]
        | inr e ↦ elim (edge_has-tells (inward_edge r) m t (attached_inward m t r att (same ∙ o)))
            [ inl f ↦ absurd (one_inward f.end e.end f.is e.is) | inr f ↦ same_end (inward_edge r).decaying e f ]
      ]

no_primary : {x : LinkId} {o : Option LinkEnd} → o ≡ None → link_in o ≡ Some x → ⊥
no_primary e h = grind (arith, e, h)

length-across_from : (g : Records) (o : ℕ) → bypass_of g (Central o) ≡ Some o → 3 ≤ (g.bypass o).stage →
    side_length g (Central o) (across_side g o) ≡ Some (g.bypass o).accepted_at
unfolding bypass_length length_by known_from
length-across_from g o h le = ap (length_by g (Central o) (across_side g o)) h ∙
    grind (arith, same_side-opposite (proxy_side g o), le, nat_tests)

-- a queue's direction at a link
flag_tells : (a b : Bool) → cond a b (not b) ≡ true → a ≡ b
flag_tells true b h = sym h
flag_tells false true h = cc
flag_tells false false h = refl

pub fed-out : (l : LinkId) (s : Side) (r : Router) → is_outward l s ≡ false → fed_queue l s r ≡ r.out_queue
unfolding fed_queue is_outward
fed-out (Central i) s r o = absurd (grind (arith, o))
fed-out (Peripheral n x) A r o = refl
fed-out (Peripheral n x) B r o = absurd (grind (arith, o))

pub fed-in : (l : LinkId) (s : Side) (r : Router) → is_outward l s ≡ true → fed_queue l s r ≡ r.in_queue
unfolding fed_queue is_outward
fed-in (Central i) s r o = refl
fed-in (Peripheral n x) A r o = absurd (grind (arith, o))
fed-in (Peripheral n x) B r o = refl

module _ (w v : World) (b : Books) (g : Records) (k : Key) (r y : Router) (from to i : ℕ) (l : LinkId) (s : Side) (n : ℕ) (item : Item)
    (moves : List Descriptor) (law : OpenInv w b g) (here : router_at w k ≡ Some r) (u : IsItemUnderWay w from to i l s n item moves)
    (known : side_router g l s ≡ Some k)
    (on : is_attached l s r ≡ true) (d : IsFilling w v k r y n (is_outward l s)) where
  fits_here : ItemFits w g from to i l s n
  fits_here = fits_of w g from to i l s n item moves law.items u

  pub order-filled : Order v g
  order-filled = record {
    current = λ m t x p h sent taken short. let q = taken_current w v k r y n (is_outward l s) g d m t p taken in
        let le : q.0.current ≤ x = law.order.current m t x q.0 (sym (recorded_same w v k r y g d.touched m) ∙ h)
        (sym (sent_kept w v k r y n (is_outward l s) g d m (opposite t)) ∙ sent) q.1 short in omega (arith, le, q.2);
    stored = λ m t x p z a h sent taken at short. let before = sym (sent_kept w v k r y n (is_outward l s) g d m (opposite t)) ∙ sent in
        let rec = sym (recorded_same w v k r y g d.touched m) ∙ h in
        elim (taken_filled w v k r y n (is_outward l s) g d m t p taken) [
          | inl e ↦ law.order.stored m t x p z a rec before e at short
          | inr e ↦ elim (e.2.items z a at) [
            | inl old ↦ law.order.stored m t x (fed_queue m t r) z a rec before
                (ap (taking_queue m t) e.0.old ∙ taking_queue-standing m t r) old short
            | inr new ↦ let less : n < x = stored_new w b g k r from to i l s n item moves law here u on m t x e.0.attached
                (flag_tells (is_outward m t) (is_outward l s) new.1) before
                (ap (has_passed (side_length g m (opposite t))) (sym new.0) ∙ short) in omega (arith, less, new.0)
          ]
        ];
  }

  place : (fed_queue l s r).current ≤ n
  place = fits_here.not_passed (fed_queue l s r) (ap (taking_queue l s) (view-standing w g l s k r known here on) ∙
      taking_queue-standing l s r)

  pub ordered-filled : Ordered v
  ordered-filled q x at = let z = filled_before w v k r y n (is_outward l s) g d q x at in record {
    out = λ m a is. elim (z.6 m a is) [
      | inl old ↦ let le : z.0.out_queue.current ≤ m = (law.ordered q z.0 z.1).out m a old in omega (arith, le, z.2)
      | inr new ↦ let same : z.0 ≡ r = same_some (sym z.1 ∙ ap (router_at w) new.2 ∙ here) in
          omega (arith, z.2, ap (λ x. x.out_queue.current) same, place, ap (λ f. f.current) (fed-out l s r new.1), new.0)
    ];
    inn = λ m a is. elim (z.7 m a is) [
      | inl old ↦ let le : z.0.in_queue.current ≤ m = (law.ordered q z.0 z.1).inn m a old in omega (arith, le, z.3)
      | inr new ↦ let same : z.0 ≡ r = same_some (sym z.1 ∙ ap (router_at w) new.2 ∙ here) in
          omega (arith, z.3, ap (λ x. x.in_queue.current) same, place, ap (λ f. f.current) (fed-in l s r new.1), new.0)
    ];
  }

  -- a bypassed proxy takes nothing from its lengths on
  role_of : (x : Router) → is_begun_router x ≡ true → has_role x ≡ true → ((inward_edge x).primary ≡ None) × (x.outward.primary ≡ None)
  role_of x begun role = go x.inward refl begun role
    where
      go : (o : Option Edge) → x.inward ≡ o → is_begun_router x ≡ true → has_role x ≡ true →
          ((inward_edge x).primary ≡ None) × (x.outward.primary ≡ None)
      go None e f q = absurd (grind (arith, e, f))
      go (Some z) e f q = inner z.primary refl
        where
          inner : (p : Option LinkEnd) → z.primary ≡ p → ((inward_edge x).primary ≡ None) × (x.outward.primary ≡ None)
          inner (Some p) h = absurd (grind (arith, e, f, h))
          inner None h = (grind (arith, e, h), outer x.outward.primary refl)
            where
              outer : (p : Option LinkEnd) → x.outward.primary ≡ p → x.outward.primary ≡ None
              outer None a = a
              outer (Some p) a = absurd (grind (arith, e, q, h, a))

  out_new : (o : ℕ) → (g.bypass o).proxy ≡ k → 2 ≤ (g.bypass o).stage → is_outward l s ≡ false → n < (g.bypass o).taken_at
  out_new o proxy stage dir =
      let begun : is_begun (g.bypass o) ≡ true = grind (arith, stage, nat_tests) in
      let role = role_of r ((law.stages o).proxy_begun r begun (ap (router_at w) proxy ∙ here)) ((law.shape k r here).role) in
      elim (edge_has-tells (inward_edge r) l s (attached_inward l s r on dir)) [
        | inl e ↦ absurd (grind (arith, role.0, e.is))
        | inr e ↦ let p = inward_link l s dir in
            let by : (g.peripheral p.0).by ≡ Some o = sym (bypass_of-inner g p.0) ∙ ap (bypass_of g) (sym p.1 ∙ sym e.link_is) ∙
            ((positions-open law).each k r here).inward_decaying e.end e.is ∙ ap g.begun (sym proxy) ∙ law.begun.proxy_begun o begun in
            fits_here.below_length (g.bypass o).taken_at (ap (λ z. side_length g z (opposite s)) p.1 ∙ ap
            (λ z. side_length g (inner_link p.0) (opposite z)) p.2 ∙ length-inner g p.0 o by stage)
      ]

  in_new : (o : ℕ) → (g.bypass o).proxy ≡ k → 3 ≤ (g.bypass o).stage → is_outward l s ≡ true → n < (g.bypass o).accepted_at
  in_new o proxy stage dir =
      let begun : is_begun (g.bypass o) ≡ true = grind (arith, stage, nat_tests) in
      let role = role_of r ((law.stages o).proxy_begun r begun (ap (router_at w) proxy ∙ here)) ((law.shape k r here).role) in
      elim (edge_has-tells r.outward l s (attached_outward l s r on dir)) [
        | inl e ↦ absurd (grind (arith, role.1, e.is))
        | inr e ↦ old e.end e.is e.link_is e.side_is role.1 begun (bypass_of g e.end.link) refl e.end.link refl
            (((positions-open law).each k r here).decaying e.end e.is)
      ]
    where
      old : (e : LinkEnd) → r.outward.decaying ≡ Some e → e.link ≡ l → e.side ≡ s → r.outward.primary ≡ None →
          is_begun (g.bypass o) ≡ true → (x : Option ℕ) → bypass_of g e.link ≡ x → (m : LinkId) → e.link ≡ m →
          is_some (bypass_of g e.link) ≡ true → n < (g.bypass o).accepted_at
      old e is el es none begun None q m em some = absurd (grind (arith, q, some))
      old e is el es none begun (Some x) q (Central j) em some = elim (side_is e.side (proxy_side g j)) [
        | inl t ↦
            let f = bypass_of-central_is g j x (ap (bypass_of g) (sym em) ∙ q) in
            let same : j ≡ o = same_some (sym (law.begun.proxy_begun j f.1) ∙ ap g.begun
            (((positions-open law).each k r here).own_proxy e j is em t ∙ sym proxy) ∙ law.begun.proxy_begun o begun) in
            let side : opposite s ≡ across_side g o = ap opposite (sym es ∙ t) ∙ ap (across_side g) same in
            let link : l ≡ Central o = sym el ∙ em ∙ ap Central same in
            fits_here.below_length (g.bypass o).accepted_at (ap (λ z. side_length g z (opposite s)) link ∙ ap (side_length g (Central o))
            side ∙ length-across_from g o (bypass_of-begun g o begun) stage)
        | inr t ↦ absurd (no_primary none (((positions-open law).each k r here).across_fresh e j is em t))
      ]
      old e is el es none begun (Some x) q (Peripheral a c) em some =
          absurd (no_primary none (((positions-open law).each k r here).inner_fresh e (record { node = a; serial = c }) x is em
          (sym (bypass_of-inner g (record { node = a; serial = c })) ∙ ap (bypass_of g) (sym em) ∙ q)))

  pub proxy_numbers-filled : ProxyNumbers v g
  proxy_numbers-filled = record {
    out_current = λ o x at t. let z = filled_before w v k r y n (is_outward l s) g d (g.bypass o).proxy x at in let le =
        law.proxy_numbers.out_current o z.0 z.1 t in omega (arith, le, z.2);
    out_items = λ o x m a at t is. let z = filled_before w v k r y n (is_outward l s) g d (g.bypass o).proxy x at in elim (z.6 m a is) [
      | inl old ↦ law.proxy_numbers.out_items o z.0 m a z.1 t old
      | inr new ↦ let less = out_new o new.2 t new.1 in omega (arith, less, new.0)
    ];
    in_current = λ o x at t. let z = filled_before w v k r y n (is_outward l s) g d (g.bypass o).proxy x at in let le =
        law.proxy_numbers.in_current o z.0 z.1 t in omega (arith, le, z.3);
    in_items = λ o x m a at t is. let z = filled_before w v k r y n (is_outward l s) g d (g.bypass o).proxy x at in elim (z.7 m a is) [
      | inl old ↦ law.proxy_numbers.in_items o z.0 m a z.1 t old
      | inr new ↦ let less = in_new o new.2 t new.1 in omega (arith, less, new.0)
    ];
    across_gone = λ o x at t gone. let z = filled_before w v k r y n (is_outward l s) g d (g.bypass o).proxy x at in
        let le = law.proxy_numbers.across_gone o z.0 z.1 t (sym (gone_same w v k r y g d.touched d.alike (Central o) (across_side g o)) ∙
        gone) in omega (arith, z.2, le);
    inner_gone = λ o x at t gone. let z = filled_before w v k r y n (is_outward l s) g d (g.bypass o).proxy x at in
        let le = law.proxy_numbers.inner_gone o z.0 z.1 t (sym (gone_same w v k r y g d.touched d.alike (inner_of g o) B) ∙ gone) in
        omega (arith, z.3, le);
    out_finished = λ o x at t e. let z = filled_before w v k r y n (is_outward l s) g d (g.bypass o).proxy x at in let le =
        law.proxy_numbers.out_finished o z.0 z.1 t (ap (λ e. e.decaying) (sym z.4) ∙ e) in omega (arith, z.2, le);
    in_finished = λ o x at t e. let z = filled_before w v k r y n (is_outward l s) g d (g.bypass o).proxy x at in let le =
        law.proxy_numbers.in_finished o z.0 z.1 t (grind (arith, z.5, e)) in omega (arith, z.3, le);
  }

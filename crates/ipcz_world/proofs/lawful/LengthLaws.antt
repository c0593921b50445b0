-- The law of lengths, from the invariant.
use Rattle.ipcz_world.proofs.frames.RolesTell.{links-in, positions-in}
use Rattle.std.specs.Prelude.{◌≡◌, ◌⊎◌, ◌<◌, ◌≤◌, ℕ, Bool, true, false, cond, nat_eq, nat_le, Option, Some, None, is_some, List, refl}
use Rattle.std.proofs.Common.{arith, ap, subst, ◌∙◌, sym, inl, inr}
use Rattle.std.proofs.lemmas.Bool.Decides.{nat_tests}
use Rattle.std.proofs.lemmas.Option.{none-some, same_Some}
use Rattle.ipcz_world.proofs.Vocabulary.{Side, A, B, LinkId, Central, Peripheral, LinkEnd, Descriptor, Item, Message, has, opposite, same_side}
use Rattle.ipcz_world.proofs.Vocabulary.{has_link, Router, router_has, inward_edge, World, Key, router_at, Books, Records, is_begun, is_recorded}
use Rattle.ipcz_world.proofs.Vocabulary.{inner_link, side_router, side_length, known_from, bypass_of, proxy_side, across_side, IsUnderWay, Standing}
use Rattle.ipcz_world.proofs.Vocabulary.{view, view_by, router_view, has_decaying, is_attached, sending_queue, fed_queue, next_sent, taking_queue}
use Rattle.ipcz_world.proofs.Vocabulary.{is_outward, of_bypass, control_weight, inner_of, has_passed, Inv, length_by, bypass_length, is_begun_router}
use Rattle.ipcz_base.specs.declared.message.Message.TheVariants as messages
use Rattle.ipcz_world.proofs.frames.RecordRules.{bypass_of-inner}
use Rattle.ipcz_world.specs.Laws.{Knows, OutwardTo, OutwardFrom, InwardTo, InwardFrom, Accepting, StoppingIn, StoppingOut, StoppingInner}
use Rattle.ipcz_world.specs.Laws.{StoppingInnerOut, Ending, LengthLaw}
use Rattle.ipcz_world.proofs.facts.LinkTests.{same_side-opposite, side_is, IsKnown, known_from-tells}
use Rattle.ipcz_world.proofs.facts.Lengths.{same_side-tells, opposite-twice, known_from-yes, same_side-itself, HasEnd, has_link-tells}
use Rattle.ipcz_world.proofs.frames.Flowing.{found}
use Rattle.ipcz_world.proofs.frames.Known.{attached_recorded}
use Rattle.ipcz_world.proofs.frames.Telling.{IsAccept, accept_told, IsStop, stop_told, will_stop_told}
use Rattle.ipcz_world.proofs.frames.BegunLengths.{bypass_of-begun, bypass_of-central_is}
use Rattle.ipcz_world.proofs.frames.Passing.{Passes, passes-tells}
use Rattle.ipcz_world.proofs.frames.Having.{HasAt, has_at}

-- the number of the bypass that is the length of a link from a side
unfoldable number_of : Records → ℕ → LinkId → Side → ℕ
number_of g o (Central i) s = cond (same_side s (proxy_side g o)) (g.bypass o).taken_at (g.bypass o).accepted_at
number_of g o (Peripheral n x) A = (g.bypass o).accepted_at
number_of g o (Peripheral n x) B = (g.bypass o).taken_at

-- a number is the length of a link from a side, which the records tell already, or are of_bypass to: AcceptBypass is under way
record IsLength (g : Records) (link : LinkId) (s : Side) (n : ℕ) : Type 0 where
  pub bypass : ℕ
  pub by : bypass_of g link ≡ Some bypass
  pub number : n ≡ number_of g bypass link s
  pub since : (side_length g link s ≡ Some n) ⊎ (((g.bypass bypass).stage ≡ 2) × (link ≡ Central bypass) × (s ≡ proxy_side g bypass))

-- the four lengths of a bypass
len_old_proxy : (g : Records) (o : ℕ) → is_begun (g.bypass o) ≡ true → 3 ≤ (g.bypass o).stage →
    IsLength g (Central o) (proxy_side g o) (g.bypass o).taken_at
unfolding number_of length_by bypass_length
len_old_proxy g o begun late = record {
  bypass = o;
  by = bypass_of-begun g o begun;
  number = rw (same_side-itself (proxy_side g o)) refl;
  since = inl (rw (bypass_of-begun g o begun, same_side-itself (proxy_side g o))
      (known_from-yes 3 (g.bypass o).stage (g.bypass o).taken_at late));
}

len_old_across : (g : Records) (o : ℕ) → is_begun (g.bypass o) ≡ true → 3 ≤ (g.bypass o).stage →
    IsLength g (Central o) (across_side g o) (g.bypass o).accepted_at
unfolding number_of length_by bypass_length
len_old_across g o begun late = record {
  bypass = o;
  by = bypass_of-begun g o begun;
  number = rw (same_side-opposite (proxy_side g o)) refl;
  since = inl (rw (bypass_of-begun g o begun, same_side-opposite (proxy_side g o))
      (known_from-yes 3 (g.bypass o).stage (g.bypass o).accepted_at late));
}

len_inner_in : (g : Records) (p : Key) (o : ℕ) → (g.peripheral p).by ≡ Some o → 3 ≤ (g.bypass o).stage →
    IsLength g (inner_link p) A (g.bypass o).accepted_at
unfolding number_of length_by bypass_length bypass_of
len_inner_in g p o by late = record {
  bypass = o;
  by = by;
  number = refl;
  since = inl (rw by (known_from-yes 3 (g.bypass o).stage (g.bypass o).accepted_at late));
}

len_inner_out : (g : Records) (p : Key) (o : ℕ) → (g.peripheral p).by ≡ Some o → 2 ≤ (g.bypass o).stage →
    IsLength g (inner_link p) B (g.bypass o).taken_at
unfolding number_of length_by bypass_length bypass_of
len_inner_out g p o by late = record {
  bypass = o;
  by = by;
  number = refl;
  since = inl (rw by (known_from-yes 2 (g.bypass o).stage (g.bypass o).taken_at late));
}

-- a link is central or some proxy's
link_is : (l : LinkId) → ((i : ℕ) × (l ≡ Central i)) ⊎ ((p : Key) × (l ≡ inner_link p))
link_is (Central i) = inl (i, refl)
link_is (Peripheral n x) = inr (record { node = n; serial = x }, refl)

at_link : (g : Records) (l m : LinkId) (s t : Side) (n c : ℕ) → l ≡ m → s ≡ t → n ≡ c → IsLength g m t c → IsLength g l s n
at_link g l m s t n c a e f is = rw (a, e, f) is

module _ (w : World) (b : Books) (g : Records) (law : Inv w b g) where
  -- an outward decaying link: the old one at the proxy, the old one across, or an inner one
  pub outward_case : (k : Key) (r : Router) (e : LinkEnd) → router_at w k ≡ Some r → r.outward.decaying ≡ Some e →
      ((o : ℕ) × (e.link ≡ Central o) × (is_begun (g.bypass o) ≡ true) × ((e.side ≡ proxy_side g o) ⊎ (e.side ≡ across_side g o))) ⊎
      ((p : Key) × (o : ℕ) × (e.link ≡ inner_link p) × (e.side ≡ B) × ((g.peripheral p).by ≡ Some o))
  unfolding is_outward
  outward_case k r e here dec = go (link_is e.link) (((positions-in law).each k r here).decaying e dec)
    where
      go : ((i : ℕ) × (e.link ≡ Central i)) ⊎ ((p : Key) × (e.link ≡ inner_link p)) → is_some (bypass_of g e.link) ≡ true →
          ((o : ℕ) × (e.link ≡ Central o) × (is_begun (g.bypass o) ≡ true) × ((e.side ≡ proxy_side g o) ⊎ (e.side ≡ across_side g o))) ⊎
          ((p : Key) × (o : ℕ) × (e.link ≡ inner_link p) × (e.side ≡ B) × ((g.peripheral p).by ≡ Some o))
      go (inl i) some = old (bypass_of g e.link) refl
        where
          old : (o : Option ℕ) → bypass_of g e.link ≡ o → ((o : ℕ) × (e.link ≡ Central o) × (is_begun (g.bypass o) ≡ true) ×
              ((e.side ≡ proxy_side g o) ⊎ (e.side ≡ across_side g o))) ⊎
              ((p : Key) × (o : ℕ) × (e.link ≡ inner_link p) × (e.side ≡ B) × ((g.peripheral p).by ≡ Some o))
          old None h = absurd (grind (arith, some, h))
          old (Some o) h = inl (
            i.0,
            i.1,
            (bypass_of-central_is g i.0 o (ap (bypass_of g) (sym i.1) ∙ h)).1,
            side_is e.side (proxy_side g i.0),
          )
      go (inr p) some = inner (bypass_of g e.link) refl
        where
          inner : (o : Option ℕ) → bypass_of g e.link ≡ o → ((o : ℕ) × (e.link ≡ Central o) × (is_begun (g.bypass o) ≡ true) ×
              ((e.side ≡ proxy_side g o) ⊎ (e.side ≡ across_side g o))) ⊎
              ((p : Key) × (o : ℕ) × (e.link ≡ inner_link p) × (e.side ≡ B) × ((g.peripheral p).by ≡ Some o))
          inner None h = absurd (grind (arith, some, h))
          inner (Some o) h = inr (
            p.0,
            o,
            p.1,
            same_side-tells e.side B (rw (p.1) at (((links-in law) k r here).decaying_outward e dec)),
            sym (bypass_of-inner g p.0) ∙ ap (bypass_of g) (sym p.1) ∙ h,
          )

  -- an inward decaying link is the inner one of the router's own bypass
  pub record IsInward (k : Key) (e : LinkEnd) : Type 0 where
    pub link : Key
    pub bypass : ℕ
    pub on : e.link ≡ inner_link link
    pub side : e.side ≡ A
    pub by : (g.peripheral link).by ≡ Some bypass
    pub begun : g.begun k ≡ Some bypass

  pub inward_case : (k : Key) (r : Router) (e : LinkEnd) → router_at w k ≡ Some r → (inward_edge r).decaying ≡ Some e → IsInward k e
  unfolding is_outward
  inward_case k r e here dec = go (link_is e.link) (((links-in law) k r here).inward_decaying_inward e dec)
    where
      unprimed : (c : Option LinkEnd) → (inward_edge r).primary ≡ c → c ≡ None
      unprimed None h = refl
      unprimed (Some d) h = absurd (grind (arith, h, dec, (law.shape k r here).role))

      proxied : is_begun_router r ≡ true
      proxied = go2 r.inward refl
        where
          go2 : (i : Option _) → r.inward ≡ i → is_begun_router r ≡ true
          go2 None h = absurd (grind (arith, h, dec))
          go2 (Some i) h = grind (arith, h, unprimed (inward_edge r).primary refl)

      on_side : (s : Side) → same_side s B ≡ false → s ≡ A
      on_side A h = refl
      on_side B h = cc

      at : (p : Key) → e.link ≡ inner_link p → e.side ≡ A → (o : Option ℕ) → g.begun k ≡ o → IsInward k e
      at p on side None h = absurd (grind (arith, ((positions-in law).each k r here).begun proxied, h))
      at p on side (Some o) h = record {
        link = p;
        bypass = o;
        on = on;
        side = side;
        by =
            sym (bypass_of-inner g p) ∙ ap (bypass_of g) (sym on) ∙ ((positions-in law).each k r here).inward_decaying e dec ∙ h;
        begun = h;
      }

      go : ((i : ℕ) × (e.link ≡ Central i)) ⊎ ((p : Key) × (e.link ≡ inner_link p)) → is_outward e.link e.side ≡ false → IsInward k e
      go (inl i) h = absurd (grind (arith, h, i.1))
      go (inr p) h = at p.0 p.1 (on_side e.side (rw (p.1) at h)) (g.begun k) refl

  known_some : (first stage n m : ℕ) (x : Option ℕ) → x ≡ known_from first stage n → x ≡ Some m → IsKnown first stage n m
  known_some first stage n m x e f = known_from-tells first stage n m (sym e ∙ f)

  -- the proxy of a bypass that StopProxying goes to
  stopped_inner : (from to i old : ℕ) (side : Side) (in_length out_length : ℕ) (k : Key) (r : Router) (e : LinkEnd) →
      IsUnderWay w from to i (messages.StopProxying side old in_length out_length) → router_at w k ≡ Some r →
      router_has r (Central old) side ≡ true → (inward_edge r).decaying ≡ Some e →
      (p : Key) × (e.link ≡ inner_link p) × (e.side ≡ A) × ((g.peripheral p).by ≡ Some old) × IsStop g from to old side in_length
      out_length
  stopped_inner from to i old side in_length out_length k r e u here has dec =
      let at : IsStop g from to old side in_length out_length = stop_told w g from to i old side in_length out_length law.controls u in
      let begun : is_begun (g.bypass old) ≡ true = grind (arith, at.stage, nat_tests) in
      let mine : HasAt w g k r (Central old) side = has_at w g k r (Central old) side (links-in law) here has in
      let proxy : (g.bypass old).proxy ≡ k = same_Some _ k (sym ((law.bypasses old).proxy_old begun) ∙ rw (at.at_side) at mine.router) in
      let is : IsInward k e = inward_case k r e here dec in
      let same : is.bypass ≡ old = same_Some is.bypass old (sym is.begun ∙ ap g.begun (sym proxy) ∙ law.begun.proxy_begun old begun) in
      (is.link, is.on, is.side, is.by ∙ ap Some same, at)

  accepting : (link : LinkId) (s : Side) (n from to old : ℕ) (side : Side) (fresh : ℕ) → IsAccept g from to old side fresh n →
      is_begun (g.bypass old) ≡ true → Central old ≡ link → opposite side ≡ s → IsLength g link s n
  unfolding number_of
  accepting link s n from to old side fresh is begun on at =
      let sides : s ≡ proxy_side g old = sym at ∙ ap opposite is.at_side ∙ opposite-twice (proxy_side g old) in
      record {
        bypass = old;
        by = ap (bypass_of g) (sym on) ∙ bypass_of-begun g old begun;
        number = is.taken ∙ sym (rw (← on, sides, same_side-itself (proxy_side g old)) refl);
        since = inr (is.stage, sym on, sides);
      }

  knows : (link : LinkId) (s : Side) (n : ℕ) → Knows w link s n → IsLength g link s n
  knows link s n (OutwardTo k r e here dec len on at) = elim (outward_case k r e here dec) [
    | inl c ↦ elim c.3 [
      | inl own ↦ let m = known_some 4 (g.bypass c.0).stage (g.bypass c.0).taken_at n r.outward.length_to
          (((positions-in law).each k r here).own_to e c.0 dec c.1 own) len in
          at_link g link (Central c.0) s (proxy_side g c.0) n (g.bypass c.0).taken_at (sym on ∙ c.1) (sym at ∙ own) m.is
          (len_old_proxy g c.0 c.2 (omega (arith, m.since)))
      | inr far ↦ at_link g link (Central c.0) s (across_side g c.0) n (g.bypass c.0).accepted_at (sym on ∙ c.1) (sym at ∙ far)
          (same_Some _ _ (sym len ∙ ((positions-in law).each k r here).across_to e c.0 dec c.1 far))
          (len_old_across g c.0 c.2 (((positions-in law).each k r here).across_stage e c.0 dec c.1 far))
    ]
    | inr c ↦ at_link g link (inner_link c.0) s B n (g.bypass c.1).taken_at (sym on ∙ c.2) (sym at ∙ c.3)
        (same_Some _ _ (sym len ∙ ((positions-in law).each k r here).inner_to e c.0 c.1 dec c.2 c.4))
        (len_inner_out g c.0 c.1 c.4 (((positions-in law).each k r here).inner_stage e c.0 c.1 dec c.2 c.4))
  ]
  knows link s n (OutwardFrom k r e here dec len on at) = elim (outward_case k r e here dec) [
    | inl c ↦ elim c.3 [
      | inl own ↦ let m = known_some 4 (g.bypass c.0).stage (g.bypass c.0).accepted_at n r.outward.length_from
          (((positions-in law).each k r here).own_from e c.0 dec c.1 own) len in
          at_link g link (Central c.0) s (across_side g c.0) n (g.bypass c.0).accepted_at (sym on ∙ c.1) (sym at ∙ ap opposite own) m.is
          (len_old_across g c.0 c.2 (omega (arith, m.since)))
      | inr far ↦ at_link g link (Central c.0) s (proxy_side g c.0) n (g.bypass c.0).taken_at (sym on ∙ c.1)
          (sym at ∙ ap opposite far ∙ opposite-twice (proxy_side g c.0))
          (same_Some _ _ (sym len ∙ ((positions-in law).each k r here).across_from e c.0 dec c.1 far))
          (len_old_proxy g c.0 c.2 (((positions-in law).each k r here).across_stage e c.0 dec c.1 far))
    ]
    | inr c ↦ let m = known_some 5 (g.bypass c.1).stage (g.bypass c.1).accepted_at n r.outward.length_from
        (((positions-in law).each k r here).inner_from e c.0 c.1 dec c.2 c.4) len in
        at_link g link (inner_link c.0) s A n (g.bypass c.1).accepted_at (sym on ∙ c.2) (sym at ∙ ap opposite c.3) m.is
        (len_inner_in g c.0 c.1 c.4 (omega (arith, m.since)))
  ]
  knows link s n (InwardTo k r e here dec len on at) =
      let c = inward_case k r e here dec in
      let m = known_some 4 (g.bypass c.bypass).stage (g.bypass c.bypass).accepted_at n (inward_edge r).length_to
      (((positions-in law).each k r here).inward_to e c.bypass dec c.begun) len in
      at_link g link (inner_link c.link) s A n (g.bypass c.bypass).accepted_at (sym on ∙ c.on) (sym at ∙ c.side) m.is
      (len_inner_in g c.link c.bypass c.by (omega (arith, m.since)))
  knows link s n (InwardFrom k r e here dec len on at) =
      let c = inward_case k r e here dec in
      let m = known_some 4 (g.bypass c.bypass).stage (g.bypass c.bypass).taken_at n (inward_edge r).length_from
      (((positions-in law).each k r here).inward_from e c.bypass dec c.begun) len in
      at_link g link (inner_link c.link) s B n (g.bypass c.bypass).taken_at (sym on ∙ c.on) (sym at ∙ ap opposite c.side) m.is
      (len_inner_out g c.link c.bypass c.by (omega (arith, m.since)))
  knows link s n (Accepting from to i old side fresh u on at) =
      let is = accept_told w g from to i old side fresh n law.controls u in
      accepting link s n from to old side fresh is (grind (arith, is.stage, nat_tests)) on at
  knows link s n (StoppingIn from to i old side out_length u on at) =
      let is = stop_told w g from to i old side n out_length law.controls u in
      at_link g link (Central old) s (across_side g old) n (g.bypass old).accepted_at (sym on) (sym at ∙ ap opposite is.at_side) is.accepted
      (len_old_across g old (grind (arith, is.stage, nat_tests)) (omega (arith, is.stage)))
  knows link s n (StoppingOut from to i old side in_length u on at) =
      let is = stop_told w g from to i old side in_length n law.controls u in
      at_link g link (Central old) s (proxy_side g old) n (g.bypass old).taken_at (sym on) (sym at ∙ is.at_side) is.taken
      (len_old_proxy g old (grind (arith, is.stage, nat_tests)) (omega (arith, is.stage)))
  knows link s n (StoppingInner from to i old side out_length u k r e here there has dec on at) =
      let c = stopped_inner from to i old side n out_length k r e u here has dec in
      at_link g link (inner_link c.0) s A n (g.bypass old).accepted_at (sym on ∙ c.1) (sym at ∙ c.2) c.4.accepted
      (len_inner_in g c.0 old c.3 (omega (arith, c.4.stage)))
  knows link s n (StoppingInnerOut from to i old side in_length u k r e here there has dec on at) =
      let c = stopped_inner from to i old side in_length n k r e u here has dec in
      at_link g link (inner_link c.0) s B n (g.bypass old).taken_at (sym on ∙ c.1) (sym at ∙ ap opposite c.2) c.4.taken
      (len_inner_out g c.0 old c.3 (omega (arith, c.4.stage)))
  knows link s n (Ending from to i l side u on at) =
      let c = will_stop_told w g from to i l side n law.controls u in
      at_link g link (inner_of g c.0) s A n (g.bypass c.0).accepted_at (sym on ∙ c.2.on_link) (sym at ∙ ap opposite c.2.at_side)
      c.2.accepted
      (len_inner_in g (g.bypass c.0).inner c.0 ((law.bypasses c.0).inner_by (grind (arith, c.2.stage, nat_tests)))
      (omega (arith, c.2.stage)))

  one : (link : LinkId) (s : Side) (m n : ℕ) → Knows w link s m → Knows w link s n → m ≡ n
  one link s m n p q =
      let x = knows link s m p in
      let y = knows link s n q in
      let same : x.bypass ≡ y.bypass = same_Some _ _ (sym x.by ∙ y.by) in
      x.number ∙ ap (λ o. number_of g o link s) same ∙ sym y.number

  -- a router that is attached to a link is seen there
  pub attached_view : (link : LinkId) (s : Side) (k : Key) (r : Router) → router_at w k ≡ Some r → is_attached link s r ≡ true →
      (side_router g link s ≡ Some k) × (view w g link s ≡ Standing r) × (is_recorded w g link ≡ true)
  unfolding view_by router_view
  attached_view link s k r here on =
      let e = attached_recorded w g k r link s (links-in law) here on in
      let known : side_router g link s ≡ Some k = rw (e.1, e.2) at e.3.router in
      (known, rw (known, here, on) refl, rw (e.1) at e.3.recorded)

  not_passed : (from to i : ℕ) (link : LinkId) (s : Side) (n : ℕ) (item : Item) (moves : List Descriptor) (k : Key) (r : Router) →
      IsUnderWay w from to i (messages.Item link s n item moves) → router_at w k ≡ Some r → is_attached link s r ≡ true →
      (fed_queue link s r).current ≤ n
  unfolding taking_queue
  not_passed from to i link s n item moves k r u here on = let seen = attached_view link s k r here on in
      law.items.not_passed from to i link s n item moves (fed_queue link s r) u (rw (seen.1) refl)

  on_old : (o : ℕ) (r : Router) → has_decaying (Central o) (proxy_side g o) r ≡ true → is_attached (Central o) (proxy_side g o) r ≡ true
  unfolding is_attached
  on_old o r h = grind (arith, h)

  below_is : (from to i : ℕ) (link : LinkId) (s : Side) (n : ℕ) (item : Item) (moves : List Descriptor) (length : ℕ) →
      IsUnderWay w from to i (messages.Item link s n item moves) → IsLength g link (opposite s) length → n < length
  unfolding number_of next_sent sending_queue
  below_is from to i link s n item moves length u is = elim is.since [
    | inl e ↦ law.items.below_length from to i link s n item moves length u e
    | inr e ↦
        let begun : is_begun (g.bypass is.bypass) ≡ true = grind (arith, e.0, nat_tests) in
        let p : Passes w (Some (g.bypass is.bypass).proxy) (has_decaying (Central is.bypass) (proxy_side g is.bypass)) =
        passes-tells w _ _ ((law.stages is.bypass).proxy_old begun (omega (arith, e.0))) in
        let on : is_attached link (opposite s) p.router ≡ true = rw (e.1, e.2) (on_old is.bypass p.router p.passed) in
        let seen = attached_view link (opposite s) p.key p.router p.here on in
        let sent : n < p.router.out_queue.current = law.items.was_sent from to i link s n item moves p.router.out_queue.current u
        (rw (seen.1, e.1) refl) in
        let low : p.router.out_queue.current ≤ (g.bypass is.bypass).taken_at =
        law.proxy_numbers.out_current is.bypass p.router (ap (router_at w) (same_Some _ _ p.known) ∙ p.here) (omega (arith, e.0)) in
        let is_taken : length ≡ (g.bypass is.bypass).taken_at = is.number ∙ rw (e.1, e.2, same_side-itself (proxy_side g is.bypass)) refl in
        omega (arith, sent, low, is_taken)
  ]

  -- a length that has been passed
  passed : (o : Option ℕ) (u : ℕ) → has_passed o u ≡ true → (n : ℕ) × (o ≡ Some n) × (n ≤ u)
  unfolding has_passed
  passed None u h = cc
  passed (Some n) u h = (n, refl, grind (arith, h, nat_tests))

  -- the receiver is ahead: the sender has passed the length
  past : (link : LinkId) (s : Side) (j k : Key) (q r : Router) → router_at w j ≡ Some q → router_at w k ≡ Some r →
      is_attached link s q ≡ true → is_attached link (opposite s) r ≡ true →
      (sending_queue link (opposite s) r).current < (fed_queue link s q).current →
      (n : ℕ) × (side_length g link (opposite s) ≡ Some n) × (n ≤ (sending_queue link (opposite s) r).current)
  unfolding next_sent taking_queue
  past link s j k q r at here on_q on_r less = passed (side_length g link (opposite s)) u
      (go (has_passed (side_length g link (opposite s)) u) refl)
    where
      u : ℕ
      u = (sending_queue link (opposite s) r).current

      go : (c : Bool) → has_passed (side_length g link (opposite s)) u ≡ c → has_passed (side_length g link (opposite s)) u ≡ true
      go true e = e
      go false e =
          let d = attached_view link s j q at on_q in
          let c = attached_view link (opposite s) k r here on_r in
          let late : (fed_queue link s q).current ≤ u = law.order.current link s u (fed_queue link s q) d.2 (rw (c.1) refl) (rw (d.1) refl)
          e in
          absurd (omega (arith, late, less))

  -- which bypass has settled a length
  settled : (link : LinkId) (s : Side) (n : ℕ) → side_length g link s ≡ Some n →
      (o : ℕ) × (bypass_of g link ≡ Some o) × (bypass_length g o link s ≡ Some n)
  unfolding length_by
  settled link s n e = go (bypass_of g link) refl e
    where
      go : (o : Option ℕ) → bypass_of g link ≡ o → length_by g link s o ≡ Some n →
          (o : ℕ) × (bypass_of g link ≡ Some o) × (bypass_length g o link s ≡ Some n)
      go None h f = cc
      go (Some o) h f = (o, h, f)

  old_length : (i n : ℕ) (s : Side) → side_length g (Central i) s ≡ Some n →
      (3 ≤ (g.bypass i).stage) × (is_begun (g.bypass i) ≡ true) ×
      (((s ≡ proxy_side g i) × (n ≡ (g.bypass i).taken_at)) ⊎ ((s ≡ across_side g i) × (n ≡ (g.bypass i).accepted_at)))
  unfolding bypass_length
  old_length i n s e =
      let c = settled (Central i) s n e in
      let begun = bypass_of-central_is g i c.0 c.1 in
      go begun.1 (side_is s (proxy_side g i)) (ap (λ o. bypass_length g o (Central i) s) (sym begun.0) ∙ c.2)
    where
      go : is_begun (g.bypass i) ≡ true → (s ≡ proxy_side g i) ⊎ (s ≡ across_side g i) → bypass_length g i (Central i) s ≡ Some n →
          (3 ≤ (g.bypass i).stage) × (is_begun (g.bypass i) ≡ true) ×
          (((s ≡ proxy_side g i) × (n ≡ (g.bypass i).taken_at)) ⊎ ((s ≡ across_side g i) × (n ≡ (g.bypass i).accepted_at)))
      go begun (inl x) f = let m : IsKnown 3 (g.bypass i).stage (g.bypass i).taken_at n =
          known_from-tells _ _ _ _ (rw (x, same_side-itself (proxy_side g i)) at f) in (m.since, begun, inl (x, m.is))
      go begun (inr x) f = let m : IsKnown 3 (g.bypass i).stage (g.bypass i).accepted_at n =
          known_from-tells _ _ _ _ (rw (x, same_side-opposite (proxy_side g i)) at f) in (m.since, begun, inr (x, m.is))

  inner_in_length : (p : Key) (n : ℕ) → side_length g (inner_link p) A ≡ Some n →
      (o : ℕ) × ((g.peripheral p).by ≡ Some o) × (3 ≤ (g.bypass o).stage) × (n ≡ (g.bypass o).accepted_at)
  unfolding bypass_length
  inner_in_length p n e =
      let c = settled (inner_link p) A n e in
      let m : IsKnown 3 (g.bypass c.0).stage (g.bypass c.0).accepted_at n = known_from-tells _ _ _ _ c.2 in
      (c.0, sym (bypass_of-inner g p) ∙ c.1, m.since, m.is)

  inner_out_length : (p : Key) (n : ℕ) → side_length g (inner_link p) B ≡ Some n →
      (o : ℕ) × ((g.peripheral p).by ≡ Some o) × (2 ≤ (g.bypass o).stage) × (n ≡ (g.bypass o).taken_at)
  unfolding bypass_length
  inner_out_length p n e =
      let c = settled (inner_link p) B n e in
      let m : IsKnown 2 (g.bypass c.0).stage (g.bypass c.0).taken_at n = known_from-tells _ _ _ _ c.2 in
      (c.0, sym (bypass_of-inner g p) ∙ c.1, m.since, m.is)

  begun_of : (o : ℕ) → 2 ≤ (g.bypass o).stage → is_begun (g.bypass o) ≡ true
  begun_of o h = grind (arith, h, nat_tests)

  -- the router at the inner link's side A is the proxy of its bypass
  proxy_of : (p k : Key) (o : ℕ) → (g.peripheral p).by ≡ Some o → is_begun (g.bypass o) ≡ true → side_router g (inner_link p) A ≡ Some k →
      (g.bypass o).proxy ≡ k
  proxy_of p k o by begun e = same_Some _ k (sym ((law.bypasses o).proxy_inner begun) ∙ ap (λ x. side_router g (inner_link x) A)
      (law.stands.by_inner p o by) ∙ e)

  -- a router that sends over its old link as the router across, at the length, has it decaying and knows the length from there
  across_knows : (i : ℕ) (j : Key) (q : Router) → router_at w j ≡ Some q → is_attached (Central i) (across_side g i) q ≡ true →
      is_begun (g.bypass i) ≡ true → 3 ≤ (g.bypass i).stage → Knows w (Central i) (proxy_side g i) (g.bypass i).taken_at
  unfolding is_attached
  across_knows i j q at on begun late = go (has_link q.outward.primary (Central i) (across_side g i)) refl
    where
      go : (c : Bool) → has_link q.outward.primary (Central i) (across_side g i) ≡ c →
          Knows w (Central i) (proxy_side g i) (g.bypass i).taken_at
      go true e =
          let d : HasEnd q.outward.primary (Central i) (across_side g i) = has_link-tells _ _ _ e in
          absurd (omega (arith, late, ((positions-in law).each j q at).primary_old d.end i d.there d.on_link begun))
      go false e =
          let d : HasEnd q.outward.decaying (Central i) (across_side g i) = has_link-tells _ _ _ (grind (arith, e, on)) in
          OutwardFrom j q d.end at d.there (((positions-in law).each j q at).across_from d.end i d.there d.on_link d.at_side) d.on_link
          (ap opposite d.at_side ∙ opposite-twice (proxy_side g i))

  -- the inward link of a proxy that is being bypassed decays
  inner_decays : (p k : Key) (r : Router) (o : ℕ) → router_at w k ≡ Some r → is_attached (inner_link p) A r ≡ true →
      (g.peripheral p).by ≡ Some o → (e : LinkEnd) × ((inward_edge r).decaying ≡ Some e) × (e.link ≡ inner_link p) × (e.side ≡ A)
  unfolding is_attached
  inner_decays p k r o here on by = go (has_link (inward_edge r).primary (inner_link p) A) refl
    where
      go : (c : Bool) → has_link (inward_edge r).primary (inner_link p) A ≡ c →
          (e : LinkEnd) × ((inward_edge r).decaying ≡ Some e) × (e.link ≡ inner_link p) × (e.side ≡ A)
      go true e =
          let d : HasEnd (inward_edge r).primary (inner_link p) A = has_link-tells _ _ _ e in
          let none = sym (((positions-in law).each k r here).inward_primary d.end d.there) in
          absurd (none-some o (none ∙ ap (bypass_of g) d.on_link ∙ bypass_of-inner g p ∙ by))
      go false e = let d : HasEnd (inward_edge r).decaying (inner_link p) A = has_link-tells _ _ _ (grind (arith, e, on)) in
          (d.end, d.there, d.on_link, d.at_side)

  -- StopProxying is under way to the proxy at stage 3
  record StopsAt (o : ℕ) : Type 0 where
    pub from : ℕ
    pub to : ℕ
    pub place : ℕ
    pub side : Side
    pub in_length : ℕ
    pub out_length : ℕ
    pub sent : IsUnderWay w from to place (messages.StopProxying side o in_length out_length)

  counts_stop : Message → ℕ
  counts_stop (messages.StopProxying side old in_length out_length) = 1
  counts_stop other = 0

  stops_at : (o : ℕ) → (g.bypass o).stage ≡ 3 → StopsAt o
  unfolding control_weight of_bypass counts_stop
  stops_at o st = go x.0 x.1 x.2 x.3 x.4 x.5
    where
      weight : control_weight g (λ from to m. counts_stop m) o ≡ 1
      weight = rw st refl

      x : (from : ℕ) × (to : ℕ) × (i : ℕ) × (m : Message) × IsUnderWay w from to i m × (1 ≤ of_bypass g o counts_stop m)
      x = found (λ from to. of_bypass g o counts_stop) w (omega (arith, weight, law.controls.control o (λ from to m. counts_stop m)))

      none : (b : Bool) → 1 ≤ cond b 0 0 → ⊥
      none true l = absurd (omega (arith, l))
      none false l = absurd (omega (arith, l))

      go : (from to i : ℕ) (m : Message) → IsUnderWay w from to i m → 1 ≤ of_bypass g o counts_stop m → StopsAt o
      go from to i (messages.Item link s n item moves) u l = absurd (omega (arith, l))
      go from to i (messages.StopProxying s old in_length out_length) u l = at (nat_eq old o) refl
        where
          at : (c : Bool) → nat_eq old o ≡ c → StopsAt o
          at true e = let same : old ≡ o = grind (arith, e, nat_tests) in
              record {
                from = from;
                to = to;
                place = i;
                side = s;
                in_length = in_length;
                out_length = out_length;
                sent =
                    subst (λ y. IsUnderWay w from to i (messages.StopProxying s y in_length out_length)) same u;
              }
          at false e = absurd (grind (arith, e, l))
      go from to i (messages.Flush link s) u l = absurd (omega (arith, l))
      go from to i other u l = absurd (none _ l)

  -- who knows how many items the proxy sends inward: itself, or StopProxying for it
  inner_knows : (p k : Key) (r : Router) (o : ℕ) → router_at w k ≡ Some r → is_attached (inner_link p) A r ≡ true →
      (g.peripheral p).by ≡ Some o → 3 ≤ (g.bypass o).stage → (g.bypass o).proxy ≡ k → Knows w (inner_link p) A (g.bypass o).accepted_at
  inner_knows p k r o here on by late proxy = go (inner_decays p k r o here on by) (nat_le 4 (g.bypass o).stage) refl
    where
      begun : is_begun (g.bypass o) ≡ true
      begun = grind (arith, late, nat_tests)

      go : (e : LinkEnd) × ((inward_edge r).decaying ≡ Some e) × (e.link ≡ inner_link p) × (e.side ≡ A) → (c : Bool) →
          nat_le 4 (g.bypass o).stage ≡ c → Knows w (inner_link p) A (g.bypass o).accepted_at
      go e true h =
          let owns : g.begun k ≡ Some o = ap g.begun (sym proxy) ∙ law.begun.proxy_begun o begun in
          InwardTo k r e.0 here e.1 (((positions-in law).each k r here).inward_to e.0 o e.1 owns ∙ known_from-yes 4 _ _ (grind (arith, h, nat_tests)))
          e.2 e.3
      go e false h =
          let st : (g.bypass o).stage ≡ 3 = grind (arith, h, late, nat_tests) in
          let x : StopsAt o = stops_at o st in
          let is : IsStop g x.from x.to o x.side x.in_length x.out_length =
          stop_told w g x.from x.to x.place o x.side x.in_length x.out_length law.controls x.sent in
          let old : Passes w (Some (g.bypass o).proxy) (has_decaying (Central o) (proxy_side g o)) =
          passes-tells w _ _ ((law.stages o).proxy_old begun (omega (arith, st))) in
          let same : r ≡ old.router = same_Some _ _ (sym here ∙ ap (router_at w) (sym proxy ∙ same_Some _ _ old.known) ∙ old.here) in
          let has : router_has r (Central o) x.side ≡ true = rw (same, is.at_side) (has_old o old.router old.passed) in
          subst (Knows w (inner_link p) A) is.accepted (StoppingInner x.from x.to x.place o x.side x.out_length x.sent k r e.0 here
          (sym (is.receiver ∙ ap (λ y. y.node) proxy)) has e.1 e.2 e.3)
        where
          has_old : (o : ℕ) (y : Router) → has_decaying (Central o) (proxy_side g o) y ≡ true →
              router_has y (Central o) (proxy_side g o) ≡ true
          has_old o y h = grind (arith, h)

  ahead : (link : LinkId) (s : Side) (j k : Key) (q r : Router) → router_at w j ≡ Some q → router_at w k ≡ Some r →
      is_attached link s q ≡ true → is_attached link (opposite s) r ≡ true →
      (sending_queue link (opposite s) r).current < (fed_queue link s q).current →
      Knows w link (opposite s) (sending_queue link (opposite s) r).current
  unfolding sending_queue fed_queue
  ahead (Central i) s j k q r at here on_q on_r less = go (past (Central i) s j k q r at here on_q on_r less)
    where
      go : (n : ℕ) × (side_length g (Central i) (opposite s) ≡ Some n) × (n ≤ r.out_queue.current) →
          Knows w (Central i) (opposite s) r.out_queue.current
      go c = let d = old_length i c.0 (opposite s) c.1 in elim d.2 [
        | inl own ↦
            let proxy : (g.bypass i).proxy ≡ k = same_Some _ k (sym ((law.bypasses i).proxy_old d.1) ∙ ap (side_router g (Central i))
            (sym own.0) ∙ (attached_view (Central i) (opposite s) k r here on_r).0) in
            let low : r.out_queue.current ≤ (g.bypass i).taken_at =
            law.proxy_numbers.out_current i r (ap (router_at w) proxy ∙ here) (omega (arith, d.0)) in
            let is : (g.bypass i).taken_at ≡ r.out_queue.current = omega (arith, low, own.1, c.2) in
            let far : s ≡ across_side g i = sym (opposite-twice s) ∙ ap opposite own.0 in
            subst (λ t. Knows w (Central i) t r.out_queue.current) (sym own.0)
            (subst (Knows w (Central i) (proxy_side g i)) is (across_knows i j q at
            (subst (λ t. is_attached (Central i) t q ≡ true) far on_q) d.1 d.0))
        | inr far ↦
            let own : s ≡ proxy_side g i = sym (opposite-twice s) ∙ ap opposite far.0 ∙ opposite-twice (proxy_side g i) in
            let proxy : (g.bypass i).proxy ≡ j = same_Some _ j (sym ((law.bypasses i).proxy_old d.1) ∙ ap (side_router g (Central i))
            (sym own) ∙ (attached_view (Central i) s j q at on_q).0) in
            let low : q.in_queue.current ≤ (g.bypass i).accepted_at = law.proxy_numbers.in_current i q (ap (router_at w) proxy ∙ at) d.0 in
            absurd (omega (arith, low, far.1, c.2, less))
      ]
  ahead (Peripheral n x) A j k q r at here on_q on_r less = go (past (Peripheral n x) A j k q r at here on_q on_r less)
    where
      go : (c : ℕ) × (side_length g (Peripheral n x) B ≡ Some c) × (c ≤ r.out_queue.current) →
          Knows w (Peripheral n x) B r.out_queue.current
      go c =
          let d = inner_out_length (record { node = n; serial = x }) c.0 c.1 in
          let proxy : (g.bypass d.0).proxy ≡ j = proxy_of (record { node = n; serial = x }) j d.0 d.1 (begun_of d.0 d.2)
          (attached_view (Peripheral n x) A j q at on_q).0 in
          let low : q.out_queue.current ≤ (g.bypass d.0).taken_at = law.proxy_numbers.out_current d.0 q (ap (router_at w) proxy ∙ at) d.2 in
          absurd (omega (arith, low, d.3, c.2, less))
  ahead (Peripheral n x) B j k q r at here on_q on_r less = go (past (Peripheral n x) B j k q r at here on_q on_r less)
    where
      go : (c : ℕ) × (side_length g (Peripheral n x) A ≡ Some c) × (c ≤ r.in_queue.current) → Knows w (Peripheral n x) A r.in_queue.current
      go c =
          let d = inner_in_length (record { node = n; serial = x }) c.0 c.1 in
          let proxy : (g.bypass d.0).proxy ≡ k = proxy_of (record { node = n; serial = x }) k d.0 d.1 (begun_of d.0 (omega (arith, d.2)))
          (attached_view (Peripheral n x) A k r here on_r).0 in
          let low : r.in_queue.current ≤ (g.bypass d.0).accepted_at =
          law.proxy_numbers.in_current d.0 r (ap (router_at w) proxy ∙ here) d.2 in
          let is : (g.bypass d.0).accepted_at ≡ r.in_queue.current = omega (arith, low, d.3, c.2) in
          subst (Knows w (Peripheral n x) A) is (inner_knows (record { node = n; serial = x }) k r d.0 here on_r d.1 d.2 proxy)

  pub length_law : LengthLaw w
  length_law = record {
    one = one;
    not_passed = λ from to i link s n item moves k r u here there on. not_passed from to i link s n item moves k r u here on;
    below = λ from to i link s n item moves length u k. below_is from to i link s n item moves length u (knows link (opposite s) length k);
    ahead = ahead;
  }

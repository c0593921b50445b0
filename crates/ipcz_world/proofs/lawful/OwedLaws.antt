-- An unknown length of a decaying link belongs to a bypass that has a message under way.
use Rattle.ipcz_world.proofs.frames.RolesTell.{positions-in}
use Rattle.std.specs.Prelude.{◌≡◌, ◌⊎◌, ◌≤◌, ◌<◌, ℕ, Bool, true, false, cond, nat_eq, nat_le, Option, Some, None, refl}
use Rattle.std.proofs.Common.{arith, ap, subst, ◌∙◌, sym, inl, inr}
use Rattle.std.proofs.lemmas.Bool.Decides.{nat_tests}
use Rattle.std.proofs.lemmas.Option.{none-some, same_Some}
use Rattle.ipcz_world.proofs.Vocabulary.{A, LinkId, Central, LinkEnd, Message, Router, inward_edge, World, Key, router_at, Books, Records}
use Rattle.ipcz_world.proofs.Vocabulary.{bypass_of, inner_link, is_begun, known_from, proxy_side, IsUnderWay, of_bypass, control_weight}
use Rattle.ipcz_world.proofs.Vocabulary.{inner_of, Inv, same_link, Edge, has_decaying, has_inward_decaying}
use Rattle.ipcz_base.specs.declared.message.Message.TheVariants as messages
use Rattle.ipcz_world.specs.Bypasses.{is_by}
use Rattle.ipcz_world.specs.Owed.{IsBypassing, IsInnerOf, TakesAway, takes_link, IsEdgeOf}
use Rattle.ipcz_world.proofs.frames.Flowing.{found}
use Rattle.ipcz_world.proofs.lawful.LengthLaws.{outward_case, inward_case}
use Rattle.ipcz_world.specs.Laws.{names_old}
use Rattle.ipcz_world.proofs.acts.Moved.{passes_tells}
use Rattle.ipcz_world.proofs.frames.Telling.{IsPeer, IsAccept, IsStop, IsWillStop, peer_told, accept_told, stop_told, will_stop_told}
use Rattle.ipcz_world.proofs.frames.Telling.{one_holds}
use Rattle.std.proofs.lemmas.Bool.{or_left, or_right}
use Rattle.ipcz_world.proofs.facts.Lengths.{same_link-itself, HasEnd, has_link-tells}

not_known : (first stage n : ℕ) (x : Option ℕ) → x ≡ known_from first stage n → x ≡ None → stage < first
unfolding known_from
not_known first stage n x e f = go (nat_le first stage) refl (sym e ∙ f)
  where
    go : (c : Bool) → nat_le first stage ≡ c → cond c (Some n) None ≡ None → stage < first
    go true q h = cc
    go false q h = grind (arith, q, nat_tests)

pub one_of_four : (s : ℕ) → 1 ≤ s → s ≤ 4 → ◌≡◌ {A = ℕ} (cond (nat_eq s 1) 1
    (cond (nat_eq s 2) 1 (cond (nat_eq s 3) 1 (cond (nat_eq s 4) 1 0)))) 1
one_of_four s l h = grind (arith, l, h, nat_tests)

same_as : (l m : LinkId) → l ≡ m → same_link l m ≡ true
same_as l m e = subst (λ x. same_link l x ≡ true) e (same_link-itself l)

old_is : (old o : ℕ) → 1 ≤ cond (nat_eq old o) 1 0 → old ≡ o
old_is old o h = let e = one_holds (nat_eq old o) h in grind (arith, nat_tests, e)

module _ (w : World) (b : Books) (g : Records) (law : Inv w b g) where
  -- the proxy has both links while it isn't told
  inner_of_proxy : (link : LinkId) (o : ℕ) → link ≡ inner_of g o → is_begun (g.bypass o) ≡ true → (g.bypass o).stage ≤ 3 →
      IsInnerOf w link o
  inner_of_proxy link o q begun early =
      let s = passes_tells w (g.bypass o).proxy (has_decaying (Central o) (proxy_side g o)) ((law.stages o).proxy_old begun early) in
      let t = passes_tells w (g.bypass o).proxy (has_inward_decaying (inner_of g o) A) ((law.stages o).proxy_inner begun early) in
      let same : t.0 ≡ s.0 = same_Some t.0 s.0 (sym t.1 ∙ s.1) in
      let e : HasEnd s.0.outward.decaying (Central o) (proxy_side g o) =
      has_link-tells s.0.outward.decaying (Central o) (proxy_side g o) s.2 in
      let d : HasEnd (inward_edge s.0).decaying (inner_of g o) A =
      has_link-tells (inward_edge s.0).decaying (inner_of g o) A (subst (λ r. has_inward_decaying (inner_of g o) A r ≡ true) same t.2)
      in
      record {
        key = (g.bypass o).proxy;
        proxy = s.0;
        outer = e.end;
        inner = d.end;
        here = s.1;
        outward = e.there;
        outer_link = e.on_link;
        inward = d.there;
        inner_link = d.on_link ∙ sym q;
      }

  -- which link: the old one before the proxy is told, or the inner one
  abbrev IsTaken : LinkId → ℕ → Type 0
  IsTaken link o = ((link ≡ Central o) × ((g.bypass o).stage ≤ 3)) ⊎ (link ≡ inner_of g o)

  taking : (link : LinkId) (o from to i : ℕ) (m : Message) → is_begun (g.bypass o) ≡ true → IsTaken link o → IsUnderWay w from to i m →
      1 ≤ of_bypass g o (λ m. 1) m → TakesAway w m link
  unfolding of_bypass takes_link names_old
  taking link o from to i (messages.Item l s n item moves) begun is u h = absurd (omega (arith, h))
  taking link o from to i (messages.Flush l s) begun is u h = absurd (omega (arith, h))
  taking link o from to i (messages.BypassPeer l s old target fresh) begun (inl is) u h =
      inl (or_right (same_link l link) (same_link (Central old) link) (same_as (Central old) link (ap Central (old_is old o h) ∙ sym is.0)))
  taking link o from to i (messages.BypassPeer l s old target fresh) begun (inr is) u h =
      let at : IsPeer g from to old l s target fresh = peer_told w g from to i old l s target fresh law.controls u in
      inl (or_left (same_link l link) (same_link (Central old) link)
      (same_as l link (at.on_link ∙ ap (inner_of g) (old_is old o h) ∙ sym is)))
  taking link o from to i (messages.AcceptBypass old s fresh length) begun (inl is) u h =
      inl (same_as (Central old) link (ap Central (old_is old o h) ∙ sym is.0))
  taking link o from to i (messages.AcceptBypass old s fresh length) begun (inr is) u h =
      let at : IsAccept g from to old s fresh length = accept_told w g from to i old s fresh length law.controls u in
      let e : old ≡ o = old_is old o h in
      inr (o, one_holds (nat_eq old o) h, inner_of_proxy link o is begun (omega (arith, ap (λ z. (g.bypass z).stage) e, at.stage)))
  taking link o from to i (messages.StopProxying s old in_length out_length) begun (inl is) u h =
      inl (same_as (Central old) link (ap Central (old_is old o h) ∙ sym is.0))
  taking link o from to i (messages.StopProxying s old in_length out_length) begun (inr is) u h =
      let at : IsStop g from to old s in_length out_length = stop_told w g from to i old s in_length out_length law.controls u in
      let e : old ≡ o = old_is old o h in
      inr (o, one_holds (nat_eq old o) h, inner_of_proxy link o is begun (omega (arith, ap (λ z. (g.bypass z).stage) e, at.stage)))
  taking link o from to i (messages.ProxyWillStop l s in_length) begun is u h = go is
    where
      told : (p : ℕ) × (bypass_of g l ≡ Some p) × IsWillStop g from to p l s in_length
      told = will_stop_told w g from to i l s in_length law.controls u

      own : told.0 ≡ o
      own = let f : is_by g l o ≡ true = one_holds (is_by g l o) h in grind (arith, nat_tests, told.1, f)

      go : IsTaken link o → TakesAway w (messages.ProxyWillStop l s in_length) link
      go (inl t) = absurd (omega (arith, t.1, ap (λ z. (g.bypass z).stage) own, told.2.stage))
      go (inr t) = inl (same_as l link (told.2.on_link ∙ ap (inner_of g) own ∙ sym t))

  -- a bypass that hasn't ended has a message under way
  bypassing : (link : LinkId) (o : ℕ) → is_begun (g.bypass o) ≡ true → (g.bypass o).stage ≤ 4 → IsTaken link o → IsBypassing w link
  unfolding control_weight
  bypassing link o begun early is =
      let weight : control_weight g (λ from to m. 1) o ≡ 1 = one_of_four (g.bypass o).stage (grind (arith, begun, nat_tests)) early in
      let t = found (λ from to. of_bypass g o (λ m. 1)) w (omega (arith, weight, law.controls.control o (λ from to m. 1))) in
      record { from = t.0; to = t.1; place = t.2; message = t.3; under_way = t.4; takes = taking link o t.0 t.1 t.2 t.3 begun is t.4 t.5 }

  inner_is : (link : LinkId) (p : Key) (o : ℕ) → link ≡ inner_link p → (g.peripheral p).by ≡ Some o → IsTaken link o
  inner_is link p o e by = inr (e ∙ ap inner_link (sym (law.stands.by_inner p o by)))

  outward_to : (k : Key) (r : Router) (d : LinkEnd) → router_at w k ≡ Some r → r.outward.decaying ≡ Some d → r.outward.length_to ≡ None →
      IsBypassing w d.link
  outward_to k r d here dec unknown = elim (outward_case w b g law k r d here dec) [
    | inl c ↦ elim c.3 [
      | inl own ↦ let l = not_known 4 _ _ _ (((positions-in law).each k r here).own_to d c.0 dec c.1 own) unknown in
          bypassing d.link c.0 c.2 (omega (arith, l)) (inl (c.1, omega (arith, l)))
      | inr far ↦ absurd (none-some _ (sym unknown ∙ ((positions-in law).each k r here).across_to d c.0 dec c.1 far))
    ]
    | inr c ↦ absurd (none-some _ (sym unknown ∙ ((positions-in law).each k r here).inner_to d c.0 c.1 dec c.2 c.4))
  ]

  outward_from : (k : Key) (r : Router) (d : LinkEnd) → router_at w k ≡ Some r → r.outward.decaying ≡ Some d →
      r.outward.length_from ≡ None → IsBypassing w d.link
  outward_from k r d here dec unknown = elim (outward_case w b g law k r d here dec) [
    | inl c ↦ elim c.3 [
      | inl own ↦ let l = not_known 4 _ _ _ (((positions-in law).each k r here).own_from d c.0 dec c.1 own) unknown in
          bypassing d.link c.0 c.2 (omega (arith, l)) (inl (c.1, omega (arith, l)))
      | inr far ↦ absurd (none-some _ (sym unknown ∙ ((positions-in law).each k r here).across_from d c.0 dec c.1 far))
    ]
    | inr c ↦ bypassing d.link c.1 (law.stands.by_begun c.0 c.1 c.4)
        (omega (arith, not_known 5 _ _ _ (((positions-in law).each k r here).inner_from d c.0 c.1 dec c.2 c.4) unknown))
        (inner_is d.link c.0 c.1 c.2 c.4)
  ]

  inward_to : (k : Key) (r : Router) (d : LinkEnd) → router_at w k ≡ Some r → (inward_edge r).decaying ≡ Some d →
      (inward_edge r).length_to ≡ None → IsBypassing w d.link
  inward_to k r d here dec unknown = let c = inward_case w b g law k r d here dec in
      bypassing d.link c.bypass (law.stands.by_begun c.link c.bypass c.by)
      (omega (arith, not_known 4 _ _ _ (((positions-in law).each k r here).inward_to d c.bypass dec c.begun) unknown))
      (inner_is d.link c.link c.bypass c.on c.by)

  inward_from : (k : Key) (r : Router) (d : LinkEnd) → router_at w k ≡ Some r → (inward_edge r).decaying ≡ Some d →
      (inward_edge r).length_from ≡ None → IsBypassing w d.link
  inward_from k r d here dec unknown = let c = inward_case w b g law k r d here dec in
      bypassing d.link c.bypass (law.stands.by_begun c.link c.bypass c.by)
      (omega (arith, not_known 4 _ _ _ (((positions-in law).each k r here).inward_from d c.bypass dec c.begun) unknown))
      (inner_is d.link c.link c.bypass c.on c.by)

  edge_is : (r : Router) (e : Edge) → r.inward ≡ Some e → inward_edge r ≡ e
  edge_is r e q = rw q refl

  -- if a length of a decaying link isn't known, its bypass has a message under way
  pub length_to : (k : Key) (r : Router) (e : Edge) (d : LinkEnd) → router_at w k ≡ Some r → IsEdgeOf r e → e.decaying ≡ Some d →
      e.length_to ≡ None → IsBypassing w d.link
  length_to k r e d here (inl q) dec unknown = outward_to k r d here (ap (λ (x : Edge). x.decaying) (sym q) ∙ dec)
      (ap (λ (x : Edge). x.length_to) (sym q) ∙ unknown)
  length_to k r e d here (inr q) dec unknown = let s = edge_is r e q in
      inward_to k r d here (ap (λ (x : Edge). x.decaying) s ∙ dec) (ap (λ (x : Edge). x.length_to) s ∙ unknown)

  pub length_from : (k : Key) (r : Router) (e : Edge) (d : LinkEnd) → router_at w k ≡ Some r → IsEdgeOf r e → e.decaying ≡ Some d →
      e.length_from ≡ None → IsBypassing w d.link
  length_from k r e d here (inl q) dec unknown = outward_from k r d here (ap (λ (x : Edge). x.decaying) (sym q) ∙ dec)
      (ap (λ (x : Edge). x.length_from) (sym q) ∙ unknown)
  length_from k r e d here (inr q) dec unknown = let s = edge_is r e q in
      inward_from k r d here (ap (λ (x : Edge). x.decaying) s ∙ dec) (ap (λ (x : Edge). x.length_from) s ∙ unknown)

-- A message in hand finds its router and fits there: what a node does with it is the update that the bypass's stage expects.
use Rattle.ipcz_world.proofs.frames.RolesTell.{links-in, positions-in}
use Rattle.std.specs.Prelude.{nat_lt}
use Rattle.ipcz_world.proofs.frames.Sources.{accept_source}
use Rattle.ipcz_world.proofs.Vocabulary.{Side, A, B, LinkId, Central, LinkEnd, Message, opposite, has_link, is_central, Router, router_has}
use Rattle.ipcz_world.proofs.Vocabulary.{inward_edge, bypass_peer, Found, with_router, World, Key, node_at, mail_at, way, router_at, flow}
use Rattle.ipcz_world.proofs.Vocabulary.{messages_in, Books, Records, Fresh, is_linked, is_begun, is_recorded, side_router, proxy_side, across_side}
use Rattle.ipcz_world.proofs.Vocabulary.{bypass_of, known_from, IsUnderWay, is_made_before, has_primary, has_decaying, has_inward_decaying, inner_of}
use Rattle.ipcz_world.proofs.Vocabulary.{Inv, source_for, edge_decays, accept_message, accept_bypass, stop_message, stop_proxying, will_stop_message}
use Rattle.ipcz_world.proofs.Vocabulary.{proxy_will_stop, link_router, is_named, on_found, push_out, fits, handle, tell, after_hand, flushed}
use Rattle.std.specs.Prelude.{◌≡◌, ◌<◌, ◌≤◌, ℕ, Bool, true, false, nat_lt, nat_le, Option, Some, None, is_some, is_none, refl}
use Rattle.std.proofs.Common.{arith, ap, subst, ◌∙◌, sym, inl, inr}
use Rattle.std.proofs.lemmas.Bool.Decides.{nat_tests}
use Rattle.std.proofs.lemmas.Option.{none-some, same_Some}
use Rattle.ipcz_world.proofs.facts.Lengths.{HasEnd, has_link-tells}
use Rattle.ipcz_base.specs.declared.message.Message.TheVariants as messages
use Rattle.ipcz_router.specs.Bypass.{decays_unknown}
use Rattle.ipcz_node.specs.Hands.{passes_at, link_asked, side_asked}
use Rattle.ipcz_world.specs.declared.mail.Mail.TheVariants as mails
use Rattle.ipcz_world.proofs.frames.RecordRules.{record_rules}
use Rattle.ipcz_world.proofs.facts.Updates.{CanHand, free, peer_act, accept_act, stop_act, will_stop_act, flush_act}
use Rattle.ipcz_world.specs.Laws.{is_flush}
use Rattle.ipcz_world.proofs.facts.Finding.{found_tells}
use Rattle.ipcz_world.proofs.frames.Known.{fresh_central}
use Rattle.ipcz_world.proofs.frames.Telling.{IsPeer, peer_told, IsAccept, accept_told, IsStop, stop_told, IsWillStop, will_stop_told}
use Rattle.ipcz_world.proofs.frames.StrayLaws.{stray_law}
use Rattle.ipcz_world.proofs.acts.Updating.{push-set_node, freed, handed-is}
use Rattle.ipcz_world.proofs.facts.Updates.{tells_stop}
use Rattle.ipcz_world.proofs.frames.Passing.{Passes, passes-at}
use Rattle.ipcz_world.proofs.frames.Having.{HasAt, has_at}

-- a message is in the hand of a node of the world
pub record IsInHand (w : World) (n from : ℕ) (m : Message) : Type 0 where
  pub node : n < w.count
  pub sender : from < w.count
  pub mail : mail_at w (way w from n) ≡ mails.Hand m
  pub hand : (node_at w n).hand ≡ Some from

pub under_way-hand : (w : World) (n from : ℕ) (m : Message) → IsInHand w n from m → IsUnderWay w from n 0 m
unfolding flow messages_in
under_way-hand w n from m is = record { sender = is.sender; receiver = is.node; place = rw (is.mail) refl }

-- the router that is asked, with what it needs
pub record IsAskedAt (w : World) (n from : ℕ) (m : Message) (link : LinkId) (s : Side) : Type 0 where
  pub found : Found
  pub is_found : link_router (node_at w n) link s ≡ Some found
  pub has : router_has found.router link s ≡ true
  pub can : CanHand w from (record { node = n; serial = found.serial }) found.router m

pub found_asked : (w : World) (n from : ℕ) (m : Message) (link : LinkId) (s : Side) (f : Found) → IsInHand w n from m →
    link_router (node_at w n) link s ≡ Some f → IsAskedAt w n from m link s
unfolding router_at
found_asked w n from m link s f is e = let t = found_tells (node_at w n) (λ r. router_has r link s) f e in
    record { found = f; is_found = e; has = t.1; can = record { here = t.0; in_hand = is.mail; hand = is.hand } }

pub asked_at : (w : World) (n from : ℕ) (m : Message) (link : LinkId) (s : Side) → IsInHand w n from m →
    is_named (node_at w n) link s ≡ true → IsAskedAt w n from m link s
asked_at w n from m link s is named = go (link_router (node_at w n) link s) refl
  where
    go : (o : Option Found) → link_router (node_at w n) link s ≡ o → IsAskedAt w n from m link s
    go None e = absurd (grind (arith, named, e))
    go (Some f) e = found_asked w n from m link s f is e

module _ (w : World) (b : Books) (g : Records) (law : Inv w b g) where
  -- it is named, since nothing is before a message in hand
  pub named : (n from : ℕ) (m : Message) → IsInHand w n from m → is_flush m ≡ false →
      is_named (node_at w n) (link_asked m) (side_asked m) ≡ true
  named n from m is f = elim ((stray_law w b g law).finds from n 0 m (under_way-hand w n from m is) f)
      [ inl h ↦ h | inr h ↦ absurd (none h) ]
    where
      none : is_made_before w from n 0 (link_asked m) (side_asked m) ≡ true → ⊥
      none h = cc

  -- no router here has a link whose side no router is recorded for
  unnamed : (n : ℕ) (link : LinkId) (s : Side) → ((k : Key) (r : Router) → router_at w k ≡ Some r → router_has r link s ≡ true → ⊥) →
      is_named (node_at w n) link s ≡ false
  unfolding router_at
  unnamed n link s never = go (link_router (node_at w n) link s) refl
    where
      go : (o : Option Found) → link_router (node_at w n) link s ≡ o → is_named (node_at w n) link s ≡ false
      go None e = grind (arith, e)
      go (Some f) e = let t = found_tells (node_at w n) (λ r. router_has r link s) f e in
          absurd (never (record { node = n; serial = f.serial }) f.router t.0 t.1)

  same_router : (k : Key) (r : Router) (o : Option Key) (test : Router → Bool) → o ≡ Some k → router_at w k ≡ Some r →
      (p : Passes w o test) → test r ≡ true
  same_router k r o test e here p = let k_is : k ≡ p.key = same_Some _ _ (sym e ∙ p.known) in let same : p.router ≡ r =
      same_Some _ _ (sym p.here ∙ ap (router_at w) (sym k_is) ∙ here) in subst (λ x. test x ≡ true) same p.passed

  -- BYPASSPEER
  pub peer_fits : (n from o : ℕ) (link : LinkId) (side : Side) (target fresh : ℕ) →
      IsInHand w n from (messages.BypassPeer link side o target fresh) → (f : Found) → link_router (node_at w n) link side ≡ Some f →
      CanHand w from (record { node = n; serial = f.serial }) f.router (messages.BypassPeer link side o target fresh) →
      router_has f.router link side ≡ true → fits (node_at w n) from (messages.BypassPeer link side o target fresh)
      (source_for w (messages.BypassPeer link side o target fresh)) ≡ true
  unfolding fits passes_at is_central is_linked
  peer_fits n from o link side target fresh is f e can has =
      let at : IsPeer g from n o link side target fresh = peer_told w g from n 0 o link side target fresh law.controls
      (under_way-hand w n from (messages.BypassPeer link side o target fresh) is) in
      go at
    where
      k : Key
      k = record { node = n; serial = f.serial }

      r : Router
      r = f.router

      go : IsPeer g from n o link side target fresh → fits (node_at w n) from (messages.BypassPeer link side o target fresh)
          (source_for w (messages.BypassPeer link side o target fresh)) ≡ true
      go at =
          let mine : HasAt w g k r link side = has_at w g k r link side (links-in law) can.here has in
          let known : side_router g (inner_of g o) B ≡ Some k = subst (λ l. side_router g l B ≡ Some k) at.on_link
          (subst (λ s. side_router g link s ≡ Some k) at.at_side mine.router) in
          let on : has_primary (inner_of g o) B r ≡ true = sym (passes-at w (Some k) k r (has_primary (inner_of g o) B) refl can.here) ∙
          (law.stages o).inner_primary k at.stage known in
          let primary : has_primary link side r ≡ true = subst (λ l. has_primary l side r ≡ true) (sym at.on_link)
          (subst (λ s. has_primary (inner_of g o) s r ≡ true) (sym at.at_side) on) in
          let peripheral : is_central link ≡ false = ap is_central at.on_link in
          let end : HasEnd r.outward.primary (inner_of g o) B = has_link-tells r.outward.primary (inner_of g o) B on in
          let still : edge_decays r.outward ≡ false = stays end r.outward.decaying refl in
          let low : nat_lt target (node_at w n).count ≡ true = grind
          (arith, nat_tests, at.across, law.counts.nodes n is.node, law.counts.side_on_node (Central o) (across_side g o) old_recorded)
          in
          let new : is_named (node_at w n) (Central fresh) r.end.side ≡ false =
          unnamed n (Central fresh) r.end.side (λ q y there named. not_linked at
          (has_at w g q y (Central fresh) r.end.side (links-in law) there named).recorded) in
          rw (e, primary, peripheral, still, low, new) refl
        where
          old_recorded : is_recorded w g (Central o) ≡ true
          old_recorded = grind (arith, record_rules, (law.bypasses o).old (grind (arith, at.stage, nat_tests)))

          not_linked : IsPeer g from n o link side target fresh → is_recorded w g (Central fresh) ≡ true → ⊥
          not_linked at h = let own : g.owner fresh ≡ Fresh o = ap g.owner at.onto ∙ (law.bypasses o).fresh at.stage in
              grind (arith, record_rules, h, own)

          stays : HasEnd r.outward.primary (inner_of g o) B → (d : Option LinkEnd) → r.outward.decaying ≡ d → is_some d ≡ false
          stays end None q = refl
          stays end (Some d) q = let c = fresh_central w g k r end.end d (positions-in law) can.here end.there q in
              let bad : inner_of g o ≡ Central c.0 = sym end.on_link ∙ c.1 in cc

  pub peer_is : (n from o : ℕ) (link : LinkId) (side : Side) (target fresh : ℕ)
      (is : IsInHand w n from (messages.BypassPeer link side o target fresh))
      (a : IsAskedAt w n from (messages.BypassPeer link side o target fresh) link side) →
      after_hand w n from (Some (messages.BypassPeer link side o target fresh)) ≡ peer_act w from
      (record { node = n; serial = a.found.serial }) a.found.router o target fresh
  unfolding handle on_found tell
  peer_is n from o link side target fresh is a =
      let m = messages.BypassPeer link side o target fresh in
      let y = with_router (node_at w n) a.found.serial (bypass_peer a.found.router target fresh) in
      let s = accept_message a.found.router o target fresh in
      handed-is w n from m (push_out y s.to s.message) (peer_fits n from o link side target fresh is a.found a.is_found a.can a.has)
      (rw (a.is_found) refl) is.hand
      ∙ ap (λ v. free v from n) (sym (push-set_node w n y s.to s.message))

  -- ACCEPTBYPASS
  accept_fits : (n from o : ℕ) (side : Side) (fresh length : ℕ) → IsInHand w n from (messages.AcceptBypass o side fresh length) →
      (f : Found) → link_router (node_at w n) (Central o) side ≡ Some f →
      router_at w (record { node = n; serial = f.serial }) ≡ Some f.router → router_has f.router (Central o) side ≡ true →
      (fits (node_at w n) from (messages.AcceptBypass o side fresh length)
      (source_for w (messages.AcceptBypass o side fresh length)) ≡ true) × (has_primary (Central o) side f.router ≡ true)
  unfolding fits passes_at
  accept_fits n from o side fresh length is f e here has = go (accept_told w g from n 0 o side fresh length law.controls
      (under_way-hand w n from (messages.AcceptBypass o side fresh length) is))
    where
      k : Key
      k = record { node = n; serial = f.serial }

      r : Router
      r = f.router

      go : IsAccept g from n o side fresh length →
          (fits (node_at w n) from (messages.AcceptBypass o side fresh length)
          (source_for w (messages.AcceptBypass o side fresh length)) ≡ true) ×
          (has_primary (Central o) side r ≡ true)
      go at =
          let begun : is_begun (g.bypass o) ≡ true = grind (arith, at.stage, nat_tests) in
          let early : (g.bypass o).stage ≤ 2 = omega (arith, at.stage) in
          let mine : HasAt w g k r (Central o) side = has_at w g k r (Central o) side (links-in law) here has in
          let known : side_router g (Central o) (across_side g o) ≡ Some k =
          subst (λ s. side_router g (Central o) s ≡ Some k) at.at_side mine.router in
          let on : has_primary (Central o) (across_side g o) r ≡ true =
          sym (passes-at w _ k r (has_primary (Central o) (across_side g o)) known here) ∙ (law.stages o).across_old begun early in
          let primary : has_primary (Central o) side r ≡ true = subst (λ s. has_primary (Central o) s r ≡ true) (sym at.at_side) on in
          let marked : r.marked ≡ true = sym (passes-at w _ k r (λ x. x.marked) known here) ∙ (law.stages o).across_marked begun early in
          let still : edge_decays r.outward ≡ false = grind (arith, (law.shape k r here).marked_still marked) in
          let new : is_named (node_at w n) (Central fresh) side ≡ false =
          unnamed n (Central fresh) side (λ q y there named. awaited at (has_at w g q y (Central fresh) side (links-in law) there named)) in
          (rw (e, primary, still, new) (accept_source w b g n from o side fresh length law at), primary)
        where
          awaited : {q : Key} {y : Router} → IsAccept g from n o side fresh length → HasAt w g q y (Central fresh) side → ⊥
          awaited {q} {y} at h = none-some q (sym ((law.bypasses o).fresh_awaited at.stage) ∙ subst
              (λ i. side_router g (Central i) (across_side g o) ≡ Some q) at.onto
              (subst (λ s. side_router g (Central fresh) s ≡ Some q) at.at_side h.router))

  pub accept_is : (n from o : ℕ) (side : Side) (fresh length : ℕ) (is : IsInHand w n from (messages.AcceptBypass o side fresh length))
      (a : IsAskedAt w n from (messages.AcceptBypass o side fresh length) (Central o) side) →
      (e : LinkEnd) × (a.found.router.outward.primary ≡ Some e) ×
      (after_hand w n from (Some (messages.AcceptBypass o side fresh length)) ≡ accept_act w from
      (record { node = n; serial = a.found.serial }) a.found.router e o side fresh length)
  unfolding handle on_found tell stop_message
  accept_is n from o side fresh length is a =
      let m = messages.AcceptBypass o side fresh length in
      let r = a.found.router in
      let fit = accept_fits n from o side fresh length is a.found a.is_found a.can.here a.has in
      let e : HasEnd r.outward.primary (Central o) side = has_link-tells r.outward.primary (Central o) side fit.1 in
      let y = with_router (node_at w n) a.found.serial (accept_bypass r from side fresh length) in
      let sent = tells_stop r o side length in (
        e.end,
        e.there,
        handed-is w n from m (push_out y e.end.other sent) fit.0
            (by_found r (link_router (node_at w n) (Central o) side) a.found.serial a.is_found ∙ ap
            (λ p. tell y (stop_message r p o side length)) e.there) is.hand ∙ ap (λ v. free v from n)
            (sym (push-set_node w n y e.end.other sent)),
      )
    where
      by_found : (r : Router) (o' : Option Found) (s : ℕ) → o' ≡ Some (record { serial = s; router = r }) →
          on_found (node_at w n) o' (λ s r. tell (with_router (node_at w n) s (accept_bypass r from side fresh length))
          (stop_message r r.outward.primary o side length)) ≡ tell
          (with_router (node_at w n) s (accept_bypass r from side fresh length)) (stop_message r r.outward.primary o side length)
      by_found r o' s q = rw q refl

  -- STOPPROXYING
  unknown : (o : Option ℕ) (first stage x : ℕ) → o ≡ known_from first stage x → nat_le first stage ≡ false → is_none o ≡ true
  unfolding known_from
  unknown o first stage x e h = grind (arith, e, h)

  stop_fits : (n from o : ℕ) (side : Side) (in_length out_length : ℕ) →
      IsInHand w n from (messages.StopProxying side o in_length out_length) → (f : Found) →
      link_router (node_at w n) (Central o) side ≡ Some f →
      router_at w (record { node = n; serial = f.serial }) ≡ Some f.router → router_has f.router (Central o) side ≡ true →
      (fits (node_at w n) from (messages.StopProxying side o in_length out_length)
      (source_for w (messages.StopProxying side o in_length out_length)) ≡ true) × (e : LinkEnd) ×
      ((inward_edge f.router).decaying ≡ Some e)
  unfolding fits passes_at
  stop_fits n from o side in_length out_length is f e here has = go
      (stop_told w g from n 0 o side in_length out_length law.controls
      (under_way-hand w n from (messages.StopProxying side o in_length out_length) is))
    where
      k : Key
      k = record { node = n; serial = f.serial }

      r : Router
      r = f.router

      go : IsStop g from n o side in_length out_length →
          (fits (node_at w n) from (messages.StopProxying side o in_length out_length)
          (source_for w (messages.StopProxying side o in_length out_length)) ≡
          true) × (e : LinkEnd) × ((inward_edge r).decaying ≡ Some e)
      go at =
          let begun : is_begun (g.bypass o) ≡ true = grind (arith, at.stage, nat_tests) in
          let early : (g.bypass o).stage ≤ 3 = omega (arith, at.stage) in
          let late : nat_le 4 (g.bypass o).stage ≡ false = grind (arith, at.stage, nat_tests) in
          let mine : HasAt w g k r (Central o) side = has_at w g k r (Central o) side (links-in law) here has in
          let known : side_router g (Central o) (proxy_side g o) ≡ Some k =
          subst (λ s. side_router g (Central o) s ≡ Some k) at.at_side mine.router in
          let proxy : Some (g.bypass o).proxy ≡ Some k = sym ((law.bypasses o).proxy_old begun) ∙ known in
          let owns : g.begun k ≡ Some o = ap g.begun (sym (same_Some _ k proxy)) ∙ law.begun.proxy_begun o begun in
          let off : has_decaying (Central o) (proxy_side g o) r ≡ true =
          sym (passes-at w _ k r (has_decaying (Central o) (proxy_side g o)) proxy here) ∙ (law.stages o).proxy_old begun early in
          let decaying : has_link r.outward.decaying (Central o) side ≡ true =
          subst (λ s. has_decaying (Central o) s r ≡ true) (sym at.at_side) off in
          let d : HasEnd r.outward.decaying (Central o) (proxy_side g o) =
          has_link-tells r.outward.decaying (Central o) (proxy_side g o) off in
          let inner : has_inward_decaying (inner_of g o) A r ≡ true =
          sym (passes-at w _ k r (has_inward_decaying (inner_of g o) A) proxy here) ∙ (law.stages o).proxy_inner begun early in
          let i : HasEnd (inward_edge r).decaying (inner_of g o) A = has_link-tells (inward_edge r).decaying (inner_of g o) A inner in
          let to : is_none r.outward.length_to ≡ true =
          unknown _ 4 _ _ (((positions-in law).each k r here).own_to d.end o d.there d.on_link d.at_side) late in
          let back : is_none r.outward.length_from ≡ true =
          unknown _ 4 _ _ (((positions-in law).each k r here).own_from d.end o d.there d.on_link d.at_side) late in
          let in_to : is_none (inward_edge r).length_to ≡ true =
          unknown _ 4 _ _ (((positions-in law).each k r here).inward_to i.end o i.there owns) late
          in
          let in_back : is_none (inward_edge r).length_from ≡ true =
          unknown _ 4 _ _ (((positions-in law).each k r here).inward_from i.end o i.there owns) late in
          let outer : decays_unknown r.outward ≡ true = grind (arith, d.there, to, back) in
          let inward : decays_unknown (inward_edge r) ≡ true = grind (arith, i.there, in_to, in_back) in
          (rw (e, decaying, outer, inward) refl, i.end, i.there)

  pub stop_is : (n from o : ℕ) (side : Side) (in_length out_length : ℕ)
      (is : IsInHand w n from (messages.StopProxying side o in_length out_length))
      (a : IsAskedAt w n from (messages.StopProxying side o in_length out_length) (Central o) side) →
      (e : LinkEnd) × ((inward_edge a.found.router).decaying ≡ Some e) ×
      (after_hand w n from (Some (messages.StopProxying side o in_length out_length)) ≡ stop_act w from
      (record { node = n; serial = a.found.serial }) a.found.router e in_length out_length)
  unfolding handle on_found tell will_stop_message
  stop_is n from o side in_length out_length is a =
      let m = messages.StopProxying side o in_length out_length in
      let r = a.found.router in
      let fit = stop_fits n from o side in_length out_length is a.found a.is_found a.can.here a.has in
      let y = with_router (node_at w n) a.found.serial (stop_proxying r in_length out_length) in
      let sent = messages.ProxyWillStop fit.1.link (opposite fit.1.side) in_length in (
        fit.1,
        fit.2,
        handed-is w n from m (push_out y fit.1.other sent) fit.0 (rw (a.is_found, fit.2) refl) is.hand ∙ ap
            (λ v. free v from n) (sym (push-set_node w n y fit.1.other sent)),
      )

  -- PROXYWILLSTOP
  will_stop_fits : (n from : ℕ) (link : LinkId) (side : Side) (in_length : ℕ) →
      IsInHand w n from (messages.ProxyWillStop link side in_length) → (f : Found) → link_router (node_at w n) link side ≡ Some f →
      router_at w (record { node = n; serial = f.serial }) ≡ Some f.router → router_has f.router link side ≡ true →
      (fits (node_at w n) from (messages.ProxyWillStop link side in_length)
      (source_for w (messages.ProxyWillStop link side in_length)) ≡ true) × (o : ℕ) × (bypass_of g link ≡ Some o)
  unfolding fits passes_at
  will_stop_fits n from link side in_length is f e here has =
      let c = will_stop_told w g from n 0 link side in_length law.controls
      (under_way-hand w n from (messages.ProxyWillStop link side in_length) is) in
      (go c.0 c.2, c.0, c.1)
    where
      k : Key
      k = record { node = n; serial = f.serial }

      r : Router
      r = f.router

      go : (o : ℕ) → IsWillStop g from n o link side in_length → fits (node_at w n) from (messages.ProxyWillStop link side in_length)
          (source_for w (messages.ProxyWillStop link side in_length)) ≡ true
      go o at =
          let mine : HasAt w g k r link side = has_at w g k r link side (links-in law) here has in
          let known : side_router g (inner_of g o) B ≡ Some k = subst (λ l. side_router g l B ≡ Some k) at.on_link
          (subst (λ s. side_router g link s ≡ Some k) at.at_side mine.router) in
          let off : has_decaying (inner_of g o) B r ≡ true = sym (passes-at w _ k r (has_decaying (inner_of g o) B) known here) ∙
          (law.stages o).inner_decaying (omega (arith, at.stage)) (omega (arith, at.stage)) in
          let decaying : has_decaying link side r ≡ true = subst (λ l. has_decaying l side r ≡ true) (sym at.on_link)
          (subst (λ s. has_decaying (inner_of g o) s r ≡ true) (sym at.at_side) off) in
          let d : HasEnd r.outward.decaying (inner_of g o) B = has_link-tells r.outward.decaying (inner_of g o) B off in
          let back : is_none r.outward.length_from ≡ true =
          unknown _ 5 _ _ (((positions-in law).each k r here).inner_from d.end (g.bypass o).inner o d.there d.on_link
          ((law.bypasses o).inner_by (grind (arith, at.stage, nat_tests)))) (grind (arith, at.stage, nat_tests)) in
          rw (e, decaying, back) refl

  pub will_stop_is : (n from : ℕ) (link : LinkId) (side : Side) (in_length : ℕ)
      (is : IsInHand w n from (messages.ProxyWillStop link side in_length))
      (a : IsAskedAt w n from (messages.ProxyWillStop link side in_length) link side) →
      (o : ℕ) × (bypass_of g link ≡ Some o) × (after_hand w n from (Some (messages.ProxyWillStop link side in_length)) ≡ will_stop_act w
      from (record { node = n; serial = a.found.serial }) a.found.router in_length)
  unfolding handle on_found
  will_stop_is n from link side in_length is a =
      let m = messages.ProxyWillStop link side in_length in
      let fit = will_stop_fits n from link side in_length is a.found a.is_found a.can.here a.has in (
        fit.1,
        fit.2,
        handed-is w n from m (with_router (node_at w n) a.found.serial (proxy_will_stop a.found.router in_length)) fit.0
            (rw (a.is_found) refl) is.hand,
      )

  -- FLUSH: at its router, or at none
  pub flush_is : (n from : ℕ) (link : LinkId) (side : Side) (is : IsInHand w n from (messages.Flush link side))
      (a : IsAskedAt w n from (messages.Flush link side) link side) →
      after_hand w n from (Some (messages.Flush link side)) ≡ flush_act w from (record { node = n; serial = a.found.serial }) a.found.router
  unfolding handle on_found fits
  flush_is n from link side is a = handed-is w n from (messages.Flush link side)
      (with_router (node_at w n) a.found.serial (flushed a.found.router)) refl (rw (a.is_found) refl) is.hand

  pub dropped_is : (n from : ℕ) (link : LinkId) (side : Side) → IsInHand w n from (messages.Flush link side) →
      link_router (node_at w n) link side ≡ None → after_hand w n from (Some (messages.Flush link side)) ≡ free w from n
  unfolding handle on_found fits
  dropped_is n from link side is e = handed-is w n from (messages.Flush link side) (node_at w n) refl (rw e refl) is.hand ∙ freed w n from
      (node_at w n)

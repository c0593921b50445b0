-- No message but a Flush finds its router gone, from the invariant.
use Rattle.ipcz_world.proofs.frames.RolesTell.{links-in}
use Rattle.ipcz_world.proofs.frames.Sources.{accept_source}
use Rattle.ipcz_world.proofs.frames.OfRecords.{some_found}
use Rattle.std.specs.Prelude.{◌≡◌, ◌⊎◌, ℕ, Bool, true, false, cond, if◌then◌else◌, Option, Some, None, is_none, List, [], ◌∷◌, refl}
use Rattle.std.proofs.Common.{arith, ap, subst, ◌∙◌, sym, inl, inr}
use Rattle.std.proofs.lemmas.Bool.Decides.{nat_tests}
use Rattle.std.proofs.lemmas.Option.{same_Some}
use Rattle.std.specs.Ordering.{nat_cmp, eq_by_cmp}
use Rattle.std.specs.FinMap.{entries, find, get-entries}
use Rattle.ipcz_world.proofs.Vocabulary.{Side, B, LinkId, Central, Message, Router, router_has, World, Key, node_at, router_at, Books, Records}
use Rattle.ipcz_world.proofs.Vocabulary.{side_router, side_node, proxy_side, across_side, IsUnderWay, is_made_before, Standing, view, is_awaited}
use Rattle.ipcz_world.proofs.Vocabulary.{is_gone, has_primary, has_decaying, inner_of, Inv, is_named, Awaited}
use Rattle.ipcz_base.specs.declared.message.Message.TheVariants as messages
use Rattle.ipcz_node.specs.Node.{first_where}
use Rattle.ipcz_node.specs.Hands.{link_asked, side_asked}
use Rattle.ipcz_world.specs.Standing.{View, Waiting, Gone}
use Rattle.ipcz_world.specs.Laws.{is_flush, StrayLaw}
use Rattle.ipcz_world.proofs.frames.Known.{IsStanding, standing_known, node_of_router}
use Rattle.ipcz_world.proofs.frames.Telling.{peer_told, accept_told, stop_told, will_stop_told}
use Rattle.ipcz_world.proofs.facts.Lengths.{has_attached}
use Rattle.ipcz_world.proofs.frames.Passing.{Passes, passes-tells}

-- what is found among entries by its key passes the test, so something is found by the test
first_found : (test : Router → Bool) (es : List (ℕ × Router)) (s : ℕ) (r : Router) → find nat_cmp s es ≡ Some r → test r ≡ true →
    is_none (first_where test es) ≡ false
unfolding first_where
first_found test [] s r e t = cc
first_found test (x ∷ es) s r e t = go (eq_by_cmp nat_cmp s x.0) (test x.1) refl refl (λ f. first_found test es s r f t) e
  where
    go : (p q : Bool) → eq_by_cmp nat_cmp s x.0 ≡ p → test x.1 ≡ q → (find nat_cmp s es ≡ Some r → is_none (first_where test es) ≡ false) →
        cond p (Some x.1) (find nat_cmp s es) ≡ Some r →
        is_none (if test x.1 then Some (record { serial = x.0; router = x.1 }) else first_where test es) ≡ false
    go p true e f more h = grind (arith, f)
    go true false e f more h = absurd (grind (arith, h, f, t))
    go false false e f more h = grind (arith, f, more h)

-- a router that has the link is found
pub named_by : (w : World) (k : Key) (r : Router) (link : LinkId) (s : Side) (n : ℕ) → router_at w k ≡ Some r → k.node ≡ n →
    router_has r link s ≡ true → is_named (node_at w n) link s ≡ true
unfolding router_at
named_by w k r link s n here at has = subst (λ m. is_named (node_at w m) link s ≡ true) at
    (some_found _ (first_found (λ r. router_has r link s) (entries (node_at w k.node).routers) k.serial r (sym (get-entries _ _) ∙ here)
    has))

module _ (w : World) (b : Books) (g : Records) (law : Inv w b g) where
  -- whom the records tell, and who passes a test that gives it the link, is found at the side's node
  found_at : (link : LinkId) (s : Side) (test : Router → Bool) (n : ℕ) (p : Passes w (side_router g link s) test) →
      router_has p.router link s ≡ true → n ≡ side_node g link s → is_named (node_at w n) link s ≡ true
  found_at link s test n p has at = named_by w p.key p.router link s n p.here (sym (at ∙ node_of_router g link s p.key p.known)) has

  -- the receiver of an item stands, or its link is made before it
  item_finds : (from to i : ℕ) (link : LinkId) (s : Side) → (to ≡ side_node g link s) → is_gone (view w g link s) ≡ false →
      (is_awaited (view w g link s) ≡ true → is_made_before w from to i link s ≡ true) →
      (is_named (node_at w to) link s ≡ true) ⊎ (is_made_before w from to i link s ≡ true)
  unfolding is_gone is_awaited
  item_finds from to i link s at there made = go (view w g link s) refl
    where
      go : (z : View) → view w g link s ≡ z → (is_named (node_at w to) link s ≡ true) ⊎ (is_made_before w from to i link s ≡ true)
      go Awaited e = inr (made (rw e refl))
      go (Waiting d) e = inr (made (rw e refl))
      go Gone e = absurd (grind (arith, e, there))
      go (Standing r) e = let st : IsStanding w g link s r = standing_known w g link s r (links-in law) e in
          inl (named_by w st.key r link s to st.here (sym (at ∙ node_of_router g link s st.key st.router))
          (has_attached link s r st.attached))

  by_primary : (link : LinkId) (s : Side) (r : Router) → has_primary link s r ≡ true → router_has r link s ≡ true
  by_primary link s r h = grind (arith, h)

  primary_at : (link l : LinkId) (s t : Side) (r : Router) → link ≡ l → s ≡ t → has_primary l t r ≡ true → router_has r link s ≡ true
  primary_at link l s t r e f h = rw (e, f) (by_primary l t r h)

  named_too : (link l : LinkId) (s t : Side) (n : ℕ) → link ≡ l → s ≡ t → is_named (node_at w n) l t ≡ true →
      is_named (node_at w n) link s ≡ true
  named_too link l s t n e f h = rw (e, f) h

  by_decaying : (link : LinkId) (s : Side) (r : Router) → has_decaying link s r ≡ true → router_has r link s ≡ true
  by_decaying link s r h = grind (arith, h)

  finds : (from to i : ℕ) (m : Message) → IsUnderWay w from to i m → is_flush m ≡ false →
      (is_named (node_at w to) (link_asked m) (side_asked m) ≡ true) ⊎ (is_made_before w from to i (link_asked m) (side_asked m) ≡ true)
  unfolding is_flush link_asked side_asked
  finds from to i (messages.Item link s n item moves) u f = item_finds from to i link s (law.items.receiver from to i link s n item moves u)
      (law.items.receiver_there from to i link s n item moves u) (law.items.behind from to i link s n item moves u)
  finds from to i (messages.BypassPeer link s old target fresh) u f =
      let at = peer_told w g from to i old link s target fresh law.controls u in
      go (side_router g link s) refl at.stage at.on_link at.at_side at.receiver
    where
      go : (o : Option Key) → side_router g link s ≡ o → (g.bypass old).stage ≡ 1 → link ≡ inner_of g old → s ≡ B →
          to ≡ side_node g (inner_of g old) B → (is_named (node_at w to) link s ≡ true) ⊎ (is_made_before w from to i link s ≡ true)
      go None e st on side at = inr (law.controls.behind from to i link s old target fresh u e)
      go (Some k) e st on side at =
          let p : Passes w (Some k) (has_primary (inner_of g old) B) =
          passes-tells w (Some k) _ ((law.stages old).inner_primary k st (rw (on, side) at e)) in
          let has : router_has p.router link s ≡ true = primary_at link (inner_of g old) s B p.router on side p.passed in
          let at_side : to ≡ side_node g link s = rw (on, side) at in
          inl (named_by w p.key p.router link s to p.here (ap (λ x. x.node) (sym (same_Some _ _ p.known)) ∙ sym
          (at_side ∙ node_of_router g link s k e)) has)
  finds from to i (messages.AcceptBypass old s fresh length) u f =
      let at = accept_told w g from to i old s fresh length law.controls u in
      let p = passes-tells w _ _ ((law.stages old).across_old (grind (arith, at.stage, nat_tests)) (omega (arith, at.stage))) in
      inl (rw (at.at_side) (found_at (Central old) (across_side g old) (has_primary (Central old) (across_side g old)) to p
      (by_primary (Central old) (across_side g old) p.router p.passed) at.receiver))
  finds from to i (messages.StopProxying s old in_length out_length) u f =
      let at = stop_told w g from to i old s in_length out_length law.controls u in
      let p = passes-tells w (Some (g.bypass old).proxy) (has_decaying (Central old) (proxy_side g old))
      ((law.stages old).proxy_old (grind (arith, at.stage, nat_tests)) (omega (arith, at.stage))) in
      inl (rw (at.at_side) (named_by w p.key p.router (Central old) (proxy_side g old) to p.here
      (ap (λ x. x.node) (sym (same_Some _ _ p.known)) ∙ sym at.receiver)
      (by_decaying (Central old) (proxy_side g old) p.router p.passed)))
  finds from to i (messages.ProxyWillStop link s in_length) u f =
      let c = will_stop_told w g from to i link s in_length law.controls u in
      let at = c.2 in
      let p = passes-tells w _ _ ((law.stages c.0).inner_decaying (omega (arith, at.stage)) (omega (arith, at.stage))) in
      inl (named_too link (inner_of g c.0) s B to at.on_link at.at_side
      (found_at (inner_of g c.0) B (has_decaying (inner_of g c.0) B) to p (by_decaying (inner_of g c.0) B p.router p.passed)
      at.receiver))
  finds from to i (messages.Flush link s) u f = cc

  pub stray_law : StrayLaw w
  stray_law = record {
    none = law.no_strays;
    finds = finds;
    sourced = λ from to i old s fresh length u. accept_source w b g to from old s fresh length law
        (accept_told w g from to i old s fresh length law.controls u);
  }

-- A router gives decaying links up, or leaves: the relation, and what is said of shapes, links and who stands there is kept.
use Rattle.ipcz_world.proofs.frames.Roles.{Roles, Role, HasRole, Fits, Unbegun, Begun, trim, meant, outward_of, inward_of, has_inner, lone, trim-lone, On, Across, Inward, Outward, FitsOut, link_of, side_of, standing_edge, end_of, old_edge, inner_edge}
use Rattle.ipcz_world.proofs.frames.RolesKept.{role-in}
use Rattle.ipcz_world.proofs.Vocabulary.{word_of, HasShape, IsOrdered, Side, A, B, LinkId, Central, LinkEnd, has_link, Router}
use Rattle.ipcz_world.proofs.Vocabulary.{is_terminal, inward_edge, World, Key, same_key, mail_at, way, router_at, Records, inner_link, side_router}
use Rattle.ipcz_world.proofs.Vocabulary.{Weight, in_router, passes, key_passes, has_primary, Counts, Ordered, Shape}
use Rattle.ipcz_world.proofs.Vocabulary.{Edge, no_edge, is_outward, is_proxy, Stands, decays, is_sink, has_inward_primary, is_begun_router, has_role}
use Rattle.std.specs.Prelude.{◌≡◌, ◌≢◌, ◌⊎◌, ℕ, ◌+◌, ◌*◌, Bool, true, false, Option, Some, None, is_some, refl}
use Rattle.std.proofs.lemmas.Option.{none-some}
use Rattle.std.proofs.Common.{arith, subst, sym, ◌∙◌, ap, inl, inr}
use Rattle.ipcz_world.proofs.frames.Frames.{same_key_tells}
use Rattle.ipcz_world.proofs.frames.StandingRules.{standing_rules}
use Rattle.ipcz_world.proofs.frames.OneRouter.{SameWords, SameButRouter}
use Rattle.ipcz_world.proofs.frames.SameMessages.{SameMessages, recorded-same}
use Rattle.ipcz_world.proofs.frames.Views.{IsPart, part-itself}

-- a router becomes a part of itself, or leaves with empty queues
pub record Gives (w v : World) (k : Key) (r : Router) (x : Option Router) : Type 0 where
  pub one : SameButRouter w v k x
  pub here : router_at w k ≡ Some r
  pub part : (y : Router) → x ≡ Some y → IsPart r y
  pub no_item : x ≡ None → (f : Weight) → in_router f r ≡ 0

-- who leaves is a proxy without links that count and without a spare
pub record IsBare (r : Router) (x : Option Router) : Type 0 where
  pub no_primary : x ≡ None → r.outward.primary ≡ None
  pub no_inward : x ≡ None → (inward_edge r).primary ≡ None
  pub no_terminal : x ≡ None → is_terminal r ≡ false
  pub no_spare : x ≡ None → r.spare ≡ None

pub stays_bare : (r y : Router) → IsBare r (Some y)
stays_bare r y = record {
  no_primary = λ e. absurd (none-some y (sym e));
  no_inward = λ e. absurd (none-some y (sym e));
  no_terminal = λ e. absurd (none-some y (sym e));
  no_spare = λ e. absurd (none-some y (sym e));
}

-- the same spare word, and the same flags of the primary link
pub record HasSameFlags (r y : Router) : Type 0 where
  pub spare : y.spare ≡ r.spare
  pub marked : y.marked ≡ r.marked
  pub holds : y.holds ≡ r.holds

-- no word and no flag of a word has changed
pub record Keeps (w v : World) (r : Router) (x : Option Router) : Type 0 where
  pub words : SameWords w v
  pub flags : (y : Router) → x ≡ Some y → HasSameFlags r y

pub same-messages : {w v : World} {k : Key} {x : Option Router} → SameButRouter w v k x → SameMessages w v
same-messages one = record { count = one.count; flows = one.flows; peripheral = λ n. (one.nodes n).next_peripheral }

-- what a router was before
pub record Was (w : World) (q : Key) (y : Router) : Type 0 where
  pub router : Router
  pub at : router_at w q ≡ Some router
  pub part : IsPart router y

pub was : {w v : World} {k : Key} {r : Router} {x : Option Router} → Gives w v k r x → (q : Key) (y : Router) → router_at v q ≡ Some y →
    Was w q y
was {w} {v} {k} {r} {x} c q y at = go (same_key_tells q k)
  where
    go : ((same_key q k ≡ true) × (q ≡ k)) ⊎ ((same_key q k ≡ false) × (q ≢ k)) → Was w q y
    go (inl e) = record { router = r; at = grind (arith, e, c.here); part = c.part y (grind (arith, e, c.one.routers q, at)) }
    go (inr e) = record { router = y; at = grind (arith, e, c.one.routers q, at); part = part-itself y }

-- the same, with its flags
pub record WasSame (w : World) (q : Key) (y : Router) : Type 0 where
  pub router : Router
  pub at : router_at w q ≡ Some router
  pub part : IsPart router y
  pub flags : HasSameFlags router y

pub was_same : {w v : World} {k : Key} {r : Router} {x : Option Router} → Gives w v k r x → Keeps w v r x → (q : Key) (y : Router) →
    router_at v q ≡ Some y → WasSame w q y
was_same {w} {v} {k} {r} {x} c p q y at = go (same_key_tells q k)
  where
    go : ((same_key q k ≡ true) × (q ≡ k)) ⊎ ((same_key q k ≡ false) × (q ≢ k)) → WasSame w q y
    go (inl e) = let f : x ≡ Some y = grind (arith, e, c.one.routers q, at) in
        record { router = r; at = grind (arith, e, c.here); part = c.part y f; flags = p.flags y f }
    go (inr e) = record {
      router = y;
      at = grind (arith, e, c.one.routers q, at);
      part = part-itself y;
      flags =
          record { spare = refl; marked = refl; holds = refl };
    }

-- a router that was known to pass a test is still known to, if the part passes it
pub passes-still : {w v : World} {k : Key} {r : Router} {x : Option Router} → Gives w v k r x → (test : Router → Bool) (o : Option Key) →
    key_passes w o test ≡ true →
    (o ≡ Some k → test r ≡ true → passes x test ≡ true) → key_passes v o test ≡ true
passes-still c test None h still = absurd (grind (arith, standing_rules, h))
passes-still {w} {v} {k} {r} {x} c test (Some q) h still = go (same_key_tells q k)
  where
    go : ((same_key q k ≡ true) × (q ≡ k)) ⊎ ((same_key q k ≡ false) × (q ≢ k)) → key_passes v (Some q) test ≡ true
    go (inl e) = let t : test r ≡ true = grind (arith, standing_rules, e, h, c.here) in
        grind (arith, standing_rules, e, c.one.routers q, still (ap Some e.1) t)
    go (inr e) = grind (arith, standing_rules, e, h, c.one.routers q)

pub passes-primary : {w v : World} {k : Key} {r : Router} {x : Option Router} → Gives w v k r x → IsBare r x → (l : LinkId) (s : Side) →
    has_primary l s r ≡ true → passes x (has_primary l s) ≡ true
unfolding has_link
passes-primary {x = None} c bare l s h = absurd (grind (arith, bare.no_primary refl, h))
passes-primary {x = Some y} c bare l s h = grind (arith, standing_rules, (c.part y refl).primary, h)

passes-inward : {w v : World} {k : Key} {r : Router} {x : Option Router} → Gives w v k r x → IsBare r x → (l : LinkId) (s : Side) →
    has_inward_primary l s r ≡ true → passes x (has_inward_primary l s) ≡ true
unfolding has_link
passes-inward {x = None} c bare l s h = absurd (grind (arith, bare.no_inward refl, h))
passes-inward {x = Some y} c bare l s h = grind (arith, standing_rules, (c.part y refl).inward_primary, h)

pub counts-gives : (w v : World) (g : Records) (k : Key) (r : Router) (x : Option Router) → Gives w v k r x → v.claimed ≡ w.claimed →
    Counts w g → Counts v g
counts-gives w v g k r x c claimed law = record {
  node = λ n h. grind (arith, (c.one.nodes n).node, c.one.count, law.node n, h);
  nodes = λ n h. grind (arith, (c.one.nodes n).nodes, c.one.count, law.nodes n, h);
  claimed = grind (arith, claimed, c.one.size, law.claimed);
  unclaimed = λ i. grind (arith, claimed, law.unclaimed i);
  on_node = λ q y at. let o = was c q y at in grind (arith, c.one.count, law.on_node q o.router o.at);
  serial = λ q y at. let o = was c q y at in grind (arith, (c.one.nodes q.node).next_router, law.serial q o.router o.at);
  side_serial = λ l s q a e. grind (
    arith,
    (c.one.nodes q.node).next_router,
    law.side_serial l s q,
    recorded-same w v g l (same-messages c.one),
    a,
    e,
  );
  side_on_node = λ l s a. grind (arith, c.one.count, law.side_on_node l s, recorded-same w v g l (same-messages c.one), a);
  hand = λ n from a e. grind (arith, c.one.count, mail n from, (c.one.nodes n).hand, law.hand n from, a, e);
  hand_from = λ n from a e. grind (arith, c.one.count, (c.one.nodes n).hand, law.hand_from n from, a, e);
  in_hand = λ n from a b e. grind (arith, c.one.count, mail n from, (c.one.nodes n).hand, law.in_hand n from, a, b, e);
}
  where
    mail : (n from : ℕ) → mail_at v (way v from n) ≡ mail_at w (way w from n)
    mail n from = c.one.mail (way v from n) ∙ ap (λ i. mail_at w (from * i + n)) c.one.count

ordered-part : (x y : Router) → IsPart x y → IsOrdered x → IsOrdered y
ordered-part x y part law = record {
  out = λ n item i. grind (arith, part.out_queue, law.out n item, i);
  inn = λ n item i. grind (arith, part.in_queue, law.inn n item, i);
}

pub ordered-gives : (w v : World) (k : Key) (r : Router) (x : Option Router) → Gives w v k r x → Ordered w → Ordered v
ordered-gives w v k r x c law q y at = let o = was c q y at in ordered-part o.router y o.part (law q o.router o.at)

pub sink-part : (x y : Router) → IsPart x y → is_sink x ≡ true → is_sink y ≡ true
sink-part x y p h = rw (p.terminal, p.closed) h

shape-part : (x y : Router) → IsPart x y → HasSameFlags x y → HasShape x → HasShape y
shape-part x y part flags law = record {
  role = role (inward_edge y).decaying refl;
  marked_central = λ m. grind (arith, part.primary, flags.marked, law.marked_central, m);
  marked_still = λ m. still m y.outward.decaying (inward_edge y).decaying refl refl;
  holds_marked = λ m. grind (arith, flags.holds, flags.marked, law.holds_marked, m);
  holds_fit = λ m. rw (part.proxy, part.closed, part.mark_dropped, part.out_queue) (law.holds_fit (sym flags.holds ∙ m));
  holds_spare = λ m p. ap is_some flags.spare ∙ law.holds_spare (sym flags.holds ∙ m) (sym part.proxy ∙ p);
  dropped_sink = λ m. sink-part x y part (law.dropped_sink (sym part.mark_dropped ∙ m));
  sent_proxy = λ m. ap is_some part.inward_primary ∙ law.sent_proxy (sym part.gone_sent ∙ m);
  spare_proxy = λ i e. part.proxy ∙ law.spare_proxy i (sym flags.spare ∙ e);
  spare_central = λ i e. ap (λ o. is_some (word_of o)) part.primary ∙ law.spare_central i (sym flags.spare ∙ e);
}
  where
    role : (d : Option LinkEnd) → (inward_edge y).decaying ≡ d → has_role y ≡ true
    role None e = grind (arith, part.terminal, part.primary, part.inward_primary, law.role, e)
    role (Some z) e = grind (arith, part.terminal, part.primary, part.inward_primary, law.role, part.inward_decaying z e, e)

    still : y.marked ≡ true → (d e : Option LinkEnd) → y.outward.decaying ≡ d → (inward_edge y).decaying ≡ e → decays y ≡ false
    still m None None a b = grind (arith, a, b)
    still m (Some z) e a b = absurd (grind (arith, flags.marked, law.marked_still, part.decaying z a, m))
    still m None (Some z) a b = absurd (grind (arith, flags.marked, law.marked_still, part.inward_decaying z b, m))

pub shape-gives : (w v : World) (k : Key) (r : Router) (x : Option Router) → Gives w v k r x → Keeps w v r x → Shape w → Shape v
shape-gives w v k r x c keeps law q y at = let o = was_same c keeps q y at in shape-part o.router y o.part o.flags (law q o.router o.at)

pub begun_part : (x y : Router) → IsPart x y → is_begun_router y ≡ is_begun_router x
begun_part x y p = grind (arith, p.proxy, p.inward_primary)

-- a part of a router has a part of its role
role-part : {w : World} {g : Records} {q : Key} (x y : Router) → IsPart x y → HasRole w g q x → HasRole w g q y
unfolding is_outward
role-part {w} {g} {q} x y part c = go c.role c.proxy c.outward c.inward c.fits y.outward.decaying (inward_edge y).decaying refl refl
  where
    whole : (a b : Edge) (e : LinkEnd) → b.primary ≡ a.primary → b.decaying ≡ Some e → a.decaying ≡ Some e → b.length_to ≡ a.length_to →
        b.length_from ≡ a.length_from → trim b ≡ trim a
    whole a b e p d f to from = λ t. record {
      primary = p t;
      decaying = (d ∙ sym f) t;
      length_to = meant ((d ∙ sym f) t) (to t);
      length_from = meant ((d ∙ sym f) t) (from t);
    }

    out : (e : LinkEnd) → y.outward.decaying ≡ Some e → trim y.outward ≡ trim x.outward
    out e d = whole x.outward y.outward e part.primary d (part.decaying e d) (part.length_to e d) (part.length_from e d)

    inn : (e : LinkEnd) → (inward_edge y).decaying ≡ Some e → trim (inward_edge y) ≡ trim (inward_edge x)
    inn e d = whole (inward_edge x) (inward_edge y) e part.inward_primary d (part.inward_decaying e d) (part.inward_to e d) (part.inward_from e d)

    alone : {p : Option LinkEnd} → trim (inward_edge x) ≡ lone p → (inward_edge y).decaying ≡ None → trim (inward_edge y) ≡ lone p
    alone i m = trim-lone (inward_edge y) _ (part.inward_primary ∙ ap (λ t. t.primary) i) m

    -- an edge of a proxy that has begun has its link still, or not
    half : (b a : Edge) (at : Bool → Edge) (c : Bool) → ((c : Bool) → (at c).primary ≡ None) → at false ≡ no_edge → b.primary ≡ a.primary → trim a ≡ at c →
        ((e : LinkEnd) → b.decaying ≡ Some e → trim b ≡ trim a) → (d : Option LinkEnd) → b.decaying ≡ d → (x : Bool) × (trim b ≡ at x)
    half b a at c none off p t same None d = (false, trim-lone b None (p ∙ ap (λ t. t.primary) t ∙ none c) d ∙ sym off)
    half b a at c none off p t same (Some e) d = (c, same e d ∙ t)

    go : (a : Role) → is_proxy x ≡ has_inner a → trim x.outward ≡ outward_of g a → trim (inward_edge x) ≡ inward_of g a → Fits w g q x.end a →
        (d e : Option LinkEnd) → y.outward.decaying ≡ d → (inward_edge y).decaying ≡ e → HasRole w g q y
    go (Unbegun a n) p o i f d (Some e) h m = absurd (none-some e (sym (ap (λ t. t.decaying) i) ∙ part.inward_decaying e m))
    go (Unbegun a n) p o i f (Some d) None h m = record {
      role = Unbegun a n;
      proxy = part.proxy ∙ p;
      outward = out d h ∙ o;
      inward = alone i m;
      fits = subst (λ e. Fits w g q e (Unbegun a n)) (sym part.end) f;
    }
    go (Unbegun a n) p o i f None None h m = record {
      role = Unbegun (On (link_of g a) (side_of g a)) n;
      proxy = part.proxy ∙ p;
      outward = trim-lone y.outward _ (part.primary ∙ ap (λ t. t.primary) o ∙ on a) h;
      inward = alone i m;
      fits = subst (λ e. Fits w g q e (Unbegun (On (link_of g a) (side_of g a)) n)) (sym part.end) (f.0, outward a f.1, f.2);
    }
      where
        on : (a : Outward) → (standing_edge g a).primary ≡ Some (end_of g (link_of g a) (side_of g a))
        on (On l s) = refl
        on (Across j) = refl
        on (Inward j) = refl

        outward : (a : Outward) → FitsOut g q a → is_outward (link_of g a) (side_of g a) ≡ true
        outward (On l s) f = f
        outward (Across j) f = refl
        outward (Inward j) f = refl
    go (Begun j c z) p o i f d e h m =
        let s = half y.outward x.outward (old_edge g j) c (λ c. old c) refl part.primary o out d h in
        let u = half (inward_edge y) (inward_edge x) (inner_edge g j) z (λ c. inner c) refl part.inward_primary i inn e m in record {
          role = Begun j s.0 u.0;
          proxy = part.proxy ∙ p;
          outward = s.1;
          inward = u.1;
          fits = subst (λ e. Fits w g q e (Begun j s.0 u.0)) (sym part.end) f;
        }
      where
        old : (c : Bool) → (old_edge g j c).primary ≡ None
        old true = refl
        old false = refl

        inner : (c : Bool) → (inner_edge g j c).primary ≡ None
        inner true = refl
        inner false = refl

pub roles-gives : (w v : World) (g : Records) (k : Key) (r : Router) (x : Option Router) → Gives w v k r x → Roles w g → Roles v g
roles-gives w v g k r x c law q y at = let o = was c q y at in
    role-in (λ l. recorded-same w v g l (same-messages c.one)) (role-part o.router y o.part (law q o.router o.at))

pub stands-gives : (w v : World) (g : Records) (k : Key) (r : Router) (x : Option Router) → Gives w v k r x → IsBare r x → Stands w g → Stands v g
stands-gives w v g k r x c bare law = record {
  central = λ i s q a b n e. passes-still c (has_primary (Central i) s) (Some q) (law.central i s q a b n e)
      (λ f. passes-primary c bare (Central i) s);
  awaited = law.awaited;
  awaited_stage = law.awaited_stage;
  awaited_side = law.awaited_side;
  proxy = λ p a b n. passes-still c (has_inward_primary (inner_link p) A) (side_router g (inner_link p) A)
      (law.proxy p (sym (recorded-same w v g _ (same-messages c.one)) ∙ a) b n) (λ f. passes-inward c bare (inner_link p) A);
  inner = λ p q a b n e. passes-still c (has_primary (inner_link p) B) (Some q)
      (law.inner p q (sym (recorded-same w v g _ (same-messages c.one)) ∙ a) b n e) (λ f. passes-primary c bare (inner_link p) B);
  by_begun = law.by_begun;
  by_inner = law.by_inner;
  left_recorded = λ l s h. recorded-same w v g l (same-messages c.one) ∙ law.left_recorded l s h;
  left_known = law.left_known;
  left_gone = λ l s h. nobody (side_router g l s) (law.left_gone l s h);
  left_live = law.left_live;
}
  where
    -- if nobody stood, nobody stands
    nobody : (o : Option Key) → key_passes w o (λ z. true) ≡ false → key_passes v o (λ z. true) ≡ false
    nobody None h = grind (arith, standing_rules)
    nobody (Some q) h = go (same_key_tells q k)
      where
        go : ((same_key q k ≡ true) × (q ≡ k)) ⊎ ((same_key q k ≡ false) × (q ≢ k)) → key_passes v (Some q) (λ z. true) ≡ false
        go (inl e) = absurd (grind (arith, standing_rules, h, e.1, c.here))
        go (inr e) = grind (arith, standing_rules, h, c.one.routers q, e.0)

-- a router with a primary link stays, and its flags with it
pub flag-still : {w v : World} {k : Key} {r : Router} {x : Option Router} → Gives w v k r x → IsBare r x → Keeps w v r x →
    (test : Router → Bool) (o : Option Key) → ((y : Router) → HasSameFlags r y → test y ≡ test r) →
    (o ≡ Some k → is_some r.outward.primary ≡ true) →
    key_passes v o test ≡ key_passes w o test
flag-still c bare keeps test None flag there = grind (arith, standing_rules)
flag-still {w} {v} {k} {r} {x} c bare keeps test (Some q) flag there = go (same_key_tells q k) x refl
  where
    go : ((same_key q k ≡ true) × (q ≡ k)) ⊎ ((same_key q k ≡ false) × (q ≢ k)) → (z : Option Router) → x ≡ z →
        key_passes v (Some q) test ≡ key_passes w (Some q) test
    go (inl e) None f = absurd (grind (arith, there (ap Some e.1), bare.no_primary f))
    go (inl e) (Some y) f = grind (arith, standing_rules, e, f, c.one.routers q, c.here, flag y (keeps.flags y f))
    go (inr e) z f = grind (arith, standing_rules, e, c.one.routers q)

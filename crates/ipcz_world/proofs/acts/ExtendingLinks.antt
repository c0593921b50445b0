-- A terminal that moves becomes a proxy: each link is as its record says, and primary or decaying as its bypass says.
use Rattle.ipcz_world.proofs.Vocabulary.{HasShape, is_terminal, Side, A, B, Router, World, Key}
use Rattle.ipcz_world.proofs.Vocabulary.{node_at, router_at, Books, Records, inner_link, side_node, side_router, side_end}
use Rattle.ipcz_world.proofs.Vocabulary.{Counts, Shape, is_proxy}
use Rattle.ipcz_world.proofs.frames.Roles.{Role, Unbegun, Begun, has_inner, outward_of, Fits, HasRole, Roles, BegunRecords, lone, trim}
use Rattle.ipcz_world.proofs.frames.RolesKept.{Knows, keeps-same, role-kept}
use Rattle.std.proofs.lemmas.Option.{same_Some, none-some}
use Rattle.ipcz_world.proofs.frames.EachKept.{each-one}
use Rattle.std.specs.Prelude.{◌≡◌, ◌<◌, ℕ, false, Some, None, refl}
use Rattle.ipcz_world.proofs.facts.Tests.{not_both, and_second}
use Rattle.std.proofs.Common.{arith, ap, subst, ◌∙◌, sym, inl, inr}
use Rattle.ipcz_world.proofs.frames.Frames.{same_key_tells, same_key-itself}
use Rattle.ipcz_world.proofs.frames.RecordRules.{record_rules, bypass_of-inner, side_router-proxy, side_router-inner, side_node-proxy}
use Rattle.ipcz_world.proofs.frames.RecordRules.{side_node-inner}
use Rattle.ipcz_world.proofs.frames.Touching.{Hands}
use Rattle.ipcz_world.proofs.frames.Opened.{OpenInv}
use Rattle.ipcz_world.proofs.acts.ExtendingAround.{next_key, extended, extended_records, IsGrown, IsExtend, no_inward}
use Rattle.ipcz_world.proofs.acts.ExtendingAround.{other_link, recorded_more, recorded_new, recorded_back, router_same, node_same}
use Rattle.ipcz_world.proofs.acts.ExtendingAround.{inner_end_is, end_same, no_by, bypass_same, side_same, stood}

module _ {w v : World} {b : Books} {g : Records} {q : Key} {r : Router} {a : ℕ} (law : OpenInv w b g) (is : IsExtend w q r a)
    (t : IsGrown w v q (extended w q r a)) where
  abbrev p : Key
  p = next_key w q.node

  abbrev h : Records
  h = extended_records w g q r a

  abbrev y : Router
  y = extended w q r a

  pub counts-extended : Hands v → Counts v h
  counts-extended hands = record {
    node = λ n l. grind (arith, t.node n, t.count, law.counts.node n);
    nodes = λ n l. grind (arith, t.nodes n, t.count, law.counts.nodes n);
    claimed = grind (arith, t.claimed, t.size, law.counts.claimed);
    unclaimed = λ i. grind (arith, t.claimed, law.counts.unclaimed i);
    on_node = λ x z at. grind (arith, t.router x, same_key_tells x q, is.here, t.count, law.counts.on_node x z, law.counts.on_node q r);
    serial = λ x z at. grind (
      arith,
      t.router x,
      same_key_tells x q,
      is.here,
      t.next_router x.node,
      law.counts.serial x z,
      law.counts.serial q r,
    );
    side_serial = λ link s x e f. elim (recorded_back law is t link e) [
      | inl o ↦ grind (
        arith,
        t.next_router x.node,
        law.counts.side_serial link s x o
            (sym (router_same law is t link s (other_link law is t link o)) ∙ f),
      )
      | inr n ↦ new_serial s x (ap (λ l. side_router h l s) (sym n) ∙ f)
    ];
    side_on_node = λ link s e. elim (recorded_back law is t link e) [
      | inl o ↦ grind (arith, t.count, node_same law is t link s (other_link law is t link o), law.counts.side_on_node link s o)
      | inr n ↦ subst (λ l. side_node h l s < v.count) (sym n) (new_node s)
    ];
    hand = hands.hand;
    hand_from = hands.hand_from;
    in_hand = hands.in_hand;
  }
    where
      new_serial : (s : Side) (x : Key) → side_router h (inner_link p) s ≡ Some x → x.serial < (node_at v x.node).next_router
      new_serial A x f = let e : q ≡ x = grind (arith, record_rules, f, same_key-itself p, side_router-proxy h p) in
          subst (λ z. z.serial < (node_at v z.node).next_router) e (grind (arith, t.next_router q.node, law.counts.serial q r is.here))
      new_serial B x f = absurd (grind (arith, side_router-inner h p, f, same_key-itself p))

      new_node : (s : Side) → side_node h (inner_link p) s < v.count
      new_node A = grind (arith, side_node-proxy h p, t.count, law.counts.on_node q r is.here)
      new_node B = grind (arith, side_node-inner h p, t.count, same_key-itself p, is.receiver)

  shape-proxy : r.closed ≡ false → HasShape r → HasShape (extended w q r a)
  shape-proxy unclosed shape = record {
    role = grind (arith, shape.role, is.lone);
    marked_central = shape.marked_central;
    marked_still = λ m. grind (arith, shape.marked_still, no_inward law is t, m);
    holds_marked = shape.holds_marked;
    holds_fit = λ m. refl;
    holds_spare = λ m p. absurd (grind (arith, shape.holds_fit m, no_inward law is t, unclosed));
    dropped_sink = λ m. absurd (not_both r.closed (and_second (is_terminal r) r.closed (shape.dropped_sink m)) unclosed);
    sent_proxy = λ m. refl;
    spare_proxy = λ i e. refl;
    spare_central = shape.spare_central;
  }

  pub shape-extended : r.closed ≡ false → Shape v
  shape-extended unclosed = each-one w v q (extended w q r a) HasShape t.router law.shape (shape-proxy unclosed (law.shape q r is.here))

  knows : Knows w v g h
  knows = record {
    recorded = recorded_more law is t;
    router = λ l s x a e. router_same law is t l s (other_link law is t l a) ∙ e;
    node = λ l s a. node_same law is t l s (other_link law is t l a);
    end = λ l s a. end_same law is t l s (other_link law is t l a);
    fresh = λ o b. refl;
    inner = λ o b. refl;
    stage = λ o. omega arith;
  }

  -- its records alone change no role
  role-then : (x : Key) (z : Router) → router_at w x ≡ Some z → HasRole v h x z
  role-then x z o = role-kept knows law.bypasses law.begun.begun_stage
      (keeps-same x (λ o. refl) (λ k. refl) (bypass_same law is t) (side_same law is t) law.stands) z
      (law.roles x z o)

  -- the terminal has an inward link now
  own : (z : Role) → is_proxy r ≡ has_inner z → trim r.outward ≡ outward_of h z → Fits v h q r.end z → HasRole v h q y
  own (Begun o out into) c e f = absurd (grind (arith, c, no_inward law is t))
  own (Unbegun o (Some i)) c e f = absurd (grind (arith, c, no_inward law is t))
  own (Unbegun o None) c e f = record {
    role = Unbegun o (Some p);
    proxy = refl;
    outward = e;
    inward = ap (λ n. lone (Some (record { link = inner_link p; side = A; other = n }))) (sym new_node);
    fits = (
      f.0,
      f.1,
      λ i n. rw (← same_Some p i n) (record {
        recorded = recorded_new law is t;
        router = grind (arith, side_router-proxy h p, same_key-itself p);
        end = new_end;
        stays = λ o by. absurd (none-some o (sym (bypass_same law is t (inner_link p) ∙ bypass_of-inner g p ∙ no_by law is t) ∙ by));
      }),
    );
  }
    where
      new_node : side_node h (inner_link p) B ≡ a
      new_node = grind (arith, side_node-inner h p, same_key-itself p)

      new_end : r.end ≡ side_end h (inner_link p) A
      new_end = sym (inner_end_is h p A ∙ rw (same_key-itself p) refl)

  pub roles-extended : Roles v h
  roles-extended x z at = elim (stood law is t x z at) [
    | inl o ↦ role-then x z o.0
    | inr n ↦ let c = role-then q r is.here in rw (n.0, n.1) (own c.role c.proxy c.outward c.fits)
  ]

  pub begun-extended : BegunRecords h
  begun-extended = assumption law.begun

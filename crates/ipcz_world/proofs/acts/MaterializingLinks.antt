-- A descriptor becomes a terminal: each link is as its record says, and primary or decaying as its bypass says.
use Rattle.ipcz_world.proofs.frames.Roles.{On, Unbegun, HasRole, Roles, BegunRecords, lone}
use Rattle.ipcz_world.proofs.frames.RolesKept.{Knows, keeps-same, role-kept}
use Rattle.ipcz_world.proofs.frames.RecordRules.{bypass_of-inner}
use Rattle.std.proofs.lemmas.Option.{none-some}
use Rattle.ipcz_world.proofs.Vocabulary.{HasShape}
use Rattle.ipcz_world.proofs.Vocabulary.{IsOrdered}
use Rattle.ipcz_world.proofs.frames.EachKept.{each-one}
use Rattle.std.specs.Prelude.{◌≡◌, ◌<◌, ℕ, Bool, true, false, ◌&&◌, nat_eq, nat_le, Some, None, refl}
use Rattle.std.proofs.Common.{arith, ap, subst, ◌∙◌, sym, inl, inr}
use Rattle.std.proofs.lemmas.Bool.Decides.{nat_tests}
use Rattle.ipcz_world.proofs.Vocabulary.{Side, A, B, LinkId, Descriptor, same_side, same_link}
use Rattle.ipcz_world.proofs.Vocabulary.{Router, from_descriptor, World, Key, node_at, Books, Records}
use Rattle.ipcz_world.proofs.Vocabulary.{is_recorded, is_begun, inner_link, side_node, side_router}
use Rattle.ipcz_world.proofs.Vocabulary.{Counts, Ordered, Shape}
use Rattle.ipcz_world.proofs.frames.Touching.{Hands}
use Rattle.ipcz_world.proofs.frames.Opened.{OpenInv}
use Rattle.ipcz_world.proofs.acts.ExtendingAround.{inner_end_is}
use Rattle.ipcz_world.proofs.acts.MaterializingAround.{made_key_records, IsMade, IsMaterial, up, own_up, empty_at, is_outward-B}
use Rattle.ipcz_world.proofs.acts.MaterializingAround.{recorded, from_node, unmade, end_is, node_same, end_same}
use Rattle.ipcz_world.proofs.acts.MaterializingAround.{bypass_same, side_same, recorded_same, router_kept, router_new, router_same}
use Rattle.ipcz_world.proofs.acts.MaterializingAround.{was_there}
use Rattle.ipcz_world.proofs.facts.Lengths.{same_link-tells, same_side-tells}
use Rattle.ipcz_world.proofs.facts.Tests.{same_some}

module _ {w v : World} {b : Books} {g : Records} {a : ℕ} {q p : Key} {d : Descriptor} (law : OpenInv w b g) (is : IsMaterial w g a q p d)
    (t : IsMade w v q (from_descriptor d a)) where
  abbrev h : Records
  h = made_key_records g p q d.end

  abbrev y : Router
  y = from_descriptor d a

  pub counts-made : Hands v → Counts v h
  counts-made hands = record {
    node = λ n l. grind (arith, t.node n, t.count, law.counts.node n);
    nodes = λ n l. grind (arith, t.nodes n, t.count, law.counts.nodes n);
    claimed = grind (arith, t.claimed, t.size, law.counts.claimed);
    unclaimed = λ i. grind (arith, t.claimed, law.counts.unclaimed i);
    on_node = λ x z at. elim (was_there law is t x z at) [
      | inl o ↦ subst (λ c. x.node < c) (sym t.count) (law.counts.on_node x z o.0)
      | inr o ↦ subst
          (λ k. k.node < v.count) (sym o.1) (subst (λ c. q.node < c) (sym t.count) is.under_way.receiver)
    ];
    serial = λ x z at. elim (was_there law is t x z at) [
      | inl o ↦ more x (law.counts.serial x z o.0)
      | inr o ↦ subst
          (λ k. k.serial < (node_at v k.node).next_router) (sym o.1) own
    ];
    side_serial = λ link s x rec e. serial_by link s x (sym (recorded_same law is t link) ∙ rec) e
        (same_link link (inner_link p) && same_side s B)
        refl;
    side_on_node = λ link s rec. subst (λ n. n < v.count) (sym (node_same law is t link s))
        (subst (λ c. side_node g link s < c) (sym t.count) (law.counts.side_on_node link s (sym (recorded_same law is t link) ∙ rec)));
    hand = hands.hand;
    hand_from = hands.hand_from;
    in_hand = hands.in_hand;
  }
    where
      more : (x : Key) → x.serial < (node_at w x.node).next_router → x.serial < (node_at v x.node).next_router
      more x l = up x.serial (node_at w x.node).next_router (node_at v x.node).next_router (nat_eq x.node q.node) l (t.next_router x.node)

      own : q.serial < (node_at v q.node).next_router
      own = own_up q.node q.serial (node_at w q.node).next_router (node_at v q.node).next_router is.serial (t.next_router q.node)

      is_new : (link : LinkId) (s : Side) → (same_link link (inner_link p) && same_side s B) ≡ true → (link ≡ inner_link p) × (s ≡ B)
      is_new link s c = (same_link-tells link (inner_link p) (grind (arith, c)), same_side-tells s B (grind (arith, c)))

      serial_by : (link : LinkId) (s : Side) (x : Key) → is_recorded w g link ≡ true → side_router h link s ≡ Some x → (c : Bool) →
          (same_link link (inner_link p) && same_side s B) ≡ c → x.serial < (node_at v x.node).next_router
      serial_by link s x rec e false c = more x (law.counts.side_serial link s x rec (sym (router_same law is t link s c) ∙ e))
      serial_by link s x rec e true c = let f = is_new link s c in let k : q ≡ x =
          same_some (sym (router_new law is t) ∙ ap (λ l. side_router h l B) (sym f.0) ∙ ap (side_router h link) (sym f.1) ∙ e) in
          subst (λ k. k.serial < (node_at v k.node).next_router) k own

  pub ordered-made : Ordered v
  ordered-made = each-one w v q y IsOrdered t.router law.ordered
      (record { out = λ n i e. absurd (empty_at d.next_out n i e); inn = λ n i e. absurd (empty_at d.next_in n i e) })

  pub shape-made : Shape v
  shape-made = each-one w v q y HasShape t.router law.shape (record {
    role = refl;
    marked_central = λ m. absurd (grind (arith, m));
    marked_still = λ m. absurd (grind (arith, m));
    holds_marked = λ m. absurd (grind (arith, m));
    holds_fit = λ m. absurd (grind (arith, m));
    holds_spare = λ m p. absurd (grind (arith, m));
    dropped_sink = λ m. absurd (grind (arith, m));
    sent_proxy = λ m. absurd (grind (arith, m));
    spare_proxy = λ i e. absurd (grind (arith, e));
    spare_central = λ i e. absurd (grind (arith, e));
  })

  -- a bypass that has been taken has its router inward
  early : (o : ℕ) → (g.peripheral p).by ≡ Some o → (g.bypass o).stage ≡ 1
  early o e = go (nat_le 2 (g.bypass o).stage) refl
    where
      begun : is_begun (g.bypass o) ≡ true
      begun = law.stands.by_begun p o e

      go : (c : Bool) → nat_le 2 (g.bypass o).stage ≡ c → (g.bypass o).stage ≡ 1
      go false f = grind (arith, f, begun, nat_tests)
      go true f = let some = (law.bypasses o).inner_known (grind (arith, f, nat_tests)) in
          absurd (grind (arith, some, ap (λ k. side_router g (inner_link k) B) (law.stands.by_inner p o e) ∙ unmade law is t))

  knows : Knows w v g h
  knows = record {
    recorded = λ l e. recorded_same law is t l ∙ e;
    router = λ l s x a e. router_kept law is t l s x e;
    node = λ l s a. node_same law is t l s;
    end = λ l s a. end_same law is t l s;
    fresh = λ o b. refl;
    inner = λ o b. refl;
    stage = λ o. omega arith;
  }

  -- the new terminal is on its link
  own : HasRole v h q y
  own = record {
    role = Unbegun (On (inner_link p) B) None;
    proxy = refl;
    outward = λ i. lone (Some (record { link = is.link i; side = B; other = sym (node_same law is t (inner_link p) A ∙ from_node law is t) i }));
    inward = refl;
    fits = (
      record {
        recorded = recorded_same law is t (inner_link p) ∙ recorded law is t;
        router = router_new law is t;
        end = sym (end_same law is t (inner_link p) B ∙ inner_end_is g p B ∙ end_is law is t);
        stays = λ o by. omega (arith, early o (sym (bypass_of-inner g p) ∙ sym (bypass_same law is t (inner_link p)) ∙ by));
      },
      is_outward-B p,
      λ i e. absurd (none-some i e),
    );
  }

  pub roles-made : Roles v h
  roles-made x z at = elim (was_there law is t x z at) [
    | inl o ↦ role-kept knows law.bypasses law.begun.begun_stage
        (keeps-same x (λ o. refl) (λ k. refl) (bypass_same law is t) (λ o b. side_same law is t o) law.stands) z
        (law.roles x z o.0)
    | inr o ↦ rw (o.0, o.1) own
  ]

  pub begun-made : BegunRecords h
  begun-made = assumption law.begun

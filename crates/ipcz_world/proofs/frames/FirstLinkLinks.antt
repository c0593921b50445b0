-- A word becomes a pair's first link: each link is as its record says, and primary or decaying as its bypass says.
use Rattle.ipcz_world.proofs.Vocabulary.{HasShape, IsOrdered, Side, End, Central, opposite, World, Key}
use Rattle.ipcz_world.proofs.Vocabulary.{node_at, Books, Records, Owner, Terminal, is_linked, side_router, side_node, Counts, Ordered}
use Rattle.ipcz_world.proofs.Vocabulary.{Shape, Inv, CentralRecord}
use Rattle.ipcz_world.proofs.frames.BegunLengths.{bypass_of-central_is}
use Rattle.ipcz_world.proofs.frames.Roles.{On, Unbegun, HasRole, Roles, BegunRecords, lone}
use Rattle.ipcz_world.proofs.frames.RolesKept.{Knows, keeps-same, role-kept}
use Rattle.std.proofs.lemmas.Option.{none-some}
use Rattle.ipcz_world.proofs.frames.FreshPairs.{fresh_marked}
use Rattle.std.specs.Prelude.{refl}
use Rattle.std.specs.Prelude.{◌≡◌, ◌<◌, ℕ, true, Some, None}
use Rattle.std.proofs.Common.{arith, ap, subst, ◌∙◌, sym, inl, inr}
use Rattle.ipcz_world.proofs.frames.Touching.{hands-same}
use Rattle.ipcz_world.proofs.frames.FreshPairs.{fresh_at, IsGrown, empty_item, fresh_central, central_outward}
use Rattle.ipcz_world.proofs.facts.Tests.{not_both}
use Rattle.ipcz_world.proofs.frames.FirstLinkAround.{bypass_kept, recorded_apart, recorded_kept, recorded_was, router_kept, node_kept, end_kept}
use Rattle.ipcz_world.proofs.frames.FirstLinkAround.{new_router, new_node, grown_end, new_recorded, begun_link}

ordered-fresh : (i : ℕ) (at : Side → Key) (s : Side) → IsOrdered (fresh_at i at s)
ordered-fresh i at s = record { out = λ n z a. absurd (empty_item 0 n z a); inn = λ n z a. absurd (empty_item 0 n z a) }

shape-fresh : (i : ℕ) (at : Side → Key) (s : Side) → HasShape (fresh_at i at s)
shape-fresh i at s = record {
  role = refl;
  marked_central = λ m. fresh_central i at s;
  marked_still = λ m. refl;
  holds_marked = λ m. fresh_marked i at s;
  holds_fit = λ m. absurd (not_both (fresh_at i at s).holds m refl);
  holds_spare = λ m p. absurd (not_both (fresh_at i at s).holds m refl);
  dropped_sink = λ m. absurd (not_both (fresh_at i at s).mark_dropped m refl);
  sent_proxy = λ m. absurd (not_both (fresh_at i at s).gone_sent m refl);
  spare_proxy = λ j e. absurd (grind (arith, e));
  spare_central = λ j e. absurd (grind (arith, e));
}

module _ {w v : World} {b : Books} {g : Records} {owner' : ℕ → Owner} {central' : ℕ → CentralRecord} {terminal' : End → Terminal} {i : ℕ}
    {at : Side → Key} (law : Inv w b g) (is : IsGrown w v g owner' central' terminal' i at) where
  abbrev h : Records
  h = record g { owner = owner'; central = central'; terminal = terminal' }

  pub counts-grown : Counts v h
  counts-grown = record {
    node = λ n l. is.node n ∙ law.counts.node n (subst (λ c. n < c) is.count l);
    nodes = λ n l. is.nodes n ∙ law.counts.nodes n (subst (λ c. n < c) is.count l) ∙ sym is.count;
    claimed = is.claimed;
    unclaimed = is.unclaimed;
    on_node = λ q x e. elim (is.was q x e) [
      | inl o ↦ subst (λ c. q.node < c) (sym is.count) (law.counts.on_node q x o)
      | inr o ↦ subst (λ (j : Key). j.node < v.count) (sym o.0.key) ((is.linked o.1).on_node o.0.side)
    ];
    serial = λ q x e. elim (is.was q x e) [
      | inl o ↦ omega (arith, law.counts.serial q x o, is.next_router q.node)
      | inr o ↦ subst (λ (j : Key). j.serial < (node_at v j.node).next_router) (sym o.0.key) ((is.linked o.1).serial o.0.side)
    ];
    side_serial = λ l s q r e. elim (recorded_was law is l r) [
      | inl o ↦ omega (
        arith,
        law.counts.side_serial l s q o (sym (router_kept law is l s (recorded_apart law is l o)) ∙ e),
        is.next_router q.node,
      )
      | inr o ↦ let key : at s ≡ q = same_some (sym (new_router law is o.1 s) ∙ ap (λ l. side_router h l s) (sym o.0) ∙ e) in
          subst (λ (j : Key). j.serial < (node_at v j.node).next_router) key ((is.linked o.1).serial s)
    ];
    side_on_node = λ l s r. elim (recorded_was law is l r) [
      | inl o ↦ subst (λ c. c < v.count) (sym (node_kept law is l s (recorded_apart law is l o)))
          (subst (λ c. side_node g l s < c) (sym is.count) (law.counts.side_on_node l s o))
      | inr o ↦ subst (λ l. side_node h l s < v.count) (sym o.0) (subst (λ n. n < v.count) (sym (new_node law is o.1 s))
          ((is.linked o.1).on_node s))
    ];
    hand = (hands-same w v g law.counts is.count is.hands).hand;
    hand_from = (hands-same w v g law.counts is.count is.hands).hand_from;
    in_hand = (hands-same w v g law.counts is.count is.hands).in_hand;
  }
    where
      same_some : {X : Type 0} {a b : X} → Some a ≡ Some b → a ≡ b
      same_some e = cc

  pub ordered-grown : Ordered v
  ordered-grown q x e = elim (is.was q x e) [
    | inl o ↦ law.ordered q x o
    | inr o ↦ subst IsOrdered (sym o.0.is) (ordered-fresh i at o.0.side)
  ]

  pub shape-grown : Shape v
  shape-grown q x e = elim (is.was q x e) [
    | inl o ↦ law.shape q x o
    | inr o ↦ subst HasShape (sym o.0.is) (shape-fresh i at o.0.side)
  ]

  knows : Knows w v g h
  knows = record {
    recorded = recorded_kept law is;
    router = λ l s q r e. router_kept law is l s (recorded_apart law is l r) ∙ e;
    node = λ l s r. node_kept law is l s (recorded_apart law is l r);
    end = λ l s r. end_kept law is l s (recorded_apart law is l r);
    fresh = λ o b. refl;
    inner = λ o b. refl;
    stage = λ o. omega arith;
  }

  -- a new terminal is on the new link
  own : is_linked (owner' i) ≡ true → (s : Side) → HasRole v h (at s) (fresh_at i at s)
  own l s = record {
    role = Unbegun (On (Central i) s) None;
    proxy = refl;
    outward = ap (λ n. lone (Some (record { link = Central i; side = s; other = n }))) (sym (new_node law is l (opposite s)));
    inward = refl;
    fits = (
      record {
        recorded = new_recorded law is l;
        router = new_router law is l s;
        end = sym (grown_end law is l s);
        stays = λ o by. absurd (begun_link law is i (bypass_of-central_is h i o by).1 refl);
      },
      central_outward i s,
      λ p e. absurd (none-some p e),
    );
  }

  pub roles-grown : Roles v h
  roles-grown q x e = elim (is.was q x e) [
    | inl o ↦ role-kept knows law.bypasses law.begun.begun_stage
        (keeps-same q (λ o. refl) (λ k. refl) (bypass_kept law is) (λ o b. refl) law.stands) x (law.roles q x o)
    | inr o ↦ rw (o.0.key, o.0.is) (own o.1 o.0.side)
  ]

  pub begun-grown : BegunRecords h
  begun-grown = assumption law.begun

-- The router across accepts a bypass: what is said of shapes and of the bypasses' records is kept.
use Rattle.ipcz_world.proofs.Vocabulary.{HasShape, Side, Central, LinkEnd, Router, World, Key, node_at, router_at, Records, is_begun, side_router}
use Rattle.ipcz_world.proofs.Vocabulary.{proxy_side, across_side, BypassRecords, Shape, accept_bypass}
use Rattle.ipcz_world.proofs.frames.EachKept.{each-one}
use Rattle.std.specs.Prelude.{◌≡◌, ◌⊎◌, ◌≤◌, ℕ, Bool, true, false, cond, nat_eq, Some, refl}
use Rattle.std.proofs.Common.{arith, inl, inr}
use Rattle.std.proofs.lemmas.Bool.Decides.{nat_tests}
use Rattle.ipcz_world.proofs.frames.Frames.{frames}
use Rattle.ipcz_world.proofs.frames.RecordRules.{record_rules}
use Rattle.ipcz_world.proofs.facts.RecordsAfter.{accepted_records}
use Rattle.ipcz_world.proofs.facts.Updates.{accept_act}
use Rattle.ipcz_world.proofs.facts.Lengths.{same_side-itself, same_side-opposite}
use Rattle.ipcz_world.proofs.facts.LinkTests.{side_is, central_word}

-- the router across has a primary link, has nothing that decays, and neither a spare nor the lock is touched
pub shape-accept : (w : World) (from : ℕ) (k : Key) (r : Router) (e : LinkEnd) (old : ℕ) (side : Side) (fresh length : ℕ) → Shape w →
    router_at w k ≡ Some r → r.outward.primary ≡ Some e →
    Shape (accept_act w from k r e old side fresh length)
shape-accept w from k r e old side fresh length law here on =
    each-one w (accept_act w from k r e old side fresh length) k (accept_bypass r from side fresh length) HasShape
    (λ q. grind (arith, frames))
    law
    (record {
      role = grind (arith, (law k r here).role, on);
      marked_central = λ m. absurd (grind (arith, m));
      marked_still = λ m. absurd (grind (arith, m));
      holds_marked = λ m. absurd (grind (arith, m));
      holds_fit = λ m. absurd (grind (arith, m));
      holds_spare = λ m p. absurd (grind (arith, m));
      dropped_sink = (law k r here).dropped_sink;
      sent_proxy = (law k r here).sent_proxy;
      spare_proxy = (law k r here).spare_proxy;
      spare_central = λ i e. central_word fresh from side;
    })

-- what the message in hand is, by the records
pub record IsAccept (g : Records) (k : Key) (o : ℕ) (s : Side) (i : ℕ) : Type 0 where
  pub stage : (g.bypass o).stage ≡ 2
  pub fresh : (g.bypass o).fresh ≡ i
  pub side : s ≡ across_side g o
  pub router : side_router g (Central o) (across_side g o) ≡ Some k

pub bypasses-accept : (w : World) (g : Records) (from : ℕ) (k : Key) (r : Router) (e : LinkEnd) (o : ℕ) (side : Side) (fresh length : ℕ) →
    BypassRecords w g → IsAccept g k o side fresh →
    BypassRecords (accept_act w from k r e o side fresh length) (accepted_records g k r o side fresh)
bypasses-accept w g from k r e o side fresh length law is j = record {
  stage = grind (arith, stage_at j, (law j).stage);
  old = λ a. grind (arith, stage_at j, (law j).old, a, at_o);
  inner = λ a. grind (
    arith,
    record_rules,
    nodes_same (g.bypass j).inner.node,
    count_same,
    inner_at j,
    (law j).inner,
    begun_at j a,
    nat_tests,
  );
  inner_by = λ a. grind (arith, stage_at j, inner_at j, (law j).inner_by, (law o).inner_by, a, at_o, nat_tests);
  pair = λ a. grind (arith, stage_at j, inner_at j, central_pair j, (law j).pair, a, at_o, nat_tests);
  proxy_old = λ a. grind (arith, record_rules, side_at j, proxy_at j, central_same j (not_fresh j a), (law j).proxy_old, begun_at j a);
  proxy_inner = λ a. grind (arith, record_rules, inner_at j, proxy_at j, (law j).proxy_inner, begun_at j a);
  across = λ a. grind (arith, record_rules, side_at j, central_same j (not_fresh j a), (law j).across, begun_at j a);
  fresh = λ a. grind (arith, stage_at j, fresh_at j, (law j).fresh, a, nat_tests);
  fresh_linked = λ a. grind (arith, stage_at j, fresh_at j, (law j).fresh_linked, (law o).fresh_linked, a, is.stage, nat_tests);
  fresh_born = λ a. grind (
    arith,
    stage_at j,
    fresh_at j,
    central_born (g.bypass j).fresh,
    (law j).fresh_born,
    (law o).fresh_born,
    a,
    is.stage,
    nat_tests,
  );
  fresh_pair = λ a. grind (
    arith,
    stage_at j,
    fresh_at j,
    central_pair (g.bypass j).fresh,
    central_pair j,
    (law j).fresh_pair,
    (law o).fresh_pair,
    a,
    is.stage,
    nat_tests,
  );
  inner_known = λ a. grind (arith, stage_at j, inner_at j, record_rules, (law j).inner_known, (law o).inner_known, a, is.stage, nat_tests);
  fresh_inner = λ a. grind (
    arith,
    record_rules,
    stage_at j,
    fresh_at j,
    inner_at j,
    side_at j,
    apart j,
    case j,
    nodes_at (g.bypass j).fresh,
    nodes_at j,
    (law j).fresh_inner,
    (law o).fresh_inner,
    at_proxy,
    central_same (g.bypass j).fresh,
    is.stage,
    is.fresh,
    a,
    nat_tests,
  );
  fresh_inner_node = λ a. grind (
    arith,
    record_rules,
    stage_at j,
    fresh_at j,
    inner_at j,
    side_at j,
    apart j,
    case j,
    nodes_at (g.bypass j).fresh,
    nodes_at j,
    (law j).fresh_inner_node,
    (law o).fresh_inner_node,
    is.stage,
    is.fresh,
    a,
    nat_tests,
  );
  fresh_across_node = λ a. grind (
    arith,
    record_rules,
    stage_at j,
    fresh_at j,
    inner_at j,
    side_at j,
    apart j,
    case j,
    nodes_at (g.bypass j).fresh,
    nodes_at j,
    (law j).fresh_across_node,
    (law o).fresh_across_node,
    is.stage,
    is.fresh,
    a,
    nat_tests,
  );
  fresh_awaited = λ a. grind (
    arith,
    record_rules,
    stage_at j,
    fresh_at j,
    inner_at j,
    side_at j,
    apart j,
    case j,
    nodes_at (g.bypass j).fresh,
    nodes_at j,
    (law j).fresh_awaited,
    central_same (g.bypass j).fresh,
    is.stage,
    is.fresh,
    a,
    nat_tests,
  );
  fresh_across = λ a. grind (
    arith,
    record_rules,
    stage_at j,
    fresh_at j,
    inner_at j,
    side_at j,
    apart j,
    case j,
    nodes_at (g.bypass j).fresh,
    nodes_at j,
    (law j).fresh_across,
    is.router,
    at_across,
    (law o).fresh_across_node,
    central_same (g.bypass j).fresh,
    central_same j (not_fresh j (begun_from j a)),
    is.stage,
    is.fresh,
    a,
    nat_tests,
  );
  born_fresh = λ i l b. grind (arith, fresh_at j, central_born i, (law j).born_fresh i, l, b);
  born_stage = λ i l b. grind (arith, stage_at j, central_born i, (law j).born_stage i, l, b, nat_tests);
}
  where
    h : Records
    h = accepted_records g k r o side fresh

    at_o : is_begun (g.bypass o) ≡ true
    at_o = grind (arith, is.stage, nat_tests)

    stage_at : (j : ℕ) → (h.bypass j).stage ≡ cond (nat_eq j o) 3 (g.bypass j).stage
    stage_at j = grind (arith, nat_tests)

    inner_at : (j : ℕ) → (h.bypass j).inner ≡ (g.bypass j).inner
    inner_at j = grind (arith, nat_tests)

    fresh_at : (j : ℕ) → (h.bypass j).fresh ≡ (g.bypass j).fresh
    fresh_at j = grind (arith, nat_tests)

    central_pair : (j : ℕ) → (h.central j).pair ≡ (g.central j).pair
    central_pair j = grind (arith, nat_tests)

    central_born : (j : ℕ) → (h.central j).born ≡ (g.central j).born
    central_born j = grind (arith, nat_tests)

    nodes_same : (n : ℕ) → (node_at (accept_act w from k r e o side fresh length) n).next_peripheral ≡ (node_at w n).next_peripheral
    nodes_same n = grind (arith, frames, nat_tests)

    count_same : (accept_act w from k r e o side fresh length).count ≡ w.count
    count_same = grind (arith, frames)

    proxy_at : (j : ℕ) → (h.bypass j).proxy ≡ (g.bypass j).proxy
    proxy_at j = grind (arith, nat_tests)

    side_at : (j : ℕ) → proxy_side h j ≡ proxy_side g j
    side_at j = grind (arith, inner_at j)

    begun_at : (j : ℕ) → is_begun (h.bypass j) ≡ true → is_begun (g.bypass j) ≡ true
    begun_at j a = grind (arith, stage_at j, at_o, a, nat_tests)

    live : (b : Bool) → is_begun (g.bypass fresh) ≡ b → is_begun (g.bypass fresh) ≡ false
    live false q = q
    live true q = absurd (grind (
      arith,
      (law o).fresh_awaited,
      (law fresh).across q,
      (law fresh).proxy_old q,
      is.stage,
      is.fresh,
      side_is (across_side g o) (proxy_side g fresh),
    ))

    fresh_live : is_begun (g.bypass fresh) ≡ false
    fresh_live = live (is_begun (g.bypass fresh)) refl

    not_fresh : (j : ℕ) → is_begun (h.bypass j) ≡ true → nat_eq j fresh ≡ false
    not_fresh j a = grind (arith, fresh_live, begun_at j a, nat_tests)

    central_same : (j : ℕ) → nat_eq j fresh ≡ false → h.central j ≡ g.central j
    central_same j e' = grind (arith, e')

    nodes_at : (j : ℕ) → (h.central j).node ≡ (g.central j).node
    nodes_at j = grind (arith, nat_tests)

    at_proxy : (h.central fresh).router (proxy_side g o) ≡ (g.central fresh).router (proxy_side g o)
    at_proxy = grind (arith, is.side, same_side-opposite (proxy_side g o), nat_tests)

    at_across : (h.central fresh).router (across_side g o) ≡ Some k.serial
    at_across = grind (arith, is.side, same_side-itself (across_side g o), nat_tests)

    case : (j : ℕ) → ((nat_eq j o ≡ true) × (j ≡ o)) ⊎ (nat_eq j o ≡ false)
    case j = told (nat_eq j o) refl
      where
        told : (b : Bool) → nat_eq j o ≡ b → ((nat_eq j o ≡ true) × (j ≡ o)) ⊎ (nat_eq j o ≡ false)
        told true q = inl (q, grind (arith, q, nat_tests))
        told false q = inr q

    begun_from : (j : ℕ) → 3 ≤ (h.bypass j).stage → is_begun (h.bypass j) ≡ true
    begun_from j a = grind (arith, a, nat_tests)

    apart : (j : ℕ) → 2 ≤ (g.bypass j).stage → nat_eq j o ≡ false → nat_eq (g.bypass j).fresh fresh ≡ false
    apart j a q = grind (arith, (law j).fresh_born a, (law o).fresh_born, is.stage, is.fresh, q, nat_tests)

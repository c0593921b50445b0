-- What the record of a bypass has to do with those of its links stays so if other records tell the same of it and of them.
use Rattle.std.specs.Prelude.{◌≡◌, ◌⊎◌, ◌≤◌, ℕ, zero, suc, true, is_some, Some, refl}
use Rattle.std.proofs.Common.{arith, ap, sym, ◌∙◌, inl, inr}
use Rattle.std.proofs.lemmas.Bool.Decides.{nat_tests}
use Rattle.ipcz_world.proofs.Vocabulary.{Side, A, B, LinkId, Central, World, Key, Records, Fresh, Linked, BypassRecords, IsBypassRecorded, is_begun}
use Rattle.ipcz_world.proofs.Vocabulary.{is_linked, is_recorded, inner_link, inner_of, side_router, side_node, proxy_side, across_side, opposite}
use Rattle.ipcz_world.proofs.Vocabulary.{fresh_of, key_at}
use Rattle.ipcz_world.specs.Records.{Bypass}

-- a bypass with the same proxy and links, which has come as far or, behind its third stage, further
pub record IsSameBypass (p q : Bypass) : Type 0 where
  pub proxy : q.proxy ≡ p.proxy
  pub inner : q.inner ≡ p.inner
  pub fresh : q.fresh ≡ p.fresh
  pub most : p.stage ≤ 5 → q.stage ≤ 5
  pub begun : is_begun q ≡ true → is_begun p ≡ true
  pub first : q.stage ≡ 1 → p.stage ≡ 1
  pub second : q.stage ≡ 2 → p.stage ≡ 2
  pub third : 3 ≤ q.stage → 3 ≤ p.stage
  pub back : 2 ≤ p.stage → 2 ≤ q.stage

pub same_bypass : (p : Bypass) → IsSameBypass p p
same_bypass p = record {
  proxy = refl;
  inner = refl;
  fresh = refl;
  most = λ h. h;
  begun = λ h. h;
  first = λ h. h;
  second = λ h. h;
  third = λ h. h;
  back = λ h. h;
}

-- other records tell the same of the two links that a bypass takes away
pub record KeepsOldLinks (w v : World) (g h : Records) (o : ℕ) : Type 0 where
  pub linked : is_linked (g.owner o) ≡ true → is_linked (h.owner o) ≡ true
  pub recorded : is_recorded w g (inner_of g o) ≡ true → is_recorded v h (inner_of g o) ≡ true
  pub by : (h.peripheral (g.bypass o).inner).by ≡ (g.peripheral (g.bypass o).inner).by
  pub inner_pair : (h.peripheral (g.bypass o).inner).end.pair ≡ (g.peripheral (g.bypass o).inner).end.pair
  pub pair : (h.central o).pair ≡ (g.central o).pair
  pub side : proxy_side h o ≡ proxy_side g o
  pub router : (s : Side) → side_router h (Central o) s ≡ side_router g (Central o) s
  pub node : (s : Side) → side_node h (Central o) s ≡ side_node g (Central o) s
  pub inner_router : side_router h (inner_of g o) A ≡ side_router g (inner_of g o) A

-- and of its fresh link, and of who stands inward of the proxy
pub record KeepsFreshLink (g h : Records) (o : ℕ) : Type 0 where
  pub linked : g.owner (g.bypass o).fresh ≡ Linked → h.owner (g.bypass o).fresh ≡ Linked
  pub born : (h.central (g.bypass o).fresh).born ≡ (g.central (g.bypass o).fresh).born
  pub pair : (h.central (g.bypass o).fresh).pair ≡ (g.central (g.bypass o).fresh).pair
  pub router : (s : Side) → side_router h (fresh_of g o) s ≡ side_router g (fresh_of g o) s
  pub node : (s : Side) → side_node h (fresh_of g o) s ≡ side_node g (fresh_of g o) s
  pub inner_router : side_router h (inner_of g o) B ≡ side_router g (inner_of g o) B
  pub inner_node : side_node h (inner_of g o) B ≡ side_node g (inner_of g o) B

-- other records tell the same of a bypass and of its links, as far as it has come
pub record KeepsBypass (w v : World) (g h : Records) (o : ℕ) : Type 0 where
  pub same : IsSameBypass (g.bypass o) (h.bypass o)
  pub old : is_begun (g.bypass o) ≡ true → KeepsOldLinks w v g h o
  pub fresh : (g.bypass o).stage ≡ 1 → g.owner (g.bypass o).fresh ≡ Fresh o → h.owner (g.bypass o).fresh ≡ Fresh o
  pub late : 2 ≤ (g.bypass o).stage → KeepsFreshLink g h o
  pub born : (i : ℕ) → is_linked (h.owner i) ≡ true → (h.central i).born ≡ Some o →
      (is_linked (g.owner i) ≡ true) × ((g.central i).born ≡ Some o)

module _ {w v : World} {g h : Records} {o : ℕ} (keeps : KeepsBypass w v g h o) (law : IsBypassRecorded w g o) where
  late : 2 ≤ (h.bypass o).stage → 2 ≤ (g.bypass o).stage
  late l = elim (two_or_more (h.bypass o).stage l) [
    | inl e ↦ omega (arith, keeps.same.second e)
    | inr e ↦ omega (arith, keeps.same.third e)
  ]
    where
      two_or_more : (n : ℕ) → 2 ≤ n → (n ≡ 2) ⊎ (3 ≤ n)
      two_or_more zero l = absurd (omega (arith, l))
      two_or_more (suc zero) l = absurd (omega (arith, l))
      two_or_more (suc (suc zero)) l = inl refl
      two_or_more (suc (suc (suc n))) l = inr (omega arith)

  old_of : 2 ≤ (g.bypass o).stage → KeepsOldLinks w v g h o
  old_of l = keeps.old (grind (arith, l, nat_tests))

  -- who stands at the side inward of the proxy
  inner_side : 2 ≤ (g.bypass o).stage → side_router h (inner_of h o) B ≡ side_router g (inner_of g o) B
  inner_side l = ap (λ p. side_router h (inner_link p) B) keeps.same.inner ∙ (keeps.late l).inner_router

  -- and at the sides of the fresh link
  fresh_proxy : 2 ≤ (g.bypass o).stage → side_router h (fresh_of h o) (proxy_side h o) ≡ side_router g (fresh_of g o) (proxy_side g o)
  fresh_proxy l = ap (λ i. side_router h (Central i) (proxy_side h o)) keeps.same.fresh ∙
      ap (side_router h (fresh_of g o)) (old_of l).side ∙ (keeps.late l).router (proxy_side g o)

  fresh_across : 2 ≤ (g.bypass o).stage →
      side_router h (fresh_of h o) (across_side h o) ≡ side_router g (fresh_of g o) (across_side g o)
  fresh_across l = ap (λ i. side_router h (Central i) (across_side h o)) keeps.same.fresh ∙
      ap (λ s. side_router h (fresh_of g o) (opposite s)) (old_of l).side ∙ (keeps.late l).router (across_side g o)

  across : (old : KeepsOldLinks w v g h o) → side_router h (Central o) (across_side h o) ≡ side_router g (Central o) (across_side g o)
  across old = ap (λ s. side_router h (Central o) (opposite s)) old.side ∙ old.router (across_side g o)

  pub bypass-kept : IsBypassRecorded v h o
  bypass-kept = record {
    stage = keeps.same.most law.stage;
    old = λ b. let n = keeps.same.begun b in (keeps.old n).linked (law.old n);
    inner = λ b. let n = keeps.same.begun b in
        ap (λ p. is_recorded v h (inner_link p)) keeps.same.inner ∙ (keeps.old n).recorded (law.inner n);
    inner_by = λ b. let n = keeps.same.begun b in
        ap (λ p. (h.peripheral p).by) keeps.same.inner ∙ (keeps.old n).by ∙ law.inner_by n;
    pair = λ b. let n = keeps.same.begun b in
        ap (λ p. (h.peripheral p).end.pair) keeps.same.inner ∙ (keeps.old n).inner_pair ∙ law.pair n ∙ sym (keeps.old n).pair;
    proxy_old = λ b. let n = keeps.same.begun b in
        ap (side_router h (Central o)) (keeps.old n).side ∙ (keeps.old n).router (proxy_side g o) ∙ law.proxy_old n ∙
        ap Some (sym keeps.same.proxy);
    proxy_inner = λ b. let n = keeps.same.begun b in
        ap (λ p. side_router h (inner_link p) A) keeps.same.inner ∙ (keeps.old n).inner_router ∙ law.proxy_inner n ∙
        ap Some (sym keeps.same.proxy);
    across = λ b. let n = keeps.same.begun b in ap is_some (across (keeps.old n)) ∙ law.across n;
    fresh = λ e. let n = keeps.same.first e in ap h.owner keeps.same.fresh ∙ keeps.fresh n (law.fresh n);
    fresh_linked = λ l. let n = late l in ap h.owner keeps.same.fresh ∙ (keeps.late n).linked (law.fresh_linked n);
    fresh_born = λ l. let n = late l in ap (λ i. (h.central i).born) keeps.same.fresh ∙ (keeps.late n).born ∙ law.fresh_born n;
    fresh_pair = λ l. let n = late l in
        ap (λ i. (h.central i).pair) keeps.same.fresh ∙ (keeps.late n).pair ∙ law.fresh_pair n ∙ sym (old_of n).pair;
    inner_known = λ l. let n = late l in ap is_some (inner_side n) ∙ law.inner_known n;
    fresh_inner = λ l. let n = late l in fresh_proxy n ∙ law.fresh_inner n ∙ sym (inner_side n);
    fresh_inner_node = λ l. let n = late l in
        ap (λ i. side_node h (Central i) (proxy_side h o)) keeps.same.fresh ∙ ap (side_node h (fresh_of g o)) (old_of n).side ∙
        (keeps.late n).node (proxy_side g o) ∙ law.fresh_inner_node n ∙
        sym (ap (λ p. side_node h (inner_link p) B) keeps.same.inner ∙ (keeps.late n).inner_node);
    fresh_across_node = λ l. let n = late l in
        ap (λ i. side_node h (Central i) (across_side h o)) keeps.same.fresh ∙
        ap (λ s. side_node h (fresh_of g o) (opposite s)) (old_of n).side ∙ (keeps.late n).node (across_side g o) ∙
        law.fresh_across_node n ∙
        sym (ap (λ s. side_node h (Central o) (opposite s)) (old_of n).side ∙ (old_of n).node (across_side g o));
    fresh_awaited = λ e. let n = keeps.same.second e in fresh_across (omega (arith, n)) ∙ law.fresh_awaited n;
    fresh_across = λ l. let n = keeps.same.third l in
        fresh_across (omega (arith, n)) ∙ law.fresh_across n ∙ sym (across (old_of (omega (arith, n))));
    born_fresh = λ i l e. let b = keeps.born i l e in keeps.same.fresh ∙ law.born_fresh i b.0 b.1;
    born_stage = λ i l e. let b = keeps.born i l e in keeps.same.back (law.born_stage i b.0 b.1);
  }

-- in another world other records tell the same of each bypass, of all links but for the sides that were left, and of whose the words are
pub record SameLinks (w v : World) (g h : Records) : Type 0 where
  pub same : (o : ℕ) → IsSameBypass (g.bypass o) (h.bypass o)
  pub central : (i : ℕ) → record (h.central i) { left = (g.central i).left } ≡ record (g.central i) { left = (g.central i).left }
  pub peripheral : (p : Key) →
      record (h.peripheral p) { left = (g.peripheral p).left } ≡ record (g.peripheral p) { left = (g.peripheral p).left }
  pub linked : (i : ℕ) → is_linked (h.owner i) ≡ is_linked (g.owner i)
  pub link : (i : ℕ) → g.owner i ≡ Linked → h.owner i ≡ Linked
  pub fresh : (o i : ℕ) → g.owner i ≡ Fresh o → h.owner i ≡ Fresh o
  pub recorded : (p : Key) → is_recorded v h (inner_link p) ≡ is_recorded w g (inner_link p)

module _ {w v : World} {g h : Records} (is : SameLinks w v g h) where
  central_router : (i : ℕ) (s : Side) → side_router h (Central i) s ≡ side_router g (Central i) s
  unfolding side_router
  central_router i s = ap (λ z. key_at (z.node s) (z.router s)) (is.central i)

  central_node : (i : ℕ) (s : Side) → side_node h (Central i) s ≡ side_node g (Central i) s
  unfolding side_node
  central_node i s = ap (λ z. z.node s) (is.central i)

  inner_proxy : (p : Key) → side_router h (inner_link p) A ≡ side_router g (inner_link p) A
  unfolding side_router
  inner_proxy p = ap (λ z. Some (record { node = p.node; serial = z.proxy })) (is.peripheral p)

  inner_taker : (p : Key) → side_router h (inner_link p) B ≡ side_router g (inner_link p) B
  unfolding side_router
  inner_taker p = ap (λ z. key_at z.node z.router) (is.peripheral p)

  inner_node : (p : Key) → side_node h (inner_link p) B ≡ side_node g (inner_link p) B
  unfolding side_node
  inner_node p = ap (λ z. z.node) (is.peripheral p)

  pub bypasses-alike : BypassRecords w g → BypassRecords v h
  bypasses-alike law o = bypass-kept {w = w} {v = v} {g = g} {h = h} {o = o}
      (record {
        same = is.same o;
        old = λ b. record {
          linked = λ e. is.linked o ∙ e;
          recorded = λ e. is.recorded (g.bypass o).inner ∙ e;
          by = ap (λ z. z.by) (is.peripheral (g.bypass o).inner);
          inner_pair = ap (λ z. z.end.pair) (is.peripheral (g.bypass o).inner);
          pair = ap (λ z. z.pair) (is.central o);
          side = ap (λ p. (h.peripheral p).end.side) (is.same o).inner ∙ ap (λ z. z.end.side) (is.peripheral (g.bypass o).inner);
          router = central_router o;
          node = central_node o;
          inner_router = inner_proxy (g.bypass o).inner;
        };
        fresh = λ e. is.fresh o (g.bypass o).fresh;
        late = λ l. record {
          linked = is.link (g.bypass o).fresh;
          born = ap (λ z. z.born) (is.central (g.bypass o).fresh);
          pair = ap (λ z. z.pair) (is.central (g.bypass o).fresh);
          router = central_router (g.bypass o).fresh;
          node = central_node (g.bypass o).fresh;
          inner_router = inner_taker (g.bypass o).inner;
          inner_node = inner_node (g.bypass o).inner;
        };
        born = λ i l e. (sym (is.linked i) ∙ l, sym (ap (λ z. z.born) (is.central i)) ∙ e);
      })
      (law o)

-- with the same records it is only which links are recorded that is read of the world
pub bypasses-still : (w v : World) (g : Records) → ((l : LinkId) → is_recorded v g l ≡ is_recorded w g l) → BypassRecords w g →
    BypassRecords v g
bypasses-still w v g recorded law = bypasses-alike {w = w}
    (record {
      same = λ o. same_bypass (g.bypass o);
      central = λ i. refl;
      peripheral = λ p. refl;
      linked = λ i. refl;
      link = λ i e. e;
      fresh = λ o i e. e;
      recorded = λ p. recorded (inner_link p);
    })
    law

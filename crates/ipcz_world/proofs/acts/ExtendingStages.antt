-- A terminal that moves becomes a proxy: who stands where, the words, the bypasses, and where the terminals are.
use Rattle.ipcz_world.proofs.Vocabulary.{IsOrdered, LinkId, same_link, A, B, Word, Side, End, Central, opposite, same_end, opposite_end, Router}
use Rattle.ipcz_world.proofs.Vocabulary.{is_terminal, inward_edge, World, Key, same_key, router_at, Books, Records, At, is_linked, is_begun}
use Rattle.ipcz_world.proofs.Vocabulary.{inner_link, side_router, side_end, proxy_side, across_side, is_nowhere, key_passes, has_primary}
use Rattle.ipcz_world.proofs.Vocabulary.{has_decaying, has_inward_decaying, Ordered, Stands, Words, Spares, BypassRecords, Stages, inner_of}
use Rattle.ipcz_world.proofs.Vocabulary.{Terminals, is_left, descriptor_of, spare_of, has_inward_primary, is_begun_router, fresh_of}
use Rattle.ipcz_world.proofs.frames.EachKept.{each-one}
use Rattle.ipcz_world.proofs.acts.ExtendingAround.{left_same, bypass_same}
use Rattle.ipcz_world.proofs.frames.Sourcing.{sourced-by, had-one}
use Rattle.std.specs.Prelude.{◌≡◌, ◌≤◌, ℕ, Bool, true, false, not, ◌&&◌, Some, None, is_some, refl}
use Rattle.std.proofs.Common.{arith, ap, subst, ◌∙◌, sym, inl, inr}
use Rattle.ipcz_world.proofs.frames.Frames.{same_key_tells, same_key-itself}
use Rattle.ipcz_world.proofs.frames.RecordRules.{side_router-proxy, side_router-inner}
use Rattle.ipcz_world.proofs.frames.StandingRules.{standing_rules}
use Rattle.ipcz_world.proofs.frames.Opened.{OpenInv}
use Rattle.ipcz_world.proofs.acts.SendingOut.{has_link-end}
use Rattle.ipcz_world.proofs.acts.ExtendingAround.{next_key, extended, extended_records, IsGrown, IsExtend, inner_one, two_begun}
use Rattle.ipcz_world.proofs.acts.ExtendingAround.{one_begun, stage_begun, no_link_here, is_nowhere-moving, inner_end_is, no_inward}
use Rattle.ipcz_world.proofs.acts.ExtendingAround.{other_link, other_key, recorded_more, recorded_back, router_same, node_same, end_same}
use Rattle.ipcz_world.proofs.acts.ExtendingAround.{by_same, side_same, stood, passes_kept, passes_equal}
use Rattle.ipcz_world.proofs.facts.LinkTests.{same_end-itself, same_end-tells}
use Rattle.ipcz_world.proofs.frames.BypassesKept.{bypass-kept, same_bypass}
use Rattle.ipcz_world.proofs.frames.WordsKept.{word-kept}

module _ {w v : World} {b : Books} {g : Records} {q : Key} {r : Router} {a : ℕ} (law : OpenInv w b g) (is : IsExtend w q r a)
    (t : IsGrown w v q (extended w q r a)) where
  abbrev p : Key
  p = next_key w q.node

  abbrev h : Records
  h = extended_records w g q r a

  abbrev y : Router
  y = extended w q r a

  has_new : key_passes v (side_router h (inner_link p) A) (has_inward_primary (inner_link p) A) ≡ true
  has_new = ap (λ o. key_passes v o (has_inward_primary (inner_link p) A)) (side_router-proxy h p ∙ proxy_key) ∙ grind (
    arith,
    standing_rules,
    t.router q,
    same_key-itself q,
    has_link-end (inward_edge y).primary
        (record { link = inner_link p; side = A; other = a }) refl,
  )
    where
      proxy_key : Some (record { node = p.node; serial = (h.peripheral p).proxy }) ≡ Some q
      proxy_key = grind (arith, same_key-itself p)

  pub stands-extended : Stands v h
  stands-extended = record {
    central = λ i s x l c nl e. passes_kept law is t (Some x) (has_primary (Central i) s) (λ f. f)
        (law.stands.central i s x l c (sym (left_same law is t (Central i) s) ∙ nl) (sym (router_same law is t (Central i) s refl) ∙ e));
    awaited = law.stands.awaited;
    awaited_stage = law.stands.awaited_stage;
    awaited_side = λ i s o l none born. law.stands.awaited_side i s o l none born ∙ ap opposite
        (sym (side_same law is t o (fresh_begun i s o l none born)));
    proxy = λ x e by nl. elim (recorded_back law is t (inner_link x) e) [
      | inl o ↦ ap (λ z. key_passes v z (has_inward_primary (inner_link x) A))
          (router_same law is t (inner_link x) A (other_link law is t (inner_link x) o))
          ∙
          passes_kept law is t (side_router g (inner_link x) A) (has_inward_primary (inner_link x) A) (λ f. absurd (no_inward_link x f))
          (law.stands.proxy x o (sym (by_same law is t x) ∙ by) (sym (left_same law is t (inner_link x) A) ∙ nl))
      | inr n ↦ let s : x ≡ p = inner_one x p n in subst (λ k. key_passes v (side_router h (inner_link k) A)
          (has_inward_primary (inner_link k) A) ≡ true) (sym s) has_new
    ];
    inner = λ x k e by nl f. elim (recorded_back law is t (inner_link x) e) [
      | inl o ↦ passes_kept law is t (Some k) (has_primary (inner_link x) B) (λ f. f)
          (law.stands.inner x k o (sym (by_same law is t x) ∙ by) (sym (left_same law is t (inner_link x) B) ∙ nl)
          (sym (router_same law is t (inner_link x) B (other_link law is t (inner_link x) o)) ∙ f))
      | inr n ↦ absurd (no_inner k (ap (λ l. side_router h l B) (sym n) ∙ f))
    ];
    by_begun = λ x o e. law.stands.by_begun x o (sym (by_same law is t x) ∙ e);
    by_inner = λ x o e. law.stands.by_inner x o (sym (by_same law is t x) ∙ e);
    left_recorded = λ l s n. recorded_more law is t l (law.stands.left_recorded l s (was_left l s n));
    left_known = λ l s n. ap is_some (router_same law is t l s (left_other l s n)) ∙ law.stands.left_known l s (was_left l s n);
    left_gone = λ l s n. ap (λ o. key_passes v o (λ z. true)) (router_same law is t l s (left_other l s n)) ∙
        passes_equal law is t (side_router g l s) (λ z. true) refl ∙ law.stands.left_gone l s (was_left l s n);
    left_live = λ l s n. bypass_same law is t l ∙ law.stands.left_live l s (was_left l s n);
  }
    where
      was_left : (l : LinkId) (s : Side) → is_left h l s ≡ true → is_left g l s ≡ true
      was_left l s n = sym (left_same law is t l s) ∙ n

      left_other : (l : LinkId) (s : Side) → is_left h l s ≡ true → same_link l (inner_link p) ≡ false
      left_other l s n = other_link law is t l (law.stands.left_recorded l s (was_left l s n))

      fresh_begun : (i : ℕ) (s : Side) (o : ℕ) → is_linked (g.owner i) ≡ true → (g.central i).router s ≡ None →
          (g.central i).born ≡ Some o → is_begun (g.bypass o) ≡ true
      fresh_begun i s o l none born = two_begun (g.bypass o).stage (law.stands.awaited_stage i s o l none born)

      no_inward_link : (x : Key) → has_inward_primary (inner_link x) A r ≡ true → ⊥
      no_inward_link x f = no_link_here (inner_link x) A (grind (arith, f, no_inward law is t))

      no_inner : (k : Key) → side_router h (inner_link p) B ≡ Some k → ⊥
      no_inner k f = grind (arith, side_router-inner h p, f, same_key-itself p)

  pub words-extended : r.closed ≡ false → Words v h
  words-extended unclosed = record {
    each = λ i. word-kept {w = w}
        (record {
          word = t.word i;
          linked = refl;
          begun = refl;
          early = λ l. l;
          side = λ b. side_same law is t i b;
          inner = λ b. node_same law is t (inner_link (g.bypass i).inner) B
              (other_link law is t (inner_link (g.bypass i).inner) ((law.bypasses i).inner b));
          left = left_same law is t (Central i);
          marked = λ s l b n. ap (λ o. key_passes v o (λ x. x.marked)) (router_same law is t (Central i) s refl) ∙
              passes_equal law is t (side_router g (Central i) s) (λ x. x.marked) refl;
          holds = λ s l b n. ap (λ o. key_passes v o (λ x. x.holds)) (router_same law is t (Central i) s refl) ∙
              passes_equal law is t (side_router g (Central i) s) (λ x. x.holds) refl;
        })
        (law.words.each i);
    source = sourced-by w v (had-one w v q r (extended w q r a) t.router (λ h. absurd (lone_free h)))
        (λ x z e i at p l. ap (λ (x : Word). x.source) (t.word i)) law.words.source;
  }
    where
      lone_free : r.holds ≡ true → ⊥
      lone_free h = grind (arith, (law.shape q r is.here).holds_fit h, no_inward law is t, unclosed)

  spare_same : (x : Key) → spare_of (router_at v x) ≡ spare_of (router_at w x)
  unfolding spare_of
  spare_same x = grind (arith, t.router x, same_key_tells x q, is.here)

  pub spares-extended : Spares v h
  spares-extended = record {
    spare = λ x z i at e. grind (arith, t.router x, same_key_tells x q, is.here, law.spares.spare x z i, law.spares.spare q r i);
    spare_back = λ x i e. spare_same x ∙ law.spares.spare_back x i e;
    opening = λ n i e. law.spares.opening n i (sym (t.opening n) ∙ e);
    opening_back = λ n i e. t.opening n ∙ law.spares.opening_back n i e;
    fresh = law.spares.fresh;
    fresh_back = law.spares.fresh_back;
  }

  since : (o n : ℕ) → 1 ≤ n → n ≤ (g.bypass o).stage → is_begun (g.bypass o) ≡ true
  since o n le e = stage_begun (g.bypass o).stage n le e

  inner_apart : (o : ℕ) → is_begun (g.bypass o) ≡ true → same_link (inner_of g o) (inner_link p) ≡ false
  inner_apart o e = other_link law is t (inner_of g o) ((law.bypasses o).inner e)

  pub bypasses-extended : BypassRecords v h
  bypasses-extended o = bypass-kept {w = w}
      (record {
        same = same_bypass (g.bypass o);
        old = λ e. record {
          linked = λ h. h;
          recorded = recorded_more law is t (inner_of g o);
          by = by_same law is t (g.bypass o).inner;
          inner_pair = ap (λ z. z.end.pair) (peripheral_same o e);
          pair = refl;
          side = side_same law is t o e;
          router = λ s. router_same law is t (Central o) s refl;
          node = λ s. node_same law is t (Central o) s refl;
          inner_router = router_same law is t (inner_of g o) A (inner_apart o e);
        };
        fresh = λ e h. h;
        late = λ l. record {
          linked = λ h. h;
          born = refl;
          pair = refl;
          router = λ s. router_same law is t (fresh_of g o) s refl;
          node = λ s. node_same law is t (fresh_of g o) s refl;
          inner_router = router_same law is t (inner_of g o) B (inner_apart o (since o 2 (omega arith) l));
          inner_node = node_same law is t (inner_of g o) B (inner_apart o (since o 2 (omega arith) l));
        };
        born = λ i l e. (l, e);
      })
      (law.bypasses o)
    where
      peripheral_same : (o : ℕ) → is_begun (g.bypass o) ≡ true → h.peripheral (g.bypass o).inner ≡ g.peripheral (g.bypass o).inner
      peripheral_same o e = grind (arith, other_key law is t (g.bypass o).inner ((law.bypasses o).inner e))

  pub not_begun : is_begun_router r ≡ true → ⊥
  not_begun f = grind (arith, f, no_inward law is t)

  inner_passes : (o : ℕ) (test : Router → Bool) → is_begun (g.bypass o) ≡ true → (test r ≡ true → test y ≡ true) →
      key_passes w (side_router g (inner_of g o) B) test ≡ true → key_passes v (side_router h (inner_of g o) B) test ≡ true
  inner_passes o test e f c = ap (λ z. key_passes v z test) (router_same law is t (inner_of g o) B (inner_apart o e)) ∙ passes_kept law is t
      (side_router g (inner_of g o) B) test f c

  across_passes : (o : ℕ) (test : Side → Router → Bool) → is_begun (g.bypass o) ≡ true → ((s : Side) → test s r ≡ true → test s y ≡ true) →
      key_passes w (side_router g (Central o) (across_side g o)) (test (across_side g o)) ≡ true →
      key_passes v (side_router h (Central o) (across_side h o)) (test (across_side h o)) ≡ true
  across_passes o test e f c = ap (λ s. key_passes v (side_router h (Central o) (opposite s)) (test (opposite s)))
      (side_same law is t o e) ∙ ap
      (λ z. key_passes v z (test (across_side g o))) (router_same law is t (Central o) (across_side g o) refl) ∙
      passes_kept law is t (side_router g (Central o) (across_side g o)) (test (across_side g o)) (f (across_side g o)) c

  pub stages-extended : Stages v h
  stages-extended o = record {
    proxy_old = λ e s. ap (λ s. key_passes v (Some (g.bypass o).proxy) (has_decaying (Central o) s)) (side_same law is t o e) ∙
        passes_kept law is t
        (Some (g.bypass o).proxy) (has_decaying (Central o) (proxy_side g o)) (λ f. f) ((law.stages o).proxy_old e s);
    proxy_inner = λ e s. passes_kept law is t (Some (g.bypass o).proxy) (has_inward_decaying (inner_of g o) A)
        (λ f. absurd (no_link_here (inner_of g o) A (grind (arith, f, no_inward law is t)))) ((law.stages o).proxy_inner e s);
    proxy_begun = λ z e at. elim (stood law is t (g.bypass o).proxy z at) [
      | inl f ↦ (law.stages o).proxy_begun z e f.0
      | inr n ↦ absurd
          (not_begun ((law.stages o).proxy_begun r e (ap (router_at w) n.1 ∙ is.here)))
    ];
    proxy_end = λ z e at. elim (stood law is t (g.bypass o).proxy z at) [
      | inl f ↦ (law.stages o).proxy_end z e f.0 ∙ sym
          (end_same law is t (inner_of g o) A (inner_apart o e))
      | inr n ↦ absurd
          (not_begun ((law.stages o).proxy_begun r e (ap (router_at w) n.1 ∙ is.here)))
    ];
    across_old = λ e s. across_passes o (λ s. has_primary (Central o) s) e (λ s f. f) ((law.stages o).across_old e s);
    across_marked = λ e s. across_passes o (λ s x. x.marked) e (λ s f. f) ((law.stages o).across_marked e s);
    across_free = λ e s. across_passes o (λ s x. not x.holds) e (λ s f. f) ((law.stages o).across_free e s);
    across_fresh = λ e s. let c = since o 3 (omega arith) e in ap
        (λ s. key_passes v (side_router h (fresh_of g o) (opposite s)) (has_primary (fresh_of g o) (opposite s))) (side_same law is t o c) ∙
        ap
        (λ z. key_passes v z (has_primary (fresh_of g o) (across_side g o))) (router_same law is t (fresh_of g o) (across_side g o) refl) ∙
        passes_kept law is t (side_router g (fresh_of g o) (across_side g o)) (has_primary (fresh_of g o) (across_side g o)) (λ f. f)
        ((law.stages o).across_fresh e s);
    inner_primary = λ x e f. let c = one_begun (g.bypass o).stage e in
        passes_kept law is t (Some x) (has_primary (inner_of g o) B) (λ f. f)
        ((law.stages o).inner_primary x e (sym (router_same law is t (inner_of g o) B (inner_apart o c)) ∙ f));
    inner_decaying = λ e s. inner_passes o (has_decaying (inner_of g o) B) (since o 2 (omega arith) e) (λ f. f)
        ((law.stages o).inner_decaying e s);
  }

  pub nowhere_same : (e : End) → is_nowhere (h.terminal e) ≡ is_nowhere (g.terminal e)
  nowhere_same e = go (same_end e r.end) refl
    where
      go : (c : Bool) → same_end e r.end ≡ c → is_nowhere (h.terminal e) ≡ is_nowhere (g.terminal e)
      go true c = let s : e ≡ r.end = same_end-tells e r.end c in
          ap is_nowhere (grind (arith, c)) ∙ is_nowhere-moving (descriptor_of r (inner_link p)) ∙ sym
          (ap (λ z. is_nowhere (g.terminal z)) s ∙ (law.terminals.each q r is.here).opened)
      go false c = ap is_nowhere (grind (arith, c))

  pub terminals-extended : Terminals v h
  terminals-extended = record {
    each = λ x z at. record {
      terminal = λ e. elim (stood law is t x z at) [
        | inl o ↦ old_terminal x z o.0 o.1 e (same_end z.end r.end) refl
        | inr n ↦ absurd
            (grind (arith, n.0, e))
      ];
      opened = nowhere_same z.end ∙ elim (stood law is t x z at) [
        | inl o ↦ (law.terminals.each x z o.0).opened
        | inr n ↦ ap (λ z. is_nowhere (g.terminal z.end)) n.0 ∙ (law.terminals.each q r is.here).opened
      ];
    };
    stands = λ e x f. still e x f (same_end e r.end) refl;
    link_opened = λ link s e. nowhere_same (side_end h link s) ∙ elim (recorded_back law is t link e) [
      | inl o ↦ ap (λ z. is_nowhere (g.terminal z)) (end_same law is t link s (other_link law is t link o)) ∙
          law.terminals.link_opened link s o
      | inr n ↦
          ap (λ l. is_nowhere (g.terminal (side_end h l s))) n ∙ new_opened s
    ];
    both = λ e. nowhere_same (opposite_end e) ∙ law.terminals.both e ∙ sym (nowhere_same e);
    unopened = λ e f. nowhere_same e ∙ law.terminals.unopened e f;
    other_pair = λ e f n. nowhere_same e ∙ law.terminals.other_pair e f n;
  }
    where
      new_opened : (s : Side) → is_nowhere (g.terminal (side_end h (inner_link p) s)) ≡ false
      new_opened s = ap (λ z. is_nowhere (g.terminal z)) (inner_end_is h p s ∙ ends_of) ∙ (law.terminals.each q r is.here).opened
        where
          ends_of : (h.peripheral p).end ≡ r.end
          ends_of = grind (arith, same_key-itself p)

      old_terminal : (x : Key) (z : Router) → router_at w x ≡ Some z → same_key x q ≡ false → is_terminal z ≡ true → (c : Bool) →
          same_end z.end r.end ≡ c → h.terminal z.end ≡ At x
      old_terminal x z at ne e true c = let s : z.end ≡ r.end = same_end-tells z.end r.end c in
          absurd (grind (
            arith,
            (law.terminals.each x z at).terminal e,
            (law.terminals.each q r is.here).terminal is.lone,
            s,
            ne,
            same_key-itself q,
          ))
      old_terminal x z at ne e false c = grind (arith, c, (law.terminals.each x z at).terminal e)

      still : (e : End) (x : Key) → h.terminal e ≡ At x → (c : Bool) → same_end e r.end ≡ c →
          key_passes v (Some x) (λ r. is_terminal r && same_end r.end e) ≡ true
      still e x f true c = absurd (grind (arith, f, c))
      still e x f false c = let k : g.terminal e ≡ At x = grind (arith, f, c) in
          passes_kept law is t (Some x) (λ r. is_terminal r && same_end r.end e) (λ a. absurd (other_end a c)) (law.terminals.stands e x k)
        where
          other_end : (is_terminal r && same_end r.end e) ≡ true → same_end e r.end ≡ false → ⊥
          other_end a c = let s : r.end ≡ e = same_end-tells r.end e (grind (arith, a)) in grind (arith, s, c, same_end-itself e)

  pub ordered-extended : Ordered v
  ordered-extended = let ordered = law.ordered q r is.here in
      each-one w v q (extended w q r a) IsOrdered t.router law.ordered (record { out = ordered.out; inn = ordered.inn })

-- A word becomes a pair's first link: who stands where, the words, the bypasses and their messages.
use Rattle.ipcz_world.proofs.frames.RolesTell.{links-in}
use Rattle.ipcz_world.proofs.frames.LiveLinks.{first_begun}
use Rattle.ipcz_world.proofs.Vocabulary.{Side, A, B, End, LinkId, Central, Peripheral, Message, has, opposite, Word, empty_word, open_word, Router}
use Rattle.ipcz_world.proofs.Vocabulary.{World, Key, word_at, router_at, Books, Records, Owner, Terminal, is_linked, is_begun, is_recorded}
use Rattle.ipcz_world.proofs.Vocabulary.{inner_link, side_router, across_side, key_passes, has_primary, IsUnderWay, Stands, Words, Spares}
use Rattle.ipcz_world.proofs.Vocabulary.{BypassRecords, Stages, Controls, inner_of, of_bypass, control_weight, Inv, LiveLinks, end_at, CentralRecord}
use Rattle.ipcz_world.proofs.Vocabulary.{key_at, spare_of, has_inward_primary, fresh_of, is_left}
use Rattle.std.proofs.Common.{true≢false}
use Rattle.ipcz_world.specs.Records.{is_nowhere, side_end}
use Rattle.ipcz_world.proofs.frames.Sourcing.{sourced-by, had-itself}
use Rattle.std.specs.Prelude.{◌≡◌, ◌≢◌, ◌⊎◌, ℕ, Bool, true, false, nat_eq, Option, Some, None, is_some, refl}
use Rattle.std.proofs.Common.{arith, ap, ◌∙◌, sym, inl, inr}
use Rattle.std.proofs.lemmas.Bool.Decides.{nat_tests}
use Rattle.ipcz_base.specs.declared.message.Message.TheVariants as messages
use Rattle.ipcz_word.specs.SideSets.{has-both, has-none}
use Rattle.ipcz_world.proofs.frames.Flowing.{under_way-congr}
use Rattle.ipcz_world.proofs.frames.SameMessages.{under-same, made-same, under_way-same}
use Rattle.ipcz_world.proofs.frames.FreshPairs.{IsGrown, has_fresh, fresh_marked, about_same, expected_alike, expected_none}
use Rattle.ipcz_world.proofs.facts.Tests.{not_both}
use Rattle.ipcz_world.proofs.frames.FirstLinkAround.{begun_apart, linked_kept, recorded_apart, recorded_kept, recorded_inner, router_kept}
use Rattle.ipcz_world.proofs.frames.FirstLinkAround.{node_kept, end_kept, bypass_kept, kept, passes_kept, passes_same, new_router}
use Rattle.ipcz_world.proofs.frames.FirstLinkAround.{not_inner, begun_link, by_word, central_apart, central_recorded, new_passes}
use Rattle.ipcz_world.proofs.frames.FirstLinkAround.{fresh_link, proxy_same, same, left_same}
use Rattle.ipcz_world.proofs.frames.BypassesKept.{bypass-kept, same_bypass}

module _ {w v : World} {b : Books} {g : Records} {owner' : ℕ → Owner} {central' : ℕ → CentralRecord} {terminal' : End → Terminal} {i : ℕ}
    {at : Side → Key} (law : Inv w b g) (is : IsGrown w v g owner' central' terminal' i at) where
  abbrev h : Records
  h = record g { owner = owner'; central = central'; terminal = terminal' }

  pub stands-grown : Stands v h
  stands-grown = record {
    central = λ j s q l nb nl e. elim (by_word law is j l) [
      | inl o ↦ passes_kept law is (Some q) (has_primary (Central j) s) (law.stands.central j s q o.1 nb (sym (left_same law is (Central j) s) ∙ nl)
          (sym (router_kept law is (Central j) s (central_apart law is j o.0)) ∙ e))
      | inr o ↦ ap (λ j. key_passes v (Some q) (has_primary (Central j) s)) o.0 ∙ ap (λ k. key_passes v k (has_primary (Central i) s))
          (sym e ∙ ap (λ j. side_router h (Central j) s) o.0 ∙ new_router law is o.1 s) ∙
          new_passes law is o.1 s (has_primary (Central i) s) ∙ has_fresh
          i at s
    ];
    awaited = λ j s l e. elim (by_word law is j l) [
      | inl o ↦ ap (λ (c : CentralRecord). is_some c.born) (is.central j o.0) ∙ law.stands.awaited j s o.1
          (ap (λ (c : CentralRecord). c.router s) (sym (is.central j o.0)) ∙ e)
      | inr o ↦ absurd (known j s o e)
    ];
    awaited_stage = λ j s n l e born. elim (by_word law is j l) [
      | inl o ↦ law.stands.awaited_stage j s n o.1 (ap (λ (c : CentralRecord). c.router s) (sym (is.central j o.0)) ∙ e)
          (ap (λ (c : CentralRecord). c.born) (sym (is.central j o.0)) ∙ born)
      | inr o ↦ absurd (known j s o e)
    ];
    awaited_side = λ j s n l e born. elim (by_word law is j l) [
      | inl o ↦ law.stands.awaited_side j s n o.1 (ap (λ (c : CentralRecord). c.router s) (sym (is.central j o.0)) ∙ e)
          (ap (λ (c : CentralRecord). c.born) (sym (is.central j o.0)) ∙ born)
      | inr o ↦ absurd (known j s o e)
    ];
    proxy = λ p r nb nl. ap (λ o. key_passes v o (has_inward_primary (inner_link p) A))
        (router_kept law is (inner_link p) A (not_inner law is p)) ∙
        passes_kept law is (side_router g (inner_link p) A) (has_inward_primary (inner_link p) A)
        (law.stands.proxy p (recorded_inner law is p r) nb (sym (left_same law is (inner_link p) A) ∙ nl));
    inner = λ p q r nb nl e. passes_kept law is (Some q) (has_primary (inner_link p) B)
        (law.stands.inner p q (recorded_inner law is p r) nb (sym (left_same law is (inner_link p) B) ∙ nl) (sym (router_kept law is (inner_link p) B (not_inner law is p)) ∙ e));
    by_begun = law.stands.by_begun;
    by_inner = law.stands.by_inner;
    left_recorded = λ l s e. recorded_kept law is l (law.stands.left_recorded l s (sym (left_same law is l s) ∙ e));
    left_known = λ l s e. ap is_some (router_kept law is l s (left_apart l s e)) ∙ law.stands.left_known l s (sym (left_same law is l s) ∙ e);
    left_gone = λ l s e. passes_same law is l s (λ r. true) (law.stands.left_recorded l s (sym (left_same law is l s) ∙ e)) ∙
        law.stands.left_gone l s (sym (left_same law is l s) ∙ e);
    left_live = λ l s e. bypass_kept law is l ∙ law.stands.left_live l s (sym (left_same law is l s) ∙ e);
  }
    where
      left_apart : (l : LinkId) (s : Side) → is_left h l s ≡ true → l ≢ Central i
      left_apart l s e = recorded_apart law is l (law.stands.left_recorded l s (sym (left_same law is l s) ∙ e))

      known : (j : ℕ) (s : Side) → (j ≡ i) × (is_linked (owner' i) ≡ true) → (central' j).router s ≡ None → ⊥
      known j s o e = let r = (is.linked o.1).router s in let two : Some (at s).serial ≡ None =
          sym r ∙ ap (λ j. (central' j).router s) (sym o.0) ∙ e in cc

  pub words-grown : Words v h
  unfolding empty_word open_word
  words-grown = record {
    each = λ j. record {
      unused = λ l. elim (same_number j) [
        | inl s ↦ ap (word_at v) s ∙ is.unlinked (ap (λ j. is_linked (owner' j)) (sym s) ∙ l)
        | inr ne ↦ is.word j ne ∙ (law.words.each j).unused (ap is_linked (sym (is.owner j ne)) ∙ l)
      ];
      begun_stable = λ s c. ap (λ (x : Word). has x.stable s) (is.word j (begun_apart law is j c)) ∙ (law.words.each j).begun_stable s c;
      begun_holder = λ s c. ap (λ (x : Word). has x.holder s) (is.word j (begun_apart law is j c)) ∙ (law.words.each j).begun_holder s c;
      stable = λ s l nb nl. elim (by_word law is j l) [
        | inl o ↦ ap (λ (x : Word). has x.stable s) (is.word j o.0) ∙
            (law.words.each j).stable s o.1 nb (sym (left_same law is (Central j) s) ∙ nl) ∙ sym
            (passes_same law is (Central j) s (λ r. r.marked) (central_recorded law is j o.1))
        | inr o ↦ ap (λ j. has (word_at v j).stable s) o.0 ∙ ap (λ (x : Word). has x.stable s) (is.linked o.1).word ∙ has-both s ∙ sym
            (ap (λ j. key_passes v (side_router h (Central j) s) (λ r. r.marked)) o.0 ∙ ap (λ k. key_passes v k (λ r. r.marked))
            (new_router law is o.1 s) ∙ new_passes law is o.1 s (λ r. r.marked) ∙ fresh_marked i at s)
      ];
      left_held = λ s e. let n = left_same law is (Central j) in
          rw (
            n A,
            n B,
            is.word j (λ m. recorded_apart law is (Central j) (law.stands.left_recorded (Central j) s (sym (n s) ∙ e)) (ap Central m)),
          )
          ((law.words.each j).left_held s (sym (n s) ∙ e));
      holder = λ s l nb nl. elim (by_word law is j l) [
        | inl o ↦ ap (λ (x : Word). has x.holder s) (is.word j o.0) ∙
            (law.words.each j).holder s o.1 nb (sym (left_same law is (Central j) s) ∙ nl) ∙ sym
            (passes_same law is (Central j) s (λ r. r.holds) (central_recorded law is j o.1))
        | inr o ↦ ap (λ j. has (word_at v j).holder s) o.0 ∙ ap (λ (x : Word). has x.holder s) (is.linked o.1).word ∙ has-none s ∙ sym
            (ap (λ j. key_passes v (side_router h (Central j) s) (λ r. r.holds)) o.0 ∙ ap (λ k. key_passes v k (λ r. r.holds))
            (new_router law is o.1 s) ∙ new_passes law is o.1 s (λ r. r.holds))
      ];
      held_stable = λ s t a. elim (same_number j) [
        | inl e ↦ absurd (not_both (has (word_at v i).holder s) (ap (λ j. has (word_at v j).holder s) (sym e) ∙ a)
            (none_held s (is_linked (owner' i)) refl))
        | inr ne ↦ ap (λ (x : Word). has x.stable t) (is.word j ne) ∙ (law.words.each j).held_stable s t
            (ap (λ (x : Word). has x.holder s) (sym (is.word j ne)) ∙ a)
      ];
      one_holder = λ s t a c. elim (same_number j) [
        | inl e ↦ absurd (not_both (has (word_at v i).holder s) (ap (λ j. has (word_at v j).holder s) (sym e) ∙ a)
            (none_held s (is_linked (owner' i)) refl))
        | inr ne ↦ (law.words.each j).one_holder s t (ap (λ (x : Word). has x.holder s) (sym (is.word j ne)) ∙ a)
            (ap (λ (x : Word). has x.holder t) (sym (is.word j ne)) ∙ c)
      ];
      begun_source = λ s l. ap (λ (x : Word). x.source) (is.word j (begun_apart law is j s)) ∙ (law.words.each j).begun_source s l ∙ ap Some
          (sym (node_kept law is (inner_link (g.bypass j).inner) B
          (recorded_apart law is (inner_link (g.bypass j).inner) ((law.bypasses j).inner s))));
    };
    source = sourced-by w v (λ q x e m. elim (is.was q x e) [
      | inl o ↦ had-itself w q x o
      | inr o ↦ absurd (not_both x.holds m (ap (λ (x : Router). x.holds) o.0.is))
    ]) (λ q x e j at p l. ap (λ (x : Word). x.source) (is.word j (λ m. recorded_apart law is e.link (((links-in law) q x at).primary e p).recorded
        (l ∙ ap Central m)))) law.words.source;
  }
    where
      same_number : (j : ℕ) → (j ≡ i) ⊎ (j ≢ i)
      same_number j = go (nat_eq j i) refl
        where
          go : (c : Bool) → nat_eq j i ≡ c → (j ≡ i) ⊎ (j ≢ i)
          go true e = inl (grind (arith, e, nat_tests))
          go false e = inr (λ s. grind (arith, e, s, nat_tests))

      none_held : (s : Side) (c : Bool) → is_linked (owner' i) ≡ c → has (word_at v i).holder s ≡ false
      none_held s true l = ap (λ (x : Word). has x.holder s) (is.linked l).word ∙ has-none s
      none_held s false l = ap (λ (x : Word). has x.holder s) (is.unlinked l) ∙ has-none s

  -- no link was of the new pair
  no_pair : (j : ℕ) → is_linked (g.owner j) ≡ true → (g.central j).pair ≡ i → ⊥
  unfolding side_end is_recorded
  no_pair j l e =
      let there : is_nowhere (g.terminal (end_at (g.central j).pair A)) ≡ false = law.terminals.link_opened (Central j) A l in
      let none : is_nowhere (g.terminal (end_at (g.central j).pair A)) ≡ true =
      law.terminals.unopened (end_at (g.central j).pair A) (ap (λ p. is_linked (g.owner p)) e ∙ is.free) in
      true≢false (sym none ∙ there)

  -- the new link is the only one of its pair
  pub live-grown : LiveLinks h
  live-grown = record {
    one_live = λ x j a c e n m. one x j e n m (by_word law is x a) (by_word law is j c);
    none_live = λ o x s a e. none o x s e (by_word law is x a);
    one_begun = λ o q s t e. law.live.one_begun o q s t (sym (old_pair o (begun o s)) ∙ e ∙ old_pair q (begun q t));
  }
    where
      begun : (o : ℕ) → (g.bypass o).stage ≡ 1 → o ≢ i
      begun o s = begun_apart law is o (first_begun (g.bypass o).stage s)

      old_pair : (j : ℕ) → j ≢ i → (central' j).pair ≡ (g.central j).pair
      old_pair j n = ap (λ (c : CentralRecord). c.pair) (is.central j n)

      new_pair : (x : ℕ) → x ≡ i → is_linked (owner' i) ≡ true → (central' x).pair ≡ i
      new_pair x n l = ap (λ j. (central' j).pair) n ∙ (is.linked l).pair

      one : (x j : ℕ) → (central' x).pair ≡ (central' j).pair → is_begun (g.bypass x) ≡ false → is_begun (g.bypass j) ≡ false →
          ((x ≢ i) × (is_linked (g.owner x) ≡ true)) ⊎ ((x ≡ i) × (is_linked (owner' i) ≡ true)) →
          ((j ≢ i) × (is_linked (g.owner j) ≡ true)) ⊎ ((j ≡ i) × (is_linked (owner' i) ≡ true)) → x ≡ j
      one x j e n m (inl a) (inl c) = law.live.one_live x j a.1 c.1 (sym (old_pair x a.0) ∙ e ∙ old_pair j c.0) n m
      one x j e n m (inl a) (inr c) = absurd (no_pair x a.1 (sym (old_pair x a.0) ∙ e ∙ new_pair j c.0 c.1))
      one x j e n m (inr a) (inl c) = absurd (no_pair j c.1 (sym (old_pair j c.0) ∙ sym e ∙ new_pair x a.0 a.1))
      one x j e n m (inr a) (inr c) = a.0 ∙ sym c.0

      none : (o x : ℕ) → (g.bypass o).stage ≡ 1 → (central' x).pair ≡ (central' o).pair →
          ((x ≢ i) × (is_linked (g.owner x) ≡ true)) ⊎ ((x ≡ i) × (is_linked (owner' i) ≡ true)) → is_begun (g.bypass x) ≡ true
      none o x s e (inl a) = law.live.none_live o x s a.1 (sym (old_pair x a.0) ∙ e ∙ old_pair o (begun o s))
      none o x s e (inr a) = absurd (no_pair o ((law.bypasses o).old (first_begun (g.bypass o).stage s))
          (sym (old_pair o (begun o s)) ∙ sym e ∙ new_pair x a.0 a.1))

  pub spares-grown : Spares v h
  unfolding spare_of
  spares-grown = record {
    spare = λ q x j e a. elim (is.was q x e) [
      | inl o ↦ let s = law.spares.spare q x j o a in is.owner j (λ f. is.no_spare q (ap g.owner (sym f) ∙ s)) ∙ s
      | inr o ↦ absurd (not_some j (sym (ap (λ (x : Router). x.spare) o.0.is) ∙ a))
    ];
    spare_back = λ q j e. let ne : j ≢ i = λ f. is.not_spare q (ap owner' (sym f) ∙ e) in
        back q j (law.spares.spare_back q j (sym (is.owner j ne) ∙ e)) (router_at w q) refl;
    opening = is.opening;
    opening_back = is.opening_back;
    fresh = λ o j e. law.spares.fresh o j (sym (is.owner j (λ f. is.not_fresh o (ap owner' (sym f) ∙ e))) ∙ e);
    fresh_back = λ o j e. law.spares.fresh_back o j (sym (is.owner j (λ f. is.not_fresh o (ap owner' (sym f) ∙ e))) ∙ e);
  }
    where
      not_some : (j : ℕ) → None ≡ Some j → ⊥
      not_some j e = cc

      back : (q : Key) (j : ℕ) → spare_of (router_at w q) ≡ Some j → (o : Option Router) → router_at w q ≡ o →
          spare_of (router_at v q) ≡ Some j
      back q j s None e = absurd (not_some j (ap spare_of (sym e) ∙ s))
      back q j s (Some x) e = ap spare_of (kept law is q x e ∙ sym e) ∙ s

  pub bypasses-grown : BypassRecords v h
  bypasses-grown o = bypass-kept {w = w}
      (record {
        same = same_bypass (g.bypass o);
        old = λ s. record {
          linked = linked_kept law is o;
          recorded = recorded_kept law is (inner_of g o);
          by = refl;
          inner_pair = refl;
          pair = ap (λ (c : CentralRecord). c.pair) (is.central o (begun_apart law is o s));
          side = refl;
          router = λ t. router_kept law is (Central o) t (begun_link law is o s);
          node = λ t. node_kept law is (Central o) t (begun_link law is o s);
          inner_router = router_kept law is (inner_of g o) A (not_inner law is (g.bypass o).inner);
        };
        fresh = λ s e. is.owner (g.bypass o).fresh (λ f. is.no_fresh o (ap g.owner (sym f) ∙ e)) ∙ e;
        late = λ s. record {
          linked = λ e. is.owner (g.bypass o).fresh (fresh_link law is o s) ∙ e;
          born = ap (λ (c : CentralRecord). c.born) (is.central (g.bypass o).fresh (fresh_link law is o s));
          pair = ap (λ (c : CentralRecord). c.pair) (is.central (g.bypass o).fresh (fresh_link law is o s));
          router = λ t. router_kept law is (fresh_of g o) t (central_apart law is (g.bypass o).fresh (fresh_link law is o s));
          node = λ t. node_kept law is (fresh_of g o) t (central_apart law is (g.bypass o).fresh (fresh_link law is o s));
          inner_router = router_kept law is (inner_of g o) B (not_inner law is (g.bypass o).inner);
          inner_node = node_kept law is (inner_of g o) B (not_inner law is (g.bypass o).inner);
        };
        born = λ j l e. elim (by_word law is j l) [
          | inl f ↦ (f.1, ap (λ (c : CentralRecord). c.born) (sym (is.central j f.0)) ∙ e)
          | inr f ↦ absurd (unborn j o f e)
        ];
      })
      (law.bypasses o)
    where
      unborn : (j o : ℕ) → (j ≡ i) × (is_linked (owner' i) ≡ true) → (central' j).born ≡ Some o → ⊥
      unborn j o f e = let two : None ≡ Some o = sym (is.linked f.1).born ∙ ap (λ j. (central' j).born) (sym f.0) ∙ e in cc

  passes_by : (a c : Option Key) (test : Router → Bool) → a ≡ c → key_passes w c test ≡ true → key_passes v a test ≡ true
  passes_by a c test e p = ap (λ o. key_passes v o test) e ∙ passes_kept law is c test p

  pub stages-grown : Stages v h
  stages-grown o = record {
    proxy_old = λ s n. passes_kept law is (Some (g.bypass o).proxy) _ ((law.stages o).proxy_old s n);
    proxy_inner = λ s n. passes_kept law is (Some (g.bypass o).proxy) _ ((law.stages o).proxy_inner s n);
    proxy_begun = λ r s e. (law.stages o).proxy_begun r s (sym (proxy_same law is o s) ∙ e);
    proxy_end = λ r s e. (law.stages o).proxy_end r s (sym (proxy_same law is o s) ∙ e) ∙ sym
        (end_kept law is (inner_of g o) A (not_inner law is (g.bypass o).inner));
    across_old = λ s n. passes_by _ _ _ (router_kept law is (Central o) (across_side g o) (begun_link law is o s))
        ((law.stages o).across_old s n);
    across_marked = λ s n. passes_by _ _ _ (router_kept law is (Central o) (across_side g o) (begun_link law is o s))
        ((law.stages o).across_marked s n);
    across_free = λ s n. passes_by _ _ _ (router_kept law is (Central o) (across_side g o) (begun_link law is o s))
        ((law.stages o).across_free s n);
    across_fresh = λ s n. passes_by _ _ _ (router_kept law is (fresh_of g o) (across_side g o)
        (central_apart law is (g.bypass o).fresh (fresh_link law is o (omega (arith, s))))) ((law.stages o).across_fresh s n);
    inner_primary = λ q s e. passes_kept law is (Some q) _ ((law.stages o).inner_primary q s
        (sym (router_kept law is (inner_of g o) B (not_inner law is (g.bypass o).inner)) ∙ e));
    inner_decaying = λ s n. passes_by _ _ _ (router_kept law is (inner_of g o) B (not_inner law is (g.bypass o).inner))
        ((law.stages o).inner_decaying s n);
  }

  -- a side without a router had none
  router_back : (l : LinkId) (s : Side) → side_router h l s ≡ None → side_router g l s ≡ None
  unfolding side_router
  router_back (Peripheral n x) A e = cc
  router_back (Peripheral n x) B e = e
  router_back (Central j) s e = go (nat_eq j i) refl (is_linked (owner' i)) refl
    where
      other : central' j ≡ g.central j → side_router g (Central j) s ≡ None
      other f = ap (λ (c : CentralRecord). key_at (c.node s) (c.router s)) (sym f) ∙ e

      go : (c : Bool) → nat_eq j i ≡ c → (d : Bool) → is_linked (owner' i) ≡ d → side_router g (Central j) s ≡ None
      go false q d l = other (is.central j (λ f. grind (arith, q, f, nat_tests)))
      go true q false l = let f : j ≡ i = grind (arith, q, nat_tests) in other (ap central' f ∙ is.still l ∙ ap g.central (sym f))
      go true q true l = let f : j ≡ i = grind (arith, q, nat_tests) in let two : Some (at s) ≡ None =
          sym (new_router law is l s) ∙ ap (λ j. side_router h (Central j) s) (sym f) ∙ e in cc

  control_kept : (f : ℕ → ℕ → Message → ℕ) (o : ℕ) → control_weight h f o ≡ control_weight g f o
  control_kept f o = go (is_begun (g.bypass o)) refl
    where
      go : (c : Bool) → is_begun (g.bypass o) ≡ c → control_weight h f o ≡ control_weight g f o
      go true e = expected_alike g h f o refl (node_kept law is (inner_of g o) B (not_inner law is (g.bypass o).inner)) refl
          (λ z. node_kept law is (Central o) z (begun_link law is o e))
      go false e = expected_none h f o e ∙ sym (expected_none g f o e)

  pub controls-grown : Controls v h
  controls-grown = record {
    control = λ o f. under_way-congr (λ from to. of_bypass h o (f from to)) (λ from to. of_bypass g o (f from to)) v
        (λ from to j m u. about_same g h o (f from to) m (bypass_kept law is)) ∙
        under_way-same w v (λ from to. of_bypass g o (f from to)) (same law is) ∙
        law.controls.control o f ∙ sym (control_kept f o);
    will_stop = λ from to j l s n u. ap is_some (bypass_kept law is l) ∙ law.controls.will_stop from to j l s n
        (under-same w v from to j (messages.ProxyWillStop l s n) (same law is) u);
    behind = λ from to j l s old target fresh u e. made-same w v from to j l s (same law is) ∙
        law.controls.behind from to j l s old target fresh
        (under-same w v from to j (messages.BypassPeer l s old target fresh) (same law is) u) (router_back l s e);
    flush_central = λ from to j l s u. law.controls.flush_central from to j l s (under-same w v from to j (messages.Flush l s) (same law is) u);
    flush_recorded = λ from to j l s u. recorded_kept law is l (flushed from to j l s u);
    flush_to = λ from to j l s u. law.controls.flush_to from to j l s (under-same w v from to j (messages.Flush l s) (same law is) u) ∙ sym
        (node_kept law is l s (recorded_apart law is l (flushed from to j l s u)));
    flush_from = λ from to j l s u. law.controls.flush_from from to j l s (under-same w v from to j (messages.Flush l s) (same law is) u) ∙ sym
        (node_kept law is l (opposite s) (recorded_apart law is l (flushed from to j l s u)));
  }
    where
      flushed : (from to j : ℕ) (l : LinkId) (s : Side) → IsUnderWay v from to j (messages.Flush l s) → is_recorded w g l ≡ true
      flushed from to j l s u = law.controls.flush_recorded from to j l s (under-same w v from to j (messages.Flush l s) (same law is) u)

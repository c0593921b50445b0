-- A word becomes a pair's first link: what the records say of the links and bypasses that were there, and of the new link.
use Rattle.ipcz_word.specs.SideSets.{has, has-none}
use Rattle.ipcz_world.proofs.Vocabulary.{Side, A, B, End, LinkId, Central, Peripheral, LinkEnd, Router, World, Key, router_at, Books}
use Rattle.ipcz_world.proofs.Vocabulary.{Records, Owner, Terminal, is_linked, is_begun, is_recorded, inner_link, bypass_of, side_router, side_node}
use Rattle.ipcz_world.proofs.Vocabulary.{side_end, side_length, terminal_descriptor, is_nowhere, proxy_side, view, view_by, router_view, key_passes}
use Rattle.ipcz_world.proofs.Vocabulary.{Inv, is_left, CentralRecord, key_at, length_by, bypass_length, awaited_view}
use Rattle.std.specs.Prelude.{◌≡◌, ◌≢◌, ◌⊎◌, ◌≤◌, ℕ, Bool, true, false, nat_eq, Option, Some, None, refl}
use Rattle.std.proofs.Common.{arith, ap, ◌∙◌, sym, inl, inr}
use Rattle.std.proofs.lemmas.Bool.Decides.{nat_tests}
use Rattle.ipcz_world.proofs.frames.StandingRules.{standing_rules}
use Rattle.ipcz_world.proofs.frames.SameMessages.{SameMessages}
use Rattle.ipcz_world.proofs.frames.FreshPairs.{fresh_at, end_of, IsGrown, is_nowhere-at, central_one}
use Rattle.ipcz_world.proofs.facts.Tests.{not_both}

module _ {w v : World} {b : Books} {g : Records} {owner' : ℕ → Owner} {central' : ℕ → CentralRecord} {terminal' : End → Terminal} {i : ℕ}
    {at : Side → Key} (law : Inv w b g) (is : IsGrown w v g owner' central' terminal' i at) where
  abbrev h : Records
  h = record g { owner = owner'; central = central'; terminal = terminal' }

  -- a word of a link is another
  not_here : (j : ℕ) → is_linked (g.owner j) ≡ true → j ≢ i
  not_here j l e = not_both (is_linked (g.owner i)) (ap (λ j. is_linked (g.owner j)) (sym e) ∙ l) is.free

  pub begun_apart : (o : ℕ) → is_begun (g.bypass o) ≡ true → o ≢ i
  begun_apart o s = not_here o ((law.bypasses o).old s)

  pub linked_kept : (j : ℕ) → is_linked (g.owner j) ≡ true → is_linked (owner' j) ≡ true
  linked_kept j l = ap is_linked (is.owner j (not_here j l)) ∙ l

  linked_was : (j : ℕ) → j ≢ i → is_linked (owner' j) ≡ true → is_linked (g.owner j) ≡ true
  linked_was j ne l = ap is_linked (sym (is.owner j ne)) ∙ l

  pub recorded_apart : (l : LinkId) → is_recorded w g l ≡ true → l ≢ Central i
  unfolding is_recorded
  recorded_apart (Central j) r e = not_here j r (central_one j i e)
  recorded_apart (Peripheral n s) r e = grind (arith, e)

  pub recorded_kept : (l : LinkId) → is_recorded w g l ≡ true → is_recorded v h l ≡ true
  unfolding is_recorded
  recorded_kept (Central j) r = linked_kept j r
  recorded_kept (Peripheral n s) r = grind (arith, is.count, is.next_peripheral n, r)

  pub recorded_inner : (p : Key) → is_recorded v h (inner_link p) ≡ true → is_recorded w g (inner_link p) ≡ true
  unfolding is_recorded
  recorded_inner p r = grind (arith, is.count, is.next_peripheral p.node, r)

  pub recorded_was : (l : LinkId) → is_recorded v h l ≡ true → (is_recorded w g l ≡ true) ⊎
      ((l ≡ Central i) × (is_linked (owner' i) ≡ true))
  unfolding is_recorded
  recorded_was (Central j) r = go (nat_eq j i) refl
    where
      go : (c : Bool) → nat_eq j i ≡ c → (is_linked (g.owner j) ≡ true) ⊎ ((Central j ≡ Central i) × (is_linked (owner' i) ≡ true))
      go true e = let s : j ≡ i = grind (arith, e, nat_tests) in inr (ap Central s, ap (λ j. is_linked (owner' j)) (sym s) ∙ r)
      go false e = inl (linked_was j (λ s. grind (arith, e, s, nat_tests)) r)
  recorded_was (Peripheral n s) r = inl (grind (arith, is.count, is.next_peripheral n, r))

  pub router_kept : (l : LinkId) (s : Side) → l ≢ Central i → side_router h l s ≡ side_router g l s
  unfolding side_router
  router_kept (Central j) s ne = ap (λ (c : CentralRecord). key_at (c.node s) (c.router s)) (is.central j (λ e. ne (ap Central e)))
  router_kept (Peripheral n x) A ne = refl
  router_kept (Peripheral n x) B ne = refl

  pub node_kept : (l : LinkId) (s : Side) → l ≢ Central i → side_node h l s ≡ side_node g l s
  unfolding side_node
  node_kept (Central j) s ne = ap (λ (c : CentralRecord). c.node s) (is.central j (λ e. ne (ap Central e)))
  node_kept (Peripheral n x) A ne = refl
  node_kept (Peripheral n x) B ne = refl

  pub end_kept : (l : LinkId) (s : Side) → l ≢ Central i → side_end h l s ≡ side_end g l s
  unfolding side_end
  end_kept (Central j) s ne = ap (λ (c : CentralRecord). record { pair = c.pair; side = s }) (is.central j (λ e. ne (ap Central e)))
  end_kept (Peripheral n x) s ne = refl

  pub length_kept : (l : LinkId) (s : Side) → side_length h l s ≡ side_length g l s
  unfolding length_by bypass_of bypass_length
  length_kept l s = refl

  pub bypass_kept : (l : LinkId) → bypass_of h l ≡ bypass_of g l
  unfolding bypass_of
  bypass_kept (Central j) = refl
  bypass_kept (Peripheral n x) = refl

  -- nobody has left the word
  pub left_before : (s : Side) → is_left g (Central i) s ≡ false
  left_before s = go (is_left g (Central i) s) refl
    where
      go : (c : Bool) → is_left g (Central i) s ≡ c → c ≡ false
      go false e = refl
      go true e = absurd (recorded_apart (Central i) (law.stands.left_recorded (Central i) s e) refl)

  left_after : (s : Side) → is_left h (Central i) s ≡ false
  unfolding is_left
  left_after s = go (is_linked (owner' i)) refl
    where
      go : (c : Bool) → is_linked (owner' i) ≡ c → has (central' i).left s ≡ false
      go true e = ap (λ x. has x s) (is.linked e).left ∙ has-none s
      go false e = ap (λ (c : CentralRecord). has c.left s) (is.still e) ∙ left_before s

  -- the same sides are left
  pub left_same : (l : LinkId) (s : Side) → is_left h l s ≡ is_left g l s
  unfolding is_left
  left_same (Central j) s = go (nat_eq j i) refl
    where
      go : (c : Bool) → nat_eq j i ≡ c → has (central' j).left s ≡ has (g.central j).left s
      go true e = let z : j ≡ i = grind (arith, e, nat_tests) in ap (λ n. has (central' n).left s) z ∙ left_after s ∙ sym (left_before s) ∙
          ap (λ n. has (g.central n).left s) (sym z)
      go false e = ap (λ (c : CentralRecord). has c.left s) (is.central j (λ z. grind (arith, e, z, nat_tests)))
  left_same (Peripheral n x) s = refl

  -- an end of an opened pair has its terminal where it was
  pub terminal_kept : (e : End) → is_nowhere (g.terminal e) ≡ false → terminal' e ≡ g.terminal e
  terminal_kept e n = elim (is.terminal e) [
    | inl s ↦ s
    | inr s ↦ absurd (not_both (is_nowhere (g.terminal e)) (law.terminals.unopened e (ap (λ j. is_linked (g.owner j)) s.0 ∙ is.free)) n)
  ]

  pub nowhere_was : (e : End) → is_nowhere (terminal' e) ≡ true → is_nowhere (g.terminal e) ≡ true
  nowhere_was e n = elim (is.terminal e) [
    | inl s ↦ ap is_nowhere (sym s) ∙ n
    | inr s ↦ absurd (not_both (is_nowhere (terminal' e)) n (ap is_nowhere s.1 ∙ is_nowhere-at (at e.side)))
  ]

  -- who is known stands as before
  known_same : (l : LinkId) (s : Side) (q : Key) → is_recorded w g l ≡ true → side_router g l s ≡ Some q → router_at v q ≡ router_at w q
  known_same l s q r e = is.old q (law.counts.side_serial l s q r e)

  pub kept : (q : Key) (x : Router) → router_at w q ≡ Some x → router_at v q ≡ Some x
  kept q x e = is.old q (law.counts.serial q x e) ∙ e

  pub passes_kept : (o : Option Key) (test : Router → Bool) → key_passes w o test ≡ true → key_passes v o test ≡ true
  passes_kept None test p = grind (arith, standing_rules, p)
  passes_kept (Some q) test p = go (router_at w q) refl
    where
      go : (o : Option Router) → router_at w q ≡ o → key_passes v (Some q) test ≡ true
      go None e = absurd (grind (arith, standing_rules, p, e))
      go (Some x) e = let f = kept q x e in grind (arith, standing_rules, p, e, f)

  pub passes_same : (l : LinkId) (s : Side) (test : Router → Bool) → is_recorded w g l ≡ true →
      key_passes v (side_router h l s) test ≡ key_passes w (side_router g l s) test
  passes_same l s test r = ap (λ o. key_passes v o test) (router_kept l s (recorded_apart l r)) ∙ go (side_router g l s) refl
    where
      go : (o : Option Key) → side_router g l s ≡ o → key_passes v o test ≡ key_passes w o test
      go None e = grind (arith, standing_rules)
      go (Some q) e = let f = known_same l s q r e in grind (arith, standing_rules, f)

  pub view_kept : (l : LinkId) (s : Side) → is_recorded w g l ≡ true → view v h l s ≡ view w g l s
  unfolding view_by
  view_kept l s r = ap (view_by v h l s) (router_kept l s (recorded_apart l r)) ∙ go (side_router g l s) refl
    where
      go : (o : Option Key) → side_router g l s ≡ o → view_by v h l s o ≡ view_by w g l s o
      go None e = ap (λ t. awaited_view l (terminal_descriptor t))
          (ap terminal' (end_kept l s (recorded_apart l r)) ∙ terminal_kept (side_end g l s) (law.terminals.link_opened l s r))
      go (Some q) e = ap (router_view l s) (known_same l s q r e)

  -- the new link's sides
  pub new_router : is_linked (owner' i) ≡ true → (s : Side) → side_router h (Central i) s ≡ Some (at s)
  unfolding side_router
  new_router l s = let p = is.linked l in ap (λ n. key_at n ((central' i).router s)) (p.node s) ∙ ap (key_at (at s).node) (p.router s)

  pub new_node : is_linked (owner' i) ≡ true → (s : Side) → side_node h (Central i) s ≡ (at s).node
  unfolding side_node
  new_node l s = (is.linked l).node s

  pub grown_end : is_linked (owner' i) ≡ true → (s : Side) → side_end h (Central i) s ≡ end_of i s
  unfolding side_end
  grown_end l s = ap (λ p. end_of p s) (is.linked l).pair

  pub new_recorded : is_linked (owner' i) ≡ true → is_recorded v h (Central i) ≡ true
  unfolding is_recorded
  new_recorded l = l

  pub not_inner : (p : Key) → inner_link p ≢ Central i
  not_inner p e = grind (arith, e)

  pub begun_link : (o : ℕ) → is_begun (g.bypass o) ≡ true → Central o ≢ Central i
  begun_link o s e = begun_apart o s (central_one o i e)

  pub no_end : (o : Option LinkEnd) (e : LinkEnd) → o ≡ None → o ≡ Some e → ⊥
  no_end o e a c = cc

  -- a word of a link, before or new
  pub by_word : (j : ℕ) → is_linked (owner' j) ≡ true → ((j ≢ i) × (is_linked (g.owner j) ≡ true)) ⊎
      ((j ≡ i) × (is_linked (owner' i) ≡ true))
  by_word j l = go (nat_eq j i) refl
    where
      go : (c : Bool) → nat_eq j i ≡ c → ((j ≢ i) × (is_linked (g.owner j) ≡ true)) ⊎ ((j ≡ i) × (is_linked (owner' i) ≡ true))
      go true e = let s : j ≡ i = grind (arith, e, nat_tests) in inr (s, ap (λ j. is_linked (owner' j)) (sym s) ∙ l)
      go false e = let ne : j ≢ i = λ s. grind (arith, e, s, nat_tests) in inl (ne, linked_was j ne l)

  pub central_apart : (j : ℕ) → j ≢ i → Central j ≢ Central i
  central_apart j ne e = ne (central_one j i e)

  pub central_recorded : (j : ℕ) → is_linked (g.owner j) ≡ true → is_recorded w g (Central j) ≡ true
  unfolding is_recorded
  central_recorded j l = l

  -- a new terminal passes
  pub new_passes : is_linked (owner' i) ≡ true → (s : Side) (test : Router → Bool) →
      key_passes v (Some (at s)) test ≡ test (fresh_at i at s)
  new_passes l s test = let e = (is.linked l).here s in grind (arith, standing_rules, e)

  pub fresh_link : (o : ℕ) → 2 ≤ (g.bypass o).stage → (g.bypass o).fresh ≢ i
  unfolding is_linked
  fresh_link o s = not_here (g.bypass o).fresh (ap is_linked ((law.bypasses o).fresh_linked s))

  -- the proxy of a bypass stands as before
  pub proxy_same : (o : ℕ) → is_begun (g.bypass o) ≡ true → router_at v (g.bypass o).proxy ≡ router_at w (g.bypass o).proxy
  proxy_same o s = known_same (Central o) (proxy_side g o) (g.bypass o).proxy (central_recorded o ((law.bypasses o).old s))
      ((law.bypasses o).proxy_old s)

  pub same : SameMessages w v
  same = record { count = is.count; flows = is.flows; peripheral = is.next_peripheral }

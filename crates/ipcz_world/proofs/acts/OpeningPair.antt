-- An open makes a pair on the word that was claimed for it: its two terminals join, and the invariant is kept.
use Rattle.ipcz_world.proofs.Vocabulary.{Side, A, B, End, same_side, opposite_end, same_end, has_end, total, open_word, Router, Node, outbox, World}
use Rattle.ipcz_world.proofs.Vocabulary.{Key, messages_in, node_at, word_at, mail_at, way, router_at, flow, set_node, set_word, Books, Records, Owner}
use Rattle.ipcz_world.proofs.Vocabulary.{Spare, Opening, Fresh, Linked, Terminal, At, is_linked, is_unclaimed, terminal_node, is_nowhere, Weight}
use Rattle.ipcz_world.proofs.Vocabulary.{in_router, times, times_held, Inv, none, new_end, open_node, CentralRecord}
use Rattle.ipcz_world.proofs.frames.OfRecords.{holds, held_times}
use Rattle.std.specs.Prelude.{◌≡◌, ◌≢◌, ◌⊎◌, ◌≤◌, ◌<◌, ◌+◌, ◌*◌, ℕ, Bool, true, false, cond, ◌||◌, nat_eq, nat_le, Option, Some, None, refl}
use Rattle.std.specs.Prelude.{[], ◌∷◌, ◌++◌}
use Rattle.std.specs.Ordering.{nat_cmp}
use Rattle.std.specs.Cmp.{nat_cmp_total}
use Rattle.std.specs.FinMap.{get, insert, nat_cmp-IsAntisymmetric}
use Rattle.std.proofs.Common.{arith, ap, subst, ◌∙◌, sym, inl, inr}
use Rattle.std.proofs.lemmas.Bool.Decides.{nat_tests}
use Rattle.ipcz_base.proofs.Totals.{total-insert_new}
use Rattle.ipcz_world.proofs.frames.Frames.{frames, word-set_node, claimed-set_node, size-set_node, count-set_node, node-set_node}
use Rattle.ipcz_world.proofs.frames.Frames.{node-set_word}
use Rattle.ipcz_world.proofs.facts.RecordsAfter.{at_side}
use Rattle.ipcz_world.proofs.facts.RecordsAfter.{open_records}
use Rattle.ipcz_world.proofs.frames.Changing.{IsNodeChanged, flow_is, same_routers}
use Rattle.ipcz_world.proofs.frames.Holding.{pair_ends, times_held-at, times_held-changed, times-with_ends, holds-with_ends}
use Rattle.ipcz_world.proofs.frames.Holding.{held_times-most, same_end-turned}
use Rattle.ipcz_world.proofs.frames.Booking.{end_tells, flag}
use Rattle.ipcz_world.proofs.frames.Calling.{nowhere_unheld, missing}
use Rattle.ipcz_world.proofs.frames.FreshPairs.{IsGrown, IsNew, IsPair, fresh_at, terminal_node-at, is_nowhere-at}
use Rattle.ipcz_world.proofs.frames.FirstLink.{inv-grown}
use Rattle.ipcz_world.proofs.acts.OpenedNodes.{times_by, same_number, places_by, fresh_weight, source_apart, recorded_apart}
use Rattle.ipcz_world.proofs.facts.LinkTests.{same_end-tells, same_end-itself}
use Rattle.ipcz_world.proofs.facts.Finding.{get_inserted}
use Rattle.ipcz_world.proofs.facts.Tests.{not_both}

-- an open on a word that was claimed for it
module _ (w : World) (b : Books) (g : Records) (n i : ℕ) (law : Inv w b g) (l : n < w.count)
    (claimed : (node_at w n).opening ≡ Some i) where
  abbrev s : ℕ
  s = (node_at w n).next_router

  abbrev x : Node
  x = open_node (node_at w n) i

  abbrev v : World
  v = set_word (set_node w n x) i open_word

  abbrev at : Side → Key
  at = λ t. record { node = n; serial = cond (same_side t B) (s + 1) s }

  abbrev a_end : End
  a_end = record { pair = i; side = A }

  abbrev b_end : End
  b_end = record { pair = i; side = B }

  abbrev owner' : ℕ → Owner
  owner' = λ j. cond (nat_eq j i) Linked (g.owner j)

  abbrev link : CentralRecord
  link = record { pair = i; node = λ s. n; router = at_side (λ t. Some s) B (Some (s + 1)); born = None; left = none }

  abbrev central' : ℕ → CentralRecord
  central' = λ j. cond (nat_eq j i) link (g.central j)

  abbrev terminal' : End → Terminal
  terminal' = λ d. cond (same_end d b_end) (At (record { node = n; serial = s + 1 }))
      (cond (same_end d a_end) (At (record { node = n; serial = s })) (g.terminal d))

  number : (node_at w n).number ≡ n
  number = law.counts.node n l

  mine : g.owner i ≡ Opening n
  mine = law.spares.opening n i claimed

  nat_same : nat_eq i i ≡ true
  nat_same = grind (arith, nat_tests)

  now : owner' i ≡ Linked
  now = ap (λ c. cond c Linked (g.owner i)) nat_same

  linked_now : is_linked (owner' i) ≡ true
  unfolding is_linked
  linked_now = ap is_linked now

  free : is_linked (g.owner i) ≡ false
  unfolding is_linked
  free = ap is_linked mine

  nodes : (m : ℕ) → node_at v m ≡ cond (nat_eq m n) x (node_at w m)
  nodes m = node-set_word (set_node w n x) i open_word m ∙ node-set_node w n x m

  node_here : node_at v n ≡ x
  node_here = nodes n ∙ ap (λ c. cond c x (node_at w n)) (let e : nat_eq n n ≡ true = grind (arith, nat_tests) in e)

  node_other : (m : ℕ) → m ≢ n → node_at v m ≡ node_at w m
  node_other m ne = nodes m ∙ ap (λ c. cond c x (node_at w m)) (let e : nat_eq m n ≡ false = grind (arith, ne, nat_tests) in e)

  -- a statement of a node, by whether it is this one
  by_node : (P : ℕ → Node → Type 0) (m : ℕ) → P n x → (m ≢ n → P m (node_at w m)) → P m (node_at v m)
  by_node P m here other = elim (same_number m n) [
    | inl e ↦ subst (λ m. P m (node_at v m)) (sym e) (subst (P n) (sym node_here) here)
    | inr ne ↦ subst (P m) (sym (node_other m ne)) (other ne)
  ]

  words : (j : ℕ) → j ≢ i → word_at v j ≡ word_at w j
  words j ne = grind (arith, frames, ne, nat_tests)

  word_here : word_at v i ≡ open_word
  word_here = grind (arith, frames, nat_tests)

  found : (q : ℕ) → get x.routers q ≡ cond (nat_eq q (s + 1)) (Some (new_end i B (node_at w n).number))
      (cond (nat_eq q s) (Some (new_end i A (node_at w n).number)) (get (node_at w n).routers q))
  found q = get_inserted (insert (node_at w n).routers s (new_end i A (node_at w n).number)) (s + 1) (new_end i B (node_at w n).number) q
      ∙ ap (cond (nat_eq q (s + 1)) (Some (new_end i B (node_at w n).number)))
      (get_inserted (node_at w n).routers s (new_end i A (node_at w n).number) q)

  a_is : (t : ℕ) → Some (new_end i A (node_at w n).number) ≡ Some (new_end i A n)
  a_is t = ap (λ m. Some (new_end i A m)) number

  b_is : (t : ℕ) → Some (new_end i B (node_at w n).number) ≡ Some (new_end i B n)
  b_is t = ap (λ m. Some (new_end i B m)) number

  here_is : (q : Key) → q.node ≡ n → router_at v q ≡ get x.routers q.serial
  unfolding router_at
  here_is q e = ap (λ (y : Node). get y.routers q.serial) (ap (node_at v) e ∙ node_here)

  there_is : (q : Key) → q.node ≢ n → router_at v q ≡ router_at w q
  there_is q ne = same_routers w v q (ap (λ (y : Node). y.routers) (node_other q.node ne))

  was_here : (q : Key) → q.node ≡ n → get (node_at w n).routers q.serial ≡ router_at w q
  unfolding router_at
  was_here q e = ap (λ m. get (node_at w m).routers q.serial) (sym e)

  key_is : (q : Key) (t : ℕ) → q.node ≡ n → q.serial ≡ t → q ≡ record { node = n; serial = t }
  key_is q t a c = λ j. record { node = a j; serial = c j }

  was : (q : Key) (y : Router) → router_at v q ≡ Some y → (router_at w q ≡ Some y) ⊎ (IsNew i at q y × (is_linked (owner' i) ≡ true))
  was q y e = elim (same_number q.node n) [
    | inr ne ↦ inl (sym (there_is q ne) ∙ e)
    | inl h ↦ go h (nat_eq q.serial (s + 1)) refl (nat_eq q.serial s) refl (sym (found q.serial) ∙ sym (here_is q h) ∙ e)
  ]
    where
      go : q.node ≡ n → (c : Bool) → nat_eq q.serial (s + 1) ≡ c → (d : Bool) → nat_eq q.serial s ≡ d →
          cond c (Some (new_end i B (node_at w n).number)) (cond d (Some (new_end i A (node_at w n).number))
          (get (node_at w n).routers q.serial)) ≡ Some y → (router_at w q ≡ Some y) ⊎ (IsNew i at q y × (is_linked (owner' i) ≡ true))
      go h true p d r f = inr (
        record {
          side = B;
          key = key_is q (s + 1) h (grind (arith, p, nat_tests));
          is =
              let two : Some y ≡ Some (new_end i B n) = sym f ∙ b_is 0 in cc;
        },
        linked_now,
      )
      go h false p true r f = inr (
        record {
          side = A;
          key = key_is q s h (grind (arith, r, nat_tests));
          is =
              let two : Some y ≡ Some (new_end i A n) = sym f ∙ a_is 0 in cc;
        },
        linked_now,
      )
      go h false p false r f = inl (sym (was_here q h) ∙ f)

  old : (q : Key) → q.serial < (node_at w q.node).next_router → router_at v q ≡ router_at w q
  old q low = elim (same_number q.node n) [
    | inr ne ↦ there_is q ne
    | inl h ↦ let less : q.serial < s = subst (λ m. q.serial < (node_at w m).next_router) h low in
        here_is q h ∙ found q.serial
        ∙ ap (λ c. cond c (Some (new_end i B (node_at w n).number))
        (cond (nat_eq q.serial s) (Some (new_end i A (node_at w n).number)) (get (node_at w n).routers q.serial))) (high q.serial less)
        ∙ ap (λ c. cond c (Some (new_end i A (node_at w n).number)) (get (node_at w n).routers q.serial)) (not_it q.serial less) ∙
        was_here
        q h
  ]
    where
      high : (t : ℕ) → t < s → nat_eq t (s + 1) ≡ false
      high t less = grind (arith, less, nat_tests)

      not_it : (t : ℕ) → t < s → nat_eq t s ≡ false
      not_it t less = grind (arith, less, nat_tests)

  stands : (t : Side) → router_at v (at t) ≡ Some (fresh_at i at t)
  stands A = here_is (at A) refl ∙ found s
      ∙ ap (λ c. cond c (Some (new_end i B (node_at w n).number))
      (cond (nat_eq s s) (Some (new_end i A (node_at w n).number)) (get (node_at w n).routers s)))
      (let e : nat_eq s (s + 1) ≡ false = grind (arith, nat_tests) in e)
      ∙ ap (λ c. cond c (Some (new_end i A (node_at w n).number)) (get (node_at w n).routers s))
      (let e : nat_eq s s ≡ true = grind (arith, nat_tests) in e) ∙ a_is 0
  stands B = here_is (at B) refl ∙ found (s + 1)
      ∙ ap (λ c. cond c (Some (new_end i B (node_at w n).number))
      (cond (nat_eq (s + 1) s) (Some (new_end i A (node_at w n).number)) (get (node_at w n).routers (s + 1))))
      (let e : nat_eq (s + 1) (s + 1) ≡ true = grind (arith, nat_tests) in e) ∙ b_is 0

  -- an end is one of the pair's, or of another pair
  which : (e : End) → (e ≡ a_end) ⊎ ((e ≡ b_end) ⊎ (e.pair ≢ i))
  which e = elim (same_number e.pair i) [
    | inl p ↦ elim (pair_ends e a_end p) [ inl h ↦ inl h | inr h ↦ inr (inl h) ]
    | inr ne ↦ inr (inr ne)
  ]

  terminal_a : terminal' a_end ≡ At (at A)
  terminal_a = ap (λ c. cond c (At (at B)) (cond (same_end a_end a_end) (At (at A)) (g.terminal a_end)))
      (let e : same_end a_end b_end ≡ false = grind (arith, nat_tests) in e) ∙ ap (λ c. cond c (At (at A)) (g.terminal a_end))
      (same_end-itself a_end)

  terminal_b : terminal' b_end ≡ At (at B)
  terminal_b = ap (λ c. cond c (At (at B)) (cond (same_end b_end a_end) (At (at A)) (g.terminal b_end))) (same_end-itself b_end)

  apart : (e : End) (t : Side) → e.pair ≢ i → same_end e (record { pair = i; side = t }) ≡ false
  apart e t ne = elim (end_tells e (record { pair = i; side = t })) [ inl h ↦ absurd (ne (ap (λ (d : End). d.pair) h.1)) | inr h ↦ h.0 ]

  terminal_other : (e : End) → e.pair ≢ i → terminal' e ≡ g.terminal e
  terminal_other e ne = ap (λ c. cond c (At (at B)) (cond (same_end e a_end) (At (at A)) (g.terminal e))) (apart e B ne) ∙ ap
      (λ c. cond c (At (at A)) (g.terminal e)) (apart e A ne)

  terminal_is : (e : End) → (terminal' e ≡ g.terminal e) ⊎ ((e.pair ≡ i) × (terminal' e ≡ At (at e.side)) × (is_linked (owner' i) ≡ true))
  terminal_is e = elim (which e) [
    | inl h ↦ inr (ap (λ (d : End). d.pair) h, ap terminal' h ∙ terminal_a ∙ ap (λ (d : End). At (at d.side)) (sym h), linked_now)
    | inr (inl h) ↦ inr (ap (λ (d : End). d.pair) h, ap terminal' h ∙ terminal_b ∙ ap (λ (d : End). At (at d.side)) (sym h), linked_now)
    | inr (inr ne) ↦ inl (terminal_other e ne)
  ]

  nowhere_a : is_nowhere (terminal' a_end) ≡ false
  nowhere_a = ap is_nowhere terminal_a ∙ is_nowhere-at (at A)

  nowhere_b : is_nowhere (terminal' b_end) ≡ false
  nowhere_b = ap is_nowhere terminal_b ∙ is_nowhere-at (at B)

  pairs : (e : End) → is_nowhere (terminal' (opposite_end e)) ≡ is_nowhere (terminal' e)
  pairs e = elim (which e) [
    | inl h ↦ ap (λ (d : End). is_nowhere (terminal' (opposite_end d))) h ∙ nowhere_b ∙ sym nowhere_a ∙ ap
        (λ (d : End). is_nowhere (terminal' d)) (sym h)
    | inr (inl h) ↦ ap (λ (d : End). is_nowhere (terminal' (opposite_end d))) h ∙ nowhere_a ∙ sym nowhere_b ∙ ap
        (λ (d : End). is_nowhere (terminal' d)) (sym h)
    | inr (inr ne) ↦ ap is_nowhere (terminal_other (opposite_end e) ne) ∙ law.terminals.both e ∙ ap is_nowhere (sym (terminal_other e ne))
  ]

  count_is : v.count ≡ w.count
  count_is = grind (arith, frames)

  mail_is : (k : ℕ) → mail_at v k ≡ mail_at w k
  mail_is k = grind (arith, frames)

  boxes : (from to : ℕ) → outbox (node_at v from) to ≡ outbox (node_at w from) to
  boxes from to = by_node (λ m (y : Node). outbox y to ≡ outbox (node_at w m) to) from refl (λ ne. refl)

  flows : (from to : ℕ) → flow v from to ≡ flow w from to
  flows from to = flow_is v from to ∙ ap (λ k. messages_in (mail_at v k) ++ outbox (node_at v from) to)
      (ap (λ c. from * c + to) count_is) ∙
      ap (λ m. messages_in m ++ outbox (node_at v from) to) (mail_is (way w from to)) ∙ ap
      (λ m. messages_in (mail_at w (way w from to)) ++ m) (boxes from to) ∙ sym (flow_is w from to)

  held_is : (m : ℕ) (e : End) → holds e (node_at v m).held ≡ true →
      (holds e (node_at w m).held ≡ true) ⊎ (terminal_node (terminal' e) ≡ Some m)
  held_is m e = by_node (λ m (y : Node). holds e y.held ≡ true → (holds e (node_at w m).held ≡ true) ⊎
      (terminal_node (terminal' e) ≡ Some m)) m here (λ ne h. inl h)
    where
      one : has_end e (a_end ∷ b_end ∷ []) ≡ true → (e ≡ a_end) ⊎ (e ≡ b_end)
      one h = go (same_end a_end e) (same_end b_end e) refl refl h
        where
          go : (c d : Bool) → same_end a_end e ≡ c → same_end b_end e ≡ d → (c || (d || false)) ≡ true → (e ≡ a_end) ⊎ (e ≡ b_end)
          go true d p q h = inl (sym (same_end-tells a_end e p))
          go false true p q h = inr (sym (same_end-tells b_end e q))
          go false false p q h = cc

      here : holds e x.held ≡ true → (holds e (node_at w n).held ≡ true) ⊎ (terminal_node (terminal' e) ≡ Some n)
      here h = elim (holds-with_ends e (a_end ∷ b_end ∷ []) (node_at w n).held h) [
        | inl c ↦ inl c
        | inr a ↦ elim (one a) [
          | inl c ↦ inr (ap terminal_node (ap terminal' c ∙ terminal_a) ∙ terminal_node-at (at A))
          | inr c ↦ inr (ap terminal_node (ap terminal' c ∙ terminal_b) ∙ terminal_node-at (at B))
        ]
      ]

  middle : World
  middle = set_node w n x

  fresh_nowhere : (t : Side) → is_nowhere (g.terminal (record { pair = i; side = t })) ≡ true
  fresh_nowhere t = law.terminals.unopened (record { pair = i; side = t }) free

  ba : same_end b_end a_end ≡ false
  ba = grind (arith, nat_tests)

  ab : same_end a_end b_end ≡ false
  ab = grind (arith, nat_tests)

  -- the new ends aren't held yet
  unheld : (t : Side) → held_times (record { pair = i; side = t }) (node_at w n).held ≡ 0
  unheld t = omega (
    arith,
    nowhere_unheld w b g (record { pair = i; side = t }) law.held_once (fresh_nowhere t),
    times_held-at w n (record { pair = i; side = t }) l,
  )

  room : (e : End) → times e (a_end ∷ b_end ∷ []) + held_times e (node_at w n).held ≤ 1
  room e = elim (which e) [
    | inl h ↦ omega (
      arith,
      ap flag (ap (same_end a_end) h ∙ same_end-itself a_end),
      ap flag (ap (same_end b_end) h ∙ ba),
      ap (λ d. held_times d (node_at w n).held) h,
      unheld A,
    )
    | inr (inl h) ↦ omega (
      arith,
      ap flag (ap (same_end a_end) h ∙ ab),
      ap flag (ap (same_end b_end) h ∙ same_end-itself b_end),
      ap (λ d. held_times d (node_at w n).held) h,
      unheld B,
    )
    | inr (inr ne) ↦ omega (
      arith,
      ap flag (same_end-turned a_end e ∙ apart e A ne),
      ap flag (same_end-turned b_end e ∙ apart e B ne),
      held_times-most e (node_at w n).held,
    )
  ]

  times_is : (e : End) → times_held v e ≡ times_held w e + (flag (same_end a_end e) + flag (same_end b_end e))
  times_is e =
      let same : times_held v e ≡ times_held (set_node w n x) e =
      times_by (set_node w n x) v e (let c : v.count ≡ (set_node w n x).count = grind (arith, frames) in c)
      (λ m l. ap (λ (y : Node). held_times e y.held + times e y.pending) (node-set_word (set_node w n x) i open_word m)) in
      let changed : IsNodeChanged w (set_node w n x) n x = record {
        node = λ j. node-set_node w n x j;
        word = λ i. word-set_node w n x i;
        claimed = claimed-set_node w n x;
        size =
            size-set_node w n x;
        count = count-set_node w n x;
      } in
      omega (
        arith,
        same,
        times_held-changed w (set_node w n x) n x e changed l,
        times-with_ends (a_end ∷ b_end ∷ []) (node_at w n).held e (room e),
      )

  times_once : (e : End) → times_held v e + cond (is_nowhere (g.terminal e)) 0 1 ≡ times_held w e + cond (is_nowhere (terminal' e)) 0 1
  times_once e = elim (which e) [
    | inl h ↦ omega (
      arith,
      times_is e,
      ap flag (ap (same_end a_end) h ∙ same_end-itself a_end),
      ap flag (ap (same_end b_end) h ∙ ba),
      ap missing (ap (λ (d : End). is_nowhere (g.terminal d)) h ∙ fresh_nowhere A),
      ap missing (ap (λ (d : End). is_nowhere (terminal' d)) h ∙ nowhere_a),
    )
    | inr (inl h) ↦ omega (
      arith,
      times_is e,
      ap flag (ap (same_end a_end) h ∙ ab),
      ap flag (ap (same_end b_end) h ∙ same_end-itself b_end),
      ap missing (ap (λ (d : End). is_nowhere (g.terminal d)) h ∙ fresh_nowhere B),
      ap missing (ap (λ (d : End). is_nowhere (terminal' d)) h ∙ nowhere_b),
    )
    | inr (inr ne) ↦ omega (
      arith,
      times_is e,
      ap flag (same_end-turned a_end e ∙ apart e A ne),
      ap flag (same_end-turned b_end e ∙ apart e B ne),
      ap missing (ap is_nowhere (terminal_other e ne)),
    )
  ]

  no_router : (t : ℕ) → s ≤ t → get (node_at w n).routers t ≡ None
  no_router t le = go (get (node_at w n).routers t) refl
    where
      go : (o : Option Router) → get (node_at w n).routers t ≡ o → get (node_at w n).routers t ≡ None
      go None e = e
      go (Some y) e = let low : t < s = law.counts.serial (record { node = n; serial = t }) y
          (sym (was_here (record { node = n; serial = t }) refl) ∙ e) in absurd (omega (arith, low, le))

  weigh : (f : Weight) → total (λ serial r. in_router f r) x.routers ≡ total (λ serial r. in_router f r) (node_at w n).routers
  weigh f =
      let none : get (insert (node_at w n).routers s (new_end i A (node_at w n).number)) (s + 1) ≡ None =
      get_inserted (node_at w n).routers s (new_end i A (node_at w n).number) (s + 1) ∙ ap
      (λ c. cond c (Some (new_end i A (node_at w n).number)) (get (node_at w n).routers (s + 1)))
      (let e : nat_eq (s + 1) s ≡ false = grind (arith, nat_tests) in e) ∙ no_router (s + 1) (omega arith) in
      omega (
        arith,
        total-insert_new nat_cmp nat_cmp_total nat_cmp-IsAntisymmetric (λ serial r. in_router f r)
            (insert (node_at w n).routers s (new_end i A (node_at w n).number)) (s + 1) (new_end i B (node_at w n).number) none,
        total-insert_new nat_cmp nat_cmp_total nat_cmp-IsAntisymmetric (λ serial r. in_router f r) (node_at w n).routers s
            (new_end i A (node_at w n).number) (no_router s (omega arith)),
        fresh_weight f i A (node_at w n).number,
        fresh_weight f i B (node_at w n).number,
      )

  opening_is : (m j : ℕ) → (node_at v m).opening ≡ Some j → owner' j ≡ Opening m
  opening_is m j = by_node (λ m (y : Node). y.opening ≡ Some j → owner' j ≡ Opening m) m (λ h. absurd (none_some h)) (λ ne h.
      let o : g.owner j ≡ Opening m = law.spares.opening m j h in
      ap (λ c. cond c Linked (g.owner j)) (let e : nat_eq j i ≡ false = other m j ne o (same_number j i) in e) ∙ o)
    where
      none_some : None ≡ Some j → ⊥
      none_some h = cc

      other : (m j : ℕ) → m ≢ n → g.owner j ≡ Opening m → (j ≡ i) ⊎ (j ≢ i) → nat_eq j i ≡ false
      other m j ne o (inl e) = let two : Opening m ≡ Opening n = sym o ∙ ap g.owner e ∙ mine in absurd (ne (grind (arith, two)))
      other m j ne o (inr q) = grind (arith, q, nat_tests)

  opening_back : (m j : ℕ) → owner' j ≡ Opening m → (node_at v m).opening ≡ Some j
  opening_back m j h = by_node (λ m (y : Node). owner' j ≡ Opening m → y.opening ≡ Some j) m (λ h. absurd (not_here n h))
      (λ ne h. law.spares.opening_back m j (was_owner m h)) h
    where
      was_owner : (m : ℕ) → owner' j ≡ Opening m → g.owner j ≡ Opening m
      was_owner m h = go (nat_eq j i) h
        where
          go : (c : Bool) → cond c Linked (g.owner j) ≡ Opening m → g.owner j ≡ Opening m
          go true h = cc
          go false h = h

      not_here : (m : ℕ) → owner' j ≡ Opening n → ⊥
      not_here m h = go (nat_eq j i) refl h
        where
          go : (c : Bool) → nat_eq j i ≡ c → cond c Linked (g.owner j) ≡ Opening n → ⊥
          go true e h = cc
          go false e h = let two : Some i ≡ Some j = sym claimed ∙ law.spares.opening_back n j h in let same : i ≡ j =
              grind (arith, two) in
              grind (arith, e, same, nat_tests)

  unclaimed_opening : is_unclaimed (Opening n) ≡ false
  unfolding is_unclaimed
  unclaimed_opening = refl

  unclaimed_linked : is_unclaimed Linked ≡ false
  unfolding is_unclaimed
  unclaimed_linked = refl

  claimed_is : v.claimed ≡ w.claimed
  claimed_is = grind (arith, frames)

  unclaimed_by : (j : ℕ) → is_unclaimed (owner' j) ≡ nat_le v.claimed j
  unclaimed_by j = elim (same_number j i) [
    | inl e ↦ ap (λ j. is_unclaimed (owner' j)) e ∙ ap is_unclaimed now ∙ unclaimed_linked ∙ sym
        (ap (nat_le v.claimed) e ∙ ap (λ c. nat_le c i) claimed_is ∙ sym (law.counts.unclaimed i) ∙ ap is_unclaimed mine ∙
        unclaimed_opening)
    | inr ne ↦ ap is_unclaimed (ap (λ c. cond c Linked (g.owner j)) (let e : nat_eq j i ≡ false = grind (arith, ne, nat_tests) in e)) ∙
        law.counts.unclaimed j ∙ ap (λ c. nat_le c j) (sym claimed_is)
  ]

  owner_other : (j : ℕ) → j ≢ i → owner' j ≡ g.owner j
  owner_other j ne = ap (λ c. cond c Linked (g.owner j)) (let e : nat_eq j i ≡ false = grind (arith, ne, nat_tests) in e)

  central_other : (j : ℕ) → j ≢ i → central' j ≡ g.central j
  central_other j ne = ap (λ c. cond c link (g.central j)) (let e : nat_eq j i ≡ false = grind (arith, ne, nat_tests) in e)

  link_here : central' i ≡ link
  link_here = ap (λ c. cond c link (g.central i)) nat_same

  pair : IsPair v (central' i) terminal' i at
  pair = subst (λ c. IsPair v c terminal' i at) (sym link_here) (record {
    here = stands;
    on_node = λ t. subst (λ c. n < c) (sym count_is) l;
    serial = λ t. serial t;
    pair = refl;
    node = λ t. refl;
    router = λ t. router t;
    born = refl;
    left = refl;
    terminal = λ t. terminal t;
    word = word_here;
  })
    where
      serial : (t : Side) → (at t).serial < (node_at v n).next_router
      serial A = subst (λ (y : Node). s < y.next_router) (sym node_here) (omega arith)
      serial B = subst (λ (y : Node). s + 1 < y.next_router) (sym node_here) (omega arith)

      router : (t : Side) → link.router t ≡ Some (at t).serial
      router A = refl
      router B = refl

      terminal : (t : Side) → terminal' (record { pair = i; side = t }) ≡ At (at t)
      terminal A = terminal_a
      terminal B = terminal_b

  is_open : IsGrown w v g owner' central' terminal' i at
  is_open = record {
    was = was;
    old = old;
    count = count_is;
    node = λ m. by_node (λ m (y : Node). y.number ≡ (node_at w m).number) m refl (λ ne. refl);
    nodes = λ m. by_node (λ m (y : Node). y.count ≡ (node_at w m).count) m refl (λ ne. refl);
    next_peripheral = λ m. by_node (λ m (y : Node). y.next_peripheral ≡ (node_at w m).next_peripheral) m refl (λ ne. refl);
    next_router = λ m. by_node (λ m (y : Node). (node_at w m).next_router ≤ y.next_router) m (omega arith) (λ ne. omega arith);
    strays = λ m. by_node (λ m (y : Node). y.strays ≡ (node_at w m).strays) m refl (λ ne. refl);
    pending = λ m. by_node (λ m (y : Node). y.pending ≡ (node_at w m).pending) m refl (λ ne. refl);
    hands = record { hand = λ m. by_node (λ m (y : Node). y.hand ≡ (node_at w m).hand) m refl (λ ne. refl); mail = mail_is };
    flows = flows;
    claimed = let c : v.claimed ≤ v.size = grind (arith, frames, law.counts.claimed) in c;
    unclaimed = unclaimed_by;
    owner = owner_other;
    central = central_other;
    word = words;
    free = free;
    no_spare = λ k e. let two : Opening n ≡ Spare k = sym mine ∙ e in cc;
    no_fresh = λ o e. let two : Opening n ≡ Fresh o = sym mine ∙ e in cc;
    not_spare = λ k e. let two : Linked ≡ Spare k = sym now ∙ e in cc;
    not_fresh = λ o e. let two : Linked ≡ Fresh o = sym now ∙ e in cc;
    opening = opening_is;
    opening_back = opening_back;
    unlinked = λ e. absurd (not_both (is_linked (owner' i)) linked_now e);
    still = λ e. absurd (not_both (is_linked (owner' i)) linked_now e);
    linked = λ e. pair;
    terminal = terminal_is;
    terminal_pair = pairs;
    held = held_is;
    times = times_once;
    places = λ f. places_by f w v b g (record g { owner = owner'; central = central'; terminal = terminal' }) law count_is flows
        (λ l t r. source_apart g owner' central' terminal' i l t central_other (recorded_apart w g i l free r))
        (λ m. by_node (λ m (y : Node). y.strays ≡ (node_at w m).strays) m refl (λ ne. refl))
        (λ m. by_node (λ m (y : Node). total (λ serial r. in_router f r) y.routers ≡ total (λ serial r. in_router f r)
        (node_at w m).routers) m (weigh f) (λ ne. refl));
  }

  pub inv-opened : Inv (set_word (set_node w n (open_node (node_at w n) i)) i open_word) b (open_records g n i (node_at w n).next_router)
  inv-opened = inv-grown w v b g owner' central' terminal' i at law is_open

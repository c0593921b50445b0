-- A world that begins with some pairs: one pair more, between two nodes, keeps the invariant.
use Rattle.ipcz_world.proofs.Vocabulary.{Weight, in_router, times, Side, A, B, End, opposite_end, same_end, opposite, total, total_list, Router}
use Rattle.ipcz_world.proofs.Vocabulary.{empty_word, open_word, Node, bare_node, outbox, Empty, World, Key, node_at, word_at, mail_at, router_at, way}
use Rattle.ipcz_world.proofs.Vocabulary.{flow, messages_in, Records, Owner, Linked, Terminal, At, is_linked, is_unclaimed, is_nowhere, terminal_node}
use Rattle.ipcz_world.proofs.Vocabulary.{under_way, times_held, none, add_end, new_end, no_books, Unclaimed, CentralRecord}
use Rattle.ipcz_world.proofs.frames.OfRecords.{holds, held_times, in_message, in_places}
use Rattle.ipcz_world.specs.Places.{in_node as in_node', in_places as in_places'}
use Rattle.std.specs.Prelude.{◌≡◌, ◌≢◌, ◌⊎◌, ◌≤◌, ◌<◌, ◌+◌, ◌-◌, ◌*◌, ℕ, Bool, true, false, cond, nat_eq, nat_le, nat_lt, Some, None, refl}
use Rattle.std.specs.Prelude.{List, [], ◌∷◌, ◌++◌, length}
use Rattle.std.specs.Cmp.{nat_cmp_total}
use Rattle.std.specs.FinMap.{get, insert, get-insert}
use Rattle.std.proofs.Common.{arith, ap, subst, ◌∙◌, sym, inl, inr}
use Rattle.std.proofs.lemmas.Bool.Decides.{nat_tests}
use Rattle.std.proofs.lemmas.Option.{none-some}
use Rattle.ipcz_node.specs.Node.{with_ends}
use Rattle.ipcz_node.specs.FirstPairs.{add_pairs}
use Rattle.ipcz_world.proofs.frames.Changing.{flow_is}
use Rattle.ipcz_world.proofs.frames.Holding.{holds-with_ends, times-with_ends, held_times-most, times_held-at}
use Rattle.ipcz_world.proofs.frames.Calling.{nowhere_unheld}
use Rattle.ipcz_world.proofs.frames.Booking.{end_tells, flag, length-more}
use Rattle.ipcz_world.proofs.frames.FreshPairs.{IsNew, IsGrown, fresh_at, end_of}
use Rattle.ipcz_world.proofs.frames.FirstLink.{inv-grown}
use Rattle.ipcz_world.proofs.runs.FirstNodes.{add_one, add_last, IsStart, bare_start, all_start, start, start_node, start_mail, start_word}
use Rattle.ipcz_world.proofs.runs.FirstNodes.{total_plus, total_one, not_linked, linked_no_spare, linked_no_fresh, not_opening}
use Rattle.ipcz_world.proofs.runs.FirstNodes.{unclaimed_is, weight, Good}
use Rattle.ipcz_world.proofs.facts.Tests.{not_both}
use Rattle.ipcz_world.proofs.runs.Bare.{not_spare, not_fresh}
use Rattle.ipcz_world.proofs.frames.Sums.{total_below-none}
use Rattle.ipcz_world.proofs.facts.LinkTests.{same_end-tells}

module _ (nodes words : ℕ) where
  -- what a node of the world is
  start_at : (ps : List (ℕ × ℕ)) (n : ℕ) → node_at (start nodes words ps) n ≡ cond (nat_lt n nodes) (add_pairs (bare_node n nodes) 0 ps)
      (bare_node 0 0)
  unfolding node_at
  start_at ps n = let e : 0 + n ≡ n = omega arith in start_node nodes ps 0 nodes n ∙ ap
      (λ j. cond (nat_lt n nodes) (add_pairs (bare_node j nodes) 0 ps) (bare_node 0 0)) e

  pub within : (ps : List (ℕ × ℕ)) (n : ℕ) → n < nodes → node_at (start nodes words ps) n ≡ add_pairs (bare_node n nodes) 0 ps
  within ps n l = let e : nat_lt n nodes ≡ true = grind (arith, l, nat_tests) in start_at ps n ∙ rw e refl

  pub beyond : (ps : List (ℕ × ℕ)) (n : ℕ) → nat_lt n nodes ≡ false → node_at (start nodes words ps) n ≡ bare_node 0 0
  beyond ps n e = start_at ps n ∙ rw e refl

  -- each is one at the start
  pub is_start : (ps : List (ℕ × ℕ)) (n : ℕ) → (m : ℕ) × (k : ℕ) × IsStart m k (node_at (start nodes words ps) n)
  is_start ps n = go (nat_lt n nodes) refl
    where
      go : (c : Bool) → nat_lt n nodes ≡ c → (m : ℕ) × (k : ℕ) × IsStart m k (node_at (start nodes words ps) n)
      go true e = (
        n,
        nodes,
        subst (IsStart n nodes) (sym (within ps n (grind (arith, e, nat_tests))))
            (all_start n nodes (bare_node n nodes) 0 ps (bare_start n nodes)),
      )
      go false e = (0, 0, subst (IsStart 0 0) (sym (beyond ps n e)) (bare_start 0 0))

  pub mail_start : (ps : List (ℕ × ℕ)) (i : ℕ) → mail_at (start nodes words ps) i ≡ Empty
  unfolding mail_at
  mail_start ps i = start_mail (nodes * nodes) i

  pub word_start : (ps : List (ℕ × ℕ)) (i : ℕ) → word_at (start nodes words ps) i ≡ cond (nat_lt i (length ps)) open_word empty_word
  unfolding word_at
  word_start ps i = start_word (length ps) (words - length ps) i

  no_flow : (ps : List (ℕ × ℕ)) (from to : ℕ) → flow (start nodes words ps) from to ≡ []
  unfolding messages_in
  no_flow ps from to = flow_is (start nodes words ps) from to ∙ ap (λ x. messages_in x ++ outbox (node_at (start nodes words ps) from) to)
      (mail_start ps (way (start nodes words ps) from to)) ∙ (is_start ps from).2.outboxes to

  -- no item stands anywhere
  no_places : (ps : List (ℕ × ℕ)) (f : Weight) (g : Records) → in_places f g (start nodes words ps) ≡ 0
  unfolding in_places' in_node' under_way
  no_places ps f g = omega (
    arith,
    total_below-none nodes _ (λ n. node n),
    total_below-none nodes _ (λ from. total_below-none nodes _ (λ to. ap (total_list (in_message f g)) (no_flow ps from to))),
  )
    where
      node : (n : ℕ) → total (λ serial r. in_router f r) (node_at (start nodes words ps) n).routers + total_list (in_message f g)
          (node_at (start nodes words ps) n).strays ≡ 0
      node n = let s = (is_start ps n).2 in omega (arith, s.light f, ap (total_list (in_message f g)) s.strays)

  -- one pair more, between two nodes
  module _ (ps : List (ℕ × ℕ)) (p : ℕ × ℕ) (less : p.0 < p.1) (below : p.1 < nodes) where
    abbrev before : World
    before = start nodes words ps

    abbrev after : World
    after = start nodes words (ps ++ p ∷ [])

    abbrev pair : ℕ
    pair = length ps

    -- the node of a side
    abbrev node_of : Side → ℕ
    node_of A = p.0
    node_of B = p.1

    on_node : (s : Side) → node_of s < nodes
    on_node A = let l : p.0 < nodes = omega (arith, less, below) in l
    on_node B = below

    abbrev at : Side → Key
    at s = record { node = node_of s; serial = (node_at before (node_of s)).next_router }

    grown : (n : ℕ) → n < nodes → node_at after n ≡ add_one (node_at before n) pair p
    grown n l = within (ps ++ p ∷ []) n l ∙ add_last (bare_node n nodes) 0 ps p ∙
        (let e : 0 + pair ≡ pair = omega arith in ap (λ j. add_one (add_pairs (bare_node n nodes) 0 ps) j p) e) ∙ sym
        (ap (λ x. add_one x pair p) (within ps n l))

    number : (n : ℕ) → n < nodes → (node_at before n).number ≡ n
    number n l = ap (λ x. x.number) (within ps n l) ∙ (all_start n nodes (bare_node n nodes) 0 ps (bare_start n nodes)).node

    at_side : (s : Side) → node_at after (node_of s) ≡ add_end (node_at before (node_of s)) pair s (node_of (opposite s))
    at_side A = let e : nat_eq p.0 (node_at before p.0).number ≡ true = grind (arith, number p.0 (on_node A), nat_tests) in
        grown p.0 (on_node A) ∙ rw e refl
    at_side B =
        let e : nat_eq p.0 (node_at before p.1).number ≡ false = grind (arith, number p.1 below, less, nat_tests) in
        let f : nat_eq p.1 (node_at before p.1).number ≡ true = grind (arith, number p.1 below, nat_tests) in
        grown p.1 below ∙ rw (e, f) refl

    else_same : (n : ℕ) → n ≢ p.0 → n ≢ p.1 → node_at after n ≡ node_at before n
    else_same n ne nf = go (nat_lt n nodes) refl
      where
        go : (c : Bool) → nat_lt n nodes ≡ c → node_at after n ≡ node_at before n
        go false e = beyond (ps ++ p ∷ []) n e ∙ sym (beyond ps n e)
        go true e =
            let l : n < nodes = grind (arith, e, nat_tests) in
            let f : nat_eq p.0 (node_at before n).number ≡ false = grind (arith, number n l, ne, nat_tests) in
            let h : nat_eq p.1 (node_at before n).number ≡ false = grind (arith, number n l, nf, nat_tests) in
            grown n l ∙ rw (f, h) refl

    -- a node got a terminal, or is as before
    record Adds (n : ℕ) : Type 0 where
      pub side : Side
      pub is_node : n ≡ node_of side
      pub is : node_at after n ≡ add_end (node_at before n) pair side (node_of (opposite side))

    adds : (n : ℕ) → Adds n ⊎ ((node_at after n ≡ node_at before n) × (n ≢ p.0) × (n ≢ p.1))
    adds n = go (nat_eq n p.0) (nat_eq n p.1) refl refl
      where
        here : (s : Side) → n ≡ node_of s → Adds n
        here s e = record {
          side = s;
          is_node = e;
          is = subst (λ m. node_at after m ≡ add_end (node_at before m) pair s
              (node_of (opposite s))) (sym e) (at_side s);
        }

        go : (c d : Bool) → nat_eq n p.0 ≡ c → nat_eq n p.1 ≡ d → Adds n ⊎ ((node_at after n ≡ node_at before n) × (n ≢ p.0) × (n ≢ p.1))
        go true d e f = inl (here A (grind (arith, e, nat_tests)))
        go false true e f = inl (here B (grind (arith, f, nat_tests)))
        go false false e f = let ne : n ≢ p.0 = λ z. grind (arith, z, e, nat_tests) in let nf : n ≢ p.1 =
            λ z. grind (arith, z, f, nat_tests) in inr (else_same n ne nf, ne, nf)

    -- what is the same at each node
    kept : {X : Type 0} (f : Node → X) → ((x : Node) (i : ℕ) (s : Side) (o : ℕ) → f (add_end x i s o) ≡ f x) → (n : ℕ) →
        f (node_at after n) ≡ f (node_at before n)
    kept f same n = elim (adds n) [ inl c ↦ ap f c.is ∙ same (node_at before n) pair c.side (node_of (opposite c.side)) | inr c ↦ ap f c.0 ]

    module _ (b : Good nodes words ps) (room : length ps < words) where
      abbrev g : Records
      g = b.records

      abbrev owner' : ℕ → Owner
      owner' j = cond (nat_eq j pair) Linked (g.owner j)

      abbrev central' : ℕ → CentralRecord
      central' j = cond (nat_eq j pair) (record { pair = pair; node = node_of; router = λ s. Some (at s).serial; born = None; left = none })
          (g.central j)

      abbrev terminal' : End → Terminal
      terminal' e = cond (nat_eq e.pair pair) (At (at e.side)) (g.terminal e)

      itself : nat_eq pair pair ≡ true
      itself = grind (arith, nat_tests)

      unowned : g.owner pair ≡ Unclaimed
      unowned = let e : nat_lt pair pair ≡ false = grind (arith, nat_tests) in b.owner pair ∙ rw e refl

      now_linked : is_linked (owner' pair) ≡ true
      unfolding is_linked
      now_linked = rw itself refl

      count_after : length (ps ++ p ∷ []) ≡ pair + 1
      count_after = length-more ps p

      owned : (j : ℕ) → owner' j ≡ cond (nat_lt j (length (ps ++ p ∷ []))) Linked Unclaimed
      owned j = ap (λ o. cond (nat_eq j pair) Linked o) (b.owner j) ∙ go (nat_eq j pair) refl ∙ sym
          (ap (λ n. cond (nat_lt j n) Linked Unclaimed) count_after)
        where
          go : (c : Bool) → nat_eq j pair ≡ c → cond c Linked (cond (nat_lt j pair) Linked Unclaimed) ≡ cond (nat_lt j (pair + 1)) Linked
              Unclaimed
          go true e = let l : nat_lt j (pair + 1) ≡ true = grind (arith, e, nat_tests) in rw l refl
          go false e = let l : nat_lt j (pair + 1) ≡ nat_lt j pair = same (nat_lt j pair) refl in rw l refl
            where
              same : (d : Bool) → nat_lt j pair ≡ d → nat_lt j (pair + 1) ≡ d
              same true f = grind (arith, f, nat_tests)
              same false f = grind (arith, e, f, nat_tests)

      -- the terminal of an end by whether its pair is the new one
      new_terminal : (e : End) → nat_eq e.pair pair ≡ true → terminal' e ≡ At (at e.side)
      new_terminal e h = rw h refl

      old_terminal : (e : End) → nat_eq e.pair pair ≡ false → terminal' e ≡ g.terminal e
      old_terminal e h = rw h refl

      nowhere_at : (k : Key) → is_nowhere (At k) ≡ false
      unfolding is_nowhere
      nowhere_at k = refl

      nowhere_after : (e : End) → is_nowhere (terminal' e) ≡ nat_le (length (ps ++ p ∷ [])) e.pair
      nowhere_after e = go (nat_eq e.pair pair) refl ∙ sym (ap (λ n. nat_le n e.pair) count_after)
        where
          go : (c : Bool) → nat_eq e.pair pair ≡ c → is_nowhere (terminal' e) ≡ nat_le (pair + 1) e.pair
          go true h = ap is_nowhere (new_terminal e h) ∙ nowhere_at (at e.side) ∙ sym (grind (arith, h, nat_tests))
          go false h = ap is_nowhere (old_terminal e h) ∙ b.nowhere e ∙ same (nat_le pair e.pair) refl
            where
              same : (d : Bool) → nat_le pair e.pair ≡ d → d ≡ nat_le (pair + 1) e.pair
              same true f = sym (grind (arith, h, f, nat_tests))
              same false f = sym (grind (arith, h, f, nat_tests))

      stands_there : (s : Side) → router_at after (at s) ≡ Some (fresh_at pair at s)
      unfolding router_at
      stands_there s =
          ap (λ x. get x.routers (at s).serial) (at_side s) ∙ grind (
            arith,
            get-insert nat_cmp_total (node_at before (node_of s)).routers (at s).serial (new_end pair s (node_of (opposite s)))
                (at s).serial,
            nat_tests,
          )

      key_is : (q : Key) (s : Side) → q.node ≡ node_of s → q.serial ≡ (node_at before q.node).next_router → q ≡ at s
      key_is q s e f = ap (λ n. record { node = n; serial = q.serial }) e ∙ ap (λ m. record { node = node_of s; serial = m })
          (f ∙ ap (λ n. (node_at before n).next_router) e)

      was : (q : Key) (x : Router) → router_at after q ≡ Some x →
          (router_at before q ≡ Some x) ⊎ (IsNew pair at q x × (is_linked (owner' pair) ≡ true))
      unfolding router_at
      was q x h = elim (adds q.node) [
        | inl c ↦ go c (nat_eq q.serial (node_at before q.node).next_router) refl (sym (ap (λ y. get y.routers q.serial) c.is) ∙ h)
        | inr c ↦ inl (sym (ap (λ y. get y.routers q.serial) c.0) ∙ h)
      ]
        where
          go : (c : Adds q.node) (d : Bool) → nat_eq q.serial (node_at before q.node).next_router ≡ d →
              get (insert (node_at before q.node).routers (node_at before q.node).next_router
              (new_end pair c.side (node_of (opposite c.side)))) q.serial ≡ Some x →
              (get (node_at before q.node).routers q.serial ≡ Some x) ⊎ (IsNew pair at q x × (is_linked (owner' pair) ≡ true))
          go c true e f = inr (
            record {
              side = c.side;
              key = key_is q c.side c.is_node (grind (arith, e, nat_tests));
              is = grind (
                arith,
                f,
                e,
                get-insert nat_cmp_total (node_at before q.node).routers (node_at before q.node).next_router
                    (new_end pair c.side (node_of (opposite c.side))) q.serial,
                nat_tests,
              );
            },
            now_linked,
          )
          go c false e f = inl (grind (
            arith,
            f,
            e,
            get-insert nat_cmp_total (node_at before q.node).routers
                (node_at before q.node).next_router (new_end pair c.side (node_of (opposite c.side))) q.serial,
            nat_tests,
          ))

      old : (q : Key) → q.serial < (node_at before q.node).next_router → router_at after q ≡ router_at before q
      unfolding router_at
      old q l = elim (adds q.node) [
        | inl c ↦ ap (λ y. get y.routers q.serial) c.is ∙ grind (
          arith,
          l,
          get-insert nat_cmp_total (node_at before q.node).routers (node_at before q.node).next_router
              (new_end pair c.side (node_of (opposite c.side))) q.serial,
          nat_tests,
        )
        | inr c ↦ ap (λ y. get y.routers q.serial) c.0
      ]

      rises : (n : ℕ) → (node_at before n).next_router ≤ (node_at after n).next_router
      rises n = elim (adds n) [ inl c ↦ omega (arith, ap (λ x. x.next_router) c.is) | inr c ↦ omega (arith, ap (λ x. x.next_router) c.0) ]

      serial_below : (s : Side) → (at s).serial < (node_at after (node_of s)).next_router
      serial_below s = omega (arith, ap (λ x. x.next_router) (at_side s))

      same_words : (j : ℕ) → j ≢ pair → word_at after j ≡ word_at before j
      same_words j ne = word_start (ps ++ p ∷ []) j ∙ ap (λ n. cond (nat_lt j n) open_word empty_word) count_after ∙ go (nat_lt j pair) refl
          ∙ sym (word_start ps j)
        where
          go : (d : Bool) → nat_lt j pair ≡ d → cond (nat_lt j (pair + 1)) open_word empty_word ≡ cond (nat_lt j pair) open_word empty_word
          go true f = let l : nat_lt j (pair + 1) ≡ true = grind (arith, f, nat_tests) in rw (l, f) refl
          go false f = let l : nat_lt j (pair + 1) ≡ false = grind (arith, ne, f, nat_tests) in rw (l, f) refl

      new_word : word_at after pair ≡ open_word
      new_word = word_start (ps ++ p ∷ []) pair ∙ ap (λ n. cond (nat_lt pair n) open_word empty_word) count_after ∙
          (let l : nat_lt pair (pair + 1) ≡ true = grind (arith, nat_tests) in rw l refl)

      held_by : (m : ℕ) (e : End) → holds e (node_at after m).held ≡ true →
          (holds e (node_at before m).held ≡ true) ⊎ (terminal_node (terminal' e) ≡ Some m)
      unfolding terminal_node
      held_by m e h = elim (adds m) [
        | inl c ↦ elim (holds-with_ends e (end_of pair c.side ∷ []) (node_at before m).held (sym (ap (λ x. holds e x.held) c.is) ∙ h)) [
          | inl f ↦ inl f
          | inr f ↦ let same : end_of pair c.side ≡ e = same_end-tells (end_of pair c.side) e (grind (arith, f)) in
              inr (ap (λ d. terminal_node (terminal' d)) (sym same) ∙ ap terminal_node (new_terminal (end_of pair c.side) itself) ∙ ap Some
              (sym c.is_node))
        ]
        | inr c ↦ inl (sym (ap (λ x. holds e x.held) c.0) ∙ h)
      ]

      -- how often an end is held more at a node
      abbrev more : End → ℕ → ℕ
      more e n = cond (nat_eq n p.0) (flag (same_end (end_of pair A) e)) 0 + cond (nat_eq n p.1) (flag (same_end (end_of pair B) e)) 0

      one_more : (e : End) (n : ℕ) → held_times e (node_at after n).held + times e (node_at after n).pending ≡
          (held_times e (node_at before n).held + times e (node_at before n).pending) + more e n
      one_more e n = elim (adds n) [
        | inl c ↦ new c.side c.is_node (ap (λ x. held_times e x.held) c.is) (ap (λ x. times e x.pending) c.is)
        | inr c ↦ let f : nat_eq n p.0 ≡ false = grind (arith, c.1, nat_tests) in let h : nat_eq n p.1 ≡ false =
            grind (arith, c.2, nat_tests) in
            omega (
              arith,
              ap (λ x. held_times e x.held) c.0,
              ap (λ x. times e x.pending) c.0,
              ap (λ d. cond d (flag (same_end (end_of pair A) e)) 0) f,
              ap (λ d. cond d (flag (same_end (end_of pair B) e)) 0) h,
            )
      ]
        where
          -- an end of the new pair isn't held yet
          alone : (s : Side) → n ≡ node_of s → times e (end_of pair s ∷ []) + held_times e (node_at before n).held ≤ 1
          alone s is = elim (end_tells (end_of pair s) e) [
            | inl q ↦
                let fresh : is_nowhere (g.terminal e) ≡ true = ap (λ (d : End). is_nowhere (g.terminal d)) (sym q.1) ∙ b.nowhere
                (end_of pair s) ∙ (let f : nat_le pair pair ≡ true = grind (arith, nat_tests) in f) in
                omega (
                  arith,
                  ap flag q.0,
                  nowhere_unheld before no_books g e b.inv.held_once fresh,
                  times_held-at before n e (subst (λ m. m < nodes) (sym is) (on_node s)),
                )
            | inr q ↦ omega (arith, ap flag q.0, held_times-most e (node_at before n).held)
          ]

          new : (s : Side) → n ≡ node_of s → held_times e (node_at after n).held ≡ held_times e
              (with_ends (node_at before n).held (end_of pair s ∷ [])) →
              times e (node_at after n).pending ≡ times e (node_at before n).pending →
              held_times e (node_at after n).held + times e (node_at after n).pending ≡
              (held_times e (node_at before n).held + times e (node_at before n).pending) + more e n
          new A is h q = let f : nat_eq n p.0 ≡ true = grind (arith, is, nat_tests) in let i : nat_eq n p.1 ≡ false =
              grind (arith, is, less, nat_tests) in
              omega (
                arith,
                h,
                q,
                times-with_ends (end_of pair A ∷ []) (node_at before n).held e (alone A is),
                ap (λ d. cond d (flag (same_end (end_of pair A) e)) 0) f,
                ap (λ d. cond d (flag (same_end (end_of pair B) e)) 0) i,
              )
          new B is h q = let f : nat_eq n p.0 ≡ false = grind (arith, is, less, nat_tests) in let i : nat_eq n p.1 ≡ true =
              grind (arith, is, nat_tests) in
              omega (
                arith,
                h,
                q,
                times-with_ends (end_of pair B ∷ []) (node_at before n).held e (alone B is),
                ap (λ d. cond d (flag (same_end (end_of pair A) e)) 0) f,
                ap (λ d. cond d (flag (same_end (end_of pair B) e)) 0) i,
              )

      held_more : (e : End) → times_held after e ≡ times_held before e +
          (flag (same_end (end_of pair A) e) + flag (same_end (end_of pair B) e))
      held_more e = omega (
        arith,
        total_plus nodes (λ n. held_times e (node_at before n).held + times e (node_at before n).pending) (more e)
            (λ n. held_times e (node_at after n).held + times e (node_at after n).pending) (λ n l. one_more e n),
        total_plus nodes (λ n. cond (nat_eq n p.0) (flag (same_end (end_of pair A) e)) 0)
            (λ n. cond (nat_eq n p.1) (flag (same_end (end_of pair B) e)) 0) (more e) (λ n l. refl),
        total_one nodes p.0 (flag (same_end (end_of pair A) e)) (on_node A),
        total_one nodes p.1 (flag (same_end (end_of pair B) e)) below,
      )

      either : (e : End) → flag (same_end (end_of pair A) e) + flag (same_end (end_of pair B) e) ≡ flag (nat_eq e.pair pair)
      either e = go e.side refl (nat_eq e.pair pair) refl
        where
          go : (s : Side) → e.side ≡ s → (c : Bool) → nat_eq e.pair pair ≡ c →
              flag (same_end (end_of pair A) e) + flag (same_end (end_of pair B) e) ≡ flag (nat_eq e.pair pair)
          go A f true h = let t : nat_eq pair e.pair ≡ true = grind (arith, h, nat_tests) in grind (arith, t, f, h)
          go A f false h = let t : nat_eq pair e.pair ≡ false = grind (arith, h, nat_tests) in grind (arith, t, f, h)
          go B f true h = let t : nat_eq pair e.pair ≡ true = grind (arith, h, nat_tests) in grind (arith, t, f, h)
          go B f false h = let t : nat_eq pair e.pair ≡ false = grind (arith, h, nat_tests) in grind (arith, t, f, h)

      opened_more : (e : End) → flag (nat_eq e.pair pair) + cond (is_nowhere (g.terminal e)) 0 1 ≡ cond (is_nowhere (terminal' e)) 0 1
      opened_more e = go (nat_eq e.pair pair) refl
        where
          go : (c : Bool) → nat_eq e.pair pair ≡ c → flag (nat_eq e.pair pair) + cond (is_nowhere (g.terminal e)) 0 1 ≡ cond
              (is_nowhere (terminal' e)) 0 1
          go true h =
              let n : is_nowhere (g.terminal e) ≡ true = b.nowhere e ∙ grind (arith, h, nat_tests) in
              let m : is_nowhere (terminal' e) ≡ false = ap is_nowhere (new_terminal e h) ∙ nowhere_at (at e.side) in
              omega (arith, ap flag h, ap weight n, ap weight m)
          go false h = omega (arith, ap flag h, ap (λ t. weight (is_nowhere t)) (old_terminal e h))

      times_more : (e : End) → times_held after e + cond (is_nowhere (g.terminal e)) 0 1 ≡ times_held before e + cond
          (is_nowhere (terminal' e)) 0 1
      times_more e = omega (arith, held_more e, either e, opened_more e)

      is_grown : IsGrown before after g owner' central' terminal' pair at
      is_grown = record {
        was = was;
        old = old;
        count = refl;
        node = kept (λ x. x.number) (λ x i s o. refl);
        nodes = kept (λ x. x.count) (λ x i s o. refl);
        next_peripheral = kept (λ x. x.next_peripheral) (λ x i s o. refl);
        next_router = rises;
        strays = kept (λ x. x.strays) (λ x i s o. refl);
        pending = kept (λ x. x.pending) (λ x i s o. refl);
        hands = record { hand = kept (λ x. x.hand) (λ x i s o. refl); mail = λ i. mail_start (ps ++ p ∷ []) i ∙ sym (mail_start ps i) };
        flows = λ from to. no_flow (ps ++ p ∷ []) from to ∙ sym (no_flow ps from to);
        claimed = omega (arith, count_after, room);
        unclaimed = λ j. ap is_unclaimed (owned j) ∙ unclaimed_is j (length (ps ++ p ∷ []));
        owner = λ j ne. let e : nat_eq j pair ≡ false = grind (arith, ne, nat_tests) in rw e refl;
        central = λ j ne. let e : nat_eq j pair ≡ false = grind (arith, ne, nat_tests) in rw e refl;
        word = same_words;
        free = ap is_linked unowned ∙ not_linked;
        no_spare = λ k e. not_spare k (sym unowned ∙ e);
        no_fresh = λ o e. not_fresh o (sym unowned ∙ e);
        not_spare = λ k e. linked_no_spare k (sym (linked_here) ∙ e);
        not_fresh = λ o e. linked_no_fresh o (sym (linked_here) ∙ e);
        opening = λ n j e. absurd (none-some j (sym (is_start (ps ++ p ∷ []) n).2.opening ∙ e));
        opening_back = λ n j e. absurd (not_opening n (nat_lt j (length (ps ++ p ∷ []))) (sym (owned j) ∙ e));
        unlinked = λ e. absurd (not_both _ now_linked e);
        still = λ e. absurd (not_both _ now_linked e);
        linked = λ e. record {
          here = stands_there;
          on_node = on_node;
          serial = serial_below;
          pair = ap (λ c. c.pair) central_here;
          node = λ s. ap (λ c. c.node s) central_here;
          router = λ s. ap (λ c. c.router s) central_here;
          born = ap (λ c. c.born) central_here;
          left = ap (λ c. c.left) central_here;
          terminal = λ s. new_terminal (end_of pair s) itself;
          word = new_word;
        };
        terminal = λ e. either_terminal e (nat_eq e.pair pair) refl;
        terminal_pair = λ e. nowhere_after (opposite_end e) ∙ sym (nowhere_after e);
        held = held_by;
        times = times_more;
        places = λ f. no_places (ps ++ p ∷ []) f (record g { owner = owner'; central = central'; terminal = terminal' }) ∙ sym
            (no_places ps f g);
      }
        where
          linked_here : owner' pair ≡ Linked
          linked_here = rw itself refl

          central_here : central' pair ≡ record { pair = pair; node = node_of; router = λ s. Some (at s).serial; born = None; left = none }
          central_here = rw itself refl

          either_terminal : (e : End) (c : Bool) → nat_eq e.pair pair ≡ c →
              (terminal' e ≡ g.terminal e) ⊎ ((e.pair ≡ pair) × (terminal' e ≡ At (at e.side)) × (is_linked (owner' pair) ≡ true))
          either_terminal e true h = inr (grind (arith, h, nat_tests), new_terminal e h, now_linked)
          either_terminal e false h = inl (old_terminal e h)

      pub good_after : Good nodes words (ps ++ p ∷ [])
      good_after = record {
        records = record g { owner = owner'; central = central'; terminal = terminal' };
        inv = inv-grown before after no_books g owner' central' terminal' pair at b.inv is_grown;
        owner = owned;
        nowhere = nowhere_after;
        pair = λ j. paired j (nat_eq j pair) refl;
        end = b.end;
      }
        where
          paired : (j : ℕ) (c : Bool) → nat_eq j pair ≡ c → (central' j).pair ≡ j
          paired j true e = rw e (let f : pair ≡ j = grind (arith, e, nat_tests) in f)
          paired j false e = rw e (b.pair j)

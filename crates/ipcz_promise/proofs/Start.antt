-- The world at the start keeps the accounts of the start: each node's callers hold its ends of the first pairs.
use Rattle.std.specs.Prelude.{◌≡◌, ◌≤◌, ◌<◌, ◌+◌, ◌-◌, ℕ, zero, suc, Bool, true, false, ◌&&◌, ◌||◌, nat_eq, nat_le, if◌then◌else◌}
use Rattle.std.specs.Prelude.{Option, Some, None, List, [], ◌∷◌, slice_get, refl}
use Rattle.std.proofs.Common.{arith, ap, ◌∙◌, sym}
use Rattle.std.proofs.lemmas.Bool.Decides.{nat_tests}
use Rattle.std.specs.FinSet as sets
use Rattle.ipcz_base.specs.Orders.{end_cmp}
use Rattle.ipcz_base.specs.Sides.{same_side}
use Rattle.ipcz_base.specs.Ends.{end_at, has_end}
use Rattle.ipcz_node.specs.Node.{add_end, holds_end}
use Rattle.ipcz_node.specs.FirstPairs.{first_pairs, add_pair, add_pairs, new_node}
use Rattle.ipcz_node.proofs.Held.{contains-with_ends}
use Rattle.ipcz_world.proofs.Vocabulary.{Side, A, B, End, Node, bare_node, World, node_at}
use Rattle.ipcz_world.specs.World.{new_world}
use Rattle.ipcz_world.specs.Books.{no_books}
use Rattle.ipcz_world.specs.Routes.{first_routes}
use Rattle.ipcz_world.specs.Lawful.{IsWithinLimits}
use Rattle.ipcz_promise.specs.Promise.{is_holder, first_holder, start}
use Rattle.ipcz_promise.specs.Accounting.{PendingFits, Stands}
use Rattle.ipcz_world.proofs.Whole.{world_starts_lawful}
use Rattle.std.proofs.Common.{◌⊎◌, ◌++◌, inl, inr}
use Rattle.ipcz_node.specs.FirstPairs.{first_pairs_from, pairs_from}
use Rattle.ipcz_world.specs.World.{numbers_from, new_nodes}
use Rattle.ipcz_world.proofs.runs.FirstNodes.{start_nodes, start as start_world}
use Rattle.ipcz_world.proofs.runs.StartingPairs.{within}

-- an end of a pair more
held-end : (x : Node) (pair : ℕ) (s : Side) (other : ℕ) (e : End) →
    holds_end (add_end x pair s other) e ≡ ((nat_eq pair e.pair && same_side s e.side) || holds_end x e)
held-end x pair s other e = contains-with_ends x.held (end_at pair s ∷ []) e ∙ go (nat_eq pair e.pair && same_side s e.side) (holds_end x e)
  where
    go : (c h : Bool) → ((c || false) || h) ≡ (c || h)
    go true h = refl
    go false h = refl

-- a node's end of a pair of two nodes, as the accounts tell
held-pair : (x : Node) (pair : ℕ) (p : ℕ × ℕ) (e : End) → p.0 < p.1 →
    holds_end (add_pair x pair p) e ≡ ((nat_eq pair e.pair && is_holder (first_holder (Some p) e.side) x.number) || holds_end x e)
held-pair x pair p e less = go (nat_eq p.0 x.number) (nat_eq p.1 x.number) refl refl e.side refl
  where
    go : (a b : Bool) → nat_eq p.0 x.number ≡ a → nat_eq p.1 x.number ≡ b → (s : Side) → e.side ≡ s →
        holds_end (if a then add_end x pair A p.1 else if b then add_end x pair B p.0 else x) e ≡
        ((nat_eq pair e.pair && is_holder (first_holder (Some p) s) x.number) || holds_end x e)
    go true true q r s t = absurd (grind (arith, q, r, less, nat_tests))
    go true false q r A t = held-end x pair A p.1 e ∙ ap (λ s. (nat_eq pair e.pair && same_side A s) || holds_end x e) t
        ∙ ap (λ c. (nat_eq pair e.pair && c) || holds_end x e) (sym q)
    go true false q r B t = held-end x pair A p.1 e ∙ ap (λ s. (nat_eq pair e.pair && same_side A s) || holds_end x e) t
        ∙ ap (λ c. (nat_eq pair e.pair && c) || holds_end x e) (sym r)
    go false true q r A t = held-end x pair B p.0 e ∙ ap (λ s. (nat_eq pair e.pair && same_side B s) || holds_end x e) t
        ∙ ap (λ c. (nat_eq pair e.pair && c) || holds_end x e) (sym q)
    go false true q r B t = held-end x pair B p.0 e ∙ ap (λ s. (nat_eq pair e.pair && same_side B s) || holds_end x e) t
        ∙ ap (λ c. (nat_eq pair e.pair && c) || holds_end x e) (sym r)
    go false false q r A t = sym (ap (λ c. (nat_eq pair e.pair && c) || holds_end x e) q ∙ none (nat_eq pair e.pair))
      where
        none : (c : Bool) → ((c && false) || holds_end x e) ≡ holds_end x e
        none true = refl
        none false = refl
    go false false q r B t = sym (ap (λ c. (nat_eq pair e.pair && c) || holds_end x e) r ∙ none (nat_eq pair e.pair))
      where
        none : (c : Bool) → ((c && false) || holds_end x e) ≡ holds_end x e
        none true = refl
        none false = refl

pending-pair : (x : Node) (pair : ℕ) (p : ℕ × ℕ) → (add_pair x pair p).pending ≡ x.pending
pending-pair x pair p = go (nat_eq p.0 x.number) (nat_eq p.1 x.number)
  where
    go : (a b : Bool) → (if a then add_end x pair A p.1 else if b then add_end x pair B p.0 else x).pending ≡ x.pending
    go true b = refl
    go false true = refl
    go false false = refl

pending-pairs : (x : Node) (pair : ℕ) (ps : List (ℕ × ℕ)) → (add_pairs x pair ps).pending ≡ x.pending
pending-pairs x pair [] = refl
pending-pairs x pair (p ∷ ps) = pending-pairs (add_pair x pair p) (pair + 1) ps ∙ pending-pair x pair p

number-pair : (x : Node) (pair : ℕ) (p : ℕ × ℕ) → (add_pair x pair p).number ≡ x.number
number-pair x pair p = go (nat_eq p.0 x.number) (nat_eq p.1 x.number)
  where
    go : (a b : Bool) → (if a then add_end x pair A p.1 else if b then add_end x pair B p.0 else x).number ≡ x.number
    go true b = refl
    go false true = refl
    go false false = refl

-- pair after pair: before these pairs the node holds no end of one of their numbers
held-pairs : (x : Node) (pair : ℕ) (ps : List (ℕ × ℕ)) (e : End) →
    ((k : ℕ) (p : ℕ × ℕ) → slice_get ps k ≡ Some p → p.0 < p.1) →
    holds_end (add_pairs x pair ps) e ≡
    ((nat_le pair e.pair && is_holder (first_holder (slice_get ps (e.pair - pair)) e.side) x.number) || holds_end x e)
held-pairs x pair [] e proper = sym (none (nat_le pair e.pair))
  where
    none : (c : Bool) → ((c && false) || holds_end x e) ≡ holds_end x e
    none true = refl
    none false = refl
held-pairs x pair (p ∷ ps) e proper =
    held-pairs (add_pair x pair p) (pair + 1) ps e (λ k q h. proper (suc k) q h)
    ∙ ap (λ n. (nat_le (pair + 1) e.pair && is_holder (first_holder (slice_get ps (e.pair - (pair + 1))) e.side) n) ||
    holds_end (add_pair x pair p) e) (number-pair x pair p)
    ∙ ap (λ h. (nat_le (pair + 1) e.pair && is_holder (first_holder (slice_get ps (e.pair - (pair + 1))) e.side) x.number) || h)
    (held-pair x pair p e (proper zero p refl))
    ∙ go (nat_le (pair + 1) e.pair) (nat_eq pair e.pair) refl refl
  where
    at : Option (ℕ × ℕ) → Bool
    at o = is_holder (first_holder o e.side) x.number

    go : (a b : Bool) → nat_le (pair + 1) e.pair ≡ a → nat_eq pair e.pair ≡ b →
        ((a && at (slice_get ps (e.pair - (pair + 1)))) || ((b && at (Some p)) || holds_end x e)) ≡
        ((nat_le pair e.pair && at (slice_get (p ∷ ps) (e.pair - pair))) || holds_end x e)
    go true true q r = absurd (grind (arith, q, r, nat_tests))
    go true false q r =
        let later : e.pair - pair ≡ suc (e.pair - (pair + 1)) = grind (arith, q, nat_tests) in
        let le : nat_le pair e.pair ≡ true = grind (arith, q, nat_tests) in
        sym (ap (λ c. (c && at (slice_get (p ∷ ps) (e.pair - pair))) || holds_end x e) le
        ∙ ap (λ i. at (slice_get (p ∷ ps) i) || holds_end x e) later)
    go false true q r =
        let now : e.pair - pair ≡ zero = grind (arith, r, nat_tests) in
        let le : nat_le pair e.pair ≡ true = grind (arith, r, nat_tests) in
        sym (ap (λ c. (c && at (slice_get (p ∷ ps) (e.pair - pair))) || holds_end x e) le
        ∙ ap (λ i. at (slice_get (p ∷ ps) i) || holds_end x e) now)
    go false false q r =
        let gt : nat_le pair e.pair ≡ false = grind (arith, q, r, nat_tests) in
        sym (ap (λ c. (c && at (slice_get (p ∷ ps) (e.pair - pair))) || holds_end x e) gt)

module _ (nodes words : ℕ) where
  get_parts : {X : Type 0} (xs ys : List X) (j : ℕ) (x : X) → slice_get (xs ++ ys) j ≡ Some x →
      ((k : ℕ) × (slice_get xs k ≡ Some x)) ⊎ ((k : ℕ) × (slice_get ys k ≡ Some x))
  get_parts [] ys j x e = inr (j, e)
  get_parts (z ∷ xs) ys zero x e = inl (zero, e)
  get_parts (z ∷ xs) ys (suc j) x e = elim (get_parts xs ys j x e) [ inl h ↦ inl (suc h.0, h.1) | inr h ↦ inr h ]

  record IsProper (p : ℕ × ℕ) : Type 0 where
    pub less : p.0 < p.1
    pub below : p.1 < nodes

  row : (i j left : ℕ) → i < j → j + left ≤ nodes → (k : ℕ) (p : ℕ × ℕ) → slice_get (pairs_from i j left) k ≡ Some p → IsProper p
  row i j zero l m k p e = cc
  row i j (suc left) l m zero p e = record { less = grind (arith, e, l); below = grind (arith, e, m) }
  row i j (suc left) l m (suc k) p e = row i (j + 1) left (omega (arith, l)) (omega (arith, m)) k p e

  rows : (i left : ℕ) → i + left ≤ nodes → (k : ℕ) (p : ℕ × ℕ) → slice_get (first_pairs_from i left) k ≡ Some p → IsProper p
  rows i zero m k p e = cc
  rows i (suc left) m k p e = elim (get_parts (pairs_from i (i + 1) left) (first_pairs_from (i + 1) left) k p e) [
    | inl h ↦ row i (i + 1) left (omega arith) (omega (arith, m)) h.0 p h.1
    | inr h ↦ rows (i + 1) left (omega (arith, m)) h.0 p h.1
  ]

  new_is : (ns : List ℕ) → new_nodes nodes ns ≡ start_nodes nodes (first_pairs nodes) ns
  unfolding new_node
  new_is [] = refl
  new_is (n ∷ ns) = ap (λ xs. add_pairs (bare_node n nodes) 0 (first_pairs nodes) ∷ xs) (new_is ns)

  world_is : new_world nodes words ≡ start_world nodes words (first_pairs nodes)
  unfolding new_world
  world_is = rw (new_is (numbers_from 0 nodes)) refl

module _ (nodes words : ℕ) (limits : IsWithinLimits nodes words) where
  proper : (k : ℕ) (p : ℕ × ℕ) → slice_get (first_pairs nodes) k ≡ Some p → IsProper nodes words p
  proper k p e = rows nodes words 0 nodes (omega arith) k p e

  node-new : (n : ℕ) → n < nodes → node_at (new_world nodes words) n ≡ add_pairs (bare_node n nodes) 0 (first_pairs nodes)
  node-new n l = ap (λ (w : World). node_at w n) (world_is nodes words) ∙ within nodes words (first_pairs nodes) n l

  held-new : (n : ℕ) (e : End) → n < nodes → holds_end (node_at (new_world nodes words) n) e ≡
      is_holder (first_holder (slice_get (first_pairs nodes) e.pair) e.side) n
  held-new n e l = ap (λ x. holds_end x e) (node-new n l)
      ∙ held-pairs (bare_node n nodes) 0 (first_pairs nodes) e (λ k p h. (proper k p h).less)
      ∙ ap (λ i. (nat_le 0 e.pair && is_holder (first_holder (slice_get (first_pairs nodes) i) e.side) n) || holds_end (bare_node n nodes) e)
      (whole e.pair)
      ∙ ap (λ c. (nat_le 0 e.pair && is_holder (first_holder (slice_get (first_pairs nodes) e.pair) e.side) n) || c)
      (sets.contains-empty end_cmp e)
      ∙ go (nat_le 0 e.pair) (is_holder (first_holder (slice_get (first_pairs nodes) e.pair) e.side) n) (grind (arith, nat_tests))
    where
      whole : (i : ℕ) → i - 0 ≡ i
      whole i = omega arith

      go : (a c : Bool) → a ≡ true → ((a && c) || false) ≡ c
      go true true h = refl
      go true false h = refl
      go false c h = cc

  -- and no close is pending
  pending-new : PendingFits (new_world nodes words) no_books
  unfolding new_world
  pending-new = record {
    ungot = λ n e l h. absurd (none e (sym (ap (λ (x : Node). has_end e x.pending) (node-new n l)
        ∙ ap (has_end e) (pending-pairs (bare_node n nodes) 0 (first_pairs nodes))) ∙ h));
    closes = λ e is l. absurd (omega (arith, l));
  }
    where
      none : (e : End) → has_end e [] ≡ true → ⊥
      none e q = cc

  -- a first holder is one of the nodes
  real-new : (n : ℕ) (e : End) → first_holder (slice_get (first_pairs nodes) e.pair) e.side ≡ Some n → n < nodes
  real-new n e h = go (slice_get (first_pairs nodes) e.pair) e.side refl h
    where
      go : (o : Option (ℕ × ℕ)) (s : Side) → slice_get (first_pairs nodes) e.pair ≡ o → first_holder o s ≡ Some n → n < nodes
      go None s q f = cc
      go (Some p) A q f = let is = proper e.pair p q in let same : p.0 ≡ n = cc in omega (arith, is.less, is.below, same)
      go (Some p) B q f = let is = proper e.pair p q in let same : p.1 ≡ n = cc in omega (arith, is.below, same)

  pub starts_standing : (t : Stands (new_world nodes words) (start nodes words)) × (t.books ≡ no_books)
  unfolding new_world
  starts_standing = (
    record {
      books = no_books;
      routes = first_routes nodes;
      lawful = world_starts_lawful nodes words limits;
      nodes = refl;
      opened = λ pair h. ap (λ c. c && nat_eq pair pair) h ∙ grind (arith, nat_tests);
      holder = λ n e l. held-new n e l;
      real = λ n e h. real-new n e h;
      put = λ e. refl;
      got = λ e. refl;
      closed = λ e. refl;
      pending = pending-new;
    },
    refl,
  )

-- The opening world keeps the invariant: on a world without routers the terminals of one first pair after the other come to stand.
use Rattle.ipcz_world.proofs.Vocabulary.{LinkId, Central, Peripheral, Side, A, empty_word, open_word, bare_node, outbox, Empty, node_at, Records}
use Rattle.ipcz_world.proofs.Vocabulary.{Linked, is_linked, is_nowhere, Inv, is_lost_owner, is_left, none, numbers_from, new_world, no_books}
use Rattle.ipcz_world.proofs.Vocabulary.{Unclaimed, Nowhere, routes_of}
use Rattle.ipcz_word.specs.SideSets.{has-none}
use Rattle.std.specs.Prelude.{◌≡◌, ◌⊎◌, ◌≤◌, ◌<◌, ◌+◌, ◌-◌, ◌*◌, ℕ, zero, suc, Bool, true, false, cond, nat_le, nat_lt, Some, None, refl}
use Rattle.std.specs.Prelude.{List, [], ◌∷◌, ◌++◌, length, replicate, slice_get}
use Rattle.std.proofs.Common.{arith, ap, subst, ◌∙◌, sym, inl, inr}
use Rattle.std.proofs.lemmas.Bool.Decides.{nat_tests}
use Rattle.std.proofs.lemmas.List.{length-append, length-replicate}
use Rattle.ipcz_node.specs.Node.{outbox_count}
use Rattle.ipcz_node.specs.FirstPairs.{new_node, first_pairs, first_pairs_from, pairs_from, add_pairs}
use Rattle.ipcz_world.specs.World.{new_nodes}
use Rattle.ipcz_world.specs.Routes.{first_routes}
use Rattle.ipcz_world.specs.Lawful.{IsWithinLimits}
use Rattle.ipcz_world.specs.Settling.{IsBounded}
use Rattle.ipcz_world.proofs.runs.Bare.{IsBare, IsUnnoted, inv-bare}
use Rattle.ipcz_world.proofs.runs.FirstNodes.{empty_boxes, start_nodes, start, append_one, Good}
use Rattle.ipcz_world.proofs.runs.StartingPairs.{within, beyond, is_start, mail_start, word_start, good_after}
use Rattle.ipcz_world.proofs.frames.Booking.{length-more}
use Rattle.ipcz_world.proofs.frames.Handing.{append_none}

module _ (nodes words : ℕ) where
  -- a list's element stands in one of its two parts
  get_parts : {X : Type 0} (xs ys : List X) (j : ℕ) (x : X) → slice_get (xs ++ ys) j ≡ Some x →
      ((k : ℕ) × (slice_get xs k ≡ Some x)) ⊎ ((k : ℕ) × (slice_get ys k ≡ Some x))
  get_parts [] ys j x e = inr (j, e)
  get_parts (z ∷ xs) ys zero x e = inl (zero, e)
  get_parts (z ∷ xs) ys (suc j) x e = elim (get_parts xs ys j x e) [ inl h ↦ inl (suc h.0, h.1) | inr h ↦ inr h ]

  -- a pair of two of the nodes, in order
  record IsProper (p : ℕ × ℕ) : Type 0 where
    pub less : p.0 < p.1
    pub below : p.1 < nodes

  row : (i j left : ℕ) → i < j → j + left ≤ nodes → (k : ℕ) (p : ℕ × ℕ) → slice_get (pairs_from i j left) k ≡ Some p → IsProper p
  row i j zero l m k p e = cc
  row i j (suc left) l m zero p e = record { less = grind (arith, e, l); below = grind (arith, e, m) }
  row i j (suc left) l m (suc k) p e = row i (j + 1) left (omega (arith, l)) (omega (arith, m)) k p e

  rows : (i left : ℕ) → i + left ≤ nodes → (k : ℕ) (p : ℕ × ℕ) → slice_get (first_pairs_from i left) k ≡ Some p → IsProper p
  rows i zero m k p e = cc
  rows i (suc left) m k p e = elim (get_parts (pairs_from i (i + 1) left) (first_pairs_from (i + 1) left) k p e) [
    | inl h ↦ row i (i + 1) left (omega arith) (omega (arith, m)) h.0 p h.1
    | inr h ↦ rows (i + 1) left (omega (arith, m)) h.0 p h.1
  ]

  -- the world without pairs
  nothing : Records
  nothing = record {
    owner = λ i. Unclaimed;
    central = λ i. record { pair = i; node = λ s. 0; router = λ s. None; born = None; left = none };
    peripheral = λ k. record { end = record { pair = 0; side = A }; proxy = 0; node = 0; router = None; by = None; left = none };
    bypass = λ o. record {
      stage = 0;
      proxy = record { node = 0; serial = 0 };
      inner = record { node = 0; serial = 0 };
      fresh = 0;
      taken_at = 0;
      accepted_at = 0;
    };
    begun = λ k. None;
    terminal = λ e. Nowhere;
  }

  nothing_left : (l : LinkId) (s : Side) → is_left nothing l s ≡ false
  unfolding nothing is_left
  nothing_left (Central i) s = has-none s
  nothing_left (Peripheral n x) s = has-none s

  unnoted : IsUnnoted nothing
  unfolding nothing
  unnoted = record { owner = λ i. refl; stage = λ o. refl; by = λ p. refl; begun = λ k. refl; terminal = λ e. refl; left = nothing_left }

  bare_at : (n : ℕ) → (m : ℕ) × (k : ℕ) × (node_at (start nodes words []) n ≡ bare_node m k)
  bare_at n = go (nat_lt n nodes) refl
    where
      go : (c : Bool) → nat_lt n nodes ≡ c → (m : ℕ) × (k : ℕ) × (node_at (start nodes words []) n ≡ bare_node m k)
      go true e = (n, nodes, within nodes words [] n (grind (arith, e, nat_tests)))
      go false e = (0, 0, beyond nodes words [] n e)

  is_bare : IsBare (start nodes words [])
  is_bare = record {
    node = λ n l. ap (λ x. x.number) (within nodes words [] n l);
    nodes = λ n l. ap (λ x. x.count) (within nodes words [] n l);
    routers = λ n. ap (λ x. x.routers) (bare_at n).2;
    outboxes = λ n to. ap (λ x. outbox x to) (bare_at n).2 ∙ empty_boxes outbox_count to;
    pending = λ n. ap (λ x. x.pending) (bare_at n).2;
    strays = λ n. ap (λ x. x.strays) (bare_at n).2;
    no_held = λ n. ap (λ x. x.held) (bare_at n).2;
    hand = λ n. ap (λ x. x.hand) (bare_at n).2;
    opening = λ n. ap (λ x. x.opening) (bare_at n).2;
    next_peripheral = λ n. ap (λ x. x.next_peripheral) (bare_at n).2;
    claimed = refl;
    word = λ i. word_start nodes words [] i ∙ (let e : nat_lt i zero ≡ false = grind (arith, nat_tests) in rw e refl);
    mail = mail_start nodes words [];
  }

  no_pairs : Good nodes words []
  unfolding nothing is_nowhere
  no_pairs = record {
    records = nothing;
    inv = inv-bare (start nodes words []) nothing is_bare unnoted;
    owner = λ j. let e : nat_lt j zero ≡ false = grind (arith, nat_tests) in rw e refl;
    nowhere = λ e. let l : nat_le zero e.pair ≡ true = grind (arith, nat_tests) in rw l refl;
    pair = λ j. refl;
    end = λ k. refl;
  }

  -- pair after pair
  all_pairs : (ps qs : List (ℕ × ℕ)) → ((k : ℕ) (p : ℕ × ℕ) → slice_get qs k ≡ Some p → IsProper p) → length ps + length qs ≤ words →
      Good nodes words ps → Good nodes words (ps ++ qs)
  all_pairs ps [] proper room b = subst (Good nodes words) (sym (append_none ps)) b
  all_pairs ps (p ∷ qs) proper room b =
      let is = proper zero p refl in
      subst (Good nodes words) (sym (append_one ps p qs)) (all_pairs (ps ++ p ∷ []) qs (λ k x e. proper (suc k) x e)
      (omega (arith, room, length-more ps p)) (good_after nodes words ps p is.less is.below b (omega (arith, room))))

  new_is : (ns : List ℕ) → new_nodes nodes ns ≡ start_nodes nodes (first_pairs nodes) ns
  unfolding new_node
  new_is [] = refl
  new_is (n ∷ ns) = ap (λ xs. add_pairs (bare_node n nodes) 0 (first_pairs nodes) ∷ xs) (new_is ns)

  world_is : new_world nodes words ≡ start nodes words (first_pairs nodes)
  unfolding new_world
  world_is = rw (new_is (numbers_from 0 nodes)) refl

  good_start : length (first_pairs nodes) ≤ words → Good nodes words (first_pairs nodes)
  good_start room = all_pairs [] (first_pairs nodes) (rows 0 nodes (omega arith)) (omega (arith, room)) no_pairs

-- when a word is a link's
linked_by : (j n : ℕ) → is_linked (cond (nat_lt j n) Linked Unclaimed) ≡ nat_lt j n
unfolding is_linked
linked_by j n = go (nat_lt j n)
  where
    go : (c : Bool) → is_linked (cond c Linked Unclaimed) ≡ c
    go true = refl
    go false = refl

lost_by : (c : Bool) → is_lost_owner (cond c Linked Unclaimed) ≡ false
unfolding is_lost_owner
lost_by true = refl
lost_by false = refl

-- the opening world has records for which the invariant holds, with the routes at the start
pub starts : (nodes words : ℕ) → IsWithinLimits nodes words → (g : Records) × (routes_of g ≡ first_routes nodes) × Inv
    (new_world nodes words) no_books g
starts nodes words limits =
    let b = good_start nodes words limits.pairs in (
      b.records,
      (λ t. record {
        is_link = λ i. (ap is_linked (b.owner i) ∙ linked_by i (length (first_pairs nodes))) t;
        pair = λ i. b.pair i t;
        end = λ k. b.end k t;
        lost = λ i. (ap is_lost_owner (b.owner i) ∙ lost_by (nat_lt i (length (first_pairs nodes)))) t;
      }),
      rw (world_is nodes words) b.inv,
    )

-- it has as many nodes as are asked for
start_count : (nodes : ℕ) (ps : List (ℕ × ℕ)) (i c : ℕ) → length (start_nodes nodes ps (numbers_from i c)) ≡ c
start_count nodes ps i zero = refl
start_count nodes ps i (suc c) = ap suc (start_count nodes ps (i + 1) c)

-- and as many words
start_words : (pairs words : ℕ) → pairs ≤ words → length (replicate pairs open_word ++ replicate (words - pairs) empty_word) ≡ words
start_words pairs words l =
    length-append (replicate pairs open_word) (replicate (words - pairs) empty_word) ∙ omega
    (arith, length-replicate pairs open_word, length-replicate (words - pairs) empty_word, l)

-- nothing lies beyond its nodes
pub starts_bounded : (nodes words : ℕ) → IsWithinLimits nodes words → IsBounded (new_world nodes words)
starts_bounded nodes words limits = subst IsBounded (sym (world_is nodes words)) (record {
  nodes = start_count nodes (first_pairs nodes) 0 nodes;
  words = start_words (length (first_pairs nodes)) words limits.pairs;
  mailboxes = length-replicate (nodes * nodes) Empty;
  few = limits.nodes;
  box = λ n to l m. (is_start nodes words (first_pairs nodes) n).2.outboxes to;
  mail = λ k never. mail_start nodes words (first_pairs nodes) k;
})

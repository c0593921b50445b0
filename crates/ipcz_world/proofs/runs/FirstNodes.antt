-- The nodes of the opening world, with the terminals of the first pairs.
use Rattle.std.specs.Prelude.{◌≡◌, ◌≤◌, ◌<◌, ◌+◌, ◌-◌, ◌*◌, ℕ, zero, suc, Bool, true, false, cond, nat_eq, nat_le, nat_lt, if◌then◌else◌}
use Rattle.std.specs.Prelude.{None, refl, List, [], ◌∷◌, ◌++◌, length, replicate}
use Rattle.std.specs.Ordering.{nat_cmp}
use Rattle.std.specs.Cmp.{nat_cmp_total}
use Rattle.std.specs.FinMap.{get, get-empty, get-insert, nat_cmp-IsAntisymmetric}
use Rattle.std.proofs.Common.{arith, ap, ◌∙◌, sym}
use Rattle.std.proofs.lemmas.Bool.Decides.{nat_tests}
use Rattle.ipcz_world.proofs.Vocabulary.{Side, A, B, End, Message, place_at, total, total_below, Router, empty_word, open_word, Node, bare_node}
use Rattle.ipcz_world.proofs.Vocabulary.{outbox, Empty, World, Key, Records, Spare, Opening, Fresh, Linked, is_linked, is_unclaimed, is_nowhere}
use Rattle.ipcz_world.proofs.Vocabulary.{Weight, in_router, Inv, end_at, add_end, new_end, numbers_from, no_books, Unclaimed}
use Rattle.ipcz_base.proofs.Totals.{total-empty, total-insert_new}
use Rattle.ipcz_node.specs.Node.{outbox_count}
use Rattle.ipcz_node.specs.FirstPairs.{add_pairs}
use Rattle.ipcz_world.proofs.acts.OpenedNodes.{fresh_weight}

-- a node with its end of one pair more
abbrev pub add_one : Node → ℕ → (ℕ × ℕ) → Node
add_one x i p = if nat_eq p.0 x.number then add_end x i A p.1 else if nat_eq p.1 x.number then add_end x i B p.0 else x

pub add_last : (x : Node) (i : ℕ) (ps : List (ℕ × ℕ)) (p : ℕ × ℕ) →
    add_pairs x i (ps ++ p ∷ []) ≡ add_one (add_pairs x i ps) (i + length ps) p
add_last x i [] p = let e : i ≡ i + zero = omega arith in ap (λ j. add_one x j p) e
add_last x i (q ∷ ps) p = let e : (i + 1) + length ps ≡ i + suc (length ps) = omega arith in
    add_last (add_one x i q) (i + 1) ps p ∙ ap (λ j. add_one (add_pairs (add_one x i q) (i + 1) ps) j p) e

-- a node at the start: nothing but new terminals and their ends
pub record IsStart (n count : ℕ) (x : Node) : Type 0 where
  pub node : x.number ≡ n
  pub nodes : x.count ≡ count
  pub outboxes : (to : ℕ) → outbox x to ≡ []
  pub pending : x.pending ≡ []
  pub strays : x.strays ≡ []
  pub hand : x.hand ≡ None
  pub opening : x.opening ≡ None
  pub next_peripheral : x.next_peripheral ≡ 0
  pub unused : (s : ℕ) → x.next_router ≤ s → get x.routers s ≡ None
  pub light : (f : Weight) → total (λ s r. in_router f r) x.routers ≡ 0

pub empty_boxes : (k i : ℕ) → place_at {X = List Message} [] (replicate k []) i ≡ []
unfolding place_at
empty_boxes zero i = refl
empty_boxes (suc k) zero = refl
empty_boxes (suc k) (suc i) = empty_boxes k i

pub bare_start : (n nodes : ℕ) → IsStart n nodes (bare_node n nodes)
bare_start n nodes = record {
  node = refl;
  nodes = refl;
  outboxes = empty_boxes outbox_count;
  pending = refl;
  strays = refl;
  hand = refl;
  opening = refl;
  next_peripheral = refl;
  unused = λ s h. get-empty {X = Router} nat_cmp s;
  light = λ f. total-empty nat_cmp (λ s r. in_router f r);
}

end_start : (n nodes : ℕ) (x : Node) (i : ℕ) (s : Side) (o : ℕ) → IsStart n nodes x → IsStart n nodes (add_end x i s o)
end_start n nodes x i s o is = record {
  node = is.node;
  nodes = is.nodes;
  outboxes = is.outboxes;
  pending = is.pending;
  strays = is.strays;
  hand = is.hand;
  opening = is.opening;
  next_peripheral = is.next_peripheral;
  unused = λ t h. grind (
    arith,
    get-insert nat_cmp_total x.routers x.next_router (new_end i s o) t,
    nat_tests,
    h,
    is.unused t (omega (arith, h)),
  );
  light = λ f. omega (
    arith,
    total-insert_new nat_cmp nat_cmp_total nat_cmp-IsAntisymmetric (λ s r. in_router f r) x.routers x.next_router
        (new_end i s o) (is.unused x.next_router (omega arith)),
    is.light f,
    fresh_weight f i s o,
  );
}

one_start : (n nodes : ℕ) (x : Node) (i : ℕ) (p : ℕ × ℕ) → IsStart n nodes x → IsStart n nodes (add_one x i p)
one_start n nodes x i p is = go (nat_eq p.0 x.number) (nat_eq p.1 x.number)
  where
    go : (c d : Bool) → IsStart n nodes (if c then add_end x i A p.1 else if d then add_end x i B p.0 else x)
    go true d = end_start n nodes x i A p.1 is
    go false true = end_start n nodes x i B p.0 is
    go false false = is

pub all_start : (n nodes : ℕ) (x : Node) (i : ℕ) (ps : List (ℕ × ℕ)) → IsStart n nodes x → IsStart n nodes (add_pairs x i ps)
all_start n nodes x i [] is = is
all_start n nodes x i (p ∷ ps) is = all_start n nodes (add_one x i p) (i + 1) ps (one_start n nodes x i p is)

-- the nodes with these pairs
abbrev pub start_nodes : ℕ → List (ℕ × ℕ) → List ℕ → List Node
start_nodes nodes ps [] = []
start_nodes nodes ps (n ∷ ns) = add_pairs (bare_node n nodes) 0 ps ∷ start_nodes nodes ps ns

-- the world with these pairs
abbrev pub start : ℕ → ℕ → List (ℕ × ℕ) → World
start nodes words ps = record {
  nodes = start_nodes nodes ps (numbers_from 0 nodes);
  words = replicate (length ps) open_word ++ replicate (words - length ps) empty_word;
  claimed = length ps;
  size = words;
  count = nodes;
  mail = replicate (nodes * nodes) Empty;
}

below_suc : (n c : ℕ) → nat_lt (suc n) (suc c) ≡ nat_lt n c
below_suc n c = go (nat_lt n c) refl
  where
    go : (b : Bool) → nat_lt n c ≡ b → nat_lt (suc n) (suc c) ≡ b
    go true e = grind (arith, e, nat_tests)
    go false e = grind (arith, e, nat_tests)

pub start_node : (nodes : ℕ) (ps : List (ℕ × ℕ)) (i c n : ℕ) → place_at (bare_node 0 0) (start_nodes nodes ps (numbers_from i c)) n ≡ cond
    (nat_lt n c) (add_pairs (bare_node (i + n) nodes) 0 ps) (bare_node 0 0)
unfolding place_at
start_node nodes ps i zero n = let e : nat_lt n zero ≡ false = grind (arith, nat_tests) in rw e refl
start_node nodes ps i (suc c) zero = let l : nat_lt zero (suc c) ≡ true = grind (arith, nat_tests) in let e : i ≡ i + zero = omega arith in
    ap (λ j. add_pairs (bare_node j nodes) 0 ps) e ∙ sym (ap (λ b. cond b (add_pairs (bare_node (i + zero) nodes) 0 ps) (bare_node 0 0)) l)
start_node nodes ps i (suc c) (suc n) = let l : nat_lt (suc n) (suc c) ≡ nat_lt n c = below_suc n c in let e : (i + 1) + n ≡ i + suc n =
    omega arith in
    start_node nodes ps (i + 1) c n ∙ ap (λ j. cond (nat_lt n c) (add_pairs (bare_node j nodes) 0 ps) (bare_node 0 0)) e ∙ sym
    (ap (λ b. cond b (add_pairs (bare_node (i + suc n) nodes) 0 ps) (bare_node 0 0)) l)

pub start_mail : (k i : ℕ) → place_at Empty (replicate k Empty) i ≡ Empty
unfolding place_at
start_mail zero i = refl
start_mail (suc k) zero = refl
start_mail (suc k) (suc i) = start_mail k i

rest_word : (k i : ℕ) → place_at empty_word (replicate k empty_word) i ≡ empty_word
unfolding place_at
rest_word zero i = refl
rest_word (suc k) zero = refl
rest_word (suc k) (suc i) = rest_word k i

pub start_word : (a k i : ℕ) → place_at empty_word (replicate a open_word ++ replicate k empty_word) i ≡ cond (nat_lt i a) open_word
    empty_word
unfolding place_at
start_word zero k i = let e : nat_lt i zero ≡ false = grind (arith, nat_tests) in rw e (rest_word k i)
start_word (suc a) k zero = let l : nat_lt zero (suc a) ≡ true = grind (arith, nat_tests) in sym (ap (λ b. cond b open_word empty_word) l)
start_word (suc a) k (suc i) = start_word a k i ∙ sym (ap (λ b. cond b open_word empty_word) (below_suc i a))

pub total_plus : (c : ℕ) (f d e : ℕ → ℕ) → ((n : ℕ) → n < c → e n ≡ f n + d n) → total_below c e ≡ total_below c f + total_below c d
total_plus zero f d e h = refl
total_plus (suc c) f d e h = omega (arith, h c (omega arith), total_plus c f d e (λ n l. h n (omega (arith, l))))

total_below_it : (c a k : ℕ) → c ≤ a → total_below c (λ n. cond (nat_eq n a) k 0) ≡ 0
total_below_it zero a k l = refl
total_below_it (suc c) a k l = let e : nat_eq c a ≡ false = grind (arith, l, nat_tests) in
    omega (arith, ap (λ b. cond b k 0) e, total_below_it c a k (omega (arith, l)))

-- one number weighs, which is below the bound
pub total_one : (c a k : ℕ) → a < c → total_below c (λ n. cond (nat_eq n a) k 0) ≡ k
total_one zero a k l = absurd (omega (arith, l))
total_one (suc c) a k l = go (nat_eq c a) refl (λ m. total_one c a k m)
  where
    go : (b : Bool) → nat_eq c a ≡ b → (a < c → total_below c (λ n. cond (nat_eq n a) k 0) ≡ k) →
        cond (nat_eq c a) k 0 + total_below c (λ n. cond (nat_eq n a) k 0) ≡ k
    go true e more = omega (arith, ap (λ b. cond b k 0) e, total_below_it c a k (grind (arith, e, nat_tests)))
    go false e more = omega (arith, ap (λ b. cond b k 0) e, more (grind (arith, e, l, nat_tests)))

pub not_linked : is_linked Unclaimed ≡ false
unfolding is_linked
not_linked = refl

pub linked_no_spare : (k : Key) → Linked ≡ Spare k → ⊥
linked_no_spare k e = cc

pub linked_no_fresh : (o : ℕ) → Linked ≡ Fresh o → ⊥
linked_no_fresh o e = cc

pub not_opening : (n : ℕ) (c : Bool) → cond c Linked Unclaimed ≡ Opening n → ⊥
not_opening n true e = cc
not_opening n false e = cc

pub unclaimed_is : (j n : ℕ) → is_unclaimed (cond (nat_lt j n) Linked Unclaimed) ≡ nat_le n j
unfolding is_unclaimed
unclaimed_is j n = go (nat_lt j n) refl
  where
    go : (c : Bool) → nat_lt j n ≡ c → is_unclaimed (cond (nat_lt j n) Linked Unclaimed) ≡ nat_le n j
    go true e = let f : nat_le n j ≡ false = grind (arith, e, nat_tests) in rw (e, f) refl
    go false e = let f : nat_le n j ≡ true = grind (arith, e, nat_tests) in rw (e, f) refl

pub append_one : {X : Type 0} (xs : List X) (x : X) (ys : List X) → xs ++ x ∷ ys ≡ (xs ++ x ∷ []) ++ ys
append_one [] x ys = refl
append_one (y ∷ xs) x ys = ap (λ t. y ∷ t) (append_one xs x ys)

abbrev pub weight : Bool → ℕ
weight c = cond c 0 1

-- a world with these pairs that is lawful, with records by which nothing else is claimed or opened
pub record Good (count words : ℕ) (ps : List (ℕ × ℕ)) : Type 0 where
  pub records : Records
  pub inv : Inv (start count words ps) no_books records
  pub owner : (j : ℕ) → records.owner j ≡ cond (nat_lt j (length ps)) Linked Unclaimed
  pub nowhere : (e : End) → is_nowhere (records.terminal e) ≡ nat_le (length ps) e.pair
  pub pair : (j : ℕ) → (records.central j).pair ≡ j
  pub end : (k : Key) → (records.peripheral k).end ≡ end_at 0 A

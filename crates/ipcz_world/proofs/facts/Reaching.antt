-- The reach of a queue is the first number that it lacks, and stays when its current item leaves.
use Rattle.std.specs.Prelude.{◌≡◌, ◌≤◌, ◌<◌, ℕ, ◌+◌, Bool, true, false, cond, ◌&&◌, nat_eq, nat_lt, T, Some, None, IsSome, is_some, List}
use Rattle.std.specs.Prelude.{[], ◌∷◌, refl}
use Rattle.std.proofs.Common.{arith, sym, subst, ◌∙◌, ap}
use Rattle.std.proofs.lemmas.Bool.Decides.{nat_tests}
use Rattle.std.specs.Ordering.{nat_cmp, eq_by_cmp, is_lt}
use Rattle.std.specs.Cmp.{nat_cmp_total}
use Rattle.std.specs.FinMap.{get-remove, entries, entries_sorted, find, get-entries, is_sorted}
use Rattle.std.specs.FinMap.Entries.{below_all}
use Rattle.ipcz_world.proofs.Vocabulary.{Queue, item_at, reach}
use Rattle.ipcz_seq.specs.Queue.{IsReach, reach_in, pop_front}

reach_in-from : {X : Type 0} (es : List (ℕ × X)) (n : ℕ) → n ≤ reach_in es n
reach_in-from [] n = omega arith
reach_in-from (e ∷ es) n = elim (nat_eq e.0 n) as (λ b. n ≤ reach_in es (cond b (n + 1) n))
    [ true ↦ omega (arith, reach_in-from es (n + 1)) | false ↦ reach_in-from es n ]

pub filled : {X : Type 0} (es : List (ℕ × X)) (n m : ℕ) → n ≤ m → m < reach_in es n → is_some (find nat_cmp m es) ≡ true
filled [] n m a b = absurd (omega arith)
filled {X} (e ∷ es) n m a b = go (λ k. filled es k m) (eq_by_cmp nat_cmp m e.0) (nat_eq e.0 n) refl refl b
  where
    go : ((k : ℕ) → k ≤ m → m < reach_in es k → is_some (find nat_cmp m es) ≡ true) → (x y : Bool) → eq_by_cmp nat_cmp m e.0 ≡ x →
        nat_eq e.0 n ≡ y → m < reach_in es (cond y (n + 1) n) →
        is_some (cond x (Some e.1) (find nat_cmp m es)) ≡ true
    go more true y p q r = refl
    go more false true p q r = more (n + 1) (grind (arith, p, q, a, nat_tests)) r
    go more false false p q r = more n a r

pub left : (a b : Bool) → T (a && b) → T a
left true b p = tt
left false b p = p

pub right : (a b : Bool) → T (a && b) → T b
right true b p = p
right false b p = absurd p

pub is_true : (b : Bool) → T b → b ≡ true
is_true true h = refl
is_true false h = absurd h

pub less : (x y : ℕ) → T (is_lt (nat_cmp x y)) → x < y
less x y h = less_by x y (is_true (is_lt (nat_cmp x y)) h)
  where
    less_by : (x y : ℕ) → is_lt (nat_cmp x y) ≡ true → x < y
    less_by x y h = grind (arith, h, nat_tests)

-- if all entries are above, the first number is lacking
reach_in-low : {X : Type 0} (es : List (ℕ × X)) (x n : ℕ) → T (below_all nat_cmp x es) → n ≤ x → reach_in es n ≡ n
reach_in-low [] x n h l = refl
reach_in-low (e ∷ es) x n h l = let b : x < e.0 = less x e.0 (left (is_lt (nat_cmp x e.0)) (below_all nat_cmp x es) h) in let r =
    reach_in-low es x n (right (is_lt (nat_cmp x e.0)) (below_all nat_cmp x es) h) l in grind (arith, b, r, l, nat_tests)

lacks : {X : Type 0} (es : List (ℕ × X)) (n : ℕ) → T (is_sorted nat_cmp es) → find nat_cmp (reach_in es n) es ≡ None
lacks [] n s = refl
lacks {X} (e ∷ es) n s = go (nat_eq e.0 n) refl (λ k. lacks es k (right (below_all nat_cmp e.0 es) (is_sorted nat_cmp es) s))
  where
    other : (m : ℕ) → (m ≡ e.0 → ⊥) → find nat_cmp m es ≡ None → find nat_cmp m (e ∷ es) ≡ None
    other m ne h = at (eq_by_cmp nat_cmp m e.0) refl
      where
        at : (c : Bool) → eq_by_cmp nat_cmp m e.0 ≡ c → cond c (Some e.1) (find nat_cmp m es) ≡ None
        at true p = absurd (ne (grind (arith, p, nat_tests)))
        at false p = h

    low : nat_eq e.0 n ≡ false → (c : Bool) → nat_lt n e.0 ≡ c → reach_in es n ≡ e.0 → ⊥
    low q true p is = grind (arith, p, is, nat_tests, reach_in-low es e.0 n (left (below_all nat_cmp e.0 es) (is_sorted nat_cmp es) s))
    low q false p is = grind (arith, p, is, q, nat_tests, reach_in-from es n)

    go : (b : Bool) → nat_eq e.0 n ≡ b → ((k : ℕ) → find nat_cmp (reach_in es k) es ≡ None) →
        find nat_cmp (reach_in es (cond b (n + 1) n)) (e ∷ es) ≡ None
    go true q more = other (reach_in es (n + 1)) (λ is. grind (arith, is, q, nat_tests, reach_in-from es (n + 1))) (more (n + 1))
    go false q more = other (reach_in es n) (low q (nat_lt n e.0) refl) (more n)

-- the reach is what it should be, and nothing else is
pub is_reach : {X : Type 0} (q : Queue X) → IsReach q (reach q)
unfolding reach
is_reach q = record {
  from = reach_in-from (entries q.items) q.current;
  absent = get-entries q.items (reach_in (entries q.items) q.current) ∙ lacks (entries q.items) q.current (entries_sorted q.items);
  filled = λ m a b. ap is_some (get-entries q.items m) ∙ filled (entries q.items) q.current m a b;
}

pub reach_one : {X : Type 0} (q : Queue X) (m n : ℕ) → IsReach q m → IsReach q n → m ≡ n
reach_one q m n a b = go (nat_lt m n) (nat_lt n m) refl refl
  where
    none : (k : ℕ) → item_at q k ≡ None → IsSome (item_at q k) → ⊥
    none k e h = let f : is_some (item_at q k) ≡ true = h in grind (arith, e, f)

    go : (x y : Bool) → nat_lt m n ≡ x → nat_lt n m ≡ y → m ≡ n
    go true y e f = absurd (none m a.absent (b.filled m a.from (grind (arith, e, nat_tests))))
    go false true e f = absurd (none n b.absent (a.filled n b.from (grind (arith, f, nat_tests))))
    go false false e f = grind (arith, e, f, nat_tests)

pub reach-pop : {X : Type 0} (q : Queue X) (item : X) → item_at q q.current ≡ Some item → reach (pop_front q) ≡ reach q
reach-pop q item here = reach_one (pop_front q) (reach (pop_front q)) (reach q) (is_reach (pop_front q)) (record {
  from = above;
  absent = same (reach q) above ∙ old.absent;
  filled = λ m a b. subst IsSome (sym (same m a)) (old.filled m (omega (arith, a)) b);
})
  where
    old : IsReach q (reach q)
    old = is_reach q

    not_current : reach q ≡ q.current → ⊥
    not_current e = grind (arith, here, old.absent, e)

    above : q.current + 1 ≤ reach q
    above = over (reach q) old.from not_current
      where
        over : (m : ℕ) → q.current ≤ m → (m ≡ q.current → ⊥) → q.current + 1 ≤ m
        over m le ne = go (nat_eq m q.current) refl
          where
            go : (b : Bool) → nat_eq m q.current ≡ b → q.current + 1 ≤ m
            go true e = absurd (ne (grind (arith, e, nat_tests)))
            go false e = grind (arith, e, le, nat_tests)

    same : (m : ℕ) → q.current + 1 ≤ m → item_at (pop_front q) m ≡ item_at q m
    same m l = grind (arith, l, get-remove nat_cmp_total q.items q.current m, nat_tests)

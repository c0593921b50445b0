-- Lists and books with an item more, and what the items in places tell of the books.
use Rattle.std.specs.Prelude.{◌≡◌, ◌≢◌, ◌⊎◌, ◌≤◌, ◌<◌, ◌+◌, ℕ, zero, suc, Bool, true, false, cond, ◌||◌, nat_eq, Some, None, IsSome, refl}
use Rattle.std.specs.Prelude.{List, [], ◌∷◌, ◌++◌, length, take, drop, slice_get}
use Rattle.std.specs.Ordering.{nat_cmp}
use Rattle.std.specs.Cmp.{nat_cmp_total}
use Rattle.std.specs.FinMap.{empty, get-insert, nat_cmp-IsAntisymmetric}
use Rattle.std.proofs.Common.{arith, ap, subst, ◌∙◌, sym, inl, inr}
use Rattle.std.proofs.lemmas.Bool.Decides.{nat_tests}
use Rattle.ipcz_world.proofs.Vocabulary.{End, Descriptor, Item, Message, opposite_end, same_end, total, total_list, Queue, item_at, Router, World}
use Rattle.ipcz_world.proofs.Vocabulary.{Key, router_at, Books, read, Records, At, IsUnderWay, of_end, moves_of, Weight, in_router, at_end, Conserved}
use Rattle.ipcz_world.proofs.Vocabulary.{Mark, reach, is_mark, has_mark, from_number, Moves, move_weight}
use Rattle.ipcz_base.proofs.Totals.{total-remove, total-empty}
use Rattle.ipcz_seq.specs.Queue.{IsReach, push_at}
use Rattle.ipcz_world.proofs.frames.OfRecords.{in_places}
use Rattle.ipcz_world.proofs.frames.Flowing.{weighed}
use Rattle.ipcz_world.proofs.frames.Weighing.{in_places-set_router, in_router-is, of_number}
use Rattle.ipcz_world.proofs.facts.Reaching.{is_reach, reach_one}
use Rattle.ipcz_world.proofs.facts.LinkTests.{same_end-itself, same_end-tells}
use Rattle.ipcz_world.proofs.frames.Sums.{total_list-at}

-- one if a test holds
abbrev pub flag : Bool → ℕ
flag b = cond b 1 0

pub kept : (c : Bool) (n : ℕ) → c ≡ true → cond c n 0 ≡ n
kept true n h = refl
kept false n h = cc

pub dropped : (c : Bool) (n : ℕ) → c ≡ false → cond c n 0 ≡ 0
dropped true n h = cc
dropped false n h = refl

pub length-more : {X : Type 0} (xs : List X) (x : X) → length (xs ++ x ∷ []) ≡ length xs + 1
length-more [] x = omega arith
length-more (y ∷ xs) x = omega (arith, length-more xs x)

pub drop-more : {X : Type 0} (n : ℕ) (xs : List X) (x : X) → n ≤ length xs → drop n (xs ++ x ∷ []) ≡ drop n xs ++ x ∷ []
drop-more zero xs x l = refl
drop-more (suc n) [] x l = absurd (omega (arith, l))
drop-more (suc n) (y ∷ xs) x l = drop-more n xs x (omega (arith, l))

pub take-more : {X : Type 0} (n : ℕ) (xs : List X) (x : X) → n ≤ length xs → take n (xs ++ x ∷ []) ≡ take n xs
take-more zero xs x l = refl
take-more (suc n) [] x l = absurd (omega (arith, l))
take-more (suc n) (y ∷ xs) x l = ap (λ t. y ∷ t) (take-more n xs x (omega (arith, l)))

pub length-drop : {X : Type 0} (n : ℕ) (xs : List X) → n ≤ length xs → n + length (drop n xs) ≡ length xs
length-drop zero xs l = omega arith
length-drop (suc n) [] l = absurd (omega (arith, l))
length-drop (suc n) (y ∷ xs) l = omega (arith, length-drop n xs (omega (arith, l)))

pub from_number-more : (h : ℕ → Item → ℕ) (n : ℕ) (xs : List Item) (x : Item) →
    from_number h n (xs ++ x ∷ []) ≡ from_number h n xs + h (n + length xs) x
from_number-more h n [] x = let e : h n x ≡ h (n + 0) x = ap (λ m. h m x) (omega arith) in omega (arith, e)
from_number-more h n (y ∷ xs) x = let e : h ((n + 1) + length xs) x ≡ h (n + suc (length xs)) x = ap (λ m. h m x) (omega arith) in
    omega (arith, e, from_number-more h (n + 1) xs x)

pub has_mark-more : (xs : List Item) (x : Item) → has_mark (xs ++ x ∷ []) ≡ (has_mark xs || is_mark x)
has_mark-more [] x = go (is_mark x)
  where
    go : (b : Bool) → (b || false) ≡ b
    go true = refl
    go false = refl
has_mark-more (y ∷ xs) x = go (is_mark y) (has_mark-more xs x)
  where
    go : (b : Bool) → has_mark (xs ++ x ∷ []) ≡ (has_mark xs || is_mark x) →
        (b || has_mark (xs ++ x ∷ [])) ≡ ((b || has_mark xs) || is_mark x)
    go true e = refl
    go false e = e

-- a mark in a list is found
pub mark_found : (xs : List Item) (n : ℕ) → slice_get xs n ≡ Some Mark → has_mark xs ≡ true
mark_found [] n e = cc
mark_found (x ∷ xs) zero e = let same : is_mark x ≡ true = grind (arith, e) in grind (arith, same)
mark_found (x ∷ xs) (suc n) e = let f = mark_found xs n e in go (is_mark x) f
  where
    go : (b : Bool) → has_mark xs ≡ true → (b || has_mark xs) ≡ true
    go true e = refl
    go false e = e

-- what weighs by number lies in the range of the numbers
pub from_number-range : (m n : ℕ) (xs : List Item) → 1 ≤ from_number (of_number m) n xs → (n ≤ m) × (m < n + length xs)
from_number-range m n [] h = absurd (omega (arith, h))
from_number-range m n (x ∷ xs) h = go (nat_eq n m) refl (λ f. from_number-range m (n + 1) xs f)
  where
    go : (b : Bool) → nat_eq n m ≡ b → (1 ≤ from_number (of_number m) (n + 1) xs → (n + 1 ≤ m) × (m < (n + 1) + length xs)) →
        (n ≤ m) × (m < n + suc (length xs))
    go true e more = let is : n ≡ m = grind (arith, e, nat_tests) in (omega (arith, is), omega (arith, is))
    go false e more = let f = more (grind (arith, e, h)) in (omega (arith, f.0), omega (arith, f.1))

-- a test of ends, with what it tells
pub end_tells : (d e : End) → ((same_end d e ≡ true) × (d ≡ e)) ⊎ ((same_end d e ≡ false) × (d ≢ e))
end_tells d e = go (same_end d e) refl
  where
    go : (b : Bool) → same_end d e ≡ b → ((same_end d e ≡ true) × (d ≡ e)) ⊎ ((same_end d e ≡ false) × (d ≢ e))
    go true h = inl (h, same_end-tells d e h)
    go false h = inr (h, λ is. grind (arith, h, is, same_end-itself e))

-- the reach of a queue that has nothing from its reach on rises by one
pub reach-push : {X : Type 0} (q : Queue X) (item : X) → item_at q (reach q + 1) ≡ None → reach (push_at q (reach q) item) ≡ reach q + 1
reach-push q item beyond = reach_one (push_at q (reach q) item) (reach (push_at q (reach q) item)) (reach q + 1)
    (is_reach (push_at q (reach q) item)) (record {
      from = omega (arith, old.from);
      absent = other (reach q + 1) (λ e. omega (arith, e)) ∙ beyond;
      filled = λ m a b. go m a b (nat_eq m (reach q)) refl;
    })
  where
    old : IsReach q (reach q)
    old = is_reach q

    other : (m : ℕ) → m ≢ reach q → item_at (push_at q (reach q) item) m ≡ item_at q m
    other m ne = grind (arith, get-insert nat_cmp_total q.items (reach q) item m, nat_tests, ne)

    here : item_at (push_at q (reach q) item) (reach q) ≡ Some item
    here = grind (arith, get-insert nat_cmp_total q.items (reach q) item (reach q), nat_tests)

    go : (m : ℕ) → q.current ≤ m → m < reach q + 1 → (b : Bool) → nat_eq m (reach q) ≡ b → IsSome (item_at (push_at q (reach q) item) m)
    go m a b true e = let is : m ≡ reach q = grind (arith, e, nat_tests) in
        subst (λ x. IsSome (item_at (push_at q (reach q) item) x)) (sym is) (subst IsSome (sym here) refl)
    go m a b false e = subst IsSome (sym (other m (λ is. grind (arith, is, e, nat_tests))))
        (old.filled m a (grind (arith, b, e, nat_tests)))

-- an item of a queue weighs in the total
pub total-has : (h : ℕ → Item → ℕ) (q : Queue Item) (n : ℕ) (item : Item) → item_at q n ≡ Some item → h n item ≤ total h q.items
total-has h q n item e = omega (arith, total-remove nat_cmp nat_cmp_total nat_cmp-IsAntisymmetric h q.items n item e)

-- the router's weight is part of the world's
pub in_router-within : (f : Weight) (g : Records) (w : World) (k : Key) (r : Router) → k.node < w.count → router_at w k ≡ Some r →
    in_router f r ≤ in_places f g w
in_router-within f g w k r l here =
    omega (
      arith,
      in_places-set_router f g w k r (record r {
        out_queue = record r.out_queue { items = empty };
        in_queue =
            record r.in_queue { items = empty };
      }) l here,
      in_router-is f (record r { out_queue = record r.out_queue { items = empty }; in_queue = record r.in_queue { items = empty } }),
      total-empty nat_cmp (f r.end),
      total-empty nat_cmp (f (opposite_end r.end)),
    )

-- what stands in an out queue was put by its end, and isn't read
pub out_numbers : (w : World) (b : Books) (g : Records) (k : Key) (r : Router) (n : ℕ) (item : Item) → Conserved w b g → k.node < w.count →
    router_at w k ≡ Some r → item_at r.out_queue n ≡ Some item → (read b (opposite_end r.end) ≤ n) × (n < length (b.put r.end))
out_numbers w b g k r n item law l here at =
    let f : Weight = at_end r.end (of_number n) in
    let one : f r.end n item ≡ 1 = grind (arith, same_end-itself r.end, nat_tests) in
    let has : f r.end n item ≤ total (f r.end) r.out_queue.items = total-has (f r.end) r.out_queue n item at in
    let le : in_router f r ≤ in_places f g w = in_router-within f g w k r l here in
    let range = from_number-range n (read b (opposite_end r.end)) (drop (read b (opposite_end r.end)) (b.put r.end))
    (omega (arith, le, has, one, in_router-is f r, law.exact r.end (of_number n))) in
    (range.0, omega (arith, range.1, length-drop (read b (opposite_end r.end)) (b.put r.end) (law.read_put r.end)))

pub expected_move-at : (h : Descriptor → ℕ) (k : Key) → move_weight h (At k) ≡ 0
unfolding move_weight
expected_move-at h k = refl

-- an end whose terminal stands isn't on its way
pub not_moving : (w : World) (g : Records) (k : Key) (e : End) (from to i j : ℕ) (m : Message) (d : Descriptor) → Moves w g →
    g.terminal e ≡ At k → IsUnderWay w from to i m → slice_get (moves_of m) j ≡ Some d → d.end ≢ e
not_moving w g k e from to i j m d law at u h is =
    let h1 : Descriptor → ℕ = λ d. 1 in
    let one : of_end e h1 d ≡ 1 = grind (arith, is, same_end-itself e) in
    let has : of_end e h1 d ≤ total_list (of_end e h1) (moves_of m) = total_list-at (of_end e h1) (moves_of m) j d h in
    let weight = weighed (λ from to m. total_list (of_end e h1) (moves_of m)) w from to i m u in
    let none : move_weight h1 (g.terminal e) ≡ 0 = ap (move_weight h1) at ∙ expected_move-at h1 k in
    absurd (omega (arith, one, has, weight, law.one e h1, none))

-- what a book holds of an end, with one more at an end
pub more_same : {X : Type 0} (f : End → X) (x : X) (d e : End) → d ≢ e → cond (same_end d e) x (f d) ≡ f d
more_same f x d e ne = elim (end_tells d e) [ inl h ↦ absurd (ne h.1) | inr h ↦ ap (λ c. cond c x (f d)) h.0 ]

pub more_here : {X : Type 0} (x y : X) (e : End) → cond (same_end e e) x y ≡ x
more_here x y e = ap (λ c. cond c x y) (same_end-itself e)

-- a statement of the books at an end, by whether it is the end with one more
pub more_by : {X : Type 0} (f : End → X) (x : X) (e d : End) (P : X → Type 0) → (d ≢ e → P (f d)) → (d ≡ e → P x) →
    P (cond (same_end d e) x (f d))
more_by f x e d P other own = elim (end_tells d e) [
  | inl h ↦ subst P (sym (ap (λ c. cond c x (f d)) h.0)) (own h.1)
  | inr h ↦ subst P (sym (ap (λ c. cond c x (f d)) h.0)) (other h.1)
]

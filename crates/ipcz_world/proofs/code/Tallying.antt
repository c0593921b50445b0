-- Sums as a loop goes over a list: what was told so far and what is left come to the whole.
use Rattle.std.specs.Prelude.{◌≡◌, ◌≤◌, ◌<◌, ℕ, zero, suc, ◌+◌, Bool, true, false, nat_lt, ◌&&◌, ◌||◌, is_some, Option, Some}
use Rattle.std.specs.Prelude.{List, [], ◌∷◌}
use Rattle.std.specs.Prelude.{drop, length, map, refl}
use Rattle.std.proofs.Common.{arith, ap, subst, ◌∙◌, sym, get_or}
use Rattle.std.proofs.lemmas.Bool.Decides.{nat_tests}
use Rattle.std.proofs.lemmas.Option.{same_Some}
use Rattle.std.specs.List.{slice_get}
use Rattle.ipcz_base.specs.Totals.{total_list, total_of}
use Rattle.ipcz_node.specs.Serials.{entries_by}
use Rattle.ipcz_world.specs.Tallies.{Tells}
use Rattle.ipcz_world.proofs.Vocabulary.{End, Node, place_at, higher, highest}
use Rattle.ipcz_world.specs.SettleLimit.{put_among, put_within, has_within}
use Rattle.ipcz_base.specs.Ends.{same_end}
use Rattle.ipcz_router.specs.Router.{is_terminal}
use Rattle.ipcz_node.specs.Node.{find_router}
use Rattle.std.specs.FinMap.{entries}

-- what was told so far, with what is left, comes to the whole
pub record IsTallied (sum : Option ℕ) (left whole : ℕ) : Type 0 where
  pub so_far : ℕ
  pub told : Tells sum so_far
  pub whole_is : so_far + left ≡ whole

pub tallied-more : (sum next one : Option ℕ) (n was left whole : ℕ) → IsTallied sum was whole →
    ((m n : ℕ) → Tells sum m → Tells one n → Tells next (m + n)) → Tells one n → was ≡ n + left → IsTallied next left whole
tallied-more sum next one n was left whole so plus told e = record {
  so_far = so.so_far + n;
  told = plus so.so_far n so.told told;
  whole_is = omega (arith, so.whole_is, e);
}

pub tallied-all : (sum : Option ℕ) (left whole : ℕ) → IsTallied sum left whole → left ≡ 0 → Tells sum whole
tallied-all sum left whole so e = let is : so.so_far ≡ whole = omega (arith, so.whole_is, e) in subst (Tells sum) is so.told

-- what is left of a list begins with the item at the index
pub left-next : {X : Type 0} (h : X → ℕ) (xs : List X) (i : ℕ) (d : X) → i < length xs →
    total_list h (drop i xs) ≡ h (get_or xs i d) + total_list h (drop (i + 1) xs)
left-next h [] i d l = absurd (omega (arith, l))
left-next h (x ∷ xs) zero d l = refl
left-next h (x ∷ xs) (suc i) d l =
    let e : suc (i + 1) ≡ suc i + 1 = omega arith in
    left-next h xs i d (omega (arith, l)) ∙ ap (λ j. h (get_or xs i d) + total_list h (drop j (x ∷ xs))) e

pub left-none : {X : Type 0} (h : X → ℕ) (xs : List X) (i : ℕ) → length xs ≤ i → total_list h (drop i xs) ≡ 0
left-none h [] zero l = refl
left-none h [] (suc i) l = refl
left-none h (x ∷ xs) zero l = absurd (omega (arith, l))
left-none h (x ∷ xs) (suc i) l = left-none h xs i (omega (arith, l))

-- an item more
pub tallied-item : {X : Type 0} (h : X → ℕ) (xs : List X) (i : ℕ) (x : X) (sum next one : Option ℕ) (whole : ℕ) → i < length xs →
    x ≡ get_or xs i x → IsTallied sum (total_list h (drop i xs)) whole → ((m n : ℕ) → Tells sum m → Tells one n → Tells next (m + n)) →
    Tells one (h x) → IsTallied next (total_list h (drop (i + 1) xs)) whole
tallied-item h xs i x sum next one whole l is so plus told =
    tallied-more sum next one (h x) (total_list h (drop i xs)) (total_list h (drop (i + 1) xs)) whole so plus told
    (left-next h xs i x l ∙ ap (λ y. h y + total_list h (drop (i + 1) xs)) (sym is))

-- all items
pub tallied-list : {X : Type 0} (h : X → ℕ) (xs : List X) (i : ℕ) (sum : Option ℕ) (whole : ℕ) → length xs ≤ i →
    IsTallied sum (total_list h (drop i xs)) whole → Tells sum whole
tallied-list h xs i sum whole l so = tallied-all sum (total_list h (drop i xs)) whole so (left-none h xs i l)

-- what stands at an index, whatever is said of what lies beyond the end
pub place-is : {X : Type 0} (d e : X) (xs : List X) (i : ℕ) → i < length xs → place_at d xs i ≡ get_or xs i e
unfolding place_at
place-is d e [] i l = absurd (omega (arith, l))
place-is d e (x ∷ xs) zero l = refl
place-is d e (x ∷ xs) (suc i) l = place-is d e xs i (omega (arith, l))

-- what an end has put among the nodes that are left
pub put_within-next : (e : End) (d : Node) (ns : List Node) (i : ℕ) → i < length ns →
    put_within e (drop i ns) ≡ higher (put_among e (entries (place_at d ns i).routers)) (put_within e (drop (i + 1) ns))
unfolding place_at
put_within-next e d [] i l = absurd (omega (arith, l))
put_within-next e d (n ∷ ns) zero l = refl
put_within-next e d (n ∷ ns) (suc i) l =
    let one : suc (i + 1) ≡ suc i + 1 = omega arith in
    put_within-next e d ns i (omega (arith, l)) ∙
    ap (λ j. higher (put_among e (entries (place_at d ns i).routers)) (put_within e (drop j (n ∷ ns)))) one

-- the highest of the items that are left
pub highest-next : {X : Type 0} (h : X → ℕ) (d : X) (xs : List X) (i : ℕ) → i < length xs →
    highest h (drop i xs) ≡ higher (h (place_at d xs i)) (highest h (drop (i + 1) xs))
unfolding place_at
highest-next h d [] i l = absurd (omega (arith, l))
highest-next h d (x ∷ xs) zero l = refl
highest-next h d (x ∷ xs) (suc i) l =
    let one : suc (i + 1) ≡ suc i + 1 = omega arith in
    highest-next h d xs i (omega (arith, l)) ∙ ap (λ j. higher (h (place_at d xs i)) (highest h (drop j (x ∷ xs)))) one

pub highest-item : {X : Type 0} (h : X → ℕ) (xs : List X) (i : ℕ) (x : X) → Some x ≡ slice_get xs i →
    highest h (drop i xs) ≡ higher (h x) (highest h (drop (i + 1) xs))
highest-item h [] i x e = cc
highest-item h (y ∷ xs) zero x e = ap (λ z. higher (h z) (highest h xs)) (same_Some y x (sym e))
highest-item h (y ∷ xs) (suc i) x e =
    let one : suc (i + 1) ≡ suc i + 1 = omega arith in
    highest-item h xs i x e ∙ ap (λ j. higher (h x) (highest h (drop j (y ∷ xs)))) one

pub highest-none : {X : Type 0} (h : X → ℕ) (xs : List X) (i : ℕ) → length xs ≤ i → highest h (drop i xs) ≡ 0
highest-none h [] zero l = refl
highest-none h [] (suc i) l = refl
highest-none h (x ∷ xs) zero l = absurd (omega (arith, l))
highest-none h (x ∷ xs) (suc i) l = highest-none h xs i (omega (arith, l))

pub higher-none : (a : ℕ) → higher a 0 ≡ a
higher-none a = go (nat_lt a 0) refl
  where
    go : (c : Bool) → nat_lt a 0 ≡ c → higher a 0 ≡ a
    go true q = grind (arith, q, nat_tests)
    go false q = grind (arith, q, nat_tests)

-- whether an end's terminal is in one of the nodes that are left
pub has_within-next : (e : End) (d : Node) (ns : List Node) (i : ℕ) → i < length ns →
    has_within e (drop i ns) ≡ (is_some (find_router (place_at d ns i) (λ r. is_terminal r && same_end r.end e)) || has_within e (drop (i + 1) ns))
unfolding place_at
has_within-next e d [] i l = absurd (omega (arith, l))
has_within-next e d (n ∷ ns) zero l = refl
has_within-next e d (n ∷ ns) (suc i) l =
    let one : suc (i + 1) ≡ suc i + 1 = omega arith in
    has_within-next e d ns i (omega (arith, l)) ∙
    ap (λ j. is_some (find_router (place_at d ns i) (λ r. is_terminal r && same_end r.end e)) || has_within e (drop j (n ∷ ns))) one

-- a list of parts, and entries with a part of each
pub of-parts : {X V : Type 0} (h : V → ℕ) (g : X → V) (xs : List X) → total_list h (map g xs) ≡ total_list (λ x. h (g x)) xs
of-parts h g [] = refl
of-parts h g (x ∷ xs) = omega (arith, of-parts h g xs)

pub of-entries : {X V : Type 0} (h : V → ℕ) (g : X → V) (xs : List (ℕ × X)) →
    total_of (λ s r. h r) (entries_by g xs) ≡ total_list (λ e. h (g e.1)) xs
of-entries h g [] = refl
of-entries h g (x ∷ xs) = omega (arith, of-entries h g xs)

-- the higher of three numbers
pub higher-third : (a b c : ℕ) → higher a (higher b c) ≡ higher (higher a b) c
higher-third a b c = go (nat_lt a b) (nat_lt b c) (nat_lt a c) refl refl refl
  where
    go : (p q r : Bool) → nat_lt a b ≡ p → nat_lt b c ≡ q → nat_lt a c ≡ r → higher a (higher b c) ≡ higher (higher a b) c
    go true true r e f g = grind (arith, e, f, g, nat_tests)
    go true false r e f g = grind (arith, e, f, g, nat_tests)
    go false true r e f g = grind (arith, e, f, g, nat_tests)
    go false false r e f g = grind (arith, e, f, g, nat_tests)

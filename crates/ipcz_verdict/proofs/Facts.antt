-- Small facts of tests, sides, ends and lists.
use Rattle.std.specs.Prelude.{◌≡◌, ◌⊎◌, ◌<◌, ℕ, zero, suc, Bool, true, false, not, ◌&&◌, ◌||◌, nat_eq, Option, Some, None, List, [], ◌∷◌, ◌++◌}
use Rattle.std.specs.Prelude.{length, take, drop, slice_get, refl}
use Rattle.std.proofs.Common.{arith, ap, ap₂, ◌∙◌, sym, inl, inr}
use Rattle.std.proofs.lemmas.Bool.Decides.{nat_tests}
use Rattle.std.proofs.lemmas.Bool.{and_parts}
use Rattle.ipcz_base.specs.declared.side.Side.{Side}
use Rattle.ipcz_base.specs.declared.side.Side.TheVariants.{A, B}
use Rattle.ipcz_base.specs.declared.end.End.{End}
use Rattle.ipcz_base.specs.Sides.{opposite, same_side}
use Rattle.ipcz_base.specs.Ends.{opposite_end, same_end, has_end, end_at}

pub both : {X : Type 0} (c : Bool) → c ≡ true → c ≡ false → X
both c a z = cc

pub some_none : {X Y : Type 0} {x : X} (o : Option X) → o ≡ Some x → o ≡ None → Y
some_none o a z = cc

pub same_some : {X : Type 0} {a b : X} → Some a ≡ Some b → a ≡ b
same_some h = cc

-- ---- ends

opposite_twice : (s : Side) → opposite (opposite s) ≡ s
opposite_twice A = refl
opposite_twice B = refl

pub peer_twice : (e : End) → opposite_end (opposite_end e) ≡ e
peer_twice e = ap (end_at e.pair) (opposite_twice e.side)

-- two ends with one peer are one
pub peers_tell : (d e : End) → opposite_end d ≡ opposite_end e → d ≡ e
peers_tell d e h = sym (peer_twice d) ∙ ap opposite_end h ∙ peer_twice e

side_tells : (s t : Side) → same_side s t ≡ true → s ≡ t
side_tells A A e = refl
side_tells A B e = cc
side_tells B A e = cc
side_tells B B e = refl

side_itself : (s : Side) → same_side s s ≡ true
side_itself A = refl
side_itself B = refl

pub end_tells : (d e : End) → same_end d e ≡ true → d ≡ e
end_tells d e h =
    let t = and_parts (nat_eq d.pair e.pair) (same_side d.side e.side) h in
    let pairs : d.pair ≡ e.pair = grind (arith, nat_tests, t.0) in
    ap₂ end_at pairs (side_tells d.side e.side t.1)

pub end_itself : (e : End) → same_end e e ≡ true
end_itself e = let n : nat_eq e.pair e.pair ≡ true = grind (arith, nat_tests) in ap₂ (λ a b. a && b) n (side_itself e.side)

pub end_same : (d e : End) → d ≡ e → same_end d e ≡ true
end_same d e h = ap (λ x. same_end x e) h ∙ end_itself e

-- whether two ends are one, with what each answer tells
pub end_is : (d e : End) → ((same_end d e ≡ true) × (d ≡ e)) ⊎ ((same_end d e ≡ false) × (d ≡ e → ⊥))
end_is d e = go (same_end d e) refl
  where
    go : (c : Bool) → same_end d e ≡ c → ((same_end d e ≡ true) × (d ≡ e)) ⊎ ((same_end d e ≡ false) × (d ≡ e → ⊥))
    go true h = inl (h, end_tells d e h)
    go false h = inr (h, λ q. both (same_end d e) (end_same d e q) h)

-- ---- bools

pub cases : (c : Bool) → (c ≡ true) ⊎ (c ≡ false)
cases true = inl refl
cases false = inr refl

pub is_not : (c : Bool) → (c ≡ true → ⊥) → c ≡ false
is_not true h = absurd (h refl)
is_not false h = refl

pub not_false : (c : Bool) → not c ≡ false → c ≡ true
not_false true h = refl
not_false false h = cc

-- ---- lists

pub has_end_more : (d e : End) (es : List End) → has_end d (es ++ e ∷ []) ≡ (has_end d es || same_end e d)
has_end_more d e [] = or_false (same_end e d)
  where
    or_false : (c : Bool) → (c || false) ≡ c
    or_false true = refl
    or_false false = refl
has_end_more d e (x ∷ es) = ap (λ c. same_end x d || c) (has_end_more d e es) ∙ or_or (same_end x d) (has_end d es) (same_end e d)
  where
    or_or : (a b c : Bool) → (a || (b || c)) ≡ ((a || b) || c)
    or_or true b c = refl
    or_or false b c = refl

pub has_end_append : (d : End) (es fs : List End) → has_end d (es ++ fs) ≡ (has_end d es || has_end d fs)
has_end_append d [] fs = refl
has_end_append d (x ∷ es) fs = ap (λ c. same_end x d || c) (has_end_append d es fs) ∙ or_or (same_end x d) (has_end d es) (has_end d fs)
  where
    or_or : (a b c : Bool) → (a || (b || c)) ≡ ((a || b) || c)
    or_or true b c = refl
    or_or false b c = refl

pub length_more : {X : Type 0} (xs : List X) (x : X) → length (xs ++ x ∷ []) ≡ suc (length xs)
length_more [] x = refl
length_more (y ∷ xs) x = ap suc (length_more xs x)

pub get_within : {X : Type 0} (xs : List X) (n : ℕ) (x : X) → slice_get xs n ≡ Some x → n < length xs
get_within [] n x h = cc
get_within (y ∷ xs) zero x h = omega arith
get_within (y ∷ xs) (suc n) x h = omega (arith, get_within xs n x h)

-- an element of a list with one more behind
pub get_more : {X : Type 0} (xs : List X) (y x : X) (n : ℕ) → slice_get (xs ++ y ∷ []) n ≡ Some x → (slice_get xs n ≡ Some x) ⊎ ((n ≡ length xs) × (y ≡ x))
get_more [] y x zero h = inr (refl, same_some h)
get_more [] y x (suc n) h = cc
get_more (z ∷ xs) y x zero h = inl h
get_more (z ∷ xs) y x (suc n) h = elim (get_more xs y x n h) [ inl t ↦ inl t | inr t ↦ inr (ap suc t.0, t.1) ]

pub get_last : {X : Type 0} (xs : List X) (y : X) → slice_get (xs ++ y ∷ []) (length xs) ≡ Some y
get_last [] y = refl
get_last (z ∷ xs) y = get_last xs y

-- a first part with one more, and with one more behind the whole
pub take_next : {X : Type 0} (ys xs : List X) (x : X) → take (length ys) xs ≡ ys → slice_get xs (length ys) ≡ Some x → take (length (ys ++ x ∷ [])) xs ≡ ys ++ x ∷ []
take_next [] [] x e h = cc
take_next [] (z ∷ xs) x e h = ap (λ y. y ∷ []) (same_some h)
take_next (y ∷ ys) [] x e h = cc
take_next (y ∷ ys) (z ∷ xs) x e h = ap₂ (λ a bs. a ∷ bs) (cc) (take_next ys xs x (cc) h)

pub take_more : {X : Type 0} (ys xs : List X) (x : X) → take (length ys) xs ≡ ys → take (length ys) (xs ++ x ∷ []) ≡ ys
take_more [] xs x e = refl
take_more (y ∷ ys) [] x e = cc
take_more (y ∷ ys) (z ∷ xs) x e = ap₂ (λ a bs. a ∷ bs) (cc) (take_more ys xs x (cc))

-- what is left behind a first part
pub drop_more : {X : Type 0} (ys xs : List X) (x : X) → take (length ys) xs ≡ ys → drop (length ys) (xs ++ x ∷ []) ≡ drop (length ys) xs ++ x ∷ []
drop_more [] xs x e = refl
drop_more (y ∷ ys) [] x e = cc
drop_more (y ∷ ys) (z ∷ xs) x e = drop_more ys xs x (cc)

pub drop_next : {X : Type 0} (ys xs : List X) (x : X) → drop (length (ys ++ x ∷ [])) xs ≡ drop 1 (drop (length ys) xs)
drop_next [] [] x = refl
drop_next [] (z ∷ xs) x = refl
drop_next (y ∷ ys) [] x = refl
drop_next (y ∷ ys) (z ∷ xs) x = drop_next ys xs x

-- if nothing is left behind a first part, it is the whole
pub all_taken : {X : Type 0} (ys xs : List X) → take (length ys) xs ≡ ys → drop (length ys) xs ≡ [] → ys ≡ xs
all_taken [] [] e h = refl
all_taken [] (z ∷ xs) e h = cc
all_taken (y ∷ ys) [] e h = cc
all_taken (y ∷ ys) (z ∷ xs) e h = ap₂ (λ a bs. a ∷ bs) (cc) (all_taken ys xs (cc) h)

pub none_left : {X : Type 0} (ys : List X) → drop (length ys) ys ≡ []
none_left [] = refl
none_left (y ∷ ys) = none_left ys

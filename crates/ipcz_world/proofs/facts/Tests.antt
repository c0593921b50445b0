-- What tests of numbers, of two at once and of options tell.
use Rattle.std.specs.Prelude.{◌≡◌, ℕ, Bool, true, false, nat_eq, ◌&&◌, ◌||◌, refl, Option, Some, None, is_none, is_some}
use Rattle.std.proofs.Common.{arith}
use Rattle.std.proofs.lemmas.Bool.Decides.{nat_tests}

pub not_both : (c : Bool) → c ≡ true → c ≡ false → ⊥
not_both c a z = cc

pub nat_eq-is : (m n : ℕ) → nat_eq m n ≡ true → m ≡ n
nat_eq-is m n h = grind (arith, nat_tests, h)

pub nat_eq-itself : (n : ℕ) → nat_eq n n ≡ true
nat_eq-itself n = grind (arith, nat_tests)

pub and_first : (a b : Bool) → (a && b) ≡ true → a ≡ true
and_first true b h = refl
and_first false b h = cc

pub and_second : (a b : Bool) → (a && b) ≡ true → b ≡ true
and_second true b h = h
and_second false b h = cc

pub and_yes : (a b : Bool) → a ≡ true → b ≡ true → (a && b) ≡ true
and_yes true b p q = q
and_yes false b p q = cc

pub none_is : {X : Type 0} (o : Option X) → is_none o ≡ true → o ≡ None
none_is None e = refl
none_is (Some x) e = absurd (grind (arith, e))

pub some_is : {X : Type 0} (o : Option X) → is_some o ≡ true → (x : X) × (o ≡ Some x)
some_is None h = cc
some_is (Some x) h = (x, refl)

pub same_some : {X : Type 0} {a b : X} → Some a ≡ Some b → a ≡ b
same_some h = cc

pub or_second : (a b : Bool) → (a || b) ≡ true → a ≡ false → b ≡ true
or_second true b h e = cc
or_second false b h e = h

pub false-true : {X : Type 0} → false ≡ true → X
false-true h = cc

-- Values of a list, and the two names of an open.
use Rattle.std.proofs.Common.{◌≡◌, ◌≤◌, ◌-◌, ◌<◌, ◌∙◌, ℕ, zero, suc, Bool, true, false, not, is_some, List, [], ◌∷◌, Option, Some, None, refl, ap, sym, map}
use Rattle.std.proofs.Common.{get_or, length, arith}
use Rattle.std.proofs.lemmas.Slice.Eq.{bytes_eq-Decides}
use Rattle.serde_json.specs.Data.{Data}
use Rattle.serde_json.specs.View.{view}
use Rattle.serde_json.specs.declared.value.Value.{Value}
use Rattle.ipcz_script.specs.Shapes.{new_name_in, number_within, open_in, open_of}
use Rattle.ipcz_report.specs.Judging.{at, same_texts}

none_second : (n : Option ℕ) (a b : Option (List ℕ)) → is_some b ≡ false → is_some (open_of n a b) ≡ false
none_second None a b lacks = refl
none_second (Some n) None b lacks = refl
none_second (Some n) (Some a) None lacks = refl
none_second (Some n) (Some a) (Some b) lacks = absurd (cc lacks)

pub open-second : (nodes : ℕ) (taken : List ℕ → Bool) (ds : List Data) (x y z : Data) → ds ≡ x ∷ y ∷ z ∷ [] →
    is_some (new_name_in taken z) ≡ false → true ≡ not (is_some (open_in nodes taken ds))
open-second nodes taken ds x y z three lacks =
    sym (ap (λ ds. not (is_some (open_in nodes taken ds))) three
    ∙ ap not (none_second (number_within 0 (nodes - 1) x) (new_name_in taken y) (new_name_in taken z) lacks))

pub same-texts : (a b : Option (List ℕ)) → same_texts a b ≡ true → a ≡ b
same-texts None b same = absurd (cc same)
same-texts (Some a) None same = absurd (cc same)
same-texts (Some a) (Some b) same = ap Some ((bytes_eq-Decides a b).0 same)

-- the value of an item by its index
pub at-map : (xs : List Value) (i : ℕ) (x : Value) → i < length xs → x ≡ get_or xs i x → at (map view xs) i ≡ Some (view x)
at-map [] i x within is = absurd (omega (arith, within))
at-map (y ∷ ys) zero x within is = ap (λ z. Some (view z)) (sym is)
at-map (y ∷ ys) (suc i) x within is = at-map ys i x (omega (arith, within)) is

-- the values of a list of two and of a list of three
pub two-of : (xs : List Value) (x y : Value) → 2 ≤ length xs → length xs < 3 → x ≡ get_or xs 0 x → y ≡ get_or xs 1 y →
    map view xs ≡ view x ∷ view y ∷ []
two-of [] x y some few a b = absurd (omega (arith, some))
two-of (p ∷ []) x y some few a b = absurd (omega (arith, some))
two-of (p ∷ q ∷ []) x y some few a b = cc (a, b)
two-of (p ∷ q ∷ r ∷ rest) x y some few a b = absurd (omega (arith, few))

pub three-of : (xs : List Value) (x y z : Value) → 3 ≤ length xs → length xs < 4 → x ≡ get_or xs 0 x → y ≡ get_or xs 1 y → z ≡ get_or xs 2 z →
    map view xs ≡ view x ∷ view y ∷ view z ∷ []
three-of [] x y z some few a b c = absurd (omega (arith, some))
three-of (p ∷ []) x y z some few a b c = absurd (omega (arith, some))
three-of (p ∷ q ∷ []) x y z some few a b c = absurd (omega (arith, some))
three-of (p ∷ q ∷ r ∷ []) x y z some few a b c = cc (a, b, c)
three-of (p ∷ q ∷ r ∷ s ∷ rest) x y z some few a b c = absurd (omega (arith, few))

-- The last of the pairs is the last entry of the map.
use Rattle.std.proofs.Common.{◌≡◌, ◌&&◌, T, Bor, Bool, true, false, ℕ, suc, ◌+◌, ◌-◌, ◌<◌, ◌≤◌, List, [], ◌∷◌, length, get_or, refl, sym, ◌∙◌, ap, subst, arith}
use Rattle.std.proofs.Common.{Option, None, Some, Less}
use Rattle.std.specs.Prelude.{option_copied}
use Rattle.std.specs.Ordering.{nat_cmp, is_lt}
use Rattle.std.specs.Cmp.{nat_cmp_total, nat_cmp_is}
use Rattle.std.specs.FinMap.{from_entries, get-from_entries, same_map, nat_cmp-IsAntisymmetric}
use Rattle.std.specs.FinMap.{entries, from_sorted, get-from_sorted, entries-from_sorted, is_sorted}
use Rattle.std.specs.FinMap.Entries.{below_all}
use Rattle.std.specs.Slice.{IsGetResult}
use Rattle.std.proofs.lemmas.Bool.Decides.{nat_tests}
use Rattle.ipcz_seq.specs.Pairs.{AreWaiting, IsPlaceFor}
use Rattle.ipcz_seq.specs.Last.{last_of, is_above}

-- the entries of the map are the pairs
lt : (a b : ℕ) → a < b → T (is_lt (nat_cmp a b))
lt a b h = subst (λ r. T (is_lt r)) (nat_cmp_is a b Less h) tt

both_true : (a b : Bool) → T a → T b → T (a && b)
both_true true b p q = q
both_true false b p q = p

below : {X : Type 0} (x f : ℕ) (es : List (ℕ × X)) → x < f → AreWaiting f es → T (below_all nat_cmp x es)
below x f [] h r = tt
below x f (e ∷ es) h r = both_true _ _ (lt x e.0 (omega (arith, h, r.0))) (below x (e.0 + 1) es (omega (arith, h, r.0)) r.2)

sorted : {X : Type 0} (f : ℕ) (es : List (ℕ × X)) → AreWaiting f es → T (is_sorted nat_cmp es)
sorted f [] r = tt
sorted f (e ∷ es) r = both_true _ _ (below e.0 (e.0 + 1) es (omega arith) r.2) (sorted (e.0 + 1) es r.2)

pub entries-from_entries : {X : Type 0} (c : ℕ) (es : List (ℕ × X)) → AreWaiting c es → entries (from_entries {R = nat_cmp} es) ≡ es
entries-from_entries c es w =
    let up : T (is_sorted nat_cmp es) = sorted c es w in
    ap entries (same_map nat_cmp_total nat_cmp-IsAntisymmetric (from_entries es) (from_sorted es)
    (λ q. get-from_entries nat_cmp_total es q ∙ sym (get-from_sorted nat_cmp es q up)))
    ∙ entries-from_sorted nat_cmp es up

-- the last pair
last-is : {X : Type 0} (es : List X) (d : X) → 0 < length es → last_of es ≡ Some (get_or es (length es - 1) d)
last-is [] d l = absurd (omega (arith, l))
last-is (x ∷ []) d l = refl
last-is (x ∷ y ∷ ys) d l =
    let less : suc (length ys) - 1 ≡ length ys = omega arith in
    let one : suc (length ys) ≡ suc (suc (length ys)) - 1 = omega arith in
    last-is (y ∷ ys) d (omega arith) ∙ ap (λ i. Some (get_or (y ∷ ys) i d)) less ∙ ap (λ i. Some (get_or (x ∷ y ∷ ys) i d)) one

pub last-none : {X : Type 0} (es : List X) → length es ≤ 0 → last_of es ≡ None
last-none [] l = refl
last-none (x ∷ es) l = absurd (omega (arith, l))

-- behind the last pair, if there is one, is the place of each number above it
pub place_behind : {X : Type 0} (c n : ℕ) (es : List (ℕ × X)) → AreWaiting c es → is_above (last_of es) n ≡ true → IsPlaceFor n es (length es)
place_behind c n [] w above = tt
place_behind c n (e ∷ []) w above = (grind (arith, nat_tests, above), tt)
place_behind c n (e ∷ f ∷ es) w above =
    let rest = place_behind (e.0 + 1) n (f ∷ es) w.2 above in
    (omega (arith, w.2.0, rest.0), rest)

pub back-is : {X : Type 0} (es : List X) (r : Option (Bor X)) → IsGetResult es 0 (length es - 1) r → option_copied r ≡ last_of es
back-is es None h = sym (last-none es h.3)
back-is es (Some x) h = ap Some h.1 ∙ sym (last-is es x.now h.3.0)

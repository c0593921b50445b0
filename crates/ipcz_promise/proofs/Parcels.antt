-- The parcels in what an end has put: what was got of them, and what is left.
use Rattle.std.specs.Prelude.{◌≡◌, ◌<◌, ℕ, zero, suc, ◌+◌, Bool, true, false, Some, List, [], ◌∷◌, ◌++◌, length, take, map, slice_get, refl}
use Rattle.std.proofs.Common.{arith, ap, ◌∙◌}
use Rattle.ipcz_base.specs.declared.parcel.Parcel as parcels
use Rattle.ipcz_base.specs.declared.item.Item.{Item}
use Rattle.ipcz_base.specs.declared.item.Item.TheVariants.{Parcel, Mark, Gone}
use Rattle.ipcz_world.specs.Books.{has_mark, has_gone}
use Rattle.ipcz_promise.specs.Accounting.{parcels_in}

-- with a parcel more
pub parcels-more : (xs : List Item) (p : parcels.Parcel) → parcels_in (xs ++ Parcel p ∷ []) ≡ parcels_in xs ++ p ∷ []
parcels-more [] p = refl
parcels-more (Parcel q ∷ xs) p = ap (λ t. q ∷ t) (parcels-more xs p)
parcels-more (Mark ∷ xs) p = parcels-more xs p
parcels-more (Gone ∷ xs) p = parcels-more xs p

-- with the mark more, or with Gone
pub parcels-marked : (xs : List Item) → parcels_in (xs ++ Mark ∷ []) ≡ parcels_in xs
parcels-marked [] = refl
parcels-marked (Parcel q ∷ xs) = ap (λ t. q ∷ t) (parcels-marked xs)
parcels-marked (Mark ∷ xs) = parcels-marked xs
parcels-marked (Gone ∷ xs) = parcels-marked xs

pub parcels-left : (xs : List Item) → parcels_in (xs ++ Gone ∷ []) ≡ parcels_in xs
parcels-left [] = refl
parcels-left (Parcel q ∷ xs) = ap (λ t. q ∷ t) (parcels-left xs)
parcels-left (Mark ∷ xs) = parcels-left xs
parcels-left (Gone ∷ xs) = parcels-left xs

-- whether the mark is there, with an item more
pub mark-more : (xs : List Item) (p : parcels.Parcel) → has_mark (xs ++ Parcel p ∷ []) ≡ has_mark xs
mark-more [] p = refl
mark-more (Parcel q ∷ xs) p = mark-more xs p
mark-more (Mark ∷ xs) p = refl
mark-more (Gone ∷ xs) p = mark-more xs p

pub mark-left : (xs : List Item) → has_mark (xs ++ Gone ∷ []) ≡ has_mark xs
mark-left [] = refl
mark-left (Parcel q ∷ xs) = mark-left xs
mark-left (Mark ∷ xs) = refl
mark-left (Gone ∷ xs) = mark-left xs

pub mark-put : (xs : List Item) → has_mark (xs ++ Mark ∷ []) ≡ true
mark-put [] = refl
mark-put (Parcel q ∷ xs) = mark-put xs
mark-put (Mark ∷ xs) = refl
mark-put (Gone ∷ xs) = mark-put xs

-- without mark and Gone each item is a parcel
pub all-parcels : (xs : List Item) → has_mark xs ≡ false → has_gone xs ≡ false → length (parcels_in xs) ≡ length xs
all-parcels [] h k = refl
all-parcels (Parcel p ∷ xs) h k = ap suc (all-parcels xs h k)
all-parcels (Mark ∷ xs) h k = cc
all-parcels (Gone ∷ xs) h k = cc

-- the mark is there where it stands
pub mark-found : (xs : List Item) (n : ℕ) → slice_get xs n ≡ Some Mark → has_mark xs ≡ true
mark-found [] n e = cc
mark-found (Parcel p ∷ xs) zero e = cc
mark-found (Parcel p ∷ xs) (suc n) e = mark-found xs n e
mark-found (Mark ∷ xs) n e = refl
mark-found (Gone ∷ xs) zero e = cc
mark-found (Gone ∷ xs) (suc n) e = mark-found xs n e

-- the next parcel behind those that were got
pub next-parcel : (ps : List parcels.Parcel) (xs : List Item) (p : parcels.Parcel) → take (length ps) xs ≡ map Parcel ps →
    slice_get xs (length ps) ≡ Some (Parcel p) → slice_get (parcels_in xs) (length ps) ≡ Some p
next-parcel [] [] p e h = cc
next-parcel [] (Parcel q ∷ xs) p e h = cc
next-parcel [] (Mark ∷ xs) p e h = cc
next-parcel [] (Gone ∷ xs) p e h = cc
next-parcel (r ∷ ps) [] p e h = cc
next-parcel (r ∷ ps) (Parcel q ∷ xs) p e h = next-parcel ps xs p (cc) h
next-parcel (r ∷ ps) (Mark ∷ xs) p e h = cc
next-parcel (r ∷ ps) (Gone ∷ xs) p e h = cc

-- if the mark comes next and is last, all parcels were got
pub all-got : (ps : List parcels.Parcel) (xs : List Item) → take (length ps) xs ≡ map Parcel ps → slice_get xs (length ps) ≡ Some Mark →
    length xs ≡ length ps + 1 → parcels_in xs ≡ ps
all-got [] [] e h l = refl
all-got [] (Parcel q ∷ xs) e h l = cc
all-got [] (Mark ∷ []) e h l = refl
all-got [] (Mark ∷ x ∷ xs) e h l = absurd (omega (arith, l))
all-got [] (Gone ∷ xs) e h l = cc
all-got (r ∷ ps) [] e h l = cc
all-got (r ∷ ps) (Parcel q ∷ xs) e h l =
    let same : q ≡ r = cc in
    ap (λ z. z ∷ parcels_in xs) same ∙ ap (λ t. r ∷ t) (all-got ps xs (cc) h (omega (arith, l)))
all-got (r ∷ ps) (Mark ∷ xs) e h l = cc
all-got (r ∷ ps) (Gone ∷ xs) e h l = cc

-- what was got is a first part of the parcels
pub first-parcels : (ps : List parcels.Parcel) (xs : List Item) → take (length ps) xs ≡ map Parcel ps → take (length ps) (parcels_in xs) ≡ ps
first-parcels [] xs e = refl
first-parcels (r ∷ ps) [] e = cc
first-parcels (r ∷ ps) (Parcel q ∷ xs) e =
    let same : q ≡ r = cc in
    ap (λ z. z ∷ take (length ps) (parcels_in xs)) same ∙ ap (λ t. r ∷ t) (first-parcels ps xs (cc))
first-parcels (r ∷ ps) (Mark ∷ xs) e = cc
first-parcels (r ∷ ps) (Gone ∷ xs) e = cc

-- if all was got, each item is a parcel
pub each-got : (ps : List parcels.Parcel) (xs : List Item) → map Parcel ps ≡ xs → (parcels_in xs ≡ ps) × (has_mark xs ≡ false)
each-got [] [] e = (refl, refl)
each-got [] (x ∷ xs) e = cc
each-got (p ∷ ps) [] e = cc
each-got (p ∷ ps) (Parcel q ∷ xs) e =
    let t = each-got ps xs (cc) in let same : q ≡ p = cc in
    (ap (λ z. z ∷ parcels_in xs) same ∙ ap (λ z. p ∷ z) t.0, t.1)
each-got (p ∷ ps) (Mark ∷ xs) e = cc
each-got (p ∷ ps) (Gone ∷ xs) e = cc

-- where the mark stands, also with an item more
mark-stands : (xs : List Item) → has_mark xs ≡ true →
    (i : ℕ) × (i < length xs) × ((y : Item) → slice_get (xs ++ y ∷ []) i ≡ Some Mark)
mark-stands [] h = cc
mark-stands (Parcel p ∷ xs) h = let t = mark-stands xs h in (suc t.0, omega (arith, t.1), t.2)
mark-stands (Mark ∷ xs) h = (0, omega arith, λ y. refl)
mark-stands (Gone ∷ xs) h = let t = mark-stands xs h in (suc t.0, omega (arith, t.1), t.2)

last-is : (xs : List Item) (y : Item) → slice_get (xs ++ y ∷ []) (length xs) ≡ Some y
last-is [] y = refl
last-is (x ∷ xs) y = last-is xs y

-- a mark that is last, but for so many items, is the only one
pub no-second : (xs : List Item) (c all : ℕ) → ((n : ℕ) → slice_get (xs ++ Mark ∷ []) n ≡ Some Mark → suc n + c ≡ all) → has_mark xs ≡ false
no-second xs c all last = go (has_mark xs) refl
  where
    go : (m : Bool) → has_mark xs ≡ m → has_mark xs ≡ false
    go false h = h
    go true h =
        let t = mark-stands xs h in
        absurd (omega (arith, last t.0 (t.2 Mark), last (length xs) (last-is xs Mark), t.1))

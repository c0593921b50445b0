-- A drained queue has no item; and Gone is found where it stands.
use Rattle.ipcz_base.specs.declared.parcel.Parcel as parcels
use Rattle.std.specs.Prelude.{◌≡◌, ◌||◌, ◌<◌, ◌++◌, length, take, map, ℕ, zero, suc, Bool, true, false, Option, Some, None, List, [], ◌∷◌, slice_get, refl}
use Rattle.std.proofs.Common.{arith, ap, ◌∙◌}
use Rattle.std.proofs.lemmas.Bool.Decides.{nat_tests}
use Rattle.std.specs.FinMap.{get, len, empty_of_len, get-empty}
use Rattle.std.specs.Ordering.{nat_cmp}
use Rattle.ipcz_base.specs.declared.item.Item.{Item}
use Rattle.ipcz_world.proofs.Vocabulary.{Parcel, Mark, Gone, is_gone_item, item_passes, has_gone_next}
use Rattle.ipcz_seq.specs.Queue.{Queue, item_at, current_item, is_drained}
use Rattle.ipcz_router.specs.Router.{Router}
use Rattle.ipcz_world.specs.Books.{has_gone}

pub drained_item : (q : Queue Item) (n : ℕ) → is_drained q ≡ true → item_at q n ≡ None
drained_item q n h = let none : len q.items ≡ 0 = grind (arith, h, nat_tests) in
    ap (λ m. get m n) (empty_of_len q.items none) ∙ get-empty {X = Item} nat_cmp n

pub gone_found : (xs : List Item) (n : ℕ) → slice_get xs n ≡ Some Gone → has_gone xs ≡ true
gone_found [] n e = cc
gone_found (x ∷ xs) zero e = let same : is_gone_item x ≡ true = grind (arith, e) in grind (arith, same)
gone_found (x ∷ xs) (suc n) e = let f = gone_found xs n e in go (is_gone_item x) f
  where
    go : (b : Bool) → has_gone xs ≡ true → (b || has_gone xs) ≡ true
    go true e = refl
    go false e = e

pub has_gone-more : (xs : List Item) (x : Item) → has_gone (xs ++ x ∷ []) ≡ (has_gone xs || is_gone_item x)
has_gone-more [] x = go (is_gone_item x)
  where
    go : (b : Bool) → (b || false) ≡ b
    go true = refl
    go false = refl
has_gone-more (y ∷ xs) x = go (is_gone_item y) (has_gone-more xs x)
  where
    go : (b : Bool) → has_gone (xs ++ x ∷ []) ≡ (has_gone xs || is_gone_item x) →
        (b || has_gone (xs ++ x ∷ [])) ≡ ((b || has_gone xs) || is_gone_item x)
    go true e = refl
    go false e = e

-- if only parcels were got, no mark was
pub no_mark : (ps : List parcels.Parcel) (xs : List Item) (n : ℕ) → take (length ps) xs ≡ map Parcel ps → n < length ps →
    slice_get xs n ≡ Some Mark → ⊥
no_mark [] xs n e l h = omega (arith, l)
no_mark (p ∷ ps) [] n e l h = cc
no_mark (p ∷ ps) (x ∷ xs) zero e l h = let f : Parcel p ≡ Mark = cc in cc
no_mark (p ∷ ps) (x ∷ xs) (suc n) e l h = no_mark ps xs n (cc) (omega (arith, l)) h

pub gone_stands : (xs : List Item) → has_gone xs ≡ true → (n : ℕ) × (slice_get xs n ≡ Some Gone)
gone_stands [] h = cc
gone_stands (Parcel p ∷ xs) h = let t = gone_stands xs h in (suc t.0, t.1)
gone_stands (Mark ∷ xs) h = let t = gone_stands xs h in (suc t.0, t.1)
gone_stands (Gone ∷ xs) h = (0, refl)

pub next_gone : (r : Router) → current_item r.in_queue ≡ Some Gone → has_gone_next r ≡ true
unfolding item_passes
next_gone r h = ap (item_passes is_gone_item) h

pub gone_next-tells : (r : Router) → has_gone_next r ≡ true → current_item r.in_queue ≡ Some Gone
unfolding item_passes
gone_next-tells r h = go (current_item r.in_queue) refl h
  where
    go : (o : Option Item) → current_item r.in_queue ≡ o → item_passes is_gone_item o ≡ true → current_item r.in_queue ≡ Some Gone
    go None e h = cc
    go (Some (Parcel p)) e h = cc
    go (Some Mark) e h = cc
    go (Some Gone) e h = e

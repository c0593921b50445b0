-- A portal that was dropped, as the books tell it and as the accounts do.
use Rattle.std.specs.Prelude.{◌≡◌, ◌⊎◌, ◌≤◌, ◌<◌, ◌+◌, ℕ, zero, suc, Bool, true, false, cond, nat_eq, Some, List, [], ◌∷◌}
use Rattle.std.specs.Prelude.{length, slice_get, refl}
use Rattle.std.proofs.Common.{arith, ap, ◌∙◌, sym, inl, inr}
use Rattle.std.proofs.lemmas.Bool.Decides.{nat_tests}
use Rattle.std.proofs.lemmas.Option.{slice_get_within}
use Rattle.ipcz_base.specs.declared.parcel.Parcel as parcels
use Rattle.ipcz_base.specs.declared.item.Item.TheVariants.{Parcel, Mark, Gone}
use Rattle.ipcz_base.specs.Items.{ends_in}
use Rattle.ipcz_world.specs.Books.{has_gone, is_retired}
use Rattle.ipcz_world.specs.Lawful.{Lawful}
use Rattle.ipcz_world.specs.Routes.{Routes}
use Rattle.ipcz_world.proofs.Vocabulary.{Books, End, Item, World}
use Rattle.ipcz_world.proofs.Vocabulary.{has_end, opposite_end}
use Rattle.ipcz_world.proofs.facts.Tests.{nat_eq-is}
use Rattle.ipcz_promise.specs.Accounting.{IsUngotAt, Stands, parcels_in}
use Rattle.ipcz_promise.specs.Promise.{Account, IsDropped}

-- a parcel in front of the mark and of Gone has its number among the parcels, too
parcel-at : (xs : List Item) (i : ℕ) (p : parcels.Parcel) → slice_get xs i ≡ Some (Parcel p) →
    ((n : ℕ) → slice_get xs n ≡ Some Mark → i ≤ n) → ((n : ℕ) → slice_get xs n ≡ Some Gone → i ≤ n) → slice_get (parcels_in xs) i ≡ Some p
parcel-at [] i p h marks gones = cc
parcel-at (Parcel q ∷ xs) zero p h marks gones = let same : q ≡ p = cc in ap Some same
parcel-at (Parcel q ∷ xs) (suc i) p h marks gones =
    parcel-at xs i p h (λ n e. omega (arith, marks (suc n) e)) (λ n e. omega (arith, gones (suc n) e))
parcel-at (Mark ∷ xs) zero p h marks gones = cc
parcel-at (Mark ∷ xs) (suc i) p h marks gones = absurd (omega (arith, marks 0 refl))
parcel-at (Gone ∷ xs) zero p h marks gones = cc
parcel-at (Gone ∷ xs) (suc i) p h marks gones = absurd (omega (arith, gones 0 refl))

gone-found : (xs : List Item) → has_gone xs ≡ true → (n : ℕ) × (slice_get xs n ≡ Some Gone)
gone-found [] h = cc
gone-found (Parcel p ∷ xs) h = let t = gone-found xs h in (suc t.0, t.1)
gone-found (Mark ∷ xs) h = let t = gone-found xs h in (suc t.0, t.1)
gone-found (Gone ∷ xs) h = (0, refl)

-- no parcel stands behind the mark or Gone
abbrev pub IsLast : List Item → Type 0
IsLast xs = (m n : ℕ) (p : parcels.Parcel) → slice_get xs m ≡ Some (Parcel p) → (slice_get xs n ≡ Some Mark) ⊎ (slice_get xs n ≡ Some Gone) → m ≤ n

pub marks-last : (w : World) (b : Books) (g : Routes) → Lawful w b g → (d : End) → IsLast (b.put d)
marks-last w b g law d m n p there (inr gone) =
    let within : m < length (b.put d) = slice_get_within _ _ _ there in omega (arith, within, law.inv.books_kept.gone_last d n gone)
marks-last w b g law d m n p there (inl mark) = go (is_retired b d) refl (law.inv.books_kept.mark_last d n mark)
  where
    within : m < length (b.put d)
    within = slice_get_within _ _ _ there

    go : (c : Bool) → is_retired b d ≡ c → suc n + cond c 1 0 ≡ length (b.put d) → m ≤ n
    go false r last = omega (arith, within, last)
    go true r last = let t = gone-found (b.put d) r in apart t.0 (nat_eq m t.0) refl t.1 (law.inv.books_kept.gone_last d t.0 t.1) last
      where
        apart : (i : ℕ) (c : Bool) → nat_eq m i ≡ c → slice_get (b.put d) i ≡ Some Gone → suc i ≡ length (b.put d) →
            suc n + 1 ≡ length (b.put d) → m ≤ n
        apart i true q gone end last = absurd (differ (sym there ∙ ap (slice_get (b.put d)) (nat_eq-is m i q) ∙ gone))
          where
            differ : Some (Parcel p) ≡ Some Gone → ⊥
            differ q = cc
        apart i false q gone end last = grind (arith, nat_tests, q, end, last, within)

-- what the books tell of a dropped end the accounts tell
pub ungot-dropped : (w : World) (a : Account) (k : Stands w a) (e : End) → IsUngotAt k.books e → IsDropped a e
ungot-dropped w a k e is = go is.item is.put is.carried
  where
    d : End
    d = opposite_end is.at

    go : (item : Item) → slice_get (k.books.put d) is.number ≡ Some item → has_end e (ends_in item) ≡ true → IsDropped a e
    go (Parcel p) there carried =
        let last : IsLast (k.books.put d) = marks-last w k.books k.routes k.lawful d in
        record {
          at = is.at;
          closed = k.closed is.at ∙ is.closed;
          number = is.number;
          parcel = p;
          put = ap (λ xs. slice_get xs is.number) (k.put d) ∙ parcel-at (k.books.put d) is.number p there
              (λ n q. last is.number n p there (inl q)) (λ n q. last is.number n p there (inr q));
          ungot = omega (arith, is.ungot, ap length (k.got is.at));
          carried = carried;
        }
    go Mark there carried = cc
    go Gone there carried = cc

-- and back
parcel-found : (xs : List Item) (i : ℕ) (p : parcels.Parcel) → slice_get (parcels_in xs) i ≡ Some p → (m : ℕ) × (slice_get xs m ≡ Some (Parcel p))
parcel-found [] i p h = cc
parcel-found (Parcel q ∷ xs) zero p h = (0, let same : q ≡ p = cc in ap (λ z. Some (Parcel z)) same)
parcel-found (Parcel q ∷ xs) (suc i) p h = let t = parcel-found xs i p h in (suc t.0, t.1)
parcel-found (Mark ∷ xs) i p h = let t = parcel-found xs i p h in (suc t.0, t.1)
parcel-found (Gone ∷ xs) i p h = let t = parcel-found xs i p h in (suc t.0, t.1)

parcel-from : (xs : List Item) (i : ℕ) (p : parcels.Parcel) → slice_get (parcels_in xs) i ≡ Some p → IsLast xs → slice_get xs i ≡ Some (Parcel p)
parcel-from [] i p h last = cc
parcel-from (Parcel q ∷ xs) zero p h last = let same : q ≡ p = cc in ap (λ z. Some (Parcel z)) same
parcel-from (Parcel q ∷ xs) (suc i) p h last = parcel-from xs i p h (λ m n y there q. omega (arith, last (suc m) (suc n) y there q))
parcel-from (Mark ∷ xs) i p h last = let t = parcel-found xs i p h in absurd (omega (arith, last (suc t.0) 0 p t.1 (inl refl)))
parcel-from (Gone ∷ xs) i p h last = let t = parcel-found xs i p h in absurd (omega (arith, last (suc t.0) 0 p t.1 (inr refl)))

pub dropped-ungot-at : (w : World) (a : Account) (k : Stands w a) (e : End) (is : IsDropped a e) →
    (was : IsUngotAt k.books e) × (was.number < length (k.books.put (opposite_end was.at)))
dropped-ungot-at w a k e is = (
  record {
    at = is.at;
    closed = sym (k.closed is.at) ∙ is.closed;
    number = is.number;
    item = Parcel is.parcel;
    put = there;
    ungot = omega (arith, is.ungot, ap length (k.got is.at));
    carried = is.carried;
  },
  slice_get_within _ _ _ there,
)
  where
    there : slice_get (k.books.put (opposite_end is.at)) is.number ≡ Some (Parcel is.parcel)
    there = parcel-from (k.books.put (opposite_end is.at)) is.number is.parcel
        (ap (λ xs. slice_get xs is.number) (sym (k.put (opposite_end is.at))) ∙ is.put)
        (marks-last w k.books k.routes k.lawful (opposite_end is.at))

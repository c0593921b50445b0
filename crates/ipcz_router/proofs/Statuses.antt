-- Parcels in a row, and what stands behind them.
use Rattle.std.proofs.Common.{◌≡◌, ◌==◌, ℕ, ◌+◌, ◌-◌, ◌<◌, ◌≤◌, true, false, Option, Some, None, is_some, is_none, ap, sym, subst, refl, arith}
use Rattle.ipcz_base.specs.declared.item.Item.{Item}
use Rattle.ipcz_base.specs.declared.item.Item.TheVariants.{Parcel, Mark, Gone}
use Rattle.ipcz_seq.specs.Queue.{Queue, item_at}
use Rattle.ipcz_seq.proofs.Pairs.{equal, unequal}
use Rattle.ipcz_router.specs.Calls.{item_refusal}
use Rattle.ipcz_router.specs.Status.{HasParcels, refusal_behind}

-- under each number from the current one up to this one stands a parcel
pub record AreParcels (q : Queue Item) (n : ℕ) : Type 0 where
  pub from : q.current ≤ n
  pub given : (m : ℕ) → q.current ≤ m → m < n → item_refusal (item_at q m) ≡ None

-- at first none
pub no_parcels : (q : Queue Item) → AreParcels q q.current
no_parcels q = record { from = omega arith; given = λ m low high. absurd (omega (arith, low, high)) }

-- one parcel more
pub parcel_more : (q : Queue Item) (n : ℕ) → AreParcels q n → item_refusal (item_at q n) ≡ None → AreParcels q (n + 1)
parcel_more q n row next = record { from = omega (arith, row.from); given = given }
  where
    given : (m : ℕ) → q.current ≤ m → m < n + 1 → item_refusal (item_at q m) ≡ None
    given m low high = elim (m == n) as (λ b. (m == n) ≡ b → item_refusal (item_at q m) ≡ None) [
      | true ↦ λ t. subst (λ k. item_refusal (item_at q k) ≡ None) (sym (equal m n t)) next
      | false ↦ λ f. let other = unequal m n f in row.given m low (omega (arith, high, other))
    ] refl

-- what a get is refused for behind them
pub refused_for : (o : Option Item) → (item_refusal o ≡ None → ⊥) → item_refusal o ≡ Some (refusal_behind (is_some o))
unfolding item_refusal
refused_for None other = refl
refused_for (Some (Parcel p)) other = absurd (other refl)
refused_for (Some Mark) other = refl
refused_for (Some Gone) other = refl

-- the row ends where no parcel stands
pub row_ends : (q : Queue Item) (n : ℕ) → AreParcels q n → (item_refusal (item_at q n) ≡ None → ⊥) →
    HasParcels q (n - q.current) (is_some (item_at q n))
row_ends q n row other = record {
  given = λ i low. row.given (q.current + i) (omega arith) (omega (arith, low));
  refused = subst (λ k. item_refusal (item_at q k) ≡ Some (refusal_behind (is_some (item_at q n)))) back (refused_for (item_at q n) other);
}
  where
    back : n ≡ q.current + (n - q.current)
    back = omega (arith, row.from)

-- whether a get gives a parcel there
pub gives : (o : Option Item) → is_none (item_refusal o) ≡ true → item_refusal o ≡ None
gives o there = elim (item_refusal o) as (λ r. is_none r ≡ true → r ≡ None) [
  | None ↦ λ t. refl
  | Some why ↦ λ t. cc
] there

pub gives_not : (o : Option Item) → is_none (item_refusal o) ≡ false → item_refusal o ≡ None → ⊥
gives_not o away there = let both : is_none (item_refusal o) ≡ true = ap is_none there in cc

pub absent_refused : (o : Option Item) → o ≡ None → item_refusal o ≡ None → ⊥
unfolding item_refusal
absent_refused None none there = cc
absent_refused (Some item) none there = cc

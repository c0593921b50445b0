-- If parcels carry ends in an order of their pairs, there are rates that fit.
use Rattle.std.specs.Prelude.{◌≡◌, ◌≤◌, ◌<◌, ℕ, zero, suc, ◌+◌, ◌*◌, ◌-◌, not, Some, List, [], ◌∷◌, length, slice_get, refl}
use Rattle.std.proofs.Common.{arith, subst, sym}
use Rattle.ipcz_world.proofs.Vocabulary.{End, ends_in, is_closed, is_retired}
use Rattle.ipcz_world.specs.Ranks.{moving_worth, price_below, ordered_rates, OrderedAreRated}
use Rattle.std.proofs.lemmas.Option.{slice_get_within}
use Rattle.ipcz_world.proofs.lawful.RouterWorths.{worth-most}

times-more : (p q m : ℕ) → p ≤ q → p * m ≤ q * m
times-more p q m h = let e : q ≡ p + (q - p) = omega (arith, h) in subst (λ x. p * m ≤ x * m) (sym e) (omega arith)

more-times : (m p q : ℕ) → p ≤ q → m * p ≤ m * q
more-times m p q h = let e : q ≡ p + (q - p) = omega (arith, h) in subst (λ x. m * p ≤ m * x) (sym e) (omega arith)

price-least : (most k : ℕ) → 6 ≤ price_below most k
price-least most zero = omega arith
price-least most (suc k) = omega arith

-- a price grows with the levels
price-step : (most k : ℕ) → price_below most k ≤ price_below most (suc k)
price-step most zero = omega arith
price-step most (suc k) =
    let inner : price_below most k * (most + most) ≤ price_below most (suc k) * (most + most) =
    times-more (price_below most k) (price_below most (suc k)) (most + most) (price-step most k) in
    omega (
      arith,
      more-times most (55 + price_below most k * (most + most)) (55 + price_below most (suc k) * (most + most))
          (omega (arith, inner)),
    )

price-more : (most k d : ℕ) → price_below most k ≤ price_below most (k + d)
price-more most k zero = let e : k ≡ k + 0 = omega arith in subst (λ x. price_below most k ≤ price_below most x) e (omega arith)
price-more most k (suc d) = let e : suc (k + d) ≡ k + suc d = omega arith in
    subst (λ x. price_below most k ≤ price_below most x) e (omega (arith, price-more most k d, price-step most (k + d)))

price-grows : (most j k : ℕ) → j ≤ k → price_below most j ≤ price_below most k
price-grows most j k h = let e : j + (k - j) ≡ k = omega (arith, h) in
    subst (λ x. price_below most j ≤ price_below most x) e (price-more most j (k - j))

module _ (level : ℕ → ℕ) (depth most : ℕ) where
  -- the moves of ends of higher levels
  moves : (k : ℕ) (es : List End) → ((i : ℕ) (d : End) → slice_get es i ≡ Some d → depth - level d.pair ≤ k) →
      moving_worth (ordered_rates level depth most) es ≤ length es * (55 + price_below most k * (most + most))
  moves k [] h = omega arith
  moves k (x ∷ xs) h =
      let one : price_below most (depth - level x.pair) * (most + most) ≤ price_below most k * (most + most) =
      times-more (price_below most (depth - level x.pair)) (price_below most k) (most + most)
      (price-grows most (depth - level x.pair) k (h 0 x refl)) in
      omega (arith, one, moves k xs (λ i d e. h (suc i) d e))

  paid : (l : ℕ) (es : List End) → length es ≤ most →
      (((i : ℕ) (d : End) → slice_get es i ≡ Some d → (l < level d.pair) × (level d.pair ≤ depth))) →
      6 + moving_worth (ordered_rates level depth most) es ≤ price_below most (depth - l)
  paid l [] few h = omega (arith, price-least most (depth - l))
  paid l (x ∷ xs) few h =
      let first = h 0 x refl in
      let k : ℕ = depth - suc l in
      let whole : depth - l ≡ suc k = omega (arith, first.0, first.1) in
      let all : moving_worth (ordered_rates level depth most) (x ∷ xs) ≤ length (x ∷ xs) * (55 + price_below most k * (most + most)) =
      moves k (x ∷ xs) (λ i d e. let t = h i d e in omega (arith, t.0, t.1)) in
      let bound : length (x ∷ xs) * (55 + price_below most k * (most + most)) ≤ most * (55 + price_below most k * (most + most)) =
      times-more (length (x ∷ xs)) most (55 + price_below most k * (most + most)) few in
      subst (λ y. 6 + moving_worth (ordered_rates level depth most) (x ∷ xs) ≤ price_below most y) (sym whole) (omega (arith, all, bound))

pub ordered_are_rated : OrderedAreRated
ordered_are_rated level depth most b law = record {
  capped = λ e n item l at. omega (arith, law.puts e, slice_get_within (b.put e) n item at);
  room = λ e h k. omega (arith, law.puts e, worth-most 1 (not (is_closed b e)), worth-most 1 (not (is_retired b e)));
  least = λ pair. price-least most (depth - level pair);
  pays = λ e n item l at. paid level depth most (level e.pair) (ends_in item) (law.ends e n item l at)
      (λ i d x. (law.higher e n i item d l at x, law.within d.pair));
}

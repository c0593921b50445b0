-- The first gap among pairs whose numbers rise: a pair is before it if its number is its place's, counted from the current one.
use Rattle.std.proofs.Common.{◌≡◌, ◌≢◌, ℕ, zero, suc, ◌+◌, ◌-◌, ◌/◌, ◌<◌, ◌≤◌, ◌^◌, List, [], ◌∷◌, length, get_or, ap, sym, ◌∙◌, subst}
use Rattle.std.proofs.Common.{arith}
use Rattle.std.proofs.lemmas.List.{get_or_default}
use Rattle.ipcz_seq.specs.Pairs.{AreWaiting, IsGapAt}
use Rattle.ipcz_seq.proofs.Pairs.{waiting_from, at_least, spread}

-- the first gap is no earlier than one place and no later than another, and a place to look at is between them
pub record IsGapWithin {T : Type 0} (current : ℕ) (es : List (ℕ × T)) (from to place : ℕ) : Type 0 where
  pub order : from ≤ to
  pub within : to ≤ length es
  pub between : from < to → (from ≤ place) × (place < to)
  pub filled : (k : ℕ) (d : ℕ × T) → k < from → (get_or es k d).0 ≡ current + k
  pub behind : (d : ℕ × T) → to < length es → current + to < (get_or es to d).0

-- if a pair's number is its place's, so is that of each before it
pub filled_before : {T : Type 0} (c : ℕ) (es : List (ℕ × T)) (j k : ℕ) (d : ℕ × T) → AreWaiting c es → j ≤ k → k < length es →
    (get_or es k d).0 ≡ c + k → (get_or es j d).0 ≡ c + j
filled_before c es j k d w order h same =
    let low = at_least c es j d w (omega (arith, order, h)) in
    let rise = spread c es j k d w order h in
    omega (arith, low.0, rise, same)

-- the middle of what is left
pub middle : (a b : ℕ) → a < b → (a ≤ a + (b - a) / 2) × (a + (b - a) / 2 < b)
middle a b h = (omega arith, omega arith)

-- if the pair that was looked at is before the gap, the rest is searched behind it
pub further : {T : Type 0} (c : ℕ) (es : List (ℕ × T)) (from to place : ℕ) (x : ℕ × T) → AreWaiting c es → IsGapWithin c es from to place →
    from < to → x ≡ get_or es place x → x.0 ≡ c + place
    → IsGapWithin c es (place + 1) to (place + 1 + (to - (place + 1)) / 2)
further c es from to place x w i left at same =
    let place_in = i.between left in
    let inside : place < length es = omega (arith, place_in.1, i.within) in
    let stands : (get_or es place x).0 ≡ c + place = ap (λ (e : _). e.0) (sym at) ∙ same in
    record {
      order = omega (arith, place_in.1);
      within = i.within;
      between = λ h. middle _ _ h;
      filled = λ k d before. filled_before c es k place d w (omega (arith, before)) inside
          (ap (λ (e : _). e.0) (get_or_default es place d x inside) ∙ stands);
      behind = i.behind;
    }

-- else before it
pub nearer : {T : Type 0} (c : ℕ) (es : List (ℕ × T)) (from to place : ℕ) (x : ℕ × T) → AreWaiting c es → IsGapWithin c es from to place →
    from < to → x ≡ get_or es place x → x.0 ≢ c + place
    → IsGapWithin c es from place (from + (place - from) / 2)
nearer c es from to place x w i left at other =
    let place_in = i.between left in
    let inside : place < length es = omega (arith, place_in.1, i.within) in
    record {
      order = place_in.0;
      within = omega (arith, inside);
      between = λ h. middle _ _ h;
      filled = i.filled;
      behind = λ d more.
          let low = at_least c es place d w inside in
          let stands : (get_or es place d).0 ≡ x.0 = ap (λ (e : _). e.0) (get_or_default es place d x inside ∙ sym at) in
          omega (arith, low.0, stands, other);
    }

-- a place with the counted numbers before it, and a higher one at it or none, is that of the gap
gap_at : {T : Type 0} (c : ℕ) (es : List (ℕ × T)) (k : ℕ) → k ≤ length es → ((j : ℕ) (d : ℕ × T) → j < k → (get_or es j d).0 ≡ c + j) →
    ((d : ℕ × T) → k < length es → c + k < (get_or es k d).0) → IsGapAt c es k
gap_at c [] zero h filled behind = tt
gap_at c [] (suc k) h filled behind = absurd (omega (arith, h))
gap_at c (e ∷ es) zero h filled behind = let higher = behind e (omega arith) in omega (arith, higher)
gap_at c (e ∷ es) (suc k) h filled behind =
    let same : e.0 ≡ c = omega (arith, filled 0 e (omega arith)) in (
      same,
      gap_at (c + 1) es k (omega (arith, h)) (λ j d before. omega (arith, filled (suc j) d (omega (arith, before))))
          (λ d more. omega (arith, behind d (omega (arith, more)))),
    )

-- if nothing is left to search, the gap is there
pub gap_found : {T : Type 0} (c : ℕ) (es : List (ℕ × T)) (from to place : ℕ) → IsGapWithin c es from to place → to ≤ from →
    IsGapAt c es from
gap_found {T} c es from to place i met =
    let same : to ≡ from = omega (arith, i.order, met) in
    gap_at c es from (omega (arith, i.order, i.within)) i.filled
    (subst (λ k. (d : ℕ × T) → k < length es → c + k < (get_or es k d).0) same i.behind)

-- the number that is missing there fits a `u64`
pub gap_fits : {T : Type 0} (c : ℕ) (es : List (ℕ × T)) (k : ℕ) → AreWaiting c es → IsGapAt c es k → c < 2 ^ 64 → c + k < 2 ^ 64
gap_fits c [] zero w g h = omega (arith, h)
gap_fits c [] (suc k) w g h = absurd g
gap_fits c (e ∷ es) zero w g h = omega (arith, h)
gap_fits c (e ∷ es) (suc k) w g h = let rest = gap_fits (c + 1) es k (waiting_from (c + 1) (e.0 + 1) es (omega (arith, g.0)) w.2) g.1
    (omega (arith, g.0, w.1)) in omega (arith, rest)

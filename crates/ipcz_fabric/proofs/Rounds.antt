-- Rounds of portals: a list from a place on, and then what stands before it.
use Rattle.std.specs.Prelude.{◌≡◌, ◌≢◌, ◌⊎◌, ◌≤◌, ◌<◌, ◌+◌, ◌-◌, ℕ, Bool, true, false, List, length, refl, slice_get, Some, MatchBool, drop, nat_lt, take, if◌then◌else◌, Result, Ok, Err, IfOk}
use Rattle.std.proofs.Common.{arith, ap, sym, subst, ◌∙◌, inl, inr, length-append, length-drop, length-take}
use Rattle.std.proofs.lemmas.Bool.{cases_lt}
use Rattle.std.proofs.lemmas.Bool.Decides.{nat_tests}
use Rattle.std.proofs.lemmas.Option.{slice_get_within}
use Rattle.ipcz_world.proofs.facts.Slices.{slice_get-left, slice_get-right, slice_get-drop, slice_get-take}
use Rattle.ipcz_cell.specs.TableNames.{TableName}
use Rattle.ipcz_fabric.specs.Portals.{PortalValue}
use Rattle.ipcz_fabric.specs.PortalSets.{AreOnce, IsNth, in_round}
use Rattle.ipcz_fabric.specs.Readiness.{ComesBefore, EachBefore, Finds, IsFirstFrom, IsThere}

-- a place comes as one number alone
pub nth_is : (count from place n m : ℕ) → IsNth count from place n → IsNth count from place m → n ≡ m
nth_is count from place n m a b = go (nat_lt place from) a b
  where
    go : (t : Bool) → MatchBool t (n ≡ count - from + place) (n ≡ place - from) → MatchBool t (m ≡ count - from + place) (m ≡ place - from) → n ≡ m
    go true a b = a ∙ sym b
    go false a b = a ∙ sym b

module _ (ps : List PortalValue) (from : ℕ) (within : from ≤ length ps) where
  behind : length (drop from ps) ≡ length ps - from
  behind = length-drop from ps

  pub round_length : length (in_round ps from) ≡ length ps
  round_length = omega (arith, length-append (drop from ps) (take from ps), length-drop from ps, length-take from ps, within)

  -- from the place on the list is as it was
  front : (k : ℕ) → k < length ps - from → slice_get (in_round ps from) k ≡ slice_get ps (from + k)
  front k low = slice_get-left (drop from ps) (take from ps) k (omega (arith, low, behind)) ∙ slice_get-drop from ps k

  -- and then it begins anew
  back : (k : ℕ) → k < from → slice_get (in_round ps from) (length ps - from + k) ≡ slice_get ps k
  back k low = ap (λ (n : ℕ). slice_get (in_round ps from) (n + k)) (sym behind) ∙ (slice_get-right (drop from ps) (take from ps) k ∙ slice_get-take from ps k low)

  -- what is at a place comes as the n-th
  pub at_place : (place nth : ℕ) → place < length ps → IsNth (length ps) from place nth → slice_get (in_round ps from) nth ≡ slice_get ps place
  at_place place nth low is = go (nat_lt place from) refl is
    where
      go : (t : Bool) → nat_lt place from ≡ t → MatchBool t (nth ≡ length ps - from + place) (nth ≡ place - from) →
          slice_get (in_round ps from) nth ≡ slice_get ps place
      go true h is = ap (slice_get (in_round ps from)) is ∙ back place (grind (arith, nat_tests, h))
      go false h is =
          let up : from ≤ place = grind (arith, nat_tests, h) in
          ap (slice_get (in_round ps from)) is ∙ (front (place - from) (omega (arith, low, up)) ∙ ap (slice_get ps) (omega (arith, up)))

  -- so it comes below as many as there are
  pub nth_low : (place nth : ℕ) → place < length ps → IsNth (length ps) from place nth → nth < length ps
  nth_low place nth low is = go (nat_lt place from) refl is
    where
      go : (t : Bool) → nat_lt place from ≡ t → MatchBool t (nth ≡ length ps - from + place) (nth ≡ place - from) → nth < length ps
      go true h is = let less : place < from = grind (arith, nat_tests, h) in omega (arith, is, less, within)
      go false h is = let up : from ≤ place = grind (arith, nat_tests, h) in omega (arith, is, up, low)

  -- the number as which a place comes
  nth_of : (place : ℕ) → place < length ps → (nth : ℕ) × IsNth (length ps) from place nth
  nth_of place low = go (nat_lt place from)
    where
      go : (t : Bool) → (nth : ℕ) × MatchBool t (nth ≡ length ps - from + place) (nth ≡ place - from)
      go true = (length ps - from + place, refl)
      go false = (place - from, refl)

  -- each place before another one comes before it
  comes_before : (place nth k n : ℕ) → place < length ps → k < length ps → IsNth (length ps) from place nth → IsNth (length ps) from k n →
      ComesBefore from k place → n < nth
  comes_before place nth k n low here is of before = go (nat_lt place from) (nat_lt k from) refl refl is of before
    where
      go : (t u : Bool) → nat_lt place from ≡ t → nat_lt k from ≡ u → MatchBool t (nth ≡ length ps - from + place) (nth ≡ place - from) →
          MatchBool u (n ≡ length ps - from + k) (n ≡ k - from) → MatchBool t ((k < place) ⊎ (from ≤ k)) ((from ≤ k) × (k < place)) → n < nth
      go true true h l is of (inl less) = omega (arith, is, of, less)
      go true true h l is of (inr up) = let low : k < from = grind (arith, nat_tests, l) in absurd (omega (arith, low, up))
      go true false h l is of before = let up : from ≤ k = grind (arith, nat_tests, l) in omega (arith, is, of, up, here)
      go false true h l is of before = let low : k < from = grind (arith, nat_tests, l) in absurd (omega (arith, low, before.0))
      go false false h l is of before = omega (arith, is, of, before.0, before.1)

  -- what comes as the n-th is at some place
  pub of_nth : (nth : ℕ) (p : PortalValue) → slice_get (in_round ps from) nth ≡ Some p →
      (place : ℕ) × (place < length ps) × IsNth (length ps) from place nth × (slice_get ps place ≡ Some p)
  of_nth nth p is = elim (cases_lt nth (length ps - from)) [
    | inl less ↦
        let place = from + nth in
        let low : place < length ps = omega (arith, less) in
        (place, low, unbegun (nat_lt place from) refl, sym (front nth less) ∙ is)
    | inr up ↦ anew (nth - (length ps - from)) (omega (arith, up)) is
  ]
    where
      unbegun : (t : Bool) → nat_lt (from + nth) from ≡ t → MatchBool t (nth ≡ length ps - from + (from + nth)) (nth ≡ from + nth - from)
      unbegun true h = let low : from + nth < from = grind (arith, nat_tests, h) in absurd (omega (arith, low))
      unbegun false h = omega arith

      anew : (k : ℕ) → nth ≡ length ps - from + k → slice_get (in_round ps from) nth ≡ Some p →
          (place : ℕ) × (place < length ps) × IsNth (length ps) from place nth × (slice_get ps place ≡ Some p)
      anew k e is = elim (cases_lt k from) [
        | inl low ↦ (k, omega (arith, low, within), begun low (nat_lt k from) refl, sym (back k low) ∙ (ap (slice_get (in_round ps from)) (sym e) ∙ is))
        | inr up ↦ absurd (outside up)
      ]
        where
          begun : k < from → (t : Bool) → nat_lt k from ≡ t → MatchBool t (nth ≡ length ps - from + k) (nth ≡ k - from)
          begun low true h = e
          begun low false h = let up : from ≤ k = grind (arith, nat_tests, h) in absurd (omega (arith, low, up))

          outside : from ≤ k → ⊥
          outside up = omega (arith, slice_get_within (in_round ps from) nth p is, round_length, e, up, within)

  -- one that is at no two places comes nowhere before its own number
  pub first_in_round : AreOnce ps → (place nth least : ℕ) (q : PortalValue) → slice_get ps place ≡ Some q → IsNth (length ps) from place nth → least ≤ nth →
      EachBefore (in_round ps from) least (λ p. p ≢ q)
  first_in_round once place nth least q here is le k p low at same =
      let t = of_nth k p at in
      let one = once t.0 place q (t.3 ∙ ap Some same) here in
      omega (arith, low, le, nth_is (length ps) from place k nth (subst (λ (x : ℕ). IsNth (length ps) from x k) one t.2) is)

  -- the first in the round where a get finds something is the first from the place on
  pub first_from : (t : TableName) (nth place : ℕ) → nth < length ps → place < length ps → IsNth (length ps) from place nth →
      IsThere (in_round ps from) nth (Finds t true) → EachBefore (in_round ps from) nth (Finds t false) → IsFirstFrom t ps from place
  first_from t nth place low inside is there before = (
    (there.0, sym (at_place place nth inside is) ∙ there.1, there.2),
    λ k p comes here.
        let within = slice_get_within ps k p here in
        let n = nth_of k within in
        before n.0 p (comes_before place nth k n.0 inside within is n.1 comes) (at_place k n.0 within n.1 ∙ here),
  )

  -- a get at each in the round finds nothing
  pub none_in_round : (t : TableName) → EachBefore (in_round ps from) (length ps) (Finds t false) → EachBefore ps (length ps) (Finds t false)
  none_in_round t before k p low here =
      let n = nth_of k low in
      before n.0 p (nth_low k n.0 low n.1) (at_place k n.0 low n.1 ∙ here)

-- a round that is to begin behind the last place begins at the first
first_begun : (t : TableName) (ps : List PortalValue) (from place : ℕ) → IsFirstFrom t ps (if nat_lt from (length ps) then from else 0) place →
    IsFirstFrom t ps from place
first_begun t ps from place = go (nat_lt from (length ps)) refl
  where
    at_first : (k : ℕ) → k < place → (b : Bool) → MatchBool b ((k < place) ⊎ (0 ≤ k)) ((0 ≤ k) × (k < place))
    at_first k less true = inl less
    at_first k less false = (omega arith, less)

    less : (k : ℕ) → k < from → (b : Bool) → MatchBool b ((k < place) ⊎ (from ≤ k)) ((from ≤ k) × (k < place)) → k < place
    less k low true (inl below) = below
    less k low true (inr up) = absurd (omega (arith, low, up))
    less k low false comes = comes.1

    go : (b : Bool) → nat_lt from (length ps) ≡ b → IsFirstFrom t ps (if b then from else 0) place → IsFirstFrom t ps from place
    go true h first = first
    go false h first = (
      first.0,
      λ k p comes here.
          let past : length ps ≤ from = grind (arith, nat_tests, h) in
          let low : k < from = omega (arith, slice_get_within ps k p here, past) in
          first.1 k p (at_first k (less k low (nat_lt place from) comes) (nat_lt place 0)) here,
    )

pub if_ok_begun : {E : Type 0} (t : TableName) (ps : List PortalValue) (from begin : ℕ) (answer : Result ℕ E) →
    begin ≡ (if nat_lt from (length ps) then from else 0) → IfOk answer (IsFirstFrom t ps begin) → IfOk answer (IsFirstFrom t ps from)
if_ok_begun t ps from begin (Ok place) is first = first_begun t ps from place (subst (λ (n : ℕ). IsFirstFrom t ps n place) is first)
if_ok_begun t ps from begin (Err why) is first = tt

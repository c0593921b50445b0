-- What a list of numbers is without the first that is this one.
use Rattle.std.specs.Prelude.{◌≡◌, ◌<◌, ◌+◌, ◌++◌, ℕ, true, List, ◌∷◌, length, take, drop}
use Rattle.std.proofs.Common.{ap, sym, subst, ◌∙◌}
use Rattle.ipcz_rule.specs.Rule.{has_number, without_number}
use Rattle.ipcz_cell.specs.Cells.{AreOnce, AreBelow, place_in}
use Rattle.ipcz_cell.proofs.Onces.{without_split, once_split, below_split, split_at}

module _ (xs seen now then : List ℕ) (to place : ℕ) (has : has_number then to ≡ true) (view : xs ≡ then) (look : seen ≡ xs) (at : place ≡ place_in seen to) (by : now ≡ take place xs ++ drop (place + 1) xs) (once : AreOnce xs) where
  has_here : has_number xs to ≡ true
  has_here = subst (λ (l : List ℕ). has_number l to ≡ true) (sym view) has

  here : place ≡ place_in xs to
  here = at ∙ ap (λ (l : List ℕ). place_in l to) look

  split : (xs ≡ take (place_in xs to) xs ++ to ∷ drop (place + 1) xs) × (length (take (place_in xs to) xs) ≡ place_in xs to) × (place_in xs to < length xs)
  split = split_at xs to (place + 1) has_here (ap (λ (k : ℕ). k + 1) here)

  is : now ≡ take (place_in xs to) xs ++ drop (place + 1) xs
  is = by ∙ ap (λ (k : ℕ). take k xs ++ drop (place + 1) xs) here

  pub taken_once : AreOnce now
  taken_once = subst AreOnce (sym is) (once_split (take (place_in xs to) xs) (drop (place + 1) xs) to (subst AreOnce split.0 once))

  pub taken_below : AreBelow 64 xs → AreBelow 64 now
  taken_below low = subst (AreBelow 64) (sym is) (below_split 64 (take (place_in xs to) xs) (drop (place + 1) xs) to (subst (AreBelow 64) split.0 low))

  pub taken_without : now ≡ without_number then to
  taken_without = is ∙ (sym (without_split (take (place_in xs to) xs) (drop (place + 1) xs) to (subst AreOnce split.0 once)) ∙ ap (λ (l : List ℕ). without_number l to) (sym split.0 ∙ view))

  pub taken_place : (before : List ℕ) × (after : List ℕ) × (then ≡ before ++ to ∷ after) × (now ≡ before ++ after) × (place ≡ length before)
  taken_place = (take (place_in xs to) xs, drop (place + 1) xs, sym view ∙ split.0, is, here ∙ sym split.1)

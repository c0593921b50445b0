-- Two texts that are compared.
use Rattle.std.specs.Prelude.{◌≡◌, ◌≢◌, ℕ, Bool, true, false, List, MatchBool}
use Rattle.std.proofs.Common.{eqb}
use Rattle.std.specs.Cmp.Lexicographic.{other_text, pointwise, same_text}

pub decided : (xs ys : List ℕ) (same : Bool) → same ≡ pointwise eqb xs ys → MatchBool same (xs ≡ ys) (xs ≢ ys)
decided xs ys true h = same_text xs ys h
decided xs ys false h = other_text xs ys h

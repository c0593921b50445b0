-- A fault is told within the text, or at its end.
use Rattle.std.proofs.Common.{◌≤◌, ◌⊎◌, inl, inr, arith, length, List, ℕ}
use Rattle.ipcz_places.specs.declared.broken.Broken.{Broken}
use Rattle.ipcz_places.specs.declared.broken.Broken.TheVariants as broken
use Rattle.ipcz_places.specs.Faults.{Grounds, StandsAt}

one_within : (text : List ℕ) (at a b : ℕ) → StandsAt text at a ⊎ StandsAt text at b → at ≤ length text
one_within text at a b (inl g) = omega (arith, g.0)
one_within text at a b (inr g) = omega (arith, g.0)

pub grounds_within : (text : List ℕ) (at : ℕ) (why : Broken) → Grounds text at why → at ≤ length text
grounds_within text at broken.Mark g = omega (arith, g.0)
grounds_within text at broken.Empty g = omega (arith, g)
grounds_within text at (broken.Cut bracket) g = omega (arith, g.0)
grounds_within text at broken.Behind g = omega (arith, g.0)
grounds_within text at (broken.Unmatched bracket) g = one_within text at 93 125 g.0
grounds_within text at (broken.NoComma bracket) g = omega (arith, g.0.0)
grounds_within text at broken.NoColon g = omega (arith, g.0)
grounds_within text at broken.NoMember g = omega (arith, g.0)
grounds_within text at broken.NoValue g = omega (arith, g.0)
grounds_within text at broken.TooDeep g = one_within text at 91 123 g
grounds_within text at broken.LargeNumber g = omega (arith, g.0)
grounds_within text at broken.OpenText g = omega (arith, g.0)
grounds_within text at broken.OpenLine g = omega (arith, g.0)
grounds_within text at broken.Control g = omega (arith, g.0)
grounds_within text at broken.Escape g = omega (arith, g.0)
grounds_within text at broken.Digits g = omega (arith, g.0)
grounds_within text at broken.Surrogate g = omega (arith, g.0)
grounds_within text at broken.Utf8 g = omega (arith, g.0)

-- What each item of a list gives, gathered one after the other.
use Rattle.std.specs.Prelude.{List, ◌++◌, Option, option_map}

-- a list behind another, if it is there
abbrev pub behind : {Y : Type 0} → List Y → Option (List Y) → Option (List Y)
behind before o = option_map (λ ys. before ++ ys) o

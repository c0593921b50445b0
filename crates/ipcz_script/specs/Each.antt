-- What each item of a list gives, if each gives something.
use Rattle.std.specs.Prelude.{List, [], ◌∷◌, Option, Some, option_and_then, option_map}

abbrev pub each_of : {X Y : Type 0} → (X → Option Y) → List X → Option (List Y)
each_of f [] = Some []
each_of f (x ∷ xs) = option_and_then (λ y. option_map (λ ys. y ∷ ys) (each_of f xs)) (f x)

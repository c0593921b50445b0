-- The ends that the names of a script are bound to, and the names that its ends have.
use Rattle.std.specs.Prelude.{◌+◌, ◌++◌, ℕ, Option, List, [], ◌∷◌, codes}
use Rattle.std.specs.Fmt.{decimal}
use Rattle.std.specs.FinMap.{get, insert, empty}
use Rattle.ipcz_base.specs.declared.side.Side.TheVariants.{A, B}
use Rattle.ipcz_base.specs.declared.end.End.{End}
use Rattle.ipcz_base.specs.Ends.{end_at}
use Rattle.ipcz_node.specs.FirstPairs.{first_pairs}
use Rattle.ipcz_script.specs.Bindings.{Bindings, Titles}
use Rattle.ipcz_script.specs.Each.{each_of}

pub record Labels : Type 0 where
  pub names : Bindings
  pub titles : Titles

-- the labels with a name bound to an end
abbrev pub bind : Labels → List ℕ → End → Labels
bind l name end = record { names = insert l.names name end; titles = insert l.titles end name }

-- the name of a first pair's end on the first of two nodes, as 0>1
abbrev pub pair_name : ℕ → ℕ → List ℕ
pair_name i j = decimal i ++ codes ">" ++ decimal j

-- the labels with the names of a first pair
abbrev pub bind_pair : Labels → ℕ → ℕ → ℕ → Labels
bind_pair l pair i j = bind (bind l (pair_name i j) (end_at pair A)) (pair_name j i) (end_at pair B)

-- the labels with the names of these first pairs, numbered from a number on
abbrev pub bind_pairs : Labels → ℕ → List (ℕ × ℕ) → Labels
bind_pairs l pair [] = l
bind_pairs l pair (p ∷ ps) = bind_pairs (bind_pair l pair p.0 p.1) (pair + 1) ps

-- the labels before the first command
abbrev pub first_labels : ℕ → Labels
first_labels nodes = bind_pairs (record { names = empty; titles = empty }) 0 (first_pairs nodes)

-- the ends that these names are bound to, if each is bound
abbrev pub ends_of : Labels → List (List ℕ) → Option (List End)
ends_of l attached = each_of (get l.names) attached

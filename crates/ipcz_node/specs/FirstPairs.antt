-- The first pairs: one for each two nodes, numbered in the order of their nodes; and a node at the start, with its ends of them.
-- (This project's own: ipcz's nodes are joined by ConnectNode, which gives the first portals.)
use Rattle.std.specs.Prelude.{◌≡◌, ◌<◌, ◌≤◌, ℕ, zero, suc, ◌+◌, nat_eq, if◌then◌else◌, List, [], ◌∷◌, ◌++◌, length}
use Rattle.ipcz_base.specs.Limits.{no_number}
use Rattle.ipcz_base.specs.declared.side.Side.TheVariants.{A, B}
use Rattle.ipcz_node.specs.Node.{Node, bare_node, add_end}

-- the pairs of a node with so many nodes from another one on
abbrev pub pairs_from : ℕ → ℕ → ℕ → List (ℕ × ℕ)
pairs_from i j zero = []
pairs_from i j (suc left) = (i, j) ∷ pairs_from i (j + 1) left

-- the two nodes of each first pair, among so many nodes from one on
abbrev pub first_pairs_from : ℕ → ℕ → List (ℕ × ℕ)
first_pairs_from i zero = []
first_pairs_from i (suc left) = pairs_from i (i + 1) left ++ first_pairs_from (i + 1) left

-- the two nodes of each first pair, that of side A first, in the order of the pairs' numbers
abbrev pub first_pairs : ℕ → List (ℕ × ℕ)
first_pairs count = first_pairs_from 0 count

-- how many first pairs so many nodes have
abbrev pub first_pair_count : ℕ → ℕ
first_pair_count count = length (first_pairs count)

-- the node with its end of a pair of nodes, if it has one
abbrev pub add_pair : Node → ℕ → ℕ × ℕ → Node
add_pair n pair p = if nat_eq p.0 n.number then add_end n pair A p.1 else if nat_eq p.1 n.number then add_end n pair B p.0 else n

-- the node with its ends of these pairs, numbered from a number on
abbrev pub add_pairs : Node → ℕ → List (ℕ × ℕ) → Node
add_pairs n pair [] = n
add_pairs n pair (p ∷ ps) = add_pairs (add_pair n pair p) (pair + 1) ps

-- a node has serials for its ends of the pairs of node i with so many nodes from node j on, and of those among so many nodes after node i
pub record HasSerials (n : Node) (i j left rows : ℕ) : Type 0 where
  pub within : n.number < j + left
  -- node i has one end for each of its pairs
  pub lower : n.number ≡ i → n.next_router + left ≤ no_number
  -- a later node has one with each node from node i on but itself
  pub upper : i < n.number → j ≤ n.number → n.next_router + rows ≤ no_number
  -- or from the node after node i on
  pub later : i < n.number → n.number < j → n.next_router + rows ≤ no_number + 1

-- a node without routers, whose serials are counted from the first one on
abbrev pub bare_from : ℕ → ℕ → ℕ → Node
bare_from number count first = record (bare_node number count) { next_router = first; next_peripheral = first }

-- a node at the start whose serials are counted from the first one on
abbrev pub new_node_from : ℕ → ℕ → ℕ → Node
new_node_from number count first = add_pairs (bare_from number count first) 0 (first_pairs count)

-- a node at the start
unfoldable pub new_node : ℕ → ℕ → Node
new_node number count = new_node_from number count 0

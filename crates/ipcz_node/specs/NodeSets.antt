-- Sets of nodes.
use Rattle.std.specs.Prelude.{◌≡◌, ◌<◌, ℕ, Bool, ◌&&◌, not, nat_eq, nat_lt, List, [], length}
use Rattle.std.specs.Int.{bit_at}
use Rattle.ipcz_base.specs.Indexed.{place_at}
use Rattle.ipcz_base.specs.declared.message.Message.{Message}
use Rattle.ipcz_node.specs.declared.node_set.NodeSet.{NodeSet}

-- the set without a node
abbrev pub no_nodes : NodeSet
no_nodes = record { bits = 0 }

-- whether a node is in a set: it is below 64, and its bit says so
abbrev pub has_node : NodeSet → ℕ → Bool
has_node s n = nat_lt n 64 && nat_eq (bit_at s.bits n) 1

-- a set has the nodes below 64 for which messages wait
abbrev pub AreWithMail : NodeSet → List (List Message) → Type 0
AreWithMail s boxes = (n : ℕ) → n < 64 → has_node s n ≡ not (nat_eq (length (place_at [] boxes n)) 0)

-- What an act of a node gives up of the link words, as the node stands before it.
use Rattle.std.specs.Prelude.{◌≡◌, ℕ, Option, Some, None}
use Rattle.ipcz_base.specs.declared.side.Side.{Side}
use Rattle.ipcz_router.specs.Router.{Router}
use Rattle.ipcz_router.specs.LettingGo.{let_go_end}
use Rattle.ipcz_node.specs.declared.act.Act.{Act}
use Rattle.ipcz_node.specs.declared.act.Act.TheVariants as acts
use Rattle.ipcz_node.specs.Node.{Node, router_in}

-- the act gives up this end of a word, or none
abbrev pub GivesEnd : Node → Act → Option (ℕ × Side) → Type 0
GivesEnd x (acts.Router serial act) end = (r : Router) → router_in x serial ≡ Some r → let_go_end r act ≡ end
GivesEnd x other end = end ≡ None

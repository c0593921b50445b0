-- What an act gives up of the link words, where slots are used again.
use Rattle.std.specs.Prelude.{◌≡◌, Bool, true, Some, None, MatchOption}
use Rattle.ipcz_router.specs.Router.{Router}
use Rattle.ipcz_router.specs.LettingGo.{let_go_end, let_go_spare}
use Rattle.ipcz_router.specs.declared.act.RouterAct.{RouterAct}
use Rattle.ipcz_node.specs.declared.act.Act.{Act}
use Rattle.ipcz_node.specs.declared.act.Act.TheVariants.{Router as OfRouter}
use Rattle.ipcz_node.specs.Node.{Node, router_in}
use Rattle.ipcz_cell.specs.declared.letting.GivenUp.{GivenUp}
use Rattle.ipcz_cell.specs.declared.letting.GivenUp.TheVariants as given

-- a router gives this up by an act: no end of a word, an end, or an end and a spare
abbrev pub RouterGives : Router → RouterAct → GivenUp → Type 0
RouterGives r act given.Nothing = let_go_end r act ≡ None
RouterGives r act (given.End i s) = (let_go_end r act ≡ Some (i, s)) × (let_go_spare r act ≡ None)
RouterGives r act (given.EndAndSpare i s j) = (let_go_end r act ≡ Some (i, s)) × (let_go_spare r act ≡ Some j)

-- an act of a node gives this up, as the node stands before it: what its router gives up, and nothing if that isn't there; where slots aren't used again, nothing is told
abbrev pub GivesUp : (reuses : Bool) → Node → Act → GivenUp → Type 0
GivesUp true x (OfRouter serial act) what = MatchOption (router_in x serial) (what ≡ given.Nothing) (λ r. RouterGives r act what)
GivesUp reuses x act what = what ≡ given.Nothing

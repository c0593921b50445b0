-- What a router gives up by an act: an end of a link word, and the word that it has claimed and not used.
-- (This project's own: ipcz gives a link state back to its memory when the last router lets it go.)
use Rattle.std.specs.Prelude.{ℕ, if◌then◌else◌, Option, Some, None, option_map}
use Rattle.ipcz_base.specs.declared.side.Side.{Side}
use Rattle.ipcz_base.specs.declared.link_end.LinkEnd.{LinkEnd}
use Rattle.ipcz_base.specs.Links.{word_of}
use Rattle.ipcz_edge.specs.Edge.{Edge}
use Rattle.ipcz_router.specs.Router.{Router}
use Rattle.ipcz_router.specs.ActEffects.{leaves_by}
use Rattle.ipcz_router.specs.declared.act.RouterAct.{RouterAct}
use Rattle.ipcz_router.specs.declared.act.RouterAct.TheVariants.{FinishOut}

-- the end of a word that a link end is, if there is one and its link is central
unfoldable pub word_end : Option LinkEnd → Option (ℕ × Side)
word_end None = None
word_end (Some e) = option_map (λ i. (i, e.side)) (word_of (Some e))

-- the first of two, if there is one
unfoldable pub first_of : Option (ℕ × Side) → Option (ℕ × Side) → Option (ℕ × Side)
first_of None second = second
first_of (Some e) second = Some e

-- the end of a word by which an edge stands on a central link: by its primary link, else by its decaying one
abbrev pub edge_end : Edge → Option (ℕ × Side)
edge_end e = first_of (word_end e.primary) (word_end e.decaying)

-- the end of a word that a router gives up by an act: that of the decaying outward link which the act finishes, or of the outward edge with which
-- the router leaves its node
unfoldable pub let_go_end : Router → RouterAct → Option (ℕ × Side)
let_go_end r FinishOut = word_end r.outward.decaying
let_go_end r act = if leaves_by r act then edge_end r.outward else None

-- the word that it has claimed for a bypass, and gives up unused as it leaves its node
abbrev pub let_go_spare : Router → RouterAct → Option ℕ
let_go_spare r act = if leaves_by r act then r.spare else None

-- Ends as C names them.
use Rattle.std.specs.Prelude.{if◌then◌else◌, List, map}
use Rattle.ipcz_base.specs.declared.end.End.{End}
use Rattle.ipcz_base.specs.declared.side.Side.TheVariants.{A, B}
use Rattle.ipcz_c.specs.declared.portal.Portal.{Portal}

-- the end that C names by its pair and whether it is of side B
abbrev pub named : Portal → End
named p = record { pair = p.pair; side = if p.side_b then B else A }

-- the ends of these portals
abbrev pub ends_of : List Portal → List End
ends_of portals = map named portals

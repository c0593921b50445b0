use Rattle.std.proofs.Common.{◌≡◌, take}
use Rattle.ipcz_c.specs.Named.{ends_of}
use Rattle.ipcz_c.proofs.portal.ends_of.Given as goal

-- the ends of the portals so far
abbrev pub invariant-loop-portal : goal.invariant-loop-portal
invariant-loop-portal l = l.ends.items ≡ ends_of (take l.portal-index l.portals)

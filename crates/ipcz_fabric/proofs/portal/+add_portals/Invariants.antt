use Rattle.ipcz_fabric.proofs.portal.+add_portals.Given as goal

abbrev pub decreases-add_portals : goal.decreases-add_portals
decreases-add_portals g l = l.left

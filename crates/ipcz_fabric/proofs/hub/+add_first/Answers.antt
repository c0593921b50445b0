use Rattle.ipcz_fabric.proofs.Holding.{first_walked}
use Rattle.ipcz_fabric.proofs.hub.+add_first.Goals as goal

pub returns-in_ok-add_held-in-len1-up : goal.returns-in_ok-add_held-in-len1-up
returns-in_ok-add_held-in-len1-up g t c =
    first_walked c.add_first.result c.args.cells.now c.cell-item.result c.args.portals.now.items c.add_held.new.portals.items c.add_first.new.portals.items
    c.in-len1-up.len_at_least c.cell-item.is c.in_ok-add_held-in-len1-up.ensures c.add_first.ensures

use Rattle.std.specs.Prelude.{None}
use Rattle.ipcz_router.specs.declared.act.RouterAct.TheVariants as router_acts
use Rattle.ipcz_cell.specs.Outcomes.{worded, always}
use Rattle.ipcz_cell.proofs.cell.NodeCell.word_unlock.Given as goal

abbrev pub ghosts-unlock_here : goal.ghosts-unlock_here
ghosts-unlock_here g a = record { tells = worded a.i a.serial a.side None router_acts.Unlock always }

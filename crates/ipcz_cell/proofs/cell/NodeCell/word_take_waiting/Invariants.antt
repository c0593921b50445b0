use Rattle.std.specs.Prelude.{None}
use Rattle.ipcz_router.specs.declared.act.RouterAct.TheVariants as router_acts
use Rattle.ipcz_cell.specs.Outcomes.{worded, always}
use Rattle.ipcz_cell.proofs.cell.NodeCell.word_take_waiting.Given as goal

abbrev pub ghosts-wake_here : goal.ghosts-wake_here
ghosts-wake_here g a = record { tells = worded a.i a.serial a.side None router_acts.Wake always }

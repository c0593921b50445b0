use Rattle.std.specs.Prelude.{None}
use Rattle.ipcz_router.specs.declared.act.RouterAct.TheVariants as router_acts
use Rattle.ipcz_cell.specs.Outcomes.{worded, always}
use Rattle.ipcz_cell.proofs.cell.NodeCell.word_mark.Given as goal

abbrev pub ghosts-mark_here : goal.ghosts-mark_here
ghosts-mark_here g a = record { tells = worded a.i a.serial a.side None router_acts.Mark always }

use Rattle.std.specs.Prelude.{eqb}
use Rattle.ipcz_router.specs.declared.act.RouterAct.TheVariants as router_acts
use Rattle.ipcz_cell.specs.Outcomes.{worded, is_refused_at}
use Rattle.ipcz_cell.proofs.cell.NodeCell.lock_word.Given as goal

abbrev pub ghosts-status_here : goal.ghosts-status_here
ghosts-status_here g a = record { tells = worded a.i a.serial a.side a.source router_acts.Lock (is_refused_at a.side) }

abbrev pub ghosts-lock_here : goal.ghosts-lock_here
ghosts-lock_here g a = record { tells = worded a.i a.serial a.side a.source router_acts.Lock (λ n. eqb n a.found) }

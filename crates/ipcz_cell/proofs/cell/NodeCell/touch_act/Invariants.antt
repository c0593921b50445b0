use Rattle.ipcz_router.specs.declared.act.Answer.TheVariants as answers
use Rattle.ipcz_cell.specs.Outcomes.{touched}
use Rattle.ipcz_rule.specs.Steps.{act_part}
use Rattle.ipcz_cell.proofs.cell.NodeCell.touch_act.Given as goal

abbrev pub ghosts-act_here : goal.ghosts-act_here
ghosts-act_here g a = record { tells = touched (act_part a.act answers.Plain) }

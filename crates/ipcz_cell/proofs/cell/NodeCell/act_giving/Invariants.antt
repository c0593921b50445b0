use Rattle.ipcz_node.specs.declared.act.Act.TheVariants as acts
use Rattle.ipcz_router.specs.declared.act.Answer.TheVariants as answers
use Rattle.ipcz_cell.specs.Outcomes.{touched}
use Rattle.ipcz_rule.specs.Steps.{act_part}
use Rattle.ipcz_cell.proofs.cell.NodeCell.act_giving.Given as goal

abbrev pub ghosts-plain_here : goal.ghosts-plain_here
ghosts-plain_here g a = record { tells = touched (act_part (acts.Router a.serial a.act) answers.Plain) }

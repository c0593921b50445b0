use Rattle.ipcz_router.specs.declared.act.Answer.TheVariants as answers
use Rattle.ipcz_router.specs.declared.act.RouterAct.TheVariants as router_acts
use Rattle.ipcz_node.specs.declared.act.Act.TheVariants as acts
use Rattle.ipcz_rule.specs.Steps.{act_part}
use Rattle.ipcz_cell.specs.Outcomes.{touched}
use Rattle.ipcz_cell.specs.Claims.{counted, claimed}
use Rattle.ipcz_cell.proofs.cell.NodeCell.word_claim_for.Given as goal

abbrev pub ghosts-count_here : goal.ghosts-count_here
ghosts-count_here g a = record { tells = counted g.F.FabricName.table.size a.serial }

abbrev pub ghosts-dry_here : goal.ghosts-dry_here
ghosts-dry_here g a = record { tells = touched (act_part (acts.Router a.serial router_acts.Claim) answers.NoWord) }

abbrev pub ghosts-claim_here : goal.ghosts-claim_here
ghosts-claim_here g a = record { tells = claimed g.F.FabricName.table.size a.serial a.count a.number }

use Rattle.ipcz_cell.specs.Mails.{slot_of, mail_word}
use Rattle.ipcz_cell.specs.Outcomes.{probed}
use Rattle.ipcz_cell.proofs.cell.NodeCell.mail_probe.Given as goal

abbrev pub ghosts-probe_here : goal.ghosts-probe_here
ghosts-probe_here g a = record { tells = probed (mail_word g.F.FabricName.table a.node a.to) (slot_of g.F.FabricName.table a.node a.to) a.to }

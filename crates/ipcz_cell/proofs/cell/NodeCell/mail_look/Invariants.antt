use Rattle.std.specs.Prelude.{not}
use Rattle.ipcz_cell.specs.Mails.{slot_of, mail_word}
use Rattle.ipcz_cell.specs.Outcomes.{looked}
use Rattle.ipcz_cell.proofs.cell.NodeCell.mail_look.Given as goal

abbrev pub ghosts-look_here : goal.ghosts-look_here
ghosts-look_here g a = record { tells = looked (not g.F.FabricName.table.reuses) (mail_word g.F.FabricName.table a.from a.node) (slot_of g.F.FabricName.table a.from a.node) a.from }

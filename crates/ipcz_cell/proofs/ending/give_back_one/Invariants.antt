use Rattle.ipcz_cell.specs.Mails.{mail_word}
use Rattle.ipcz_cell.specs.Ending.{given_back}
use Rattle.ipcz_cell.proofs.ending.give_back_one.Given as goal

abbrev pub ghosts-give_back : goal.ghosts-give_back
ghosts-give_back g a = record { tells = given_back (mail_word g.F.FabricName.table a.from a.node) }

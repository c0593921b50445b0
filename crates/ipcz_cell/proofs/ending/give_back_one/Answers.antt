use Rattle.ipcz_cell.specs.Mails.{mail_word}
use Rattle.ipcz_cell.specs.Outcomes.{is_itself}
use Rattle.ipcz_cell.specs.Ending.{given_back}
use Rattle.ipcz_cell.proofs.ending.give_back_one.Goals as goal

pub give_back-requires-clause-picked : goal.give_back-requires-clause-picked
give_back-requires-clause-picked g c = is_itself (given_back (mail_word g.F.FabricName.table c.args.from c.args.node))

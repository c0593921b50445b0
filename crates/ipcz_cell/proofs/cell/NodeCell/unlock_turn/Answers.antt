use Rattle.ipcz_cell.proofs.TurnWords.{unlock_acts}
use Rattle.ipcz_cell.proofs.cell.NodeCell.unlock_turn.Goals as goal

pub returns : goal.returns
returns g c = unlock_acts g.F.FabricName.table c.args.serial c.args.self.now c.word_unlock.new.self c.word_unlock.result c.word_link-link.result c.word_link-link.ensures c.word_unlock.ensures

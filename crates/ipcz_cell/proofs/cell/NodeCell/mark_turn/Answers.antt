use Rattle.ipcz_cell.proofs.TurnWords.{mark_acts}
use Rattle.ipcz_cell.proofs.cell.NodeCell.mark_turn.Goals as goal

pub returns : goal.returns
returns g c = mark_acts g.F.FabricName.table c.args.serial c.args.self.now c.word_mark.new.self c.word_mark.result c.word_link-link.result c.word_link-link.ensures c.word_mark.ensures

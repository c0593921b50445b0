use Rattle.ipcz_cell.proofs.TurnWords.{lock_acts}
use Rattle.ipcz_cell.proofs.cell.NodeCell.lock_turn.Goals as goal

pub returns : goal.returns
returns g c = lock_acts g.F.FabricName.table c.args.serial c.args.self.now c.lock_word.new.self c.in_ok-tried.tried c.try_event.result c.in_ok-tried.ensures c.try_event.ensures

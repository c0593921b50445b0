use Rattle.ipcz_cell.proofs.TurnParts.{claim_acts, claim_dries}
use Rattle.ipcz_cell.proofs.cell.NodeCell.claim_turn.Goals as goal

pub returns-in-Ok : goal.returns-in-Ok
returns-in-Ok g c = claim_acts g.F.FabricName.table c.args.serial c.in-Ok.word c.args.self.now c.word_claim_for.new.self c.requires c.in-Ok.ensures

pub returns-in-Err-NoWord : goal.returns-in-Err-NoWord
returns-in-Err-NoWord g c = claim_dries g.F.FabricName.table c.args.serial c.args.self.now c.word_claim_for.new.self _ c.in-Err-NoWord.field-0-is c.requires c.in-Err-NoWord.ensures

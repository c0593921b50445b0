use Rattle.ipcz_node.specs.declared.act.Act.TheVariants.{Router}
use Rattle.ipcz_cell.specs.TurnEnds.{Acts}
use Rattle.ipcz_cell.proofs.GivenUps.{nothing_given}
use Rattle.ipcz_cell.proofs.TurnActs.{plain_acts, told_acts, told_of}
use Rattle.ipcz_cell.proofs.cell.NodeCell.router_turn.Goals as goal

pub act_giving-requires : goal.act_giving-requires
act_giving-requires g c = let plain = plain_acts c.args.act c.in_default.not-Mark c.in_default.not-Wake c.in_default.not-Claim c.in_default.not-Lock c.in_default.not-Begin c.in_default.not-Retire c.in_default.not-Unlock in record { given = nothing_given g.F.FabricName.table.reuses c.args.self.now.part.state c.args.serial c.args.act c.in_default.not-FinishOut c.in_default.not-Discard c.in_default.not-Leave c.in_default.not-Retire; touch = plain.0; possible = c.requires }

pub returns-in_default : goal.returns-in_default
returns-in_default g c =
    let told = c.act_giving.ensures in
    let plain = plain_acts c.args.act c.in_default.not-Mark c.in_default.not-Wake c.in_default.not-Claim c.in_default.not-Lock c.in_default.not-Begin c.in_default.not-Retire c.in_default.not-Unlock in
    told_acts g.T.Told.tells g.F.FabricName.table (Router c.args.serial c.args.act) c.args.self.now c.act_giving.new.self c.act_giving.result plain.0 (plain.1 c.args.serial)
    told.event told.ok told.why told.grows told.full told.err told.seen

pub returns-in-Mark : goal.returns-in-Mark
returns-in-Mark g c =
    told_of g.T.Told.tells (λ done. Acts g.F.FabricName.table (Router c.args.serial c.args.act) c.args.self.now done c.word_turn.new.self) c.word_turn.result c.tell.result c.tell.ensures c.word_turn.ensures

use Rattle.std.specs.Prelude.{◌≡◌}
use Rattle.ipcz_node.specs.declared.act.Act.TheVariants.{Router}
use Rattle.ipcz_node.specs.declared.happened.Happened.{Happened}
use Rattle.ipcz_cell.specs.TurnEnds.{Acts}
use Rattle.ipcz_cell.proofs.TurnActs.{plain_acts, told_acts, told_whole}
use Rattle.ipcz_cell.proofs.cell.NodeCell.word_turn.Goals as goal

pub act_plainly-requires : goal.act_plainly-requires
act_plainly-requires g c = let plain = plain_acts c.args.act c.in_default.not-Mark c.in_default.not-Wake c.in_default.not-Claim c.in_default.not-Lock c.in_default.not-Begin c.in_default.not-Retire c.in_default.not-Unlock in record { touch = plain.0; possible = c.requires }

pub returns-in_default : goal.returns-in_default
returns-in_default g c =
    let t = g.F.FabricName.table in
    let told = c.act_plainly.ensures in
    let plain = plain_acts c.args.act c.in_default.not-Mark c.in_default.not-Wake c.in_default.not-Claim c.in_default.not-Lock c.in_default.not-Begin c.in_default.not-Retire c.in_default.not-Unlock in
    told_whole (λ done. Acts t (Router c.args.serial c.args.act) c.args.self.now done c.act_plainly.new.self) c.act_plainly.result
    (told_acts (λ (event told : Happened). told ≡ event) t (Router c.args.serial c.args.act) c.args.self.now c.act_plainly.new.self c.act_plainly.result plain.0 (plain.1 c.args.serial)
    told.event told.ok told.why told.grows told.full told.err told.seen)

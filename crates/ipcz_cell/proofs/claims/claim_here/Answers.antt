use Rattle.std.proofs.Common.{arith}
use Rattle.ipcz_cell.proofs.NumberClaims.{claim_may}
use Rattle.ipcz_cell.proofs.claims.claim_here.Goals as goal

pub claim_step-requires-clause-may : goal.claim_step-requires-clause-may
claim_step-requires-clause-may g c =
    let laid = c.fabric.invariant.5 in
    let few = laid.limits.words in
    claim_may g.F.FabricName.table _ c.args.count c.args.number c.args.serial _ _ c.requires.picked laid (omega (arith, few)) c.requires.whole c.requires.can c.requires.number c.requires.slot

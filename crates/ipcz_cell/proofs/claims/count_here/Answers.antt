use Rattle.std.proofs.Common.{◌≡◌, ◌+◌, arith}
use Rattle.ipcz_cell.proofs.Counting.{count_may}
use Rattle.ipcz_cell.proofs.claims.count_here.Goals as goal

pub load_step-requires-clause-may : goal.load_step-requires-clause-may
load_step-requires-clause-may g c =
    let t = g.F.FabricName.table in
    let at : t.size ≡ t.size + 0 = omega arith in
    count_may t _ _ c.args.serial _ _ c.requires.picked c.requires.whole c.requires.can at

use Rattle.std.proofs.Common.{◌≡◌, ◌+◌, ℕ, subst, arith}
use Rattle.ipcz_cell.specs.Seats.{mine_of, Keeps}
use Rattle.ipcz_cell.proofs.cell.touch.Goals as goal

pub load_step-requires-clause-may : goal.load_step-requires-clause-may
load_step-requires-clause-may g c =
    let t = g.F.FabricName.table in
    let same : t.size + 1 + c.args.node ≡ t.size + (1 + c.args.node) = omega arith in
    subst (λ (i : ℕ). Keeps t.reuses t.count t.size t.id.slots c.args.seat.now.id (mine_of c.args.seat.now.me) i (λ n. n) (g.X.Outcome.tells (mine_of c.args.seat.now.me))) same c.requires.may

use Rattle.std.proofs.Common.{ap, ◌∙◌}
use Rattle.std.specs.FinSet as sets
use Rattle.ipcz_node.proofs.Held.{listed_fewer}
use Rattle.ipcz_node.proofs.held_ends.HeldEnds.remove.Goals as goal

pub returns-clause-ends : goal.returns-clause-ends
returns-clause-ends c = listed_fewer c.self.inside.ends.members _ c.args.end c.remove.ensures.members ∙
    ap (λ v. sets.remove v.ends c.args.end) c.self.view_is

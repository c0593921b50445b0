use Rattle.std.proofs.Common.{ap, ◌∙◌}
use Rattle.std.specs.FinSet as sets
use Rattle.ipcz_node.proofs.Held.{listed_more}
use Rattle.ipcz_node.proofs.held_ends.HeldEnds.insert.Goals as goal

pub returns-clause-ends : goal.returns-clause-ends
returns-clause-ends c = listed_more c.self.inside.ends.members _ c.args.end c.insert.ensures.members ∙
    ap (λ v. sets.insert v.ends c.args.end) c.self.view_is

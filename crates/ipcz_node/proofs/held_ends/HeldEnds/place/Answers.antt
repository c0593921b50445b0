use Rattle.std.proofs.Common.{ap, ◌∙◌}
use Rattle.std.specs.FinSet as sets
use Rattle.ipcz_node.proofs.Held.{contains_is}
use Rattle.ipcz_node.proofs.held_ends.HeldEnds.place.Goals as goal

pub returns : goal.returns
returns c = c.place.ensures.there ∙ contains_is c.self.inside.ends.members c.args.end ∙
    ap (λ v. sets.contains v.ends c.args.end) c.self.view_is

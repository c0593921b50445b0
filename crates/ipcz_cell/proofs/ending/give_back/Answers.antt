use Rattle.std.proofs.Common.{◌+◌, ℕ, ap, ◌∙◌}
use Rattle.ipcz_cell.proofs.Resting.{give_back-may}
use Rattle.ipcz_cell.proofs.ending.give_back.Goals as goal

pub load_step-requires-clause-may : goal.load_step-requires-clause-may
load_step-requires-clause-may g c =
    let t = g.F.FabricName.table in
    give_back-may t _ _ _ c.args.node c.args.from _ c.requires.slot.0 g.X.Outcome.tells c.requires.picked c.requires.whole c.requires.node.0 c.requires.from.0 c.requires.from.1 c.requires.slot.1
    (c.place_of-place.ensures.word ∙ ap (λ (k : ℕ). t.size + 1 + t.count + k) c.slot_of.ensures.slot)

use Rattle.std.proofs.Common.{◌+◌, ℕ, ap, ◌∙◌}
use Rattle.ipcz_cell.proofs.Resting.{unprobe-may}
use Rattle.ipcz_cell.proofs.ending.unprobe.Goals as goal

pub store_step-requires-clause-may : goal.store_step-requires-clause-may
store_step-requires-clause-may g c =
    let t = g.F.FabricName.table in
    unprobe-may t _ _ _ c.args.node c.args.to _ g.X.Outcome.tells c.requires.picked c.requires.whole c.requires.node.0 c.requires.to.0 c.requires.to.1 c.requires.slot
    (c.place_of-place.ensures.word ∙ ap (λ (k : ℕ). t.size + 1 + t.count + k) c.slot_of.ensures.slot)

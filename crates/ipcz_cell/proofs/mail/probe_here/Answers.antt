use Rattle.std.proofs.Common.{◌+◌, ℕ, ap, sym, ◌∙◌}
use Rattle.ipcz_cell.proofs.Mailing.{probe_may}
use Rattle.ipcz_cell.proofs.mail.probe_here.Goals as goal

pub exchange_step-requires-clause-may : goal.exchange_step-requires-clause-may
exchange_step-requires-clause-may g c =
    let t = g.F.FabricName.table in
    probe_may t _ _ _ c.args.node c.args.to _ c.requires.picked c.requires.whole c.requires.node.0 c.requires.to
    (sym (c.place_of-place.ensures.word ∙ ap (λ (k : ℕ). t.size + 1 + t.count + k) c.slot_of-slot.ensures.slot))

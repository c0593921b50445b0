use Rattle.std.proofs.Common.{◌+◌, ℕ, ap, sym, ◌∙◌}
use Rattle.ipcz_cell.specs.Seats.{mine_of}
use Rattle.ipcz_cell.proofs.Mailing.{hand_may_after}
use Rattle.ipcz_cell.proofs.mail.hand_here.Goals as goal

pub store_step-requires-clause-may : goal.store_step-requires-clause-may
store_step-requires-clause-may g c =
    let t = g.F.FabricName.table in
    hand_may_after t _ _ (mine_of c.args.seat.now.me) (mine_of c.clear.new.seat.me) c.args.node c.args.from c.args.source _ c.requires.picked c.clear.ensures.part c.clear.ensures.held c.requires.whole c.requires.node.0 c.requires.hand c.requires.message.0 c.requires.message.1 c.requires.message.2 c.requires.message.3 c.requires.spent c.requires.slot
    (sym (c.place_of-place.ensures.word ∙ ap (λ (k : ℕ). t.size + 1 + t.count + k) c.slot_of-slot.ensures.slot))

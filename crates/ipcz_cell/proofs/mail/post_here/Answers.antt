use Rattle.std.proofs.Common.{◌+◌, ℕ, ap, sym, subst, ◌∙◌, refl}
use Rattle.ipcz_rule.specs.Rule.{announcing}
use Rattle.ipcz_rule.specs.Batches.{BatchMine}
use Rattle.ipcz_cell.specs.Seats.{Keeps}
use Rattle.ipcz_cell.proofs.Mailing.{post_may}
use Rattle.ipcz_cell.proofs.mail.post_here.Goals as goal

pub store_step-requires-clause-may : goal.store_step-requires-clause-may
store_step-requires-clause-may g c =
    let t = g.F.FabricName.table in
    let seat = c.args.seat.now in
    subst (λ (m : BatchMine). Keeps t.reuses t.count t.size t.id.slots c.announce.new.seat.id m (t.size + c.place_of-place.result) (λ _. 1) (λ _. g.X.Outcome.tells m 1)) (sym c.announce.ensures.done)
    (post_may t c.announce.new.seat.id (t.size + c.place_of-place.result) (announcing c.args.to seat.me.0.view, seat.me.1) c.args.node c.args.to _ c.requires.picked c.requires.whole c.requires.node.0 c.requires.to c.requires.probed refl c.requires.mail c.requires.slot
    (sym (c.place_of-place.ensures.word ∙ ap (λ (k : ℕ). t.size + 1 + t.count + k) c.slot_of-slot.ensures.slot)))

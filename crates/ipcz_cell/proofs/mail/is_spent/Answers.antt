use Rattle.std.specs.Prelude.{nat_eq}
use Rattle.std.proofs.Common.{length, ap, sym, ◌∙◌}
use Rattle.ipcz_rule.specs.Batches.{Batch}
use Rattle.ipcz_cell.proofs.LeftSlots.{same_slot}
use Rattle.ipcz_cell.proofs.mail.is_spent.Goals as goal

pub slot_mut-requires : goal.slot_mut-requires
slot_mut-requires g c = (c.requires.own ∙ sym c.fabric.invariant.0, c.requires.slot)

pub returns-clause-spent : goal.returns-clause-spent
returns-clause-spent g c = λ batch e.
    c.is_empty.ensures ∙ ap (λ (b : Batch). nat_eq (length b) 0) (same_slot c.args.slot c.slot_mut.result.now batch c.args.seat.now.me.1 _ c.slot_mut.ensures.value e)

pub returns-clause-same : goal.returns-clause-same
returns-clause-same g c = λ j. (c.args.seat.now.me.0.view, sym c.slot_mut.ensures.value j)

use Rattle.std.proofs.Common.{◌∷◌, ap, sym, ◌∙◌}
use Rattle.atomic_table.specs.Table.{rest}
use Rattle.ipcz_node.specs.Acts.{first_of, rest_of}
use Rattle.ipcz_rule.specs.Batches.{Batch}
use Rattle.ipcz_cell.proofs.LeftSlots.{same_slot}
use Rattle.ipcz_cell.proofs.mail.take_out.Goals as goal

pub slot_mut-requires : goal.slot_mut-requires
slot_mut-requires g c = (c.requires.own ∙ sym c.fabric.invariant.0, c.requires.slot)

pub returns-clause-taken : goal.returns-clause-taken
returns-clause-taken g c = λ batch e.
    let same = same_slot c.args.slot c.slot_mut.result.now batch c.args.seat.now.me.1 _ c.slot_mut.ensures.value e in (
      c.take_first.ensures.message ∙ ap first_of same,
      ap (λ (b : Batch). (c.args.seat.now.me.0.view, (c.args.slot, b) ∷ rest c.args.seat.now.me.1)) (c.take_first.ensures.messages ∙ ap rest_of same),
    )

use Rattle.std.proofs.Common.{◌∷◌, [], ap, sym, ◌∙◌}
use Rattle.atomic_table.specs.Table.{rest}
use Rattle.ipcz_rule.specs.Batches.{Batch}
use Rattle.ipcz_cell.proofs.LeftSlots.{alone_batch, alone_node}
use Rattle.ipcz_cell.proofs.mail.fill.Goals as goal

pub slot_mut-batch-requires : goal.slot_mut-batch-requires
slot_mut-batch-requires g c = (c.requires.own ∙ sym c.fabric.invariant.0, ([], c.requires.slot))

pub returns-else-fabric-clause-node : goal.returns-else-fabric-clause-node
returns-else-fabric-clause-node g c = alone_node g.F.FabricName.table c.args.to _ _ (sym c.fabric.invariant.9 ∙ c.if-fabric.false) c.post_first.ensures.node

pub returns-else-fabric-clause-filled : goal.returns-else-fabric-clause-filled
returns-else-fabric-clause-filled g c =
    ap (λ (b : Batch). (c.args.seat.now.me.0.view, (c.args.slot, b) ∷ rest c.args.seat.now.me.1))
    (alone_batch g.F.FabricName.table c.args.to c.args.state.now.node _ (sym c.fabric.invariant.9 ∙ c.if-fabric.false) c.post_first.ensures.batch)

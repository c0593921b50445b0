use Rattle.std.proofs.Common.{◌∙◌, ◌∷◌, [], ap}
use Rattle.ipcz_rule.specs.declared.view.Part.{Part}
use Rattle.ipcz_rule.specs.End.{rested}
use Rattle.ipcz_cell.specs.CellStates.{CellState}
use Rattle.ipcz_cell.specs.Seats.{mine_of}
use Rattle.ipcz_cell.proofs.Resting.{own_number, own_slots, rested_number, rested_held, rested_slots}
use Rattle.ipcz_cell.proofs.cell.NodeCell.rest.Goals as goal

pub unprobe_all-requires-clause-node : goal.unprobe_all-requires-clause-node
unprobe_all-requires-clause-node g c = own_number _ _ _ _ _ _ _ c.self.invariant.0 _ c.number-node.ensures

pub unprobe_all-requires-clause-slots : goal.unprobe_all-requires-clause-slots
unprobe_all-requires-clause-slots g c = own_slots _ _ _ _ _ _ _ c.self.invariant.0 _ c.number-node.ensures

pub give_back_all-requires-clause-node : goal.give_back_all-requires-clause-node
give_back_all-requires-clause-node g c = rested_number _ _ _ _ _ _ _ c.self.invariant.0 _ c.number-node.ensures (mine_of c.unprobe_all.new.seat.me) c.unprobe_all.ensures.done

pub give_back_all-requires-clause-held : goal.give_back_all-requires-clause-held
give_back_all-requires-clause-held g c = rested_held _ _ _ _ _ _ _ c.self.invariant.0 (mine_of c.unprobe_all.new.seat.me) c.unprobe_all.ensures.done

pub give_back_all-requires-clause-slots : goal.give_back_all-requires-clause-slots
give_back_all-requires-clause-slots g c = rested_slots _ _ _ _ _ _ _ c.self.invariant.0 (mine_of c.unprobe_all.new.seat.me) c.unprobe_all.ensures.done c.unprobe_all.ensures.slots

pub returns-clause-seat : goal.returns-clause-seat
returns-clause-seat g c = (
  c.give_back_all.ensures.table,
  c.give_back_all.ensures.done.0 ∙ (c.unprobe_all.ensures.done ∙ ap (λ (p : Part). rested p ∷ []) (ap (λ (z : CellState). z.part) c.self.view_is)),
  c.give_back_all.ensures.done.1,
)

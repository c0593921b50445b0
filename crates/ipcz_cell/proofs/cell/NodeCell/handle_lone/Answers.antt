use Rattle.std.specs.Prelude.{◌||◌}
use Rattle.std.proofs.Common.{◌≡◌, ℕ, Option, Some, ap, sym, ◌∙◌, arith}
use Rattle.ipcz_node.specs.Node.{Node}
use Rattle.ipcz_node.specs.Hands.{message_lacks_serials}
use Rattle.ipcz_cell.specs.CellStates.{CellState, part_in}
use Rattle.ipcz_cell.specs.Cells.{has_batch, is_hand_of}
use Rattle.ipcz_cell.specs.Seats.{mine_of}
use Rattle.ipcz_cell.proofs.Seating.{number_is, number_inside, own_sound}
use Rattle.ipcz_cell.proofs.Posting.{handed_cell}
use Rattle.ipcz_cell.proofs.Slotting.{none_then}
use Rattle.ipcz_cell.proofs.cell.NodeCell.handle_lone.Goals as goal

pub returns-in-Err-clause-why : goal.returns-in-Err-clause-why
returns-in-Err-clause-why g c =
    let was = c.self.invariant.0 in
    let why = (c.in-Err.ensures.tried c.args.source).why in
    let message : c.args.self.now.part.message ≡ Some c.in-Some.message = sym (ap (λ (z : CellState). z.part.message) c.self.view_is) ∙ (was.message ∙ c.in-Some.is) in
    let state : c.args.self.now.part.state ≡ c.self.inside.state.node = sym (ap (λ (z : CellState). z.part.state) c.self.view_is) ∙ was.seated.state in
    (c.in-Some.message, message, why.0, ap (λ (z : Node). message_lacks_serials z c.args.from c.in-Some.message c.args.source) state ∙ why.1)

pub leave_slot-requires-clause-from : goal.leave_slot-requires-clause-from
leave_slot-requires-clause-from g c =
    let sound = own_sound _ _ _ _ c.self.invariant.0.seated in
    sound.hand c.args.from (ap (λ (z : CellState). z.part.state.hand) c.self.view_is ∙ c.requires.hand)

pub leave_slot-requires-clause-node : goal.leave_slot-requires-clause-node
leave_slot-requires-clause-node g c =
    let was = c.self.invariant.0.seated in
    let same = number_is _ _ _ _ was in
    let inside = number_inside _ _ _ _ was in
    let is = c.number-node.ensures in
    (sym same ∙ sym is, omega (arith, inside, is))

pub leave_slot-requires-clause-held : goal.leave_slot-requires-clause-held
leave_slot-requires-clause-held g c =
    let was = c.self.invariant.0 in
    let hand = ap (λ (z : Node). z.hand) (sym was.seated.state) ∙ (ap (λ (z : CellState). z.part.state.hand) c.self.view_is ∙ c.requires.hand) in
    λ s. was.held s ∙ ap (λ (o : Option ℕ). is_hand_of o s || has_batch (part_in c.self.inside.seat.me.0.view) s) hand

pub invariant_of-self-in-Ok-true : goal.invariant_of-self-in-Ok-true
invariant_of-self-in-Ok-true g c =
    let was = c.self.invariant.0 in
    let t = g.F.FabricName.table in
    let l = c.leave_slot.ensures in (
      handed_cell t c.self.inside.state.node c.deliver_at_once.new.self.node c.self.inside.message c.self.inside.probed c.self.inside.held c.self.inside.seat.table_id c.leave_slot.new.seat.table_id (mine_of c.self.inside.seat.me) was
          l.table (mine_of c.leave_slot.new.seat.me) c.args.from c.args.source c.in-Some.message c.leave_slot.new.held l.sound (ap (λ (z : CellState). z.part.state.hand) c.self.view_is ∙ c.requires.hand)
          (was.message ∙ c.in-Some.is) l.done l.left l.held ((c.in-Ok-true.ensures.tried c.args.source).taken c.in-Ok-true.field-0-test),
      none_then l.slots c.self.invariant.1,
    )

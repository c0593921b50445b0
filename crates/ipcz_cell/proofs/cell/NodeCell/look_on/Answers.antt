use Rattle.std.proofs.Common.{◌≡◌, ◌+◌, ◌-◌, [], ◌∷◌, ◌*◌, ℕ, suc, true, length, ap, sym, ◌∙◌, refl, arith}
use Rattle.ipcz_rule.specs.declared.view.View.{View}
use Rattle.ipcz_rule.specs.Batches.{BatchMine, batch_from}
use Rattle.std.specs.Prelude.{is_some}
use Rattle.ipcz_node.specs.Node.{Node}
use Rattle.ipcz_cell.specs.CellStates.{CellState, part_in}
use Rattle.ipcz_cell.specs.Cells.{has_batch}
use Rattle.ipcz_cell.specs.Mails.{looked_on_part}
use Rattle.ipcz_cell.specs.Seats.{mine_of}
use Rattle.ipcz_cell.proofs.Seating.{number_is, number_inside}
use Rattle.ipcz_cell.proofs.Posting.{nothing_held, front, held_first, looked_on_cell, held_of}
use Rattle.ipcz_cell.proofs.Turning.{append_length}
use Rattle.ipcz_cell.proofs.Slotting.{none_then}
use Rattle.ipcz_cell.proofs.cell.NodeCell.look_on.Goals as goal

pub slot_of-slot-requires-clause-to : goal.slot_of-slot-requires-clause-to
slot_of-slot-requires-clause-to g c =
    let inside = number_inside _ _ _ _ c.self.invariant.0.seated in
    let is = c.number-node.ensures in
    omega (arith, inside, is)

pub place_of-place-requires : goal.place_of-place-requires
place_of-place-requires g c =
    held_of _ _ _ _ _ _ _ c.self.invariant.0 c.args.from (ap (λ (z : CellState). has_batch z.part c.args.from) c.self.view_is ∙ c.requires.left)

pub take_out-requires-clause-slot : goal.take_out-requires-clause-slot
take_out-requires-clause-slot g c =
    let was = c.self.invariant.0 in
    let t = g.F.FabricName.table in
    let place = c.place_of-place.ensures.place in
    let node : c.number-node.result ≡ (part_in c.self.inside.seat.me.0.view).node = c.number-node.ensures ∙ number_is _ _ _ _ was.seated in
    let before : c.len.result + c.place_of-place.result ≡ length c.self.inside.probed + length place.0 = let l = c.len.ensures.length in let at = place.3 in omega (arith, l, at) in
    let first = held_first t c.self.inside.state.node c.self.inside.state.node c.self.inside.message c.self.inside.probed c.self.inside.held c.self.inside.seat.table_id c.self.inside.seat.table_id (mine_of c.self.inside.seat.me) was refl (mine_of c.turn_over.new.seat.me) c.args.from _ c.slot_of-slot.result place.0 place.1
    place.2 before (c.slot_of-slot.ensures.slot ∙ ap (λ (k : ℕ). c.args.from * t.count + k) node) c.turn_over.ensures.me in
    (batch_from (part_in c.self.inside.seat.me.0.view) c.args.from, front c.turn_over.new.seat.me.1 _ c.slot_of-slot.result _ _ first refl)

pub invariant_of-self : goal.invariant_of-self
invariant_of-self g c =
    let was = c.self.invariant.0 in
    let t = g.F.FabricName.table in
    let p = part_in c.self.inside.seat.me.0.view in
    let place = c.place_of-place.ensures.place in
    let once = c.place_of-place.ensures.once in
    let many = c.len-many.ensures.length in
    let at = place.3 in
    let both = append_length place.0 (c.args.from ∷ place.1) in
    let all = ap length place.2 in
    let behind : c.len-many.result - c.place_of-place.result ≡ suc (length place.1) = omega (arith, many, at, both, all) in
    let before : c.len.result + c.place_of-place.result ≡ length c.self.inside.probed + length place.0 = let l = c.len.ensures.length in omega (arith, l, at) in
    let node : c.number-node.result ≡ p.node = c.number-node.ensures ∙ number_is _ _ _ _ was.seated in
    let slot : c.slot_of-slot.result ≡ c.args.from * t.count + p.node = c.slot_of-slot.ensures.slot ∙ ap (λ (k : ℕ). c.args.from * t.count + k) node in
    let first = held_first t c.self.inside.state.node c.self.inside.state.node c.self.inside.message c.self.inside.probed c.self.inside.held c.self.inside.seat.table_id c.self.inside.seat.table_id (mine_of c.self.inside.seat.me) was refl (mine_of c.turn_over.new.seat.me) c.args.from _ c.slot_of-slot.result place.0 place.1
    place.2 before slot c.turn_over.ensures.me in
    let taken = c.take_out.ensures.taken (batch_from p c.args.from) (front c.turn_over.new.seat.me.1 _ c.slot_of-slot.result c.slot_of-slot.result (batch_from p c.args.from) first refl) in
    let left : has_batch p c.args.from ≡ true = ap (λ (z : CellState). has_batch z.part c.args.from) c.self.view_is ∙ c.requires.left in (
      looked_on_cell t c.self.inside.state.node c.look.new.self.node c.self.inside.message c.self.inside.probed c.self.inside.held c.self.inside.seat.table_id c.turn_over-2.new.seat.table_id (mine_of c.self.inside.seat.me) was
          (c.turn_over-2.ensures.table ∙ (c.look_on_here.ensures.table ∙ (c.take_out.ensures.table ∙ c.turn_over.ensures.table))) (mine_of c.turn_over.new.seat.me) (mine_of c.take_out.new.seat.me) (mine_of c.look_on_here.new.seat.me) (mine_of c.turn_over-2.new.seat.me)
          c.args.from _ _ c.slot_of-slot.result c.take_out.new.place place.0 place.1 c.look_on_here.ensures.sound (ap (λ (z : CellState). z.part.state.hand) c.self.view_is ∙ c.requires.idle) left once (held_of _ _ _ _ _ _ _ was c.args.from left)
          place.2 before behind slot c.turn_over.ensures.me taken.0 taken.1 c.look_on_here.ensures.done c.turn_over-2.ensures.me c.look.ensures,
      none_then c.turn_over-2.ensures.slots (none_then c.look_on_here.ensures.slots (none_then c.take_out.ensures.slots (none_then c.turn_over.ensures.slots c.self.invariant.1))),
    )

pub look_on_here-requires-clause-whole : goal.look_on_here-requires-clause-whole
look_on_here-requires-clause-whole g c =
    let view = c.take_out.ensures.view ∙ ap (λ (m : BatchMine). m.0) c.turn_over.ensures.me in
    ap (λ (v : View). v.parts) view ∙ (c.self.invariant.0.seated.whole ∙ ap (λ (v : View). part_in v ∷ []) (sym view))

pub look_on_here-requires-clause-node : goal.look_on_here-requires-clause-node
look_on_here-requires-clause-node g c =
    let inside = number_inside _ _ _ _ c.self.invariant.0.seated in
    let is = c.number-node.ensures in
    omega (arith, inside, is)

pub look_on_here-requires-clause-idle : goal.look_on_here-requires-clause-idle
look_on_here-requires-clause-idle g c =
    let view = c.take_out.ensures.view ∙ ap (λ (m : BatchMine). m.0) c.turn_over.ensures.me in
    ap (λ (v : View). (part_in v).state.hand) view ∙ (ap (λ (z : CellState). z.part.state.hand) c.self.view_is ∙ c.requires.idle)

pub look_on_here-requires-clause-left : goal.look_on_here-requires-clause-left
look_on_here-requires-clause-left g c =
    let view = c.take_out.ensures.view ∙ ap (λ (m : BatchMine). m.0) c.turn_over.ensures.me in
    ap (λ (v : View). has_batch (part_in v) c.args.from) view ∙ (ap (λ (z : CellState). has_batch z.part c.args.from) c.self.view_is ∙ c.requires.left)

pub returns-clause-part : goal.returns-clause-part
returns-clause-part g c =
    let view = c.take_out.ensures.view ∙ ap (λ (m : BatchMine). m.0) c.turn_over.ensures.me in
    ap (λ (m : BatchMine). part_in m.0) c.turn_over-2.ensures.me ∙ (ap (λ (m : BatchMine). part_in m.0) c.look_on_here.ensures.done ∙
    (ap (λ (v : View). looked_on_part c.args.from (part_in v)) view ∙ ap (λ (z : CellState). looked_on_part c.args.from z.part) c.self.view_is))

pub returns-clause-seen : goal.returns-clause-seen
returns-clause-seen g c =
    let view = c.take_out.ensures.view ∙ ap (λ (m : BatchMine). m.0) c.turn_over.ensures.me in
    ap (λ (m : BatchMine). m.0.seen) c.turn_over-2.ensures.me ∙ (ap (λ (m : BatchMine). m.0.seen) c.look_on_here.ensures.done ∙
    (ap (λ (v : View). v.seen) view ∙ ap (λ (z : CellState). z.seen) c.self.view_is))

pub take_out-requires-clause-empty : goal.take_out-requires-clause-empty
take_out-requires-clause-empty g c =
    let was = c.self.invariant.0 in
    let idle = ap (λ (z : Node). z.hand) (sym was.seated.state) ∙ (ap (λ (z : CellState). z.part.state.hand) c.self.view_is ∙ c.requires.idle) in
    nothing_held c.self.inside.message (was.holding ∙ ap is_some idle)

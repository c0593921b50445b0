use Rattle.std.proofs.Common.{◌≡◌, ◌+◌, ◌-◌, ◌*◌, ℕ, length, ap, sym, ◌∙◌, refl, arith}
use Rattle.ipcz_rule.specs.Batches.{BatchMine}
use Rattle.ipcz_node.specs.Acts.{has_mail_for}
use Rattle.ipcz_node.specs.Node.{Node}
use Rattle.ipcz_cell.specs.CellStates.{CellState, part_in}
use Rattle.ipcz_cell.specs.Seats.{mine_of}
use Rattle.ipcz_cell.proofs.Seating.{number_is, number_inside}
use Rattle.ipcz_cell.proofs.Posting.{posted_cell, probed_first, post_slot}
use Rattle.ipcz_cell.proofs.Turning.{append_length}
use Rattle.ipcz_cell.proofs.Slotting.{none_then}
use Rattle.ipcz_cell.proofs.cell.NodeCell.post_by.Goals as goal

pub slot_of-slot-requires-clause-from : goal.slot_of-slot-requires-clause-from
slot_of-slot-requires-clause-from g c =
    let inside = number_inside _ _ _ _ c.self.invariant.0.seated in
    let is = c.number-node.ensures in
    omega (arith, inside, is)

pub fill-requires-clause-slot : goal.fill-requires-clause-slot
fill-requires-clause-slot g c =
    let was = c.self.invariant.0 in
    let t = g.F.FabricName.table in
    let node : c.number-node.result ≡ (part_in c.self.inside.seat.me.0.view).node = c.number-node.ensures ∙ number_is _ _ _ _ was.seated in
    let place = c.take-place.ensures.place in
    probed_first t c.self.inside.state.node c.self.inside.state.node c.self.inside.message c.self.inside.probed c.self.inside.held c.self.inside.seat.table_id c.self.inside.seat.table_id (mine_of c.self.inside.seat.me) was refl (mine_of c.turn_over.new.seat.me) c.args.to _ c.slot_of-slot.result place.0 place.1
    place.2 place.4 (c.slot_of-slot.ensures.slot ∙ ap (λ (k : ℕ). k * t.count + c.args.to) node) c.turn_over.ensures.me

pub fill-requires-clause-mail : goal.fill-requires-clause-mail
fill-requires-clause-mail g c =
    ap (λ (z : Node). has_mail_for z c.args.to) (sym c.self.invariant.0.seated.state) ∙ (ap (λ (z : CellState). has_mail_for z.part.state c.args.to) c.self.view_is ∙ c.requires.mail)

pub post_here-requires-clause-node : goal.post_here-requires-clause-node
post_here-requires-clause-node g c =
    let was = c.self.invariant.0.seated in
    let same = number_is _ _ _ _ was in
    let inside = number_inside _ _ _ _ was in
    let is = c.number-node.ensures in
    (ap (λ (m : BatchMine). (part_in m.0).node) c.fill.ensures.filled ∙ (ap (λ (m : BatchMine). (part_in m.0).node) c.turn_over.ensures.me ∙ (sym same ∙ sym is)), omega (arith, inside, is))

pub post_here-requires-clause-slot : goal.post_here-requires-clause-slot
post_here-requires-clause-slot g c =
    post_slot g.F.FabricName.table (mine_of c.self.inside.seat.me) (mine_of c.turn_over.new.seat.me) (mine_of c.fill.new.seat.me) c.self.inside.state.node _ c.slot_of-slot.result c.args.to _ c.turn_over.ensures.me c.fill.ensures.filled c.self.invariant.0.seated.state c.slot_of-slot.ensures.slot

pub invariant_of-self : goal.invariant_of-self
invariant_of-self g c =
    let was = c.self.invariant.0 in
    let t = g.F.FabricName.table in
    let place = c.take-place.ensures.place in
    let many = c.len.ensures.length in
    let before = place.4 in
    let now = ap length place.3 in
    let both = append_length place.0 place.1 in
    let held = c.len-2.ensures.length in
    let left : c.len.result - c.take-place.result + c.len-2.result ≡ length place.1 + length c.self.inside.held = omega (arith, many, before, now, both, held) in (
      posted_cell t c.self.inside.state.node c.fill.new.state.node c.self.inside.message c.self.inside.probed c.self.inside.held c.self.inside.seat.table_id c.turn_over-2.new.seat.table_id (mine_of c.self.inside.seat.me) was
          (c.turn_over-2.ensures.table ∙ (c.post_here.ensures.table ∙ (c.fill.ensures.table ∙ c.turn_over.ensures.table))) (mine_of c.turn_over.new.seat.me) (mine_of c.fill.new.seat.me) (mine_of c.post_here.new.seat.me) (mine_of c.turn_over-2.new.seat.me) c.args.to c.take-place.result _ c.slot_of-slot.result _
          place.0 place.1 c.take-place.new.self c.post_here.ensures.sound place.2 place.3 c.take-place.ensures.without place.4 left c.turn_over.ensures.me c.fill.ensures.filled c.post_here.ensures.done c.turn_over-2.ensures.me c.fill.ensures.node,
      none_then c.turn_over-2.ensures.slots (none_then c.post_here.ensures.slots (none_then c.fill.ensures.slots (none_then c.turn_over.ensures.slots c.self.invariant.1))),
    )

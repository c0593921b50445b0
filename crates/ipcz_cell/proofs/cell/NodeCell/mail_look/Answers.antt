use Rattle.std.proofs.Common.{◌≡◌, ◌+◌, ◌*◌, ◌∷◌, ℕ, true, false, ap, sym, ◌∙◌, refl, arith}
use Rattle.ipcz_rule.specs.Batches.{BatchMine}
use Rattle.std.specs.Prelude.{is_some}
use Rattle.ipcz_node.specs.Node.{Node}
use Rattle.ipcz_cell.specs.CellStates.{CellState, part_in}
use Rattle.ipcz_cell.specs.Cells.{has_batch}
use Rattle.ipcz_cell.specs.Mails.{mail_word}
use Rattle.ipcz_cell.specs.Seats.{mine_of}
use Rattle.ipcz_cell.proofs.Seating.{number_is, number_inside}
use Rattle.ipcz_cell.proofs.Mailing.{told_hit, told_miss, load_tells, look_tells}
use Rattle.ipcz_cell.proofs.Posting.{nothing_held, front, left_of, looked_cell}
use Rattle.ipcz_cell.proofs.Slotting.{none_then}
use Rattle.ipcz_cell.proofs.cell.NodeCell.mail_look.Goals as goal

pub look_here-found-requires-clause-node : goal.look_here-found-requires-clause-node
look_here-found-requires-clause-node g c =
    let was = c.self.invariant.0.seated in
    let same = number_is _ _ _ _ was in
    let inside = number_inside _ _ _ _ was in
    let is = c.number-node.ensures in
    (sym same ∙ sym is, omega (arith, inside, is))

pub slot_of-slot-requires-clause-to : goal.slot_of-slot-requires-clause-to
slot_of-slot-requires-clause-to g c =
    let inside = number_inside _ _ _ _ c.self.invariant.0.seated in
    let is = c.number-node.ensures in
    omega (arith, inside, is)

pub look_on-requires-clause-left : goal.look_on-requires-clause-left
look_on-requires-clause-left g c =
    let was = c.self.invariant.0 in
    ap (λ (z : CellState). has_batch z.part c.args.from) (sym c.self.view_is) ∙ left_of _ _ _ _ _ _ _ was c.args.from true (ap (λ (z : CellState). z.part.state.hand) c.self.view_is ∙ c.requires.idle) (sym c.has.ensures ∙ c.if-has.true)

pub take_out-requires-clause-slot : goal.take_out-requires-clause-slot
take_out-requires-clause-slot g c =
    let hit = told_hit _ 1 _ _ c.if-found-ne1.false c.look_here-found.ensures.done in
    (hit.0 ∷ hit.1, front c.look_here-found.new.seat.me.1 c.self.inside.seat.me.1 _ c.slot_of-slot.result (hit.0 ∷ hit.1) (ap (λ (m : BatchMine). m.1) hit.3) c.slot_of-slot.ensures.slot)

pub returns-then-found-ne1 : goal.returns-then-found-ne1
returns-then-found-ne1 g c =
    let was = c.self.invariant.0 in
    let t = g.F.FabricName.table in
    let node : c.number-node.result ≡ c.args.self.now.part.node = c.number-node.ensures ∙ (number_is _ _ _ _ was.seated ∙ ap (λ (z : CellState). z.part.node) c.self.view_is) in
    let miss = told_miss _ 1 _ _ c.if-found-ne1.true c.look_here-found.ensures.done in
    let none = left_of _ _ _ _ _ _ _ was c.args.from false (ap (λ (z : CellState). z.part.state.hand) c.self.view_is ∙ c.requires.idle) (sym c.has.ensures ∙ c.if-has.false) in (
      ap (λ (z : CellState). has_batch z.part c.args.from) (sym c.self.view_is) ∙ none,
      c.look_here-found.result,
      c.if-found-ne1.true,
      load_tells _ (mail_word t c.args.from c.number-node.result) _ (mine_of c.self.inside.seat.me) (mine_of c.look_here-found.new.seat.me) c.self.inside.state.room c.self.inside.state.room _ c.self.view_is refl c.look_here-found.ensures.slots.2 (ap (λ (n : ℕ). mail_word t c.args.from n) node) miss,
    )

pub returns : goal.returns
returns g c =
    let was = c.self.invariant.0 in
    let t = g.F.FabricName.table in
    let hit = told_hit _ 1 _ _ c.if-found-ne1.false c.look_here-found.ensures.done in
    let first = front c.look_here-found.new.seat.me.1 c.self.inside.seat.me.1 _ c.slot_of-slot.result (hit.0 ∷ hit.1) (ap (λ (m : BatchMine). m.1) hit.3) c.slot_of-slot.ensures.slot in
    let node : c.number-node.result ≡ c.args.self.now.part.node = c.number-node.ensures ∙ (number_is _ _ _ _ was.seated ∙ ap (λ (z : CellState). z.part.node) c.self.view_is) in
    let none = left_of _ _ _ _ _ _ _ was c.args.from false (ap (λ (z : CellState). z.part.state.hand) c.self.view_is ∙ c.requires.idle) (sym c.has.ensures ∙ c.if-has.false) in
    look_tells _ (mail_word t c.args.from c.number-node.result) _ c.args.from _ hit.0 hit.1 (mine_of c.self.inside.seat.me) (mine_of c.look_here-found.new.seat.me) (mine_of c.turn_over.new.seat.me) c.self.inside.state.room c.look.new.self.room _ c.self.view_is
    c.if-found-ne1.false (ap (λ (n : ℕ). mail_word t c.args.from n) node) none hit.3 (ap (λ (m : BatchMine). m.0) c.turn_over.ensures.me ∙ ap (λ (m : BatchMine). m.0) (c.take_out.ensures.taken (hit.0 ∷ hit.1) first).1)

pub invariant_of-self-2 : goal.invariant_of-self-2
invariant_of-self-2 g c =
    let was = c.self.invariant.0 in
    let t = g.F.FabricName.table in
    let done = c.look_here-found.ensures in
    let hit = told_hit _ 1 _ _ c.if-found-ne1.false done.done in
    let first = front c.look_here-found.new.seat.me.1 c.self.inside.seat.me.1 _ c.slot_of-slot.result (hit.0 ∷ hit.1) (ap (λ (m : BatchMine). m.1) hit.3) c.slot_of-slot.ensures.slot in
    let taken = c.take_out.ensures.taken (hit.0 ∷ hit.1) first in
    let node : c.number-node.result ≡ (part_in c.self.inside.seat.me.0.view).node = c.number-node.ensures ∙ number_is _ _ _ _ was.seated in
    let idle = ap (λ (z : CellState). z.part.state.hand) c.self.view_is ∙ c.requires.idle in (
      looked_cell t c.self.inside.state.node c.look.new.self.node c.self.inside.message c.self.inside.probed c.self.inside.held c.self.inside.seat.table_id c.turn_over.new.seat.table_id (mine_of c.self.inside.seat.me) was
          (c.turn_over.ensures.table ∙ (c.take_out.ensures.table ∙ done.table)) (mine_of c.look_here-found.new.seat.me) (mine_of c.take_out.new.seat.me) (mine_of c.turn_over.new.seat.me) c.args.from _ _ _ c.slot_of-slot.result hit.0 hit.1 c.take_out.new.place c.push.new.self done.sound
          (c.slot_of-slot.ensures.slot ∙ ap (λ (k : ℕ). c.args.from * t.count + k) node) idle c.requires.from (sym c.has.ensures ∙ c.if-has.false) hit.2 hit.3 taken.0 taken.1 c.turn_over.ensures.me c.push.ensures c.look.ensures,
      none_then c.turn_over.ensures.slots (none_then c.take_out.ensures.slots (none_then done.slots c.self.invariant.1)),
    )

pub take_out-requires-clause-empty : goal.take_out-requires-clause-empty
take_out-requires-clause-empty g c =
    let was = c.self.invariant.0 in
    let idle = ap (λ (z : Node). z.hand) (sym was.seated.state) ∙ (ap (λ (z : CellState). z.part.state.hand) c.self.view_is ∙ c.requires.idle) in
    nothing_held c.self.inside.message (was.holding ∙ ap is_some idle)

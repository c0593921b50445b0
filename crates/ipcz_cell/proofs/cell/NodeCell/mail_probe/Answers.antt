use Rattle.std.proofs.Common.{refl, ◌≡◌, ◌+◌, ◌*◌, ℕ, List, false, ap, sym, subst, ◌∙◌, arith}
use Rattle.ipcz_rule.specs.Rule.{has_number}
use Rattle.ipcz_cell.specs.CellStates.{CellState, part_in}
use Rattle.ipcz_cell.specs.Cells.{IsCell}
use Rattle.ipcz_cell.specs.Mails.{mail_word, slot_of}
use Rattle.ipcz_cell.specs.Outcomes.{is_itself}
use Rattle.ipcz_cell.proofs.Seating.{number_is, number_inside}
use Rattle.ipcz_cell.proofs.Mailing.{told_hit, told_miss, probed_cell, probe_tells, load_tells}
use Rattle.ipcz_cell.proofs.Slotting.{none_then}
use Rattle.ipcz_cell.proofs.cell.NodeCell.mail_probe.Goals as goal
use Rattle.ipcz_cell.specs.Seats.{mine_of}

pub probe_here-found-requires-clause-picked : goal.probe_here-found-requires-clause-picked
probe_here-found-requires-clause-picked g c = is_itself _

pub probe_here-found-requires-clause-node : goal.probe_here-found-requires-clause-node
probe_here-found-requires-clause-node g c =
    let was = c.self.invariant.0.seated in
    let same = number_is _ _ _ _ was in
    let inside = number_inside _ _ _ _ was in
    let is = c.number.ensures in
    (sym same ∙ sym is, omega (arith, inside, is))

pub invariant_of-self-2 : goal.invariant_of-self-2
invariant_of-self-2 g c =
    let was = c.self.invariant.0 in
    let t = g.F.FabricName.table in
    let to = c.args.to in
    let done = c.probe_here-found.ensures in
    let node : c.number.result ≡ (part_in c.self.inside.seat.me.0.view).node = c.number.ensures ∙ number_is _ _ _ _ was.seated in
    let hit = told_hit _ 0 _ _ c.if-found-ne0.false done.done in
    let cell = probed_cell _ _ _ _ _ _ _ was _ _ done.table done.sound (mail_word t c.number.result to) (slot_of t c.number.result to) to _ c.requires (ap (λ (n : ℕ). n * t.count + to) node) hit in
    (subst (λ (l : List ℕ). IsCell t c.self.inside.state.node c.self.inside.message l c.self.inside.held c.probe_here-found.new.seat.table_id (mine_of c.probe_here-found.new.seat.me)) (sym c.add.ensures) cell, none_then c.probe_here-found.ensures.slots c.self.invariant.1)

pub returns : goal.returns
returns g c =
    let was = c.self.invariant.0 in
    let t = g.F.FabricName.table in
    let to = c.args.to in
    let node : c.number.result ≡ c.args.self.now.part.node = c.number.ensures ∙ (number_is _ _ _ _ was.seated ∙ ap (λ (z : CellState). z.part.node) c.self.view_is) in
    let hit = told_hit _ 0 _ _ c.if-found-ne0.false c.probe_here-found.ensures.done in
    let absent : has_number (part_in c.self.inside.seat.me.0.view).probed to ≡ false = ap (λ (l : List ℕ). has_number l to) was.probed ∙ (sym c.has.ensures ∙ c.if-has.false) in
    probe_tells _ (mail_word t c.number.result to) _ to _ (mine_of c.self.inside.seat.me) (mine_of c.probe_here-found.new.seat.me) c.self.inside.state.room c.self.inside.state.room _ c.self.view_is absent c.if-found-ne0.false (ap (λ (n : ℕ). mail_word t n to) node) hit

pub returns-then-found-ne0 : goal.returns-then-found-ne0
returns-then-found-ne0 g c =
    let was = c.self.invariant.0 in
    let t = g.F.FabricName.table in
    let to = c.args.to in
    let node : c.number.result ≡ c.args.self.now.part.node = c.number.ensures ∙ (number_is _ _ _ _ was.seated ∙ ap (λ (z : CellState). z.part.node) c.self.view_is) in
    let miss = told_miss _ 0 _ _ c.if-found-ne0.true c.probe_here-found.ensures.done in
    let absent : has_number c.args.self.now.part.probed to ≡ false = ap (λ (z : CellState). has_number z.part.probed to) (sym c.self.view_is) ∙ (ap (λ (l : List ℕ). has_number l to) was.probed ∙ (sym c.has.ensures ∙ c.if-has.false)) in
    (absent, (c.probe_here-found.result, c.if-found-ne0.true, load_tells _ (mail_word t c.number.result to) _ (mine_of c.self.inside.seat.me) (mine_of c.probe_here-found.new.seat.me) c.self.inside.state.room c.self.inside.state.room _ c.self.view_is refl c.probe_here-found.ensures.slots.2 (ap (λ (n : ℕ). mail_word t n to) node) miss))

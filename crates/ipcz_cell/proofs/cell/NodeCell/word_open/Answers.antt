use Rattle.std.proofs.Common.{[], ◌∷◌, ◌++◌, ap, sym, ◌∙◌, arith}
use Rattle.ipcz_base.specs.declared.end.End.{End}
use Rattle.ipcz_node.specs.Node.{Node}
use Rattle.ipcz_node.specs.Calls.{serials_refusal, open_node}
use Rattle.ipcz_rule.specs.Batches.{BatchMine}
use Rattle.ipcz_rule.specs.Steps.{open_part}
use Rattle.ipcz_cell.specs.CellStates.{CellState, part_in, roomy}
use Rattle.ipcz_cell.proofs.Seating.{own_sound}
use Rattle.ipcz_cell.proofs.Slotting.{opening_slotted, none_then}
use Rattle.ipcz_cell.proofs.OpenSteps.{open_may, serials_left, changed_cell, open_keeps, ready_here}
use Rattle.ipcz_cell.proofs.cell.NodeCell.word_open.Goals as goal
use Rattle.ipcz_cell.specs.Seats.{mine_of}

pub exchange_link-requires-clause-inside : goal.exchange_link-requires-clause-inside
exchange_link-requires-clause-inside g c =
    let was = c.self.invariant.0.seated in
    (own_sound _ _ _ _ was).opening c.in-Some.word (ap (λ (z : Node). z.opening) was.state ∙ sym c.in-Some.ensures)

pub exchange_link-requires-clause-slotted : goal.exchange_link-requires-clause-slotted
exchange_link-requires-clause-slotted g c =
    let was = c.self.invariant.0.seated in
    opening_slotted g.F.FabricName.table _ c.in-Some.word _ was.whole (ap (λ (z : Node). z.opening) was.state ∙ sym c.in-Some.ensures)

pub exchange_link-requires-clause-may : goal.exchange_link-requires-clause-may
exchange_link-requires-clause-may g c =
    let was = c.self.invariant.0.seated in
    open_may g.F.FabricName.table _ c.in-Some.word (mine_of c.self.inside.seat.me) was.whole (ap (λ (z : Node). z.opening) was.state ∙ sym c.in-Some.ensures)
    (ap (λ (o : CellState). serials_refusal o.part.state) c.self.view_is ∙ serials_left (roomy c.args.self.now) c.requires.ready)

pub open_commit-requires : goal.open_commit-requires
open_commit-requires g c = ready_here _ _ (mine_of c.self.inside.seat.me) _ c.self.view_is c.self.invariant.0.seated.state c.requires.ready

pub invariant_of-self : goal.invariant_of-self
invariant_of-self g c =
    let done = c.exchange_link.ensures in
    let was = c.self.invariant.0 in (
      changed_cell g.F.FabricName.table _ _ _ _ _ (mine_of c.self.inside.seat.me) was _ (mine_of c.exchange_link.new.seat.me) done.table done.sound (open_part c.in-Some.word) _ c.open_commit.new.self.node done.done.1
          (ap (λ (z : Node). open_node z c.in-Some.word) was.seated.state ∙ sym c.open_commit.ensures.node) (open_keeps c.in-Some.word _),
      none_then c.exchange_link.ensures.slots c.self.invariant.1,
    )

pub returns-clause-inside : goal.returns-clause-inside
returns-clause-inside g c =
    let was = c.self.invariant.0.seated in
    let is = ap (λ (e : End × End). e.0.pair) c.open_commit.ensures.ends in
    let less = (own_sound _ _ _ _ was).opening c.in-Some.word (ap (λ (z : Node). z.opening) was.state ∙ sym c.in-Some.ensures) in
    omega (arith, is, less)

pub returns-clause-opens : goal.returns-clause-opens
returns-clause-opens g c =
    let done = c.exchange_link.ensures.done in
    let i = c.in-Some.word in record {
      word = i;
      under_way = ap (λ (o : CellState). o.part.state.opening) (sym c.self.view_is) ∙ (ap (λ (z : Node). z.opening) c.self.invariant.0.seated.state ∙ sym c.in-Some.ensures);
      ends_are = c.open_commit.ensures.ends;
      part = ap (λ (m : BatchMine). part_in m.0) done.1 ∙ ap (λ (o : CellState). open_part i o.part) c.self.view_is;
      seen = ap (λ (m : BatchMine). m.0.seen) done.1 ∙ ((λ j. c.self.inside.seat.me.0.view.seen ++ (i, done.0 j) ∷ []) ∙ ap (λ (o : CellState). o.seen ++ (i, 0) ∷ []) c.self.view_is);
    }

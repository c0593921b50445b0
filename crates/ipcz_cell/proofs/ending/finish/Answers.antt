use Rattle.std.proofs.Common.{◌≡◌, true, ℕ, List, map, ap, sym, subst, ◌∙◌}
use Rattle.ipcz_rule.specs.declared.view.Part.{Part}
use Rattle.ipcz_rule.specs.End.{AreAll, IsShown, rested, states_of}
use Rattle.ipcz_cell.specs.CellStates.{CellState}
use Rattle.ipcz_cell.specs.Ending.{is_in_order, parts_of}
use Rattle.ipcz_cell.proofs.ReadBack.{messages_of, all_parts, rested_states, rested_messages, shown_before}
use Rattle.ipcz_cell.proofs.ending.finish.Goals as goal

pub close-requires-clause-all : goal.close-requires-clause-all
close-requires-clause-all g c =
    let n = g.F.FabricName.table.count in
    let ordered : is_in_order n 0 c.args.cells.items ≡ true =
    ap (λ (l : List CellState). is_in_order n 0 l) (sym c.as_slice.ensures.value) ∙ (sym c.are_all.ensures ∙ c.if-not-are_all.false) in
    subst (λ (k : ℕ). AreAll k c.join_all-states.result.seat.me.0.view.parts) (sym c.fabric.invariant.3)
    (subst (AreAll n) (sym c.join_all-states.ensures.parts) (all_parts n c.args.cells.items ordered))

pub close-requires-clause-states : goal.close-requires-clause-states
close-requires-clause-states g c =
    c.join_all-states.ensures.states ∙ sym (ap states_of c.join_all-states.ensures.parts ∙ rested_states (parts_of c.args.cells.items))

pub close-requires-clause-hands : goal.close-requires-clause-hands
close-requires-clause-hands g c =
    c.join_all-states.ensures.hands ∙ sym (ap messages_of c.join_all-states.ensures.parts ∙ rested_messages (parts_of c.args.cells.items))

pub returns-clause-shown : goal.returns-clause-shown
returns-clause-shown g c =
    let t = g.F.FabricName.table in
    let ps = map rested (parts_of c.args.cells.items) in (
      sym c.fabric.invariant.9 ∙ c.if-fabric.false,
      shown_before t.count t.size (parts_of c.args.cells.items) c.close.result.world
          (subst (λ (n : ℕ). IsShown n t.size ps c.close.result.world) c.fabric.invariant.3
          (subst (λ (m : ℕ). IsShown c.fabric.inside.nodes m ps c.close.result.world) c.fabric.invariant.4
          (subst (λ (l : List Part). IsShown c.fabric.inside.nodes c.fabric.inside.words l c.close.result.world) c.join_all-states.ensures.parts c.close.ensures))),
    )

use Rattle.std.proofs.Common.{length, arith, ap, sym, ◌∙◌}
use Rattle.std.specs.Prelude.{Option, option_to_list}
use Rattle.std.proofs.lemmas.List.{nil_from_length}
use Rattle.ipcz_cell.specs.CellStates.{CellState}
use Rattle.ipcz_cell.proofs.ReadBack.{order_many}
use Rattle.ipcz_cell.proofs.Unions.{union_first, cell_taken}
use Rattle.ipcz_cell.proofs.ending.join_all.Goals as goal

pub unreachable-requires : goal.unreachable-requires
unreachable-requires g c =
    let many = order_many _ 0 c.args.cells.items c.requires.ordered in
    let none_left = c.in_default.ensures.cases.0 in
    absurd (omega (arith, many, none_left, c.from_vec-cells.ensures.len, c.args.cells.ok, c.requires.some))

pub loop-node-init : goal.loop-node-init
loop-node-init g c =
    let many = order_many _ 0 c.args.cells.items c.requires.ordered in
    let one = ap (λ (r : Option CellState). length (option_to_list r)) c.in-Some.is in
    let r = c.rest-state.ensures in
    let states = c.requires.states in
    let hands = c.requires.hands in
    record {
      own = r.seat.0;
      slots = r.seat.2;
      union = union_first c.args.cells.items _ c.in-Some.first _ _ _ _ _ _ _ (sym c.from_vec-cells.ensures.items ∙ cell_taken _ _ _ _ c.pop_front.ensures.items c.in-Some.is)
          r.seat.1 (nil_from_length c.args.states.items (omega (arith, states, c.args.states.ok))) (nil_from_length c.args.hands.items (omega (arith, hands, c.args.hands.ok)))
          r.state r.message c.push_reserved.ensures.items c.push_reserved-2.ensures.items;
      left = omega (arith, many, one, c.pop_front.ensures.len, c.from_vec-cells.ensures.len, c.args.cells.ok);
      states_len = omega (arith, states, c.push_reserved.ensures.len);
      states_room = omega (arith, states, c.push_reserved.ensures.capacity);
      hands_len = omega (arith, hands, c.push_reserved-2.ensures.len);
      hands_room = omega (arith, hands, c.push_reserved-2.ensures.capacity);
    }

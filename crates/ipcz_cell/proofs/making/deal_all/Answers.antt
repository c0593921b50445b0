use Rattle.std.proofs.Common.{None, ◌≡◌, ◌<◌, ◌-◌, ℕ, [], map, length, arith, ap, sym, subst, ◌∙◌, refl}
use Rattle.std.specs.Prelude.{option_to_list, Option}
use Rattle.std.proofs.lemmas.List.{nil_from_length}
use Rattle.ipcz_world.specs.World.{numbers_from}
use Rattle.ipcz_rule.specs.declared.view.View.{View}
use Rattle.ipcz_rule.specs.Batches.{BatchMine}
use Rattle.ipcz_rule.specs.Start.{opening_parts, after_deal, dealt}
use Rattle.ipcz_rule.proofs.Dealing.{kept_opening, dealt_opening}
use Rattle.ipcz_cell.specs.CellStates.{first_part, part_in}
use Rattle.ipcz_cell.specs.Making.{BodyValue, opening_body, AreFirst}
use Rattle.ipcz_cell.proofs.FirstCells.{bodies-many, body-taken, cells-more, first-cell}
use Rattle.ipcz_cell.proofs.making.deal_all.Goals as goal

pub loop-node-init : goal.loop-node-init
loop-node-init g c =
    let count = g.F.FabricName.table.count in
    let all : count - 0 ≡ count = omega arith in
    let none_yet = nil_from_length c.args.cells.items (omega (arith, c.requires.empty)) in
    let many = bodies-many count count c.args.bodies.items c.requires.bodies in
    record {
      own = c.requires.own;
      me = c.requires.me ∙ ap (λ (n : ℕ). (record { parts = opening_parts count 0 n; seen = []; announced = None; caller = None }, [])) (sym all);
      left = c.from_vec-bodies.ensures.items ∙ (c.requires.bodies ∙ ap (λ (n : ℕ). map (opening_body count) (numbers_from 0 n)) (sym all));
      cells = subst (AreFirst count 0) (sym none_yet) (record { parts = refl; seen = refl });
      many = omega (arith, c.from_vec-bodies.ensures.len, many);
      len = c.requires.empty;
      room = c.requires.room;
    }

pub invariant_of-push_reserved : goal.invariant_of-push_reserved
invariant_of-push_reserved g c =
    let l = c.loop-node.invariant in
    let out = c.fabric.invariant.5 in
    let nodes = c.fabric.invariant.3 in
    let below : c.loop-node.node < g.F.FabricName.table.count = omega (arith, c.loop-node-test.true, nodes) in
    let taken = body-taken _ _ _ _ _ _ below l.left c.pop_front.ensures.items c.in-Some.is in
    let body = c.body.view_is ∙ taken.0 in (
      first-cell _ out c.loop-node.node below _ _ _ _ _ c.loop-node.seat.me.0.view c.deal-own.ensures.table.1 c.deal-own.ensures.dealt (ap (λ (m : BatchMine). m.0.parts) l.me)
          (ap (λ (b : BodyValue). b.node) body) (ap (λ (b : BodyValue). b.probed) body) (ap (λ (b : BodyValue). b.held) body),
      c.deal-own.ensures.none,
    )

pub loop-node-preserved : goal.loop-node-preserved
loop-node-preserved g c =
    let count = g.F.FabricName.table.count in
    let l = c.loop-node.invariant in
    let n = c.loop-node.node in
    let nodes = c.fabric.invariant.3 in
    let below : n < count = omega (arith, c.loop-node-test.true, nodes) in
    let taken = body-taken _ _ _ _ _ _ below l.left c.pop_front.ensures.items c.in-Some.is in
    let v : View = record { parts = opening_parts count n (count - n); seen = []; announced = None; caller = None } in
    let kept = kept_opening count v n below refl in
    let own = ap (λ (m : BatchMine). m.0) c.deal-own.ensures.dealt ∙ ap (λ (m : BatchMine). dealt m.0) l.me in
    let one = ap (λ (r : Option BodyValue). length (option_to_list r)) c.in-Some.is in
    record {
      own = c.deal-own.ensures.table.0;
      me = c.deal-own.ensures.kept ∙ (ap (λ (m : BatchMine). (after_deal m.0, m.1)) l.me ∙ λ j. (record { parts = kept j; seen = []; announced = None; caller = None }, []));
      left = taken.1;
      cells = cells-more count n _ _ _ l.cells (ap part_in own ∙ ap first_part (dealt_opening count v n below refl)) (ap (λ (z : View). z.seen) own)
          c.push_reserved.ensures.items;
      many = omega (arith, l.many, c.pop_front.ensures.len, one, below);
      len = omega (arith, l.len, c.push_reserved.ensures.len);
      room = omega (arith, l.room, c.push_reserved.ensures.capacity);
    }

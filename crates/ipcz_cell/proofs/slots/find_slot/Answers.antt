use Rattle.std.specs.Prelude.{◌⊎◌, ◌+◌, ◌≤◌}
use Rattle.std.proofs.Common.{◌≡◌, ◌<◌, arith, ◌∙◌, inl, inr, ⊎_elim}
use Rattle.ipcz_cell.proofs.Looking.{one_looked, behind_next}
use Rattle.ipcz_cell.proofs.slots.find_slot.Goals as goal
use Rattle.ipcz_cell.proofs.slots.find_slot.Goals.{then-slot-fabric, else-slot-fabric}

pub loop-tried-preserved : goal.loop-tried-preserved
loop-tried-preserved g c =
    let t = g.F.FabricName.table in
    let l = c.loop-tried in
    let slots = c.fabric.invariant.8 in
    let test = c.loop-tried-test.true in
    let found = c.if-take_step.ensures in
    let first = c.requires.inside in
    let low = l.invariant.inside in
    let next = c.if-slot-fabric.slot in
    let step : ((l.slot + 1 < t.slots) × (next ≡ l.slot + 1)) ⊎ ((t.slots ≤ l.slot + 1) × (next ≡ 0)) = elim c.if-slot-fabric.branch [
      | then-slot-fabric w ↦ let h = w.if-slot-fabric.true in inl (omega (arith, h, slots), w.slot-is)
      | else-slot-fabric w ↦ let h = w.if-slot-fabric.false in inr (omega (arith, h, slots), w.slot-is)
    ] in record {
      own = found.table.0 ∙ l.invariant.own;
      id = found.table.1 ∙ l.invariant.id;
      me = found.me ∙ l.invariant.me;
      inside = ⊎_elim (λ (h : (l.slot + 1 < t.slots) × (next ≡ l.slot + 1)). let a = h.0 in let b = h.1 in omega (arith, a, b)) (λ (h : (t.slots ≤ l.slot + 1) × (next ≡ 0)). let b = h.1 in omega (arith, b, low)) step;
      none = (found.dirty ∙ l.invariant.none.0, found.free ∙ l.invariant.none.1);
      looked = one_looked t.slots c.args.first l.tried l.slot _ _ _ low l.invariant.behind l.invariant.looked found.looked;
      behind = behind_next t.slots c.args.first l.tried l.slot next first (omega (arith, test, slots)) low l.invariant.behind step;
    }

use Rattle.std.proofs.Common.{◌≡◌, ◌+◌, ◌++◌, ◌∷◌, [], ap, sym, subst, refl, arith, map, drop, append-nil}
use Rattle.std.proofs.Math.ListN.{drop_of_length-le}
use Rattle.serde_json.specs.View.{view}
use Rattle.ipcz_script.proofs.Taken.{taken_at_first, map-drop}
use Rattle.ipcz_report.specs.Faults.{AreFaults}
use Rattle.ipcz_report.proofs.Judged.{Continues, judged}
use Rattle.ipcz_report.proofs.faults.command_faults.Goals as goal

pub loop-value-init : goal.loop-value-init
loop-value-init c = (
  refl,
  [],
  taken_at_first c.new-opened.result [] c.new-opened.ensures.none refl,
  λ rest h. subst (λ fs. AreFaults c.args.nodes [] 1 (map view c.args.values.now) (fs ++ rest)) (sym c.new-faults.ensures.items) h,
)

pub loop-value-preserved : goal.loop-value-preserved
loop-value-preserved c =
    let i = c.loop-value.value-index in
    let rest = map view (drop (i + 1) c.args.values.now) in
    let so_far = c.loop-value.invariant in
    let front : map view (drop i c.args.values.now) ≡ view c.value-item.result ∷ rest =
    map-drop view c.args.values.now i c.value-item.result c.loop-value-test.true c.value-item.is in
    let next = judged c.args.nodes c.loop-value.number so_far.1 c.loop-value.opened c.judge.new.opened (view c.value-item.result) rest
    (map view c.args.values.now) c.loop-value.faults.items c.judge.new.faults.items so_far.2 c.in_ok-judge.ensures
    (subst (λ left. Continues c.args.nodes so_far.1 c.loop-value.number left (map view c.args.values.now) c.loop-value.faults.items) front
    so_far.3) in
    (omega (arith, so_far.0), next.0, next.1, next.2)

pub returns : goal.returns
returns c =
    let so_far = c.loop-value.invariant in
    let none : map view (drop c.loop-value.value-index c.args.values.now) ≡ [] =
    ap (map view) (drop_of_length-le c.args.values.now c.loop-value-test.false) in
    subst (AreFaults c.args.nodes [] 1 (map view c.args.values.now)) (append-nil c.loop-value.faults.items)
    (so_far.3 [] (subst (λ left. AreFaults c.args.nodes so_far.1 c.loop-value.number left []) (sym none) refl))

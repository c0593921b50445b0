use Rattle.std.proofs.Common.{◌≡◌, ◌∙◌, ◌+◌, ◌-◌, ap, sym, arith, map, option_map, is_some, Some}
use Rattle.serde_json.specs.View.{view}
use Rattle.ipcz_script.specs.Shapes.{name_in}
use Rattle.ipcz_report.specs.Judging.{at}
use Rattle.ipcz_report.proofs.Opening.{at-map}
use Rattle.ipcz_report.proofs.judging.first_other.Goals as goal

pub returns-then-not-is_name_value-clause-so : goal.returns-then-not-is_name_value-clause-so
returns-then-not-is_name_value-clause-so c =
    let same : c.loop-i.i + 1 - 1 ≡ c.loop-i.i = omega arith in
    ap (λ i. option_map (λ d. is_some (name_in d)) (at (map view c.args.values.now) i)) same
    ∙ ap (option_map (λ d. is_some (name_in d))) (at-map c.args.values.now c.loop-i.i c.index-values-i.result c.loop-i-test.true c.index-values-i.is)
    ∙ ap Some (sym c.is_name_value.ensures.name ∙ c.if-not-is_name_value.true)

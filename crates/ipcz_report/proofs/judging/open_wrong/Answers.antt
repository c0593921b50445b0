use Rattle.std.proofs.Common.{◌≡◌, ◌∙◌, ◌∷◌, [], ap, sym, refl, rules, arith, map, option_and_then, is_some, false}
use Rattle.std.specs.FinSet.{contains}
use Rattle.serde_json.specs.Find.{as_str}
use Rattle.serde_json.specs.View.{view}
use Rattle.ipcz_script.specs.Shapes.{new_name_in}
use Rattle.ipcz_report.specs.Judging.{at}
use Rattle.ipcz_report.proofs.Opening.{open-second, same-texts, three-of}
use Rattle.ipcz_report.proofs.judging.open_wrong.Goals as goal

pub returns-in-Some-not_fresh-clause-told : goal.returns-in-Some-not_fresh-clause-told
returns-in-Some-not_fresh-clause-told c =
    let three : map view c.args.args.now ≡ view c.node-item.result ∷ view c.first-item.result ∷ view c.second-item.result ∷ [] =
    three-of c.args.args.now _ _ _ (omega (arith, c.in-len3.len_at_least)) (omega (arith, c.in-len3.len_below)) c.node-item.is c.first-item.is c.second-item.is in
    let no : is_some (new_name_in (contains c.args.opened.now) (view c.second-item.result)) ≡ false = search rules in
    open-second c.args.nodes (contains c.args.opened.now) (map view c.args.args.now) _ _ _ three no

pub returns-then-is_same-clause-so : goal.returns-then-is_same-clause-so
returns-then-is_same-clause-so c =
    let three : map view c.args.args.now ≡ view c.node-item.result ∷ view c.first-item.result ∷ view c.second-item.result ∷ [] =
    three-of c.args.args.now _ _ _ (omega (arith, c.in-len3.len_at_least)) (omega (arith, c.in-len3.len_below)) c.node-item.is c.first-item.is c.second-item.is in (
      refl,
      ap (λ ds. option_and_then as_str (at ds 1)) three ∙ same-texts _ _ (sym c.is_same.ensures ∙ c.if-is_same.true)
          ∙ sym (ap (λ ds. option_and_then as_str (at ds 2)) three),
    )

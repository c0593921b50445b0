use Rattle.std.proofs.Common.{◌≡◌, ◌∙◌, ap, sym, subst, inr, true, is_some, rules, length, map, option_and_then}
use Rattle.std.proofs.lemmas.List.{nil_from_length}
use Rattle.serde_json.specs.View.{view}
use Rattle.ipcz_script.specs.Scripts.{words_in}
use Rattle.ipcz_report.specs.declared.wrong.Key.TheVariants as keys
use Rattle.ipcz_report.proofs.Judged.{if_ok, none_some, some_map}
use Rattle.ipcz_report.proofs.faults.faults_of.Goals as goal

pub returns-in_default : goal.returns-in_default
returns-in_default c =
    let zero : length c.in_ok-faults.faults.items ≡ 0 = search rules in
    let right = c.in_ok-faults.ensures.1 (nil_from_length c.in_ok-faults.faults.items zero) in
    let nodes : is_some c.nodes_in.result ≡ true = ap is_some c.nodes_in.ensures.value ∙ right.1 keys.Nodes in
    absurd (none_some c.nodes_in.result c.in_default.is nodes)

pub returns-in_default-values_in : goal.returns-in_default-values_in
returns-in_default-values_in c =
    let zero : length c.in_ok-faults.faults.items ≡ 0 = search rules in
    let right = c.in_ok-faults.ensures.1 (nil_from_length c.in_ok-faults.faults.items zero) in
    let values : is_some c.values_in.result ≡ true = sym (some_map _ c.values_in.result) ∙ ap is_some c.values_in.ensures ∙ right.1 keys.Commands in
    absurd (none_some c.values_in.result c.in_default-values_in.is values)

pub returns : goal.returns
returns c =
    let d = view c.args.value.now in
    let zero : length c.in_ok-faults.faults.items ≡ 0 = search rules in
    let right = c.in_ok-faults.ensures.1 (nil_from_length c.in_ok-faults.faults.items zero) in
    let nodes = sym c.in-Some.ensures.value in
    let words = subst (λ o. is_some (option_and_then (words_in d) o) ≡ true) nodes (right.1 keys.Words) in
    record {
      faults = if_ok _ _ c.command_faults.result c.command_faults.ensures
          (λ faults h. inr (c.in-Some.nodes, map view c.in-Some-values_in.values.now, (right.0, nodes, words, sym c.in-Some-values_in.ensures), h));
    }

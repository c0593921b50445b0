use Rattle.std.proofs.Common.{◌≡◌, ◌∙◌, ◌+◌, ◌-◌, OnOk, ap, sym, subst}
use Rattle.ipcz_node.specs.FirstPairs.{pairs_from, first_pairs_from}
use Rattle.ipcz_script.specs.Labels.{bind_pairs}
use Rattle.ipcz_script.proofs.Pairing.{first-some}
use Rattle.ipcz_script.proofs.labels.Labels.+name_first_pairs.Goals as goal

pub returns : goal.returns
returns t c =
    let rest = first_pairs_from (c.args.i + 1) (c.args.left - 1) in
    let mine = bind_pairs c.args.self.now c.args.pair (pairs_from c.args.i (c.args.i + 1) (c.args.left - 1)) in
    subst (λ s. OnOk c.name_first_pairs.result (c.name_first_pairs.new.self ≡ s))
    (ap (λ s. bind_pairs s (c.args.pair + c.from.result) rest) c.in_ok-name_pairs.ensures
    ∙ ap (λ n. bind_pairs mine (c.args.pair + n) rest) c.from.ensures
    ∙ sym (first-some c.args.self.now c.args.pair c.args.i c.args.left c.if-left-eq0.false))
    c.name_first_pairs.ensures

use Rattle.std.proofs.Common.{List, ℕ, ap, ◌∙◌}
use Rattle.ipcz_rule.specs.Rule.{has_number}
use Rattle.ipcz_cell.proofs.Onces.{in_set}
use Rattle.ipcz_cell.proofs.node_list.NodeList.has.Goals as goal

pub returns : goal.returns
returns c =
    let inv = c.self.invariant in
    c.has.ensures ∙ (in_set c.self.inside.set c.self.inside.nodes.items c.args.number inv.2 inv.3 ∙ ap (λ (l : List ℕ). has_number l c.args.number) c.self.view_is)

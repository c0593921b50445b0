use Rattle.std.specs.Prelude.{take, drop}
use Rattle.std.proofs.Common.{◌≡◌, ◌+◌, List, ℕ, true, ap, refl, subst, sym, ◌∙◌}
use Rattle.ipcz_rule.specs.Rule.{has_number}
use Rattle.ipcz_cell.specs.Cells.{place_in}
use Rattle.ipcz_cell.proofs.Onces.{split_at}
use Rattle.ipcz_cell.proofs.node_list.NodeList.place_of.Goals as goal

pub returns-clause-place : goal.returns-clause-place
returns-clause-place c =
    let xs = c.self.inside.nodes.items in
    let n = c.args.number in
    let has = subst (λ (l : List ℕ). has_number l n ≡ true) (sym c.self.view_is) c.requires in
    let split = split_at xs n (place_in xs n + 1) has refl in
    (take (place_in xs n) xs, drop (place_in xs n + 1) xs, sym c.self.view_is ∙ split.0, c.place_of.ensures.place ∙ (ap (λ (l : List ℕ). place_in l n) c.as_slice.ensures.value ∙ sym split.1))

use Rattle.std.specs.Prelude.{◌≡◌, ◌++◌, List, length, map}
use Rattle.std.proofs.Common.{arith, ap, sym, append-nil, ◌∙◌}
use Rattle.std.proofs.lemmas.List.{nil_from_length}
use Rattle.ipcz_cell.specs.CellStates.{CellState}
use Rattle.ipcz_c.proofs.cell_making.boxed.Goals as goal

pub returns-clause-all : goal.returns-clause-all
returns-clause-all g c =
    let made = map (λ m. m.value) c.loop-cell.members.items in
    let none : length c.loop-cell.cells.items ≡ 0 = omega (arith, c.in_default.ensures.cases.0, c.loop-cell.invariant.left) in
    sym (append-nil made) ∙ (ap (λ (l : List CellState). made ++ l) (sym (nil_from_length c.loop-cell.cells.items none)) ∙ c.loop-cell.invariant.all)

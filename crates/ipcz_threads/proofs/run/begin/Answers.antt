use Rattle.std.proofs.Common.{List, ◌++◌, map, ap, sym, ◌∙◌, subst}
use Rattle.ipcz_cell.specs.CellStates.{CellState}
use Rattle.ipcz_cell.specs.Making.{AreFirst}
use Rattle.ipcz_script.specs.Labels.{first_labels}
use Rattle.ipcz_threads.proofs.run.begin.Goals as goal

pub returns : goal.returns
returns g c =
    let n = g.F.FabricName.table.count in
    let cells = c.lend.ensures ∙ (ap (λ ws. map (λ w. w.cell) ws ++ c.from_vec.result.items) c.in_ok-room.ensures.items ∙ c.from_vec.ensures.items) in
    record {
      cells = subst (λ (cs : List CellState). AreFirst n n cs) (sym cells) c.requires.cells;
      labels = c.in_ok-labels.ensures.labels ∙ ap first_labels c.requires.nodes.0;
    }

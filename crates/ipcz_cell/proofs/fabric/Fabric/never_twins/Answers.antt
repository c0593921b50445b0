use Rattle.std.proofs.Common.{[], ◌∷◌, List, ap, sym, ◌∙◌}
use Rattle.ipcz_rule.specs.declared.view.Part.{Part}
use Rattle.ipcz_cell.specs.CellStates.{first_part}
use Rattle.ipcz_cell.proofs.fabric.Fabric.never_twins.Goals as goal

pub join_twins-requires : goal.join_twins-requires
join_twins-requires g c =
    let one = c.rest-seat.ensures.seat in
    let two = c.rest-other.ensures.seat in
    record {
      own = (one.0, two.0);
      slots = two.2;
      parts = (one.1 ∙ ap (λ (ps : List Part). first_part ps ∷ []) (sym one.1), two.1 ∙ ap (λ (ps : List Part). first_part ps ∷ []) (sym two.1));
      twins = ap (λ (ps : List Part). (first_part ps).node) one.1 ∙ (c.requires.twins ∙ ap (λ (ps : List Part). (first_part ps).node) (sym two.1));
    }

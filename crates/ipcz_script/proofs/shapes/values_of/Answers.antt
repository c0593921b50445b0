use Rattle.std.proofs.Common.{◌∙◌, ap, sym, map, Some, option_map}
use Rattle.serde_json.specs.View.{view}
use Rattle.ipcz_script.specs.Shapes.{list_of}
use Rattle.ipcz_script.proofs.JsonLists.{list_of-items_of}
use Rattle.ipcz_script.proofs.shapes.values_of.Goals as goal

pub returns : goal.returns
returns c =
    ap (λ vs. Some (map view vs)) c.as_slice.ensures.value
    ∙ ap Some (sym (list_of-items_of (map view c.in_ok-values.values.now.items)))
    ∙ ap (option_map list_of) c.in_ok-values.ensures

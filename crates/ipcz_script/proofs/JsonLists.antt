-- The items of a JSON array and the members of a JSON object as lists.
use Rattle.std.proofs.Common.{◌≡◌, List, [], ◌∷◌, length, refl, ap, suc, String, Global}
use Rattle.serde_json.specs.Data.{Data}
use Rattle.serde_json.specs.View.{items_of, members_view}
use Rattle.serde_json.specs.Events.{members_len}
use Rattle.serde_json.specs.declared.value.Value.{Value}
use Rattle.ipcz_script.specs.Shapes.{list_of}

pub list_of-items_of : (ds : List Data) → list_of (items_of ds) ≡ ds
list_of-items_of [] = refl
list_of-items_of (d ∷ ds) = ap (λ rest. d ∷ rest) (list_of-items_of ds)

-- an object has as many members as its map has entries
pub members_len-members_view : (es : List (String Global × Value)) → members_len (members_view es) ≡ length es
members_len-members_view [] = refl
members_len-members_view (e ∷ es) = ap suc (members_len-members_view es)

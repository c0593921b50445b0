-- Cells that are taken apart, one after the other, into one seat.
use Rattle.std.specs.Prelude.{◌≡◌, List, [], ◌∷◌, ◌++◌, map, Option, Some, option_to_list}
use Rattle.std.proofs.Common.{ap, ◌∙◌, sym}
use Rattle.ipcz_base.specs.declared.message.Message.{Message}
use Rattle.ipcz_node.specs.Node.{Node}
use Rattle.ipcz_node.specs.RoomyNodes.{RoomyNode}
use Rattle.ipcz_rule.specs.declared.view.View.{View}
use Rattle.ipcz_rule.specs.declared.view.Part.{Part}
use Rattle.ipcz_rule.specs.End.{rested, states_of}
use Rattle.ipcz_cell.specs.CellStates.{CellState}
use Rattle.ipcz_cell.specs.Ending.{parts_of}
use Rattle.ipcz_cell.proofs.ReadBack.{messages_of}

abbrev pub nodes_of : List RoomyNode → List Node
nodes_of ks = map (λ k. k.node) ks

-- what is taken apart so far, and what is left, come to all cells
pub record IsUnion (all left : List CellState) (v : View) (states : List RoomyNode) (hands : List (Option Message)) : Type 0 where
  pub parts : v.parts ++ map rested (parts_of left) ≡ map rested (parts_of all)
  pub nodes : nodes_of states ++ states_of (parts_of left) ≡ states_of (parts_of all)
  pub messages : hands ++ messages_of (parts_of left) ≡ messages_of (parts_of all)

-- one cell is the first
pub union_first : (all left : List CellState) (c : CellState) (v : View) (states new_states : List RoomyNode) (hands new_hands : List (Option Message)) (k : RoomyNode) (m : Option Message) →
    all ≡ c ∷ left → v.parts ≡ rested c.part ∷ [] → states ≡ [] → hands ≡ [] → k.node ≡ c.part.state → m ≡ c.part.message →
    new_states ≡ states ++ k ∷ [] → new_hands ≡ hands ++ m ∷ [] → IsUnion all left v new_states new_hands
union_first all left c v states new_states hands new_hands k m is at no_states no_hands node message more_states more_hands = record {
  parts = ap (λ (l : List Part). l ++ map rested (parts_of left)) at ∙ ap (λ (l : List CellState). map rested (parts_of l)) (sym is);
  nodes = ap (λ (l : List RoomyNode). nodes_of l ++ states_of (parts_of left)) (more_states ∙ ap (λ (l : List RoomyNode). l ++ k ∷ []) no_states)
      ∙ (ap (λ (n : Node). n ∷ states_of (parts_of left)) node ∙ ap (λ (l : List CellState). states_of (parts_of l)) (sym is));
  messages = ap (λ (l : List (Option Message)). l ++ messages_of (parts_of left)) (more_hands ∙ ap (λ (l : List (Option Message)). l ++ m ∷ []) no_hands)
      ∙ (ap (λ (o : Option Message). o ∷ messages_of (parts_of left)) message ∙ ap (λ (l : List CellState). messages_of (parts_of l)) (sym is));
}

-- the first cell is taken out
pub cell_taken : (old new : List CellState) (r : Option CellState) (c : CellState) → old ≡ option_to_list r ++ new → r ≡ Some c → old ≡ c ∷ new
cell_taken old new r c taken is = taken ∙ ap (λ (o : Option CellState). option_to_list o ++ new) is

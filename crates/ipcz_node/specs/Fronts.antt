-- Messages in front of a node's outboxes: they left the node, and stand in front of what waits there.
-- (This project's own: ipcz's nodes share no mailboxes.)
use Rattle.std.specs.Prelude.{List, [], ◌∷◌, ◌++◌}
use Rattle.ipcz_base.specs.declared.message.Message.{Message}
use Rattle.ipcz_node.specs.Node.{Node}

-- outboxes with messages in front, by destination
abbrev pub fronted : List (List Message) → List (List Message) → List (List Message)
fronted [] boxes = boxes
fronted (f ∷ fs) [] = f ∷ fs
fronted (f ∷ fs) (b ∷ boxes) = (f ++ b) ∷ fronted fs boxes

-- the node with these messages in front
abbrev pub behind : List (List Message) → Node → Node
behind fs n = record n { outboxes = fronted fs n.outboxes }

-- What the calls of C tell of the portals at which something has come.
use Rattle.std.specs.Prelude.{◌≡◌, ◌≤◌, ◌<◌, ◌+◌, ◌^◌, ◌-◌, ℕ, min, Option, Some, None}
use Rattle.ipcz_base.specs.declared.end.End.{End}
use Rattle.ipcz_base.specs.declared.refusal.Refusal.TheVariants.{Empty}
use Rattle.ipcz_base.specs.Refusals.{code_of}
use Rattle.ipcz_node.specs.Finding.{IsNextReady}
use Rattle.ipcz_world.specs.World.{World, node_at}
use Rattle.ipcz_c.specs.declared.portal.Portal.{Portal}
use Rattle.ipcz_c.specs.HeldCells.{HeldCell}
use Rattle.ipcz_c.specs.Named.{named}

-- what is told of an answer: the end is written, and from which serial to ask for the next one, the last one of 64 bits at most; where there is none
-- nothing is written
unfoldable pub TellsReady : Option (ℕ × End) → ℕ → ℕ → ℕ → Portal → Portal → Type 0
TellsReady (Some found) status old_from from old at = (status ≡ 0) × (from ≡ min (found.0 + 1) (2 ^ 64 - 1)) × (named at ≡ found.1)
TellsReady None status old_from from old at = (status ≡ code_of Empty) × (from ≡ old_from) × (at ≡ old)

-- what the world of a handle answers to who asks for the next ready end of a node, and what the cell of one does
abbrev pub IsReadyIn : Option World → ℕ → ℕ → Option (ℕ × End) → Type 0
IsReadyIn old node from answer = (w : World) → old ≡ Some w →
    (node < w.count → IsNextReady (node_at w node) from answer) × (w.count ≤ node → answer ≡ None)

abbrev pub IsReadyOf : Option HeldCell → ℕ → Option (ℕ × End) → Type 0
IsReadyOf old from answer = (c : HeldCell) → old ≡ Some c → IsNextReady c.cell.part.state from answer

-- the next ready portal of a node of a world, and that of a cell's node
abbrev pub FindsReady : Option World → ℕ → ℕ → ℕ → ℕ → Portal → Portal → Type 0
FindsReady old node status old_from from old_at at =
    (answer : Option (ℕ × End)) × IsReadyIn old node old_from answer × TellsReady answer status old_from from old_at at

abbrev pub CellFindsReady : Option HeldCell → ℕ → ℕ → ℕ → Portal → Portal → Type 0
CellFindsReady old status old_from from old_at at =
    (answer : Option (ℕ × End)) × IsReadyOf old old_from answer × TellsReady answer status old_from from old_at at

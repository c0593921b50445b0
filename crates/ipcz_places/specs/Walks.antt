-- How far a text is JSON.
use Rattle.std.specs.Prelude.{ℕ, ◌<◌, ◌≤◌, List, length, Option, None, Some}
use Rattle.std.specs.List.{All}
use Rattle.ipcz_places.specs.Faults.{Grounds, Opens}
use Rattle.ipcz_places.specs.declared.broken.JsonFault.{JsonFault}
use Rattle.ipcz_places.specs.declared.walk.Walk.{Walk}

-- a walk within this text, whose brackets stand there
abbrev pub IsWalk : List ℕ → Walk → Type 0
IsWalk text walk = (walk.at ≤ length text) × All (Opens text) walk.brackets.items

-- the walk has gone on, or a fault was found that is one
abbrev pub Goes : List ℕ → Walk → Walk → Option JsonFault → Type 0
Goes text old new None = IsWalk text new × (old.at < new.at)
Goes text old new (Some fault) = Grounds text fault.offset fault.why

-- How many nodes and link words the world of a script may have.
use Rattle.std.specs.Prelude.{◌≤◌, ℕ}
use Rattle.ipcz_world.specs.Lawful.{IsWithinLimits}

-- as many as a world may have, but at most 8 nodes
pub record HasScriptLimits (nodes words : ℕ) : Type 0 where
  pub world : IsWithinLimits nodes words
  pub few : nodes ≤ 8

-- Which names the ends of a pair have, as a function promises it.
use Rattle.std.specs.Prelude.{◌≡◌, ℕ, List, Some}
use Rattle.std.specs.FinMap.{get}
use Rattle.ipcz_base.specs.declared.side.Side.TheVariants.{A, B}
use Rattle.ipcz_base.specs.Ends.{end_at}
use Rattle.ipcz_script.specs.declared.command.Command.TheVariants as commands
use Rattle.ipcz_script.specs.declared.said.Said.TheVariants as said
use Rattle.ipcz_script.specs.Lines.{title_of}
use Rattle.ipcz_script.specs.Sessions.{Session, Runs}

-- the ends of a pair print under these names, the first at side A, and the second is bound to side B
pub record AreNamed (s : Session) (first second : List ℕ) : Type 0 where
  pub pair : ℕ
  pub at_a : title_of s.titles (end_at pair A) ≡ first
  pub at_b : title_of s.titles (end_at pair B) ≡ second
  pub bound : get s.names second ≡ Some (end_at pair B)

-- law: an open that succeeds names the ends of its pair so
abbrev pub OpensNameSides : Type 0
OpensNameSides =
    (s t : Session) (node : ℕ) (first second : List ℕ) → Runs s (commands.Open node first second) said.Opened t → AreNamed t first second

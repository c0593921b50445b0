use Rattle.std.proofs.Common.{◌≡◌, drop}
use Rattle.std.specs.FinMap.{get}
use Rattle.ipcz_script.specs.Each.{each_of}
use Rattle.ipcz_script.proofs.Each.{behind}
use Rattle.ipcz_script.proofs.labels.Labels.ends_of.Given as goal

-- what the names that are left give, behind the ends so far, is what all of them give
abbrev pub invariant-loop-name : goal.invariant-loop-name
invariant-loop-name l = behind l.ends.items (each_of (get l.self.names) (drop l.name-index l.names)) ≡ each_of (get l.self.names) l.names

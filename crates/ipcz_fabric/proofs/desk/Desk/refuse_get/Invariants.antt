use Rattle.std.specs.Prelude.{Err}
use Rattle.ipcz_base.specs.declared.refusal.Refusal.TheVariants.{OutOfMemory}
use Rattle.ipcz_rule.specs.declared.history.Call.TheVariants as calls
use Rattle.ipcz_fabric.proofs.desk.Desk.refuse_get.Given as goal

abbrev pub ghosts-note_as : goal.ghosts-note_as
ghosts-note_as g a = record { call = calls.Got a.asked.now (Err OutOfMemory) }

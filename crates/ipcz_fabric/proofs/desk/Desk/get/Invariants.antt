use Rattle.ipcz_rule.specs.declared.history.Call.TheVariants as calls
use Rattle.ipcz_fabric.proofs.desk.Desk.get.Given as goal

abbrev pub ghosts-note_as : goal.ghosts-note_as
ghosts-note_as g a = record { call = calls.Got a.asked.now a.answer.now }

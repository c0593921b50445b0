use Rattle.ipcz_rule.specs.declared.history.Call.TheVariants as calls
use Rattle.ipcz_fabric.specs.Portals.{ends_of}
use Rattle.ipcz_fabric.proofs.desk.Desk.put_as.Given as goal

abbrev pub ghosts-put_noted : goal.ghosts-put_noted
ghosts-put_noted g a = record { puts = calls.Put a.profile a.portal.now.end a.bytes (ends_of a.portals.items) }

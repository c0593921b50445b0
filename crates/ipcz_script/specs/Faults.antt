-- What a reader of a script answers, in addition to what its definition says: only a want of memory may stand in between; and what a fault of
-- reading or writing as a whole is to a run.
use Rattle.std.specs.Prelude.{◌≡◌, Result, Ok, Err}
use Rattle.ipcz_device.specs.declared.fault.Fault.{Fault}
use Rattle.ipcz_device.specs.declared.fault.Fault.TheVariants as faults
use Rattle.ipcz_script.specs.declared.run_fault.RunFault.{RunFault}
use Rattle.ipcz_script.specs.declared.run_fault.RunFault.TheVariants as run_faults
use Rattle.ipcz_script.specs.declared.script_fault.ScriptFault.{ScriptFault}
use Rattle.ipcz_script.specs.declared.script_fault.ScriptFault.TheVariants.{NotJson, BadShape, TooLong, OutOfMemory}

-- the answer is what the definition says, or that no memory was found
abbrev pub Gives : {X : Type 0} → Result X ScriptFault → Result X ScriptFault → Type 0
Gives (Ok x) said = said ≡ Ok x
Gives (Err NotJson) said = said ≡ Err NotJson
Gives (Err (BadShape n)) said = said ≡ Err (BadShape n)
Gives (Err TooLong) said = said ≡ Err TooLong
Gives (Err OutOfMemory) said = Unit {0}

-- why a run was given up, by why its reading or writing was
abbrev pub run_fault : Fault → RunFault
run_fault faults.Read = run_faults.Read
run_fault faults.Write = run_faults.Write
run_fault faults.OutOfMemory = run_faults.OutOfMemory

use Rattle.std.proofs.Common.{◌≡◌, ◌++◌, drop, map}
use Rattle.ipcz_report.proofs.reporting.told_faults.Given as goal

-- the numbers so far and those of the faults that are left are all numbers
abbrev pub invariant-loop-fault : goal.invariant-loop-fault
invariant-loop-fault l =
    map (λ r. r.number) l.remarks.items ++ map (λ f. f.number) (drop l.fault-index l.faults) ≡ map (λ f. f.number) l.faults

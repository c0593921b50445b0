use Rattle.std.proofs.Common.{◌≡◌, ◌+◌, ◌++◌, drop, map}
use Rattle.ipcz_report.specs.Reports.{numbers}
use Rattle.ipcz_report.proofs.reporting.told_commands.Given as goal

-- the numbers so far and those of the commands that are left are all numbers
abbrev pub invariant-loop-command : goal.invariant-loop-command
invariant-loop-command l =
    (l.number ≡ l.command-index + 1)
    × (map (λ r. r.number) l.remarks.items ++ numbers l.number (drop l.command-index l.commands) ≡ numbers 1 l.commands)

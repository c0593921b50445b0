use Rattle.std.proofs.Common.{drop}
use Rattle.ipcz_script.specs.Sessions.{Runs}
use Rattle.ipcz_script.proofs.Writing.{GoesOn}
use Rattle.ipcz_script.proofs.run.run_commands.Given as goal

abbrev pub invariant-loop-command : goal.invariant-loop-command
invariant-loop-command l = GoesOn Runs (λ s. s.titles) l.fn.session l.commands l.session (drop l.command-index l.commands) l.text.items l.unsettled

use Rattle.std.proofs.Common.{drop}
use Rattle.ipcz_script.proofs.Writing.{GoesOn}
use Rattle.ipcz_threads.specs.Stages.{Runs}
use Rattle.ipcz_threads.proofs.run.run_commands.Given as goal

abbrev pub invariant-loop-command : goal.invariant-loop-command
invariant-loop-command g l =
    GoesOn (Runs g.G.Gate.answers g.F.FabricName.table) (λ s. s.labels.titles) l.fn.session l.commands l.session (drop l.command-index l.commands) l.text.items l.unsettled

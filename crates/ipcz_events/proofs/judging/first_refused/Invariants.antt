use Rattle.std.proofs.Common.{drop}
use Rattle.ipcz_script.specs.Sessions.{new_session}
use Rattle.ipcz_events.proofs.Logs.{IsOn}
use Rattle.ipcz_events.proofs.judging.first_refused.Given as goal

abbrev pub invariant-loop-entry : goal.invariant-loop-entry
invariant-loop-entry l = IsOn (new_session l.fn.nodes l.fn.words) l.log l.session (drop l.entry-index l.log) l.number

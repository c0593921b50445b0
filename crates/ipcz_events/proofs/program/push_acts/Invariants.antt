use Rattle.std.proofs.Common.{◌≡◌, ◌++◌, drop}
use Rattle.ipcz_events.specs.Outputs.{acts_text}
use Rattle.ipcz_events.proofs.program.push_acts.Given as goal

-- what is written, and the acts that are left, are all of it
abbrev pub invariant-loop-act : goal.invariant-loop-act
invariant-loop-act l = l.out.items ++ acts_text (drop l.act-index l.acts) ≡ l.fn.out.items ++ acts_text l.acts

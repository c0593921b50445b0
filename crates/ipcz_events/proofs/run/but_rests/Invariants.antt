use Rattle.std.proofs.Common.{◌≡◌, ◌++◌, drop}
use Rattle.std.specs.List.{filter}
use Rattle.ipcz_events.specs.Drawing.{is_no_rest}
use Rattle.ipcz_events.proofs.run.but_rests.Given as goal

-- the acts so far that are no rests, and those of the acts that are left, are all of them
abbrev pub invariant-loop-act : goal.invariant-loop-act
invariant-loop-act l = l.others.items ++ filter is_no_rest (drop l.act-index l.acts) ≡ filter is_no_rest l.acts

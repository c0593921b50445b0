use Rattle.std.proofs.Common.{◌≡◌, drop}
use Rattle.ipcz_verdict.specs.Desks.{holding_each}
use Rattle.ipcz_verdict.proofs.books.hold_all.Given as goal

abbrev pub invariant-loop-end : goal.invariant-loop-end
invariant-loop-end l = holding_each l.portals (drop l.end-index l.ends) l.holder ≡ holding_each l.fn.portals l.ends l.holder

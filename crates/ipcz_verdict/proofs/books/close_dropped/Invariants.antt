use Rattle.ipcz_verdict.specs.Desks.{ClosesSome}
use Rattle.ipcz_verdict.proofs.books.close_dropped.Given as goal

abbrev pub invariant-loop : goal.invariant-loop
invariant-loop l = ClosesSome l.fn.portals l.fn.dropped.items l.portals l.dropped.items

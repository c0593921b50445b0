use Rattle.std.proofs.Common.{◌≡◌, ◌&&◌, drop}
use Rattle.ipcz_base.specs.Limits.{is_printable}
use Rattle.ipcz_verdict.proofs.books.is_printable.Given as goal

abbrev pub invariant-loop-b : goal.invariant-loop-b
invariant-loop-b l = (l.all && is_printable (drop l.b-index l.bytes)) ≡ is_printable l.bytes

use Rattle.std.proofs.Common.{◌≡◌, ◌+◌, ◌-◌, ◌*◌, length, false, cond}
use Rattle.ipcz_log.proofs.Cutting.{IsReading}
use Rattle.ipcz_log.proofs.lines.Lines.next.Given as goal

abbrev pub invariant-reading : goal.invariant-reading
invariant-reading g l = (l.reader.failed ≡ false) × IsReading (g.R.Read.remaining l.fn.reader.inner) (g.R.Read.remaining l.reader.inner) l.fn.self l.self

-- what the line may still grow by, and then the end
abbrev pub decreases-reading : goal.decreases-reading
decreases-reading g l = 2 * (1073745920 + length l.fn.self.unread - (length l.self.line + length l.self.unread)) + cond l.self.ended 0 1

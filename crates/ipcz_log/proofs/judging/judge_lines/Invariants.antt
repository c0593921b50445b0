use Rattle.std.proofs.Common.{◌≡◌, ◌-◌, ◌^◌, List, ℕ, Option, [], false}
use Rattle.ipcz_log.specs.Pieces.{ConsumesSome}
use Rattle.ipcz_log.specs.Steps.{Goes, Reaches}
use Rattle.ipcz_log.specs.Verdicts.{IsSaidOf}
use Rattle.ipcz_log.proofs.judging.judge_lines.Given as goal

abbrev pub invariant-judging : goal.invariant-judging
invariant-judging g l =
    (l.reader.failed ≡ false)
    × ConsumesSome (g.R.Read.remaining l.fn.reader.inner) (g.R.Read.remaining l.reader.inner)
    × ((before : Option (List ℕ)) → Goes before (g.R.Read.remaining l.fn.reader.inner) l.fn.lines (IsSaidOf l.fn.header.nodes l.fn.header.profile [] 2) →
    Reaches before (g.R.Read.remaining l.reader.inner) l.lines l.fn.header.nodes l.fn.header.profile l.judge l.number)

abbrev pub decreases-judging : goal.decreases-judging
decreases-judging g l = 2 ^ 64 - l.number

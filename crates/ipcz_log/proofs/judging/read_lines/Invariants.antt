use Rattle.std.proofs.Common.{◌≡◌, ◌-◌, ◌^◌, List, ℕ, Option, [], false}
use Rattle.ipcz_base.specs.declared.profile.Profile.{Profile}
use Rattle.ipcz_verdict.specs.Searches.{HasEntries}
use Rattle.ipcz_log.specs.Pieces.{ConsumesSome}
use Rattle.ipcz_log.specs.Steps.{Goes, Reads}
use Rattle.ipcz_log.specs.Verdicts.{IsSaidOfLogs}
use Rattle.ipcz_log.proofs.judging.read_lines.Given as goal

abbrev pub invariant-collecting : goal.invariant-collecting
invariant-collecting g l =
    (l.reader.failed ≡ false)
    × ConsumesSome (g.R.Read.remaining l.fn.reader.inner) (g.R.Read.remaining l.reader.inner)
    × ((before : Option (List ℕ)) (nodes : ℕ) (profile : Profile) → HasEntries l.fn.logs [] →
    Goes before (g.R.Read.remaining l.fn.reader.inner) l.fn.lines (IsSaidOfLogs nodes profile l.count [] 2) →
    Reads before (g.R.Read.remaining l.reader.inner) l.lines nodes profile l.count l.logs l.number)

abbrev pub decreases-collecting : goal.decreases-collecting
decreases-collecting g l = 2 ^ 64 - l.number

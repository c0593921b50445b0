use Rattle.std.proofs.Common.{take}
use Rattle.ipcz_verdict.specs.Desks.{HasAllowed}
use Rattle.ipcz_verdict.specs.Ledger.{IsAllowed}
use Rattle.ipcz_verdict.specs.Searches.{taken_lines}
use Rattle.ipcz_verdict.specs.Together.{calls_of}
use Rattle.ipcz_verdict.proofs.search.Search.judge_again.Given as goal

abbrev pub invariant-loop-taken : goal.invariant-loop-taken
invariant-loop-taken l =
    IsAllowed l.fn.nodes l.fn.profile (calls_of (taken_lines l.self.order.items)) → HasAllowed l.judge l.fn.nodes l.fn.profile (calls_of (taken_lines (take l.taken-index l.self.order.items)))

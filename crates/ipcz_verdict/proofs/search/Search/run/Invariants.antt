use Rattle.std.proofs.Common.{◌≡◌, [], List}
use Rattle.ipcz_verdict.specs.declared.entry.Entry.{Entry}
use Rattle.ipcz_verdict.specs.Searches.{IsSearch, IsStuck}
use Rattle.ipcz_verdict.proofs.Counting.{IsOnTheWay}
use Rattle.ipcz_verdict.proofs.search.Search.run.Given as goal

abbrev pub invariant-loop-steps : goal.invariant-loop-steps
invariant-loop-steps l = (entries : List Entry) → IsSearch l.nodes l.profile entries l.fn.self.judge l.fn.self.order.items l.fn.self.left.items 0 → l.fn.self.order.items ≡ [] →
    IsSearch l.nodes l.profile entries l.self.judge l.self.order.items l.self.left.items l.from
    × IsOnTheWay l.nodes l.profile entries l.fn.steps l.steps l.self.order.items l.from × IsStuck l.nodes l.profile entries l.stuck.number

abbrev pub decreases-loop-steps : goal.decreases-loop-steps
decreases-loop-steps l = l.steps

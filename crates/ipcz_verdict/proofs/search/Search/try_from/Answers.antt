use Rattle.std.proofs.Common.{arith}
use Rattle.ipcz_verdict.proofs.Searching.{lowered}
use Rattle.ipcz_verdict.proofs.search.Search.try_from.Goals as goal

pub returns-clause-search : goal.returns-clause-search
returns-clause-search c = λ nodes profile entries s. lowered nodes profile entries c.loop-key.self.judge c.loop-key.self.order.items c.loop-key.self.left.items 256 c.loop-key.key
    (omega (arith, c.loop-key-test.false)) ((c.loop-key.invariant.1 nodes profile entries s).0)

pub returns-clause-adds : goal.returns-clause-adds
returns-clause-adds c = λ nodes profile entries s. (c.loop-key.invariant.1 nodes profile entries s).1

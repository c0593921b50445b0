use Rattle.std.proofs.Common.{List, length, take, arith, ap, subst}
use Rattle.ipcz_verdict.specs.declared.search.Taken.{Taken}
use Rattle.ipcz_verdict.specs.Desks.{HasAllowed}
use Rattle.ipcz_verdict.specs.Searches.{taken_lines}
use Rattle.ipcz_verdict.specs.Together.{calls_of}
use Rattle.ipcz_verdict.proofs.Searching.{again, take_whole}
use Rattle.ipcz_verdict.proofs.search.Search.judge_again.Goals as goal

pub loop-taken-preserved : goal.loop-taken-preserved
loop-taken-preserved c = λ it. again c.args.nodes c.args.profile c.args.self.now.order.items c.deref-taken-items.result.now c.loop-taken.taken-index c.taken-item.result c.take.new.self c.in_ok-take.field-0
    c.deref-taken-items.ensures.value c.loop-taken-test.true c.taken-item.is it
    (c.in_ok-take.ensures.allowed c.args.nodes c.args.profile (calls_of (taken_lines (take c.loop-taken.taken-index c.args.self.now.order.items))) (c.loop-taken.invariant it))

pub returns : goal.returns
returns c = λ it. subst (λ (ts : List Taken). HasAllowed c.loop-taken.judge c.args.nodes c.args.profile (calls_of (taken_lines ts)))
    (take_whole c.args.self.now.order.items c.loop-taken.taken-index
    (omega (arith, c.loop-taken-test.false, ap (λ (ts : List Taken). length ts) c.deref-taken-items.ensures.value))) (c.loop-taken.invariant it)

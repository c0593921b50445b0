use Rattle.std.proofs.Common.{below_more, ap, sym, ◌∙◌}
use Rattle.std.specs.Option.{option_copied}
use Rattle.ipcz_verdict.proofs.Searching.{all_none, empty_is, none_of, seen}
use Rattle.ipcz_verdict.proofs.search.is_none_left.Goals as goal

pub loop-queue-preserved : goal.loop-queue-preserved
loop-queue-preserved c = below_more _ _ c.loop-queue.invariant
    (sym (seen c.args.left.now c.loop-queue.queue-index c.queue-item.result c.loop-queue-test.true) ∙ sym c.queue-item.is
    ∙ empty_is c.queue-item.result (sym c.first.ensures ∙ ap option_copied (none_of c.first.result (sym c.is_some.ensures ∙ c.if-is_some.false))))

pub returns : goal.returns
returns c = all_none c.args.left.now c.loop-queue.queue-index c.loop-queue.invariant c.loop-queue-test.false

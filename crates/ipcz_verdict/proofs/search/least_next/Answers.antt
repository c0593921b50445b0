use Rattle.std.proofs.Common.{◌∙◌, ap, inl, inr, sym}
use Rattle.std.specs.Option.{option_copied}
use Rattle.ipcz_verdict.proofs.Counting.{least_kept, least_more, least_of}
use Rattle.ipcz_verdict.proofs.Searching.{seen}
use Rattle.ipcz_verdict.proofs.search.least_next.Goals as goal
use Rattle.ipcz_verdict.proofs.search.least_next.Goals.{in-Some, in_default}

pub loop-queue-preserved : goal.loop-queue-preserved
loop-queue-preserved c =
    let here = c.queue-item.is ∙ seen c.args.left.now c.loop-queue.queue-index c.queue-item.result c.loop-queue-test.true in
    elim c.match-first.branch [
      | in-Some w ↦ least_more c.args.left.now c.loop-queue.queue-index c.queue-item.result w.in-Some.entry.now c.loop-queue.least c.match-first.least here (sym c.first.ensures ∙ ap option_copied w.in-Some.is)
          (elim w.lesser-least.ensures.one [ inl k ↦ inl (w.least-is ∙ k) | inr k ↦ inr (w.least-is ∙ k) ]) (λ k. w.least-is ∙ w.lesser-least.ensures.first k) c.loop-queue.invariant
      | in_default w ↦ least_kept c.args.left.now c.loop-queue.queue-index c.queue-item.result c.loop-queue.least c.match-first.least here (sym c.first.ensures ∙ ap option_copied w.in_default.is) w.least-is
          c.loop-queue.invariant
    ]

pub returns : goal.returns
returns c = least_of c.args.left.now c.loop-queue.queue-index c.loop-queue.least c.loop-queue-test.false c.loop-queue.invariant

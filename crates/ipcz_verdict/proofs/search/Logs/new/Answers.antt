use Rattle.std.proofs.Common.{List, length, arith, ap, ◌∙◌}
use Rattle.ipcz_verdict.specs.declared.entry.Entry.{Entry}
use Rattle.ipcz_verdict.specs.Searches.{left_of}
use Rattle.ipcz_verdict.proofs.Searching.{no_lines, none_more, one_longer}
use Rattle.ipcz_verdict.proofs.search.Logs.new.Goals as goal

pub loop-lacking-preserved : goal.loop-lacking-preserved
loop-lacking-preserved c = record {
  counted = omega (arith, c.loop-lacking-test.true, c.loop-lacking.invariant.counted, ap (λ (s : List (List Entry)). length s) c.in_ok-add_log.ensures, one_longer c.loop-lacking.queues.items);
  none = λ k. ap (λ (s : List (List Entry)). left_of s k) c.in_ok-add_log.ensures ∙ none_more c.loop-lacking.queues.items c.loop-lacking.invariant.none k;
}

pub returns : goal.returns
returns c = record { nothing = no_lines c.loop-lacking.queues.items (omega (arith, c.loop-lacking-test.false, c.loop-lacking.invariant.counted)) c.loop-lacking.invariant.none }

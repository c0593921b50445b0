use Rattle.std.proofs.Common.{◌≡◌, length}
use Rattle.ipcz_events.specs.Verdicts.{text_lines}
use Rattle.ipcz_events.proofs.Hearing.{Reaches}
use Rattle.ipcz_events.proofs.log_text.judge_lines.Given as goal

abbrev pub invariant-loop-rest : goal.invariant-loop-rest
invariant-loop-rest l = Reaches l.fn.header.nodes l.fn.header.words l.session l.line (text_lines l.fn.text) (text_lines l.rest) × (l.follower ≡ l.session)

abbrev pub decreases-loop-rest : goal.decreases-loop-rest
decreases-loop-rest l = length l.rest

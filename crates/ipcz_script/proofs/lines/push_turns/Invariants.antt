use Rattle.std.proofs.Common.{◌≡◌, ◌++◌, drop}
use Rattle.ipcz_script.specs.Lines.{turn_lines}
use Rattle.ipcz_script.proofs.lines.push_turns.Given as goal

-- what is written, and the lines that are left, are all of it
abbrev pub invariant-loop-reply : goal.invariant-loop-reply
invariant-loop-reply l = l.out.items ++ turn_lines l.node (drop l.reply-index l.replies) ≡ l.fn.out.items ++ turn_lines l.node l.replies

use Rattle.std.proofs.Common.{◌≡◌, ◌++◌, take}
use Rattle.ipcz_markup.specs.Markup.{escaped}
use Rattle.ipcz_markup.proofs.writer.push_escaped.Given as goal

-- the bytes so far were added, escaped
abbrev pub invariant-loop-byte : goal.invariant-loop-byte
invariant-loop-byte l = l.out.items ≡ l.fn.out.items ++ escaped (take l.byte-index l.bytes)

use Rattle.std.proofs.Common.{None, min, replicate, take}
use Rattle.ipcz_picture.specs.Words.{SeesAll}
use Rattle.ipcz_picture.proofs.known_words.known_before.Given as goal

-- what the lines so far tell is known
abbrev pub invariant-loop-read : goal.invariant-loop-read
invariant-loop-read l = SeesAll (take l.read-index l.lines) (replicate (min l.words 4096) None) l.known.values.items

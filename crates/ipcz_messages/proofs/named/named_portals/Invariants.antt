use Rattle.std.proofs.Common.{◌≤◌, length}
use Rattle.std.specs.List.{All}
use Rattle.ipcz_messages.specs.Named.{AreAllNamed, AreDistinct, ArePlaced, NotesItsClose, IsTold}
use Rattle.ipcz_messages.proofs.named.named_portals.Given as goal

-- there are no more portals than are named, each is told, has its place and a name of its own, its close is noted, and all of the lines before are there
abbrev pub invariant-loop-line : goal.invariant-loop-line
invariant-loop-line l = (length l.named.items ≤ 32) × All (IsTold l.lines) l.named.items × ArePlaced l.named.items
    × AreDistinct l.named.items × All (NotesItsClose l.lines l.line) l.named.items × AreAllNamed l.lines l.line l.named.items

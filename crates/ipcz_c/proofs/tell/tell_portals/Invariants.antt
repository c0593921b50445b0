use Rattle.std.proofs.Common.{◌≡◌, length, take, drop}
use Rattle.ipcz_c.specs.Named.{ends_of}
use Rattle.ipcz_c.proofs.tell.tell_portals.Given as goal

-- the portals so far, and the rest of the room as it was
abbrev pub invariant-loop-at : goal.invariant-loop-at
invariant-loop-at l =
    (ends_of (take l.at l.room) ≡ take l.at l.ends) × (length l.room ≡ length l.fn.room) × (drop l.at l.room ≡ drop l.at l.fn.room)

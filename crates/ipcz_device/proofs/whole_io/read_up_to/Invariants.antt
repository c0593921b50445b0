use Rattle.std.proofs.Common.{◌≡◌, ◌≤◌, ◌-◌, length, false}
use Rattle.std.specs.Io.KnownBytes.{Consumes}
use Rattle.ipcz_device.proofs.whole_io.read_up_to.Given as goal

-- the bytes so far are the front of what was there
abbrev pub invariant-reading : goal.invariant-reading
invariant-reading g l =
    (l.device.failed ≡ false) × (length l.bytes.items ≤ l.limit)
    × Consumes (g.R.Read.remaining l.fn.device.inner) (g.R.Read.remaining l.device.inner) l.bytes.items

abbrev pub decreases-reading : goal.decreases-reading
decreases-reading g l = l.limit - length l.bytes.items

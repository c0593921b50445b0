use Rattle.std.proofs.Common.{◌≡◌, ℕ, ◌≤◌, length, take, drop, false}
use Rattle.std.specs.Io.KnownBytes.{Appends}
use Rattle.ipcz_device.proofs.whole_io.write_whole.Given as goal

-- some front of the text is written, and the rest is what comes after it
abbrev pub invariant-writing : goal.invariant-writing
invariant-writing g l =
    (l.device.failed ≡ false) × (k : ℕ) × (k ≤ length l.text) × (l.rest ≡ drop k l.text)
    × Appends (g.W.Write.contents l.fn.device.inner) (g.W.Write.contents l.device.inner) (take k l.text)

abbrev pub decreases-writing : goal.decreases-writing
decreases-writing g l = length l.rest

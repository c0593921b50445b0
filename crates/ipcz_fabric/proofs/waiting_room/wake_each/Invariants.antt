use Rattle.std.proofs.Common.{◌≡◌, ℕ, ◌<◌, ◌≤◌, get_or}
use Rattle.ipcz_fabric.specs.declared.chair.Chair.TheVariants as kinds
use Rattle.ipcz_fabric.specs.Waiting.{woken_chair}
use Rattle.ipcz_fabric.proofs.waiting_room.wake_each.Given as goal

-- those before are woken, and those from here on are as they were
abbrev pub invariant-loop-place : goal.invariant-loop-place
invariant-loop-place g l = ((k : ℕ) → k < l.place → get_or l.chairs k kinds.Free ≡ woken_chair (g.C.Comings.comes l.comings) l.all (get_or l.fn.chairs k kinds.Free)) ×
    ((k : ℕ) → l.place ≤ k → get_or l.chairs k kinds.Free ≡ get_or l.fn.chairs k kinds.Free)

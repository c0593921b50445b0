use Rattle.std.proofs.Common.{◌≡◌, ◌≤◌, length, take, vec_len, vec_capacity}
use Rattle.ipcz_world.proofs.code.Running.{IsRun}
use Rattle.ipcz_world.proofs.world.World.run.Given as goal

abbrev pub invariant-loop-step : goal.invariant-loop-step
invariant-loop-step l = record {
  run : IsRun l.fn.self.world (take l.step-index l.steps) l.replies.items l.self.world;
  room : length l.steps ≤ vec_capacity l.replies;
  len : vec_len l.replies ≡ l.step-index;
}

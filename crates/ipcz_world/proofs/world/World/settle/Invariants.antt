use Rattle.ipcz_world.proofs.code.Visiting.{OnWay}
use Rattle.ipcz_world.proofs.world.World.settle.Given as goal

-- the visits so far lead to the node from which the next act is looked for
abbrev pub invariant-loop-acts : goal.invariant-loop-acts
invariant-loop-acts l = OnWay l.fn.self.world l.acts l.self.world l.from

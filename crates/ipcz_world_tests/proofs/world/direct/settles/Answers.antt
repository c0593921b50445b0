use Rattle.std.proofs.Common.{subst}
use Rattle.ipcz_world.specs.Settling.{IsSettle}
use Rattle.ipcz_world_tests.proofs.world.direct.settles.Goals as goal

pub returns-in-Settled : goal.returns-in-Settled
returns-in-Settled c = record {
  direct = λ b g yes law wet.
      c.a_settled_world_is_direct.ensures c.args.limit c.in-Settled.after c.args.world.now.world c.settle.new.self.world b g
      (subst (IsSettle c.args.limit c.args.world.now.world c.settle.new.self.world) c.in-Settled.is c.in_ok-settle.ensures.settles.settle) law wet;
}

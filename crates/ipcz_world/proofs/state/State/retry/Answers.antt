use Rattle.std.proofs.Common.{arith, ap}
use Rattle.ipcz_world.proofs.code.StatesOfNodes.{world_is}
use Rattle.ipcz_world.proofs.Vocabulary.{World}
use Rattle.ipcz_world.proofs.code.Retrying.{retried_more, retried_all}
use Rattle.ipcz_world.proofs.state.State.retry.Goals as goal

pub loop-n-preserved : goal.loop-n-preserved
loop-n-preserved c = retried_more _ _ _ _ _ _ _ c.loop-n.invariant
    (omega (arith, c.loop-n-test.true, ap (λ (w : World). w.count) (world_is c.self.view_is))) c.retry_at.ensures c.saturating_add-told.ensures

pub returns-clause-wet : goal.returns-clause-wet
returns-clause-wet c = retried_all _ _ _ _ c.loop-n.invariant (omega (arith, c.loop-n-test.false, ap (λ (w : World). w.count) (world_is c.self.view_is)))

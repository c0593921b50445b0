use Rattle.ipcz_world.proofs.code.Regular.{lawful-regular}
use Rattle.ipcz_world.proofs.code.StatesOfNodes.{world_is}
use Rattle.ipcz_world.proofs.code.Retrying.{all_may_ask, asks_lawful_told, asks_stay_lawful}
use Rattle.ipcz_world.proofs.world.World.retry.Goals as goal

pub retry-requires : goal.retry-requires
retry-requires c = (lawful-regular _ c.self.invariant).lengths.nodes

pub invariant_of-self : goal.invariant_of-self
invariant_of-self c = asks_stay_lawful _ c.retry.new.self.world c.retry.result c.retry.ensures.asked c.self.invariant

pub returns-clause-lawful : goal.returns-clause-lawful
returns-clause-lawful c = rw (← world_is c.self.view_is) (λ b g. asks_lawful_told _ c.retry.new.self.world c.retry.result b g c.retry.ensures.asked)

pub returns-clause-each : goal.returns-clause-each
returns-clause-each c = rw (← world_is c.self.view_is) (all_may_ask _ c.retry.new.self.world c.retry.result c.retry.ensures.asked c.retry.ensures.wet)

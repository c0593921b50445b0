use Rattle.ipcz_world.proofs.code.Kept.{keeps, plainly, still-lawful}
use Rattle.ipcz_world.proofs.code.StatesOfNodes.{world_is}
use Rattle.ipcz_world.proofs.code.Regular.{lawful-regular}
use Rattle.ipcz_world.proofs.world.World.step.Goals as goal

pub step-requires : goal.step-requires
step-requires c = lawful-regular _ c.self.invariant

pub returns-clause-lawful : goal.returns-clause-lawful
returns-clause-lawful c = rw (← world_is c.self.view_is) (keeps _ _ _ _ c.step.ensures.stepped)

pub returns-clause-plain : goal.returns-clause-plain
returns-clause-plain c = rw (← world_is c.self.view_is) (plainly _ _ _ _ c.step.ensures.stepped)

pub invariant_of-self : goal.invariant_of-self
invariant_of-self c = still-lawful _ _ _ _ c.step.ensures.stepped c.self.invariant

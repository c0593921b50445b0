use Rattle.ipcz_world.proofs.code.Asked.{acted-keeps, acted-lawful, acted-plainly, acted-steps}
use Rattle.ipcz_world.proofs.code.StatesOfNodes.{world_is}
use Rattle.ipcz_world.proofs.code.Regular.{lawful-regular}
use Rattle.ipcz_world.proofs.world.World.act.Goals as goal

pub act-requires : goal.act-requires
act-requires c = lawful-regular _ c.self.invariant

pub returns-clause-step : goal.returns-clause-step
returns-clause-step c = rw (← world_is c.self.view_is) (acted-steps _ _ c.args.node c.args.act c.act.result c.act.ensures.acted)

pub returns-clause-lawful : goal.returns-clause-lawful
returns-clause-lawful c = rw (← world_is c.self.view_is) (acted-keeps _ _ c.args.node c.args.act c.act.result c.act.ensures.acted)

pub returns-clause-plain : goal.returns-clause-plain
returns-clause-plain c = rw (← world_is c.self.view_is) (acted-plainly _ _ c.args.node c.args.act c.act.result c.act.ensures.acted)

pub invariant_of-self : goal.invariant_of-self
invariant_of-self c = acted-lawful _ _ c.args.node c.args.act c.act.result c.act.ensures.acted c.act.ensures.err c.self.invariant

use Rattle.ipcz_world.specs.declared.step.Step.TheVariants.{Get}
use Rattle.ipcz_world.proofs.code.StatesOfNodes.{world_is}
use Rattle.ipcz_world.proofs.code.Kept.{keeps, plainly, still-lawful}
use Rattle.ipcz_world.proofs.code.Regular.{lawful-regular}
use Rattle.ipcz_world.proofs.world.World.get.Goals as goal

pub get_given-requires : goal.get_given-requires
get_given-requires c = lawful-regular _ c.self.invariant

pub returns-clause-lawful : goal.returns-clause-lawful
returns-clause-lawful c =
    rw (← world_is c.self.view_is) (keeps _ _ (Get c.args.node c.args.at) c.get_given.result c.get_given.ensures)

pub returns-clause-plain : goal.returns-clause-plain
returns-clause-plain c =
    rw (← world_is c.self.view_is) (plainly _ _ (Get c.args.node c.args.at) c.get_given.result c.get_given.ensures)

pub invariant_of-self : goal.invariant_of-self
invariant_of-self c =
    still-lawful _ _ (Get c.args.node c.args.at) c.get_given.result c.get_given.ensures c.self.invariant

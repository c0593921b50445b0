use Rattle.ipcz_world.specs.Steps.{put_of, put_reply}
use Rattle.ipcz_world.proofs.code.StatesOfNodes.{world_is}
use Rattle.ipcz_world.proofs.code.Kept.{keeps, plainly, still-lawful}
use Rattle.ipcz_world.proofs.code.Regular.{lawful-regular}
use Rattle.ipcz_world.proofs.world.World.put_as.Goals as goal

pub put_given-requires : goal.put_given-requires
put_given-requires c = lawful-regular _ c.self.invariant

pub returns-clause-lawful : goal.returns-clause-lawful
returns-clause-lawful c =
    rw (← world_is c.self.view_is) (keeps _ _ (put_of c.args.profile c.args.node c.args.at c.args.bytes c.args.ends) (put_reply c.put_given.result) c.put_given.ensures.step)

pub returns-clause-plain : goal.returns-clause-plain
returns-clause-plain c =
    rw (← world_is c.self.view_is) (plainly _ _ (put_of c.args.profile c.args.node c.args.at c.args.bytes c.args.ends) (put_reply c.put_given.result) c.put_given.ensures.step)

pub invariant_of-self : goal.invariant_of-self
invariant_of-self c =
    still-lawful _ _ (put_of c.args.profile c.args.node c.args.at c.args.bytes c.args.ends) (put_reply c.put_given.result) c.put_given.ensures.step c.self.invariant

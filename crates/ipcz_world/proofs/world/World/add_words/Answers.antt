use Rattle.ipcz_world.proofs.code.Growing.{keeps_books, stays_lawful}
use Rattle.ipcz_world.proofs.code.StatesOfNodes.{world_is}
use Rattle.ipcz_world.proofs.world.World.add_words.Goals as goal

pub invariant_of-self : goal.invariant_of-self
invariant_of-self c =
    stays_lawful c.add_words.result _ c.add_words.new.self.world c.args.count c.add_words.ensures.more c.add_words.ensures.err c.self.invariant

pub returns-clause-lawful : goal.returns-clause-lawful
returns-clause-lawful c =
    rw (← world_is c.self.view_is) (keeps_books c.add_words.result _ c.add_words.new.self.world c.args.count c.add_words.ensures.more)

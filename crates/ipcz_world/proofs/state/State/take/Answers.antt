use Rattle.ipcz_world.proofs.code.Taken.{done-idle}
use Rattle.ipcz_world.proofs.state.State.take.Goals as goal

pub returns-in-Idle-clause-taken : goal.returns-in-Idle-clause-taken
returns-in-Idle-clause-taken g c = rw c.in-Idle.is (done-idle g.T.Told.tells c.args.self.now.world c.args.n c.told.result c.told.ensures)

use Rattle.ipcz_promise.proofs.CallPromises.{made-promised}
use Rattle.ipcz_promise.proofs.calls.new_world.Goals as goal

pub returns-clause-promise : goal.returns-clause-promise
returns-clause-promise c = made-promised c.args.nodes c.args.words c.requires.limits _ c.new.ensures.world

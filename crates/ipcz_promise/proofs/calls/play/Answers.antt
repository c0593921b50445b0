use Rattle.ipcz_promise.proofs.CallPromises.{play-promised, play-theorem}
use Rattle.ipcz_promise.proofs.calls.play.Goals as goal

pub returns-clause-promise : goal.returns-clause-promise
returns-clause-promise c =
    play-promised c.args.nodes c.args.words c.requires.limits _ _ _ _ c.in_ok-world.ensures.world c.in_ok-replies.ensures.run

pub returns-clause-theorem : goal.returns-clause-theorem
returns-clause-theorem c =
    play-theorem c.args.nodes c.args.words c.requires.limits _ _ _ _ c.in_ok-world.ensures.world c.in_ok-replies.ensures.run

use Rattle.ipcz_world.specs.declared.step.Step.TheVariants.{Put}
use Rattle.ipcz_world.specs.Steps.{put_reply}
use Rattle.ipcz_promise.proofs.CallPromises.{promised}
use Rattle.ipcz_promise.proofs.calls.put.Goals as goal

pub returns-clause-promise : goal.returns-clause-promise
returns-clause-promise c =
    promised _ _ (Put c.args.node c.args.at c.args.bytes c.args.ends) (put_reply c.put.result) c.put.ensures.step

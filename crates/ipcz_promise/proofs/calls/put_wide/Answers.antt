use Rattle.ipcz_world.specs.declared.step.Step.TheVariants.{PutWide}
use Rattle.ipcz_world.specs.Steps.{put_reply}
use Rattle.ipcz_promise.proofs.CallPromises.{promised}
use Rattle.ipcz_promise.proofs.calls.put_wide.Goals as goal

pub returns-clause-promise : goal.returns-clause-promise
returns-clause-promise c =
    promised _ _ (PutWide c.args.node c.args.at c.args.bytes c.args.ends) (put_reply c.put_as.result) c.put_as.ensures.step

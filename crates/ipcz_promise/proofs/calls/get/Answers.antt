use Rattle.ipcz_world.specs.declared.step.Step.TheVariants.{Get}
use Rattle.ipcz_promise.proofs.CallPromises.{promised, empty-delivered, get-quiet}
use Rattle.ipcz_promise.proofs.calls.get.Goals as goal

pub returns-clause-promise : goal.returns-clause-promise
returns-clause-promise c = promised _ _ (Get c.args.node c.args.at) c.get.result c.get.ensures.step

pub returns-clause-delivered : goal.returns-clause-delivered
returns-clause-delivered c = empty-delivered _ _ c.args.node c.args.at c.get.result c.get.ensures.step

pub returns-clause-quiet : goal.returns-clause-quiet
returns-clause-quiet c = get-quiet _ _ c.args.node c.args.at c.get.result c.get.ensures.step

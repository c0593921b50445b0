use Rattle.ipcz_world.proofs.WholeTheorem.{the_theorem_holds}
use Rattle.ipcz_world.proofs.laws.the_theorem_holds_after_every_run.Goals as goal

pub returns : goal.returns
returns c = the_theorem_holds

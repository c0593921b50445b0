use Rattle.ipcz_world.proofs.LastingTheorem.{lasting_runs_keep_the_theorem}
use Rattle.ipcz_world.proofs.laws.the_theorem_holds_after_every_lasting_run.Goals as goal

pub returns : goal.returns
returns c = lasting_runs_keep_the_theorem

use Rattle.ipcz_world.proofs.Whole.{runs_are_plain}
use Rattle.ipcz_world.proofs.laws.runs_are_plain.Goals as goal

pub returns : goal.returns
returns c = runs_are_plain

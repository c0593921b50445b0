use Rattle.ipcz_world.proofs.Whole.{nothing_is_forgotten}
use Rattle.ipcz_world.proofs.laws.nothing_is_forgotten_after_any_run.Goals as goal

pub returns : goal.returns
returns c = nothing_is_forgotten

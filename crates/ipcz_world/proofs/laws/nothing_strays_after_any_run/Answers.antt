use Rattle.ipcz_world.proofs.Whole.{nothing_ever_strays}
use Rattle.ipcz_world.proofs.laws.nothing_strays_after_any_run.Goals as goal

pub returns : goal.returns
returns c = nothing_ever_strays

use Rattle.ipcz_world.proofs.lawful.LettingGo.{let_go_are_not_held}
use Rattle.ipcz_world.proofs.laws.ends_let_go_are_not_held.Goals as goal

pub returns : goal.returns
returns c = let_go_are_not_held

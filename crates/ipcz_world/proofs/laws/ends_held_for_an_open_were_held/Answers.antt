use Rattle.ipcz_world.proofs.lawful.LettingGo.{held_for_open_were_held}
use Rattle.ipcz_world.proofs.laws.ends_held_for_an_open_were_held.Goals as goal

pub returns : goal.returns
returns c = held_for_open_were_held

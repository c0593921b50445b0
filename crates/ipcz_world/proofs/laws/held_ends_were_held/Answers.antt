use Rattle.ipcz_world.proofs.lawful.LettingGo.{held_were_held}
use Rattle.ipcz_world.proofs.laws.held_ends_were_held.Goals as goal

pub returns : goal.returns
returns c = held_were_held

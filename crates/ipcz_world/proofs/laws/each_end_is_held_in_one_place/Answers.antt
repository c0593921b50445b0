use Rattle.ipcz_world.proofs.lawful.HoldingOnce.{held_in_one_place}
use Rattle.ipcz_world.proofs.laws.each_end_is_held_in_one_place.Goals as goal

pub returns : goal.returns
returns c = held_in_one_place

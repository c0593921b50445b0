use Rattle.ipcz_world.proofs.Whole.{ends_stand_once}
use Rattle.ipcz_world.proofs.laws.each_end_is_in_one_place.Goals as goal

pub returns : goal.returns
returns c = ends_stand_once

use Rattle.ipcz_world.proofs.lawful.LastingEnds.{deeds_keep_ends}
use Rattle.ipcz_world.proofs.laws.what_lasts_keeps_the_ends.Goals as goal

pub returns : goal.returns
returns c = deeds_keep_ends

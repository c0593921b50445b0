use Rattle.ipcz_world.proofs.lawful.LastingRanks.{deeds_keep_ranks}
use Rattle.ipcz_world.proofs.laws.what_lasts_keeps_the_rank.Goals as goal

pub returns : goal.returns
returns c = deeds_keep_ranks

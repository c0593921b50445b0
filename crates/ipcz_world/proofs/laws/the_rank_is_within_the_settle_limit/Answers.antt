use Rattle.ipcz_world.proofs.lawful.Limits.{rank_is_within_limit}
use Rattle.ipcz_world.proofs.laws.the_rank_is_within_the_settle_limit.Goals as goal

pub returns : goal.returns
returns c = rank_is_within_limit

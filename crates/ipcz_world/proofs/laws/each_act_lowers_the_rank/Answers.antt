use Rattle.ipcz_world.proofs.lawful.Paying.{acts_lower_the_rank}
use Rattle.ipcz_world.proofs.laws.each_act_lowers_the_rank.Goals as goal

pub returns : goal.returns
returns c = acts_lower_the_rank

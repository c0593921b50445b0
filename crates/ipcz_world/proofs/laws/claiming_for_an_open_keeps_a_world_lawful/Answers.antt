use Rattle.ipcz_world.proofs.Whole.{claim_keeps_lawful}
use Rattle.ipcz_world.proofs.laws.claiming_for_an_open_keeps_a_world_lawful.Goals as goal

pub returns : goal.returns
returns c = claim_keeps_lawful

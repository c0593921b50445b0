use Rattle.ipcz_world.proofs.runs.Drying.{wet_keeps_lawful}
use Rattle.ipcz_world.proofs.laws.a_router_that_may_claim_again_keeps_a_world_lawful.Goals as goal

pub returns : goal.returns
returns c = wet_keeps_lawful

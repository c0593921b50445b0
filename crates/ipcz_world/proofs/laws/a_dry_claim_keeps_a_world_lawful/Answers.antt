use Rattle.ipcz_world.proofs.runs.Drying.{dry_keeps_lawful}
use Rattle.ipcz_world.proofs.laws.a_dry_claim_keeps_a_world_lawful.Goals as goal

pub returns : goal.returns
returns c = dry_keeps_lawful

use Rattle.ipcz_world.proofs.Whole.{lawful_worlds_owe}
use Rattle.ipcz_world.proofs.laws.a_lawful_world_owes_what_waits.Goals as goal

pub returns : goal.returns
returns c = lawful_worlds_owe

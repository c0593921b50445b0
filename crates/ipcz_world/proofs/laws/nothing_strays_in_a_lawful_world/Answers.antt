use Rattle.ipcz_world.proofs.Whole.{lawful_worlds_stray_nothing}
use Rattle.ipcz_world.proofs.laws.nothing_strays_in_a_lawful_world.Goals as goal

pub returns : goal.returns
returns c = lawful_worlds_stray_nothing
